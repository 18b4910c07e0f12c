-- `overloops::rows_at` meets its contract. The invariant: the first p rows are those of the table.
-- Assumes nothing.
use borrow.Author.Rules.{rules}
use Prim.Native.Nat.{ℕ}
use mathlib.Core.Path.{refl, sym}
use lib.ListN.{take, drop, replicate, length-set}
use Rattle.relation.proofs.Over.{over-turn, over_done}
use Rattle.overloops.proofs.Laws.{part_length, part-at}
use Rattle.overloops.proofs.rows_at.Goals as goal

pub loop-p-init : goal.loop-p-init
loop-p-init c = (search rules, search rules, refl)

pub loop-p-preserved : goal.loop-p-preserved
loop-p-preserved c =
    let t = c.args.table.now in
    let at = c.args.at in
    let l = c.loop-p in (
      search rules,
      simp length-set l.invariant.1,
      over-turn (take 24 (drop at t)) (replicate {A = ℕ} 24 0) l.rows l.p _ (part_length t at c.requires) (search rules) l.invariant.2
          (λ e. sym (part-at t at c.requires l.p (search rules))),
    )

pub returns : goal.returns
returns c =
    let t = c.args.table.now in
    let at = c.args.at in
    let l = c.loop-p in
    over_done (take 24 (drop at t)) (replicate {A = ℕ} 24 0) l.rows l.p (part_length t at c.requires) (search rules) l.invariant.2
