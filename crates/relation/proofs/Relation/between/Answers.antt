-- `relation::Relation::between` meets its contract: at each turn the pairs out of the states before p are in both sets.
-- Assumes nothing.
use borrow.Author.Rules.{rules}
use mathlib.Core.Path.{◌≡◌, sym, subst}
use Prim.Native.Nat.{ℕ, ◌+◌}
use native.Mathlib.Omega.{arith}
use lib.Bits.{bit_or}
use lib.ListN.{length}
use Rattle.relation.proofs.Closing.{Seen, seen_none, seen-turn, seen_done}
use Rattle.relation.proofs.Relation.between.Goals as goal

pub loop-p-init : goal.loop-p-init
loop-p-init c = (search rules, seen_none c.args.self.rows)

pub loop-p-preserved : goal.loop-p-preserved
loop-p-preserved c =
    let at = c.loop-p in
    let a = c.args.self.rows in
    let row = c.others-row.result in (
      search rules,
      subst (λ (x : ℕ). Seen a (at.p + 1) (bit_or at.entered row) (bit_or at.left x)) (sym c.flag-left.ensures)
          (seen-turn a at.p at.entered at.left row c.others-row.ensures at.invariant.1),
    )

pub returns : goal.returns
returns c =
    let at = c.loop-p in
    let a = c.args.self.rows in
    let la : length a ≡ 24 = search rules in
    seen_done a at.p at.entered at.left (omega arith) at.invariant.1
