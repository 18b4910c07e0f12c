-- `interchange::mark` meets its contract. The invariant: the rows before are marked.
-- Assumes nothing.
use mathlib.Core.Path.{◌≡◌}
use native.Mathlib.Omega.{arith}
use lib.ListN.{length-set}
use Rattle.representatives.specs.Stored.{class_in}
use Rattle.interchange.specs.Interchange.{MarkedAt}
use Rattle.interchange.proofs.Laws.{words_more, doubled-as}
use borrow.Author.Rules.{rules}
use Rattle.interchange.proofs.mark.Goals as goal

pub loop-row-init : goal.loop-row-init
loop-row-init c = (search rules, search rules, c.requires.3, λ A e class same h. h)

pub bounds-doubles-row-in-loop-row : goal.bounds-doubles-row-in-loop-row
bounds-doubles-row-in-loop-row c = simp length-set (search rules)

pub loop-row-preserved : goal.loop-row-preserved
loop-row-preserved c =
    let l = c.loop-row in (
      search rules,
      search rules,
      simp length-set l.invariant.2,
      λ A e class same h.
          words_more (MarkedAt A class) l.row l.doubles _ _ (omega arith) (l.invariant.3 A e class same h)
          (λ σ b. doubled-as A σ _ (class_in c.args.rows.now) class l.row (λ j k. same j (omega arith)) (c.doubled.ensures A e σ b))
          (λ σ b. doubled-as A σ _ (class_in c.args.rows.now) class l.row (λ j k. same j (omega arith)) (c.doubled-in-loop-row.ensures A e σ b)),
    )

pub returns : goal.returns
returns c =
    λ A e class same h.
    let end : c.loop-row.row ≡ c.args.to = search rules in
    rw end at (c.loop-row.invariant.3 A e class same h)
