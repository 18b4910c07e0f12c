-- `interchange::doubled` meets its contract. The invariant: at each symbol of the set, some row before is interchangeable with the row.
-- Assumes nothing.
use Rattle.interchange.proofs.Laws.{or-each, found}
use Rattle.relation.proofs.BitLaws.{bit-zero}
use native.Mathlib.Omega.{arith}
use mathlib.Core.Path.{◌≡◌}
use borrow.Author.Rules.{rules}
use Rattle.interchange.proofs.doubled.Goals as goal

pub loop-other-init : goal.loop-other-init
loop-other-init c = (search rules, λ A e σ b. absurd (omega (arith, b, bit-zero σ)))

pub loop-other-preserved : goal.loop-other-preserved
loop-other-preserved c =
    let a = c.args in
    let l = c.loop-other in (
      search rules,
      λ A e. or-each _ _ _ (λ σ b. let h = l.invariant.1 A e σ b in (h.0, omega (arith, h.1), h.2))
          (λ σ b. (
            l.other,
            omega arith,
            found A σ a.side a.symbols a.entered.now a.rows.now a.row l.other _ _ _ e c.part_place.ensures.0
                c.part_place-here.ensures.0 c.differing-differ.ensures (c.avoiding-set.ensures σ b),
          )),
    )

pub returns : goal.returns
returns c =
    λ A e.
    let end : c.loop-other.other ≡ c.args.row = search rules in
    rw end at (c.loop-other.invariant.1 A e)
