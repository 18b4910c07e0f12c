-- `interchange::avoiding` meets its contract. The invariant: the symbols in the set are below the next, and avoid the states.
-- Assumes nothing.
use native.Mathlib.Omega.{arith}
use Rattle.relation.proofs.BitLaws.{bit-zero}
use Rattle.interchange.proofs.Laws.{or-each}
use borrow.Author.Rules.{rules}
use Rattle.interchange.proofs.avoiding.Goals as goal

pub loop-symbol-init : goal.loop-symbol-init
loop-symbol-init c = (search rules, λ σ b. absurd (omega (arith, b, bit-zero σ)))

pub loop-symbol-preserved : goal.loop-symbol-preserved
loop-symbol-preserved c = (
  search rules,
  or-each _ _ _ (λ σ b. let h = c.loop-symbol.invariant.1 σ b in (omega (arith, h.0), h.1))
      (λ σ b. let h = c.where_empty-out.ensures σ b in (omega (arith, h.0), rw h.0 h.1)),
)

pub returns : goal.returns
returns c =
    λ σ b.
    let h = c.loop-symbol.invariant.1 σ b in
    (omega (arith, h.0), rw c.side_number-at.ensures.0 at h.1)
