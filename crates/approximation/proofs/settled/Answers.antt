-- `approximation::settled` meets its contract. The invariant: the turns left lead from the sets to the least.
-- Assumes nothing.
use borrow.Author.Rules.{rules}
use Prim.Native.Nat.{ℕ, suc, ◌+◌, ◌-◌, ◌<◌, ◌≤◌}
use mathlib.Core.Bool.{true, false}
use mathlib.Core.Path.{◌≡◌, refl, sym, ◌∙◌}
use native.Mathlib.Omega.{arith}
use Rattle.algorithms.specs.Automaton.{Automaton}
use Rattle.algorithms.specs.Saturate.{Parts, same_parts}
use Rattle.algorithms.specs.Approximate.{formed, settled}
use Rattle.approximation.proofs.settled.Goals as goal

-- one turn: nothing is new, or the rest goes on from what was formed
module _ (A : Automaton) (turn : ℕ) (x y : Parts) (l : turn < 1153) (f : y ≡ formed A x) where
  turns : 1153 - turn ≡ suc (1153 - (turn + 1))
  turns = omega arith

  stops : same_parts y x ≡ true → settled A (1153 - turn) x ≡ x
  unfolding settled
  stops e = rw (turns, ← f, e)

  goes : same_parts y x ≡ false → settled A (1153 - turn) x ≡ settled A (1153 - (turn + 1)) y
  unfolding settled
  goes e = rw (turns, ← f, e)

-- no turn is left
ends : (A : Automaton) (turn : ℕ) (x : Parts) → 1153 ≤ turn → settled A (1153 - turn) x ≡ x
unfolding settled
ends A turn x l = let none : 1153 - turn ≡ 0 = omega arith in rw none

pub loop-turn-init : goal.loop-turn-init
loop-turn-init c = (search rules, λ A k. refl)

pub returns-then-same : goal.returns-then-same
returns-then-same c =
    λ A k.
    let at = c.loop-turn in
    let formed-is = c.formed-more.ensures A k in
    let same-is = c.same.ensures in
    sym (stops A at.turn _ _ (omega arith) formed-is (sym same-is ∙ c.if-same.true)) ∙ at.invariant.1 A k

pub loop-turn-preserved : goal.loop-turn-preserved
loop-turn-preserved c = (
  search rules,
  λ A k.
      let at = c.loop-turn in
      let formed-is = c.formed-more.ensures A k in
      let same-is = c.same.ensures in
      sym (goes A at.turn _ _ (omega arith) formed-is (sym same-is ∙ c.if-same.false)) ∙ at.invariant.1 A k,
)

pub returns : goal.returns
returns c = λ A k. sym (ends A c.loop-turn.turn _ (omega arith)) ∙ c.loop-turn.invariant.1 A k
