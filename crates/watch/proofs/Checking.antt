-- Refusals 20, 21, 22 and 13: the tests in turn, and what is known where they pass.
-- Assumes nothing.
use Rattle.std.proofs.Common.{Ok}
use Prim.Native.Nat.{ℕ, ◌≤◌, ◌<◌}
use mathlib.Core.Path.{◌≡◌, refl}
use mathlib.Core.Bool.{Bool, true, false, not}
use lib.Count.{ones}
use lib.Dec.{eqb, ltb}
use borrow.Author.Tests.{eq-eqb, ne_eqb, lt-ltb, le-ltb, eqb-true, ltb-false, not-false}
use Rattle.algorithms.specs.Automaton.{Automaton}
use Rattle.refusal.specs.Checks.{refused, refuse_if, ◌and_then◌, Check}
use Rattle.refusal.specs.declared.Fault.{Fault}
use Rattle.refusal.proofs.Passed.{clash, both-passed, if-passed}
use Rattle.determinism.specs.Single.{single_if}
use Rattle.determinism.specs.declared.Singleness.{Singleness}
use Rattle.watch.specs.Checks.{log_length, watch_check}

-- what single tells, as a test
pub told-single : (b : Bool) {x : Singleness} → x ≡ Singleness.Single → x ≡ single_if b → b ≡ true
told-single true f e = refl
told-single false f e = clash (cc)

pub told-multiple : (b : Bool) {x : Singleness} → x ≡ Singleness.Multiple → x ≡ single_if b → b ≡ false
told-multiple true f e = clash (cc)
told-multiple false f e = refl

module _ (single : Bool) (A : Automaton) (budget room : ℕ) where
  pub check-multiple : single ≡ false → refused Fault.Single 2 0 ≡ watch_check single A budget room
  unfolding watch_check
  check-multiple e = rw e

  module _ (one : single ≡ true) (starts : ℕ) (counted : starts ≡ ones A.initial) where
    pub check-starts : (starts ≡ 1 → ⊥) → refused Fault.Start 2 starts ≡ watch_check single A budget room
    unfolding watch_check
    check-starts n = rw (one, ← counted, ne_eqb starts 1 n)

    module _ (start : starts ≡ 1) where
      pub check-budget : 20000 < budget → refused Fault.Budget 2 20000 ≡ watch_check single A budget room
      unfolding watch_check
      check-budget l = rw (one, ← counted, eq-eqb starts 1 start, lt-ltb 20000 budget l)

      module _ (low : budget ≤ 20000) where
        pub check-room : room < log_length budget → refused Fault.Buffer 2 (log_length budget) ≡ watch_check single A budget room
        unfolding watch_check
        check-room l = rw (one, ← counted, eq-eqb starts 1 start, le-ltb 20000 budget low, lt-ltb room (log_length budget) l)

        pub check-passes : log_length budget ≤ room → Ok tt ≡ watch_check single A budget room
        unfolding watch_check
        check-passes l = rw (one, ← counted, eq-eqb starts 1 start, le-ltb 20000 budget low, le-ltb room (log_length budget) l)

  -- no check applies
  pub record Unchecked : Type 0 where
    pub one-run : single ≡ true
    pub one-start : ones A.initial ≡ 1
    pub low : budget ≤ 20000
    pub enough : log_length budget ≤ room

  pub checks-passed : watch_check single A budget room ≡ Ok tt → Unchecked
  unfolding watch_check
  checks-passed e =
      let a : Check = refuse_if (not single) Fault.Single 2 0 in
      let b : Check = refuse_if (not (eqb (ones A.initial) 1)) Fault.Start 2 (ones A.initial) in
      let c : Check = refuse_if (ltb 20000 budget) Fault.Budget 2 20000 in
      let d : Check = refuse_if (ltb room (log_length budget)) Fault.Buffer 2 (log_length budget) in
      let first = both-passed a (b and_then c and_then d) e in
      let second = both-passed b (c and_then d) first.1 in
      let third = both-passed c d second.1 in
      record {
        one-run = not-false single (if-passed _ _ _ _ first.0);
        one-start = eqb-true _ 1 (not-false _ (if-passed _ _ _ _ second.0));
        low = ltb-false 20000 budget (if-passed _ _ _ _ third.0);
        enough = ltb-false room (log_length budget) (if-passed _ _ _ _ third.1);
      }
