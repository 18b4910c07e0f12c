-- `candidates::try_lefts` meets its contract. The invariant: the left rows before were tried.
-- Assumes nothing.
-- one turn
use Prim.Native.Nat.{◌≤◌}
use mathlib.Core.Path.{◌≡◌}
use mathlib.Core.List.{List}
use lib.ListN.{length}
use Rattle.model.specs.Lists.{◌∈◌}
use Rattle.model.specs.Saturation.{Candidate}
use Rattle.algorithms.specs.Automaton.{Automaton, alphabet_of}
use Rattle.algorithms.specs.Saturate.{algebra_of}
use Rattle.classes.specs.Prepared.{HeadedFor}
use Rattle.candidates.specs.Tries.{over_lefts, Keeps, Skips, Tries}
use Rattle.candidates.specs.declared.Tried.{Tried}
use Rattle.candidates.proofs.try_lefts.Given as goal

abbrev pub invariant-loop-left : goal.invariant-loop-left
invariant-loop-left l = (l.left ≤ l.to) × (l.n ≤ 65) × ((A : Automaton) → HeadedFor A l.prepared → (base before : List (Candidate (algebra_of A)))
    → Keeps A base before l.kept l.initial.rows → length base ≡ l.to → Skips A base l.old l.doubles → l.symbol.0 ∈ (alphabet_of A).branches
    → Tries A base before (over_lefts (algebra_of A) base l.old l.to l.symbol.0 l.left) l.rows (Tried.Kept l.n))
