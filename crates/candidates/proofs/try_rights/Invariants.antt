-- `candidates::try_rights` meets its contract. The invariant: the right rows before were tried.
-- Assumes nothing.
-- one turn
use Prim.Native.Nat.{ℕ, ◌-◌, ◌≤◌, ◌<◌}
use mathlib.Core.Path.{◌≡◌}
use mathlib.Core.List.{List, [], ◌∷◌, flat_map}
use lib.ListN.{length}
use Rattle.model.specs.Lists.{count_from}
use Rattle.model.specs.Saturation.{Candidate, node_candidate}
use Rattle.algorithms.specs.Automaton.{Automaton}
use Rattle.algorithms.specs.Saturate.{algebra_of}
use Rattle.classes.specs.Prepared.{HeadedFor}
use Rattle.candidates.specs.Tries.{Keeps, Settled, Marks, Tries}
use Rattle.candidates.specs.declared.Tried.{Tried}
use Rattle.candidates.proofs.try_rights.Given as goal

abbrev pub invariant-loop-right : goal.invariant-loop-right
invariant-loop-right l = (l.from ≤ l.right) × (l.right ≤ l.to) × (l.n ≤ 65) × ((A : Automaton) → HeadedFor A l.prepared → (base before : List (Candidate (algebra_of A)))
    → Keeps A base before l.kept l.initial.rows → length base ≡ l.to
    → Marks A base l.doubles → ((b : ℕ) → b < l.from → Settled A base before l.symbol.0 l.left.0 b)
    → Tries A base before (flat_map (λ b. node_candidate (algebra_of A) base l.symbol.0 l.left.0 b ∷ []) (count_from l.from (l.right - l.from))) l.rows (Tried.Kept l.n))
