-- `candidates::try_branches` meets its contract. The invariant: the branch symbols before were tried.
-- Assumes nothing.
-- one turn
use Prim.Native.Nat.{◌≤◌}
use mathlib.Core.Path.{◌≡◌}
use mathlib.Core.List.{List, flat_map}
use lib.ListN.{length}
use Rattle.model.specs.Saturation.{Candidate}
use Rattle.algorithms.specs.Automaton.{Automaton, numbered}
use Rattle.algorithms.specs.Saturate.{algebra_of}
use Rattle.classes.specs.Prepared.{HeadedFor}
use Rattle.candidates.specs.Tries.{over_rows, Keeps, Skips, Tries}
use Rattle.candidates.specs.declared.Tried.{Tried}
use Rattle.candidates.proofs.try_branches.Given as goal

abbrev pub invariant-loop-symbol : goal.invariant-loop-symbol
invariant-loop-symbol l = (l.symbol ≤ l.prepared.header.symbols) × (l.n ≤ 65) × ((A : Automaton) → HeadedFor A l.prepared → (base : List (Candidate (algebra_of A)))
    → Keeps A base base l.to l.initial.rows → length base ≡ l.to → Skips A base l.old l.doubles
    → Tries A base base (flat_map (over_rows (algebra_of A) base l.old l.to) (numbered 1 l.prepared.header.branches 0 l.symbol)) l.rows (Tried.Kept l.n))
