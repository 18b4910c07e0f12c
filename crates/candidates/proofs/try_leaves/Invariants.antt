-- `candidates::try_leaves` meets its contract. The invariant: the leaf symbols before were tried.
-- Assumes nothing.
-- one turn
use Prim.Native.Nat.{◌≤◌}
use mathlib.Core.List.{[], ◌∷◌, flat_map}
use Rattle.model.specs.Saturation.{leaf_candidate}
use Rattle.algorithms.specs.Automaton.{Automaton, numbered}
use Rattle.algorithms.specs.Saturate.{algebra_of}
use Rattle.classes.specs.Prepared.{ReadyFor}
use Rattle.candidates.specs.Tries.{Tries}
use Rattle.candidates.specs.declared.Tried.{Tried}
use Rattle.candidates.proofs.try_leaves.Given as goal

abbrev pub invariant-loop-symbol : goal.invariant-loop-symbol
invariant-loop-symbol l = (l.symbol ≤ l.prepared.header.symbols) × (l.n ≤ 65) × ((A : Automaton) → ReadyFor A l.prepared
    → Tries A [] [] (flat_map (λ σ. leaf_candidate (algebra_of A) σ ∷ []) (numbered 0 l.prepared.header.branches 0 l.symbol)) l.rows (Tried.Kept l.n))
