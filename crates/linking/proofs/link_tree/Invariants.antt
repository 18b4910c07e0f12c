-- `linking::link_tree` meets its contract. The invariant: the stack and the tables tell of the trees that the list writes from a node on.
-- Assumes nothing.
use Rattle.linking.specs.Placed.{Loaded}
use mathlib.Core.Path.{◌≡◌}
use Prim.Native.Nat.{◌≤◌}
use lib.ListN.{length, drop}
use Rattle.linking.proofs.link_tree.Given as goal

abbrev pub invariant-loop-at : goal.invariant-loop-at
invariant-loop-at l = (l.at ≤ length l.symbols) × (length l.parents ≡ length l.initial.parents) × (length l.rights ≡ length l.initial.rights) × Loaded l.signature (length l.symbols) l.parents l.rights l.words (drop l.at l.symbols) l.stack
