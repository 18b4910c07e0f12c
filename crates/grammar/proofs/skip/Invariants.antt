-- `grammar::skip` meets its contract.
-- Assumes nothing.
use Prim.Native.Nat.{ℕ, ◌<◌, ◌≤◌}
use mathlib.Core.Path.{◌≡◌}
use mathlib.Core.List.{List}
use lib.ListN.{length, get_or, drop}
use Rattle.tags.specs.Tags.{nodes_in}
use Rattle.grammar.specs.Pushdown.{between, Goes}
use Rattle.tags.specs.Classes.{class_of}
use Rattle.grammar.proofs.skip.Given as goal

abbrev pub invariant-loop-next : goal.invariant-loop-next
invariant-loop-next l = (l.at ≤ l.next) × (l.next ≤ length l.text) × ((stack : List ℕ) → Goes l.text l.at (between stack) l.next (between stack)) × ((i : ℕ) → l.at ≤ i → i < l.next → class_of (get_or l.text i 0) ≡ 0) × (nodes_in (drop l.at l.text) ≡ nodes_in (drop l.next l.text))
