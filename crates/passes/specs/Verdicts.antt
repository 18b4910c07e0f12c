-- What a pass tells of the tree that a node list writes: whether it is accepted, or nothing.
-- Interface: `Tells`.
use Rattle.std.specs.Prelude.{ℕ, ◌≡◌, true, false, List}
use Rattle.model.specs.Trees.{Tree}
use Rattle.model.specs.declared.Signature.{Signature}
use Rattle.algorithms.specs.Automaton.{Automaton}
use Rattle.algorithms.specs.Overloops.{accepts?}
use Rattle.nodes.specs.Preorder.{Writes}
use Rattle.passes.specs.declared.Verdict.{Verdict}

-- the list s writes a tree that the automaton accepts, or one that it does not
abbrev pub Tells : Automaton → Signature → (s : List ℕ) → Verdict → Type 0
Tells A sg s Verdict.Accepted = (t : Tree) × Writes sg s t × (accepts? A t ≡ true)
Tells A sg s Verdict.Other = (t : Tree) × Writes sg s t × (accepts? A t ≡ false)
Tells A sg s Verdict.Unknown = Unit {0}
