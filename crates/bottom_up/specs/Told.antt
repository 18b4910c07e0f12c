-- What the words of the stack tell of a tree: its class, and the growths of closing at its root. And what the pass finds of the list.
-- Interface: `Named`, `Classed`, `below_growths`, `Rooted`, `PassedRight`, `PassedFew`, `Weighs`.
use Rattle.std.proofs.Common.{Option, Some, None}
use Rattle.std.specs.Prelude.{ℕ, ◌+◌, ◌<◌, ◌≤◌, ◌≡◌, true, false, List}
use Rattle.model.specs.Trees.{Tree, leaf, node}
use Rattle.model.specs.declared.Side.{Side}
use Rattle.model.specs.declared.Place.{Place}
use Rattle.model.specs.declared.Signature.{Signature}
use Rattle.algorithms.specs.Automaton.{Automaton}
use Rattle.algorithms.specs.Overloops.{accepts?}
use Rattle.algorithms.specs.Growth.{growths}
use Rattle.nodes.specs.Preorder.{Writes}
use Rattle.class_tables.specs.Classes.{Tells, id_of, TellsWord}
use Rattle.passes.specs.Told.{Words}
use Rattle.passes.specs.declared.Verdict.{Verdict}
use Rattle.bottom_up.specs.declared.Passed.{Passed}

-- class i is there, and is the tree's
abbrev pub Named : Automaton → (count : ℕ) (store : List ℕ) (i : ℕ) → Tree → Type 0
Named A count store i t = (i < count) × Tells A store i t

-- so is the class that a word names, and the word has the growths of closing at the tree's root
abbrev pub Classed : Automaton → (count : ℕ) (store : List ℕ) → Words
Classed A count store s w t = (id_of w < count) × TellsWord A store w t

-- the growths of closing at the nodes of a tree but its root, each at its own place: what the pass has added up, of each tree on the stack
unfoldable pub below_growths : Automaton → Tree → ℕ
below_growths A (leaf σ) = 0
below_growths A (node σ l r) = growths A (Place.Child Side.Left) l + growths A (Place.Child Side.Right) r

-- the list writes a branch, two classes are those of its parts, and the growths below the root come to a number
pub record Rooted (A : Automaton) (sg : Signature) (count : ℕ) (store s : List ℕ) (x y growth : ℕ) : Type 0 where
  pub σ : ℕ
  pub l : Tree
  pub r : Tree
  pub writes : Writes sg s (node σ l r)
  pub named_l : Named A count store x l
  pub named_r : Named A count store y r
  pub grown : growth ≡ below_growths A (node σ l r)

-- what the pass found of a list: the classes of the parts of a tree that it writes, or that it writes a leaf; none is no answer
abbrev pub PassedRight : Automaton → Signature → (count : ℕ) (store s : List ℕ) → Option Passed → Type 0
PassedRight A sg count store s (Some (Passed.Parts x y growth)) = Rooted A sg count store s x y growth
PassedRight A sg count store s (Some Passed.Leaf) = (σ : ℕ) × Writes sg s (leaf σ)
PassedRight A sg count store s None = Unit {0}

-- the sum is at most n
abbrev pub PassedFew : (n : ℕ) → Option Passed → Type 0
PassedFew n (Some (Passed.Parts x y growth)) = growth ≤ n
PassedFew n (Some Passed.Leaf) = Unit {0}
PassedFew n None = Unit {0}

-- the list s writes a tree that the automaton accepts, or one that it does not, and the growths at the tree's nodes come to a number
abbrev pub Weighs : Automaton → Signature → (s : List ℕ) → Verdict → (growth : ℕ) → Type 0
Weighs A sg s Verdict.Accepted growth = (t : Tree) × Writes sg s t × (accepts? A t ≡ true) × (growth ≡ growths A Place.Root t)
Weighs A sg s Verdict.Other growth = (t : Tree) × Writes sg s t × (accepts? A t ≡ false) × (growth ≡ growths A Place.Root t)
Weighs A sg s Verdict.Unknown growth = Unit {0}
