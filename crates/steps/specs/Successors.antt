-- One step by node numbers, which are preorder indexes from 0 (DECISIONS, W7). `Stepping` has the law that it is the model's.
-- Interface: `goes`, `successor_in`, `successor`.
use Rattle.std.specs.Prelude.{ℕ, ◌+◌, Bool, true, false, List, Option, None, Some, eqb, get_or}
use Rattle.model.specs.Trees.{Tree}
use Rattle.model.specs.declared.Side.TheVariants.{Left, Right}
use Rattle.model.specs.declared.Place.{Place}
use Rattle.model.specs.declared.Move.TheVariants.{Stay, Up, Down}
use Rattle.algorithms.specs.Automaton.{Automaton}
use Rattle.nodes.specs.Preorder.{preorder}
use Rattle.links.specs.Links.{parents_of, rights_of, place_in}
use Rattle.steps.specs.Choices.{Choice, Makes, Halts, choice}
use Rattle.steps.specs.declared.Configuration.{Configuration}

-- node j in state q
abbrev pub to : (j q : ℕ) → Option Configuration
to j q = Some (record { node = j; state = record { 0 = q } })

abbrev pub unless : Bool → Option Configuration → Option Configuration
unless true x = None
unless false x = x

-- where a choice leads from node i, by the tables of parents and right parts: the root has no parent, and a leaf no parts
abbrev pub goes : (parents rights : List ℕ) → (i : ℕ) → Choice → Option Configuration
goes parents rights i (Makes Stay q) = to i q
goes parents rights i (Makes Up q) = unless (eqb i 0) (to (get_or parents i 0) q)
goes parents rights i (Makes (Down Left) q) = unless (eqb (get_or rights i 0) 0) (to (i + 1) q)
goes parents rights i (Makes (Down Right) q) = unless (eqb (get_or rights i 0) 0) (to (get_or rights i 0) q)
goes parents rights i Halts = None

-- from node i in state p, by the node list and its links
abbrev pub successor_in : (choices : (symbol : ℕ) → Place → (state : ℕ) → Choice) → (nodes parents rights : List ℕ) → (i p : ℕ) → Option Configuration
successor_in choices nodes parents rights i p = goes parents rights i (choices (get_or nodes i 0) (place_in parents i) p)

-- of an automaton on a tree
unfoldable pub successor : Automaton → Tree → (i p : ℕ) → Option Configuration
successor A t i p = successor_in (choice A.next) (preorder t) (parents_of t) (rights_of t) i p
