-- Whether some step leads from one configuration to another, by node numbers. The automaton need not be deterministic. `Leading` has the law that it
-- is the model's `Step`.
-- Interface: `arrives`, `some_move`, `leads_in`, `leads`.
use Rattle.std.specs.Prelude.{ℕ, Bool, false, ◌&&◌, ◌||◌, List, Option, None, Some, eqb, get_or}
use Rattle.relation.specs.Sets.{member}
use Rattle.model.specs.Trees.{Tree}
use Rattle.model.specs.declared.Side.TheVariants.{Left, Right}
use Rattle.model.specs.declared.Place.{Place}
use Rattle.model.specs.declared.Move.{Move}
use Rattle.model.specs.declared.Move.TheVariants.{Stay, Up, Down}
use Rattle.algorithms.specs.Automaton.{Automaton}
use Rattle.transitions.specs.Compiled.{Next}
use Rattle.nodes.specs.Preorder.{preorder}
use Rattle.links.specs.Links.{parents_of, rights_of, place_in}
use Rattle.steps.specs.Choices.{Makes}
use Rattle.steps.specs.Successors.{goes}
use Rattle.steps.specs.declared.Configuration.{Configuration}

-- at node j
abbrev pub arrives : Option Configuration → (j : ℕ) → Bool
arrives (Some c) j = eqb c.node j
arrives None j = false

-- the move leads from node i to node j, and the transitions of a symbol and a place allow it from state p into state q
abbrev pub leads_by : Next → (parents rights : List ℕ) → (symbol : ℕ) → Place → (i p j q : ℕ) → Move → Bool
leads_by next parents rights σ τ i p j q μ = arrives (goes parents rights i (Makes μ q)) j && member (next σ τ μ p) q

abbrev pub some_move : (Move → Bool) → Bool
some_move f = f Stay || (f Up || (f (Down Left) || f (Down Right)))

-- by the node list and its links
abbrev pub leads_in : Next → (nodes parents rights : List ℕ) → (i p j q : ℕ) → Bool
leads_in next nodes parents rights i p j q = some_move (leads_by next parents rights (get_or nodes i 0) (place_in parents i) i p j q)

-- of an automaton on a tree: "reached from the one before by a rule" (document 02, W8)
unfoldable pub leads : Automaton → Tree → (i p j q : ℕ) → Bool
leads A t i p j q = leads_in A.next (preorder t) (parents_of t) (rights_of t) i p j q
