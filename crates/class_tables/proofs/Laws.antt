-- Laws of classes.
-- Assumes nothing.
use Rattle.std.proofs.Common.{ℕ, List, sym, ◌∙◌, ap₂}
use Rattle.model.specs.Trees.{Tree, node}
use Rattle.model.specs.declared.Side.{Side}
use Rattle.model.specs.declared.Place.{Place}
use Rattle.algorithms.specs.Automaton.{Automaton}
use Rattle.algorithms.specs.Overloops.{node_loops, overloops, node_overloops}
use Rattle.algorithms.specs.Growth.{node_growth, own_growth}
use Rattle.class_tables.specs.Classes.{Tells, TellsWord, Node, Alike}

-- the word of a node over classes that tell of two trees tells of the node over them
pub node-tells : (A : Automaton) (store : List ℕ) (σ l r w : ℕ) (t u : Tree) → Node A store σ l r w → Tells A store l t → Tells A store r u
    → TellsWord A store w (node σ t u)
unfolding overloops own_growth
node-tells A store σ l r w t u n hl hr = (
  λ s. n.rows s ∙ ap₂ (node_overloops A (Place.Child s) σ) (hl Side.Left) (hr Side.Right),
  λ s. n.growth s ∙ ap₂ (node_growth A (Place.Child s) σ) (hl Side.Left) (hr Side.Right),
)

-- a node over parts that do the same has the same word: the table that is closed is the same
pub node_alike : (A : Automaton) (store : List ℕ) (σ l l' r r' w : ℕ) → Alike A store σ Side.Left l l' → Alike A store σ Side.Right r r'
    → Node A store σ l r w → Node A store σ l' r' w
unfolding node_overloops node_loops node_growth
node_alike A store σ l l' r r' w hl hr n = record {
  rows = λ s. n.rows s ∙ rw (hl (Place.Child s), hr (Place.Child s));
  growth = λ s. n.growth s ∙ rw (hl (Place.Child s), hr (Place.Child s));
}

pub alike-sym : (A : Automaton) (store : List ℕ) (σ : ℕ) (s : Side) (i j : ℕ) → Alike A store σ s i j → Alike A store σ s j i
alike-sym A store σ s i j h τ = sym (h τ)

pub alike-trans : (A : Automaton) (store : List ℕ) (σ : ℕ) (s : Side) (i j m : ℕ) → Alike A store σ s i j → Alike A store σ s j m → Alike A store σ s i m
alike-trans A store σ s i j m h g τ = h τ ∙ g τ
