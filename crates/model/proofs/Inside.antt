-- Why sets that hold all that is formed of them hold the overloops of every tree (the paper's Lemma 27, Theorem 28).
use Prim.Native.Nat.{ℕ}
use Rattle.model.specs.Places.{Side, Left, Right, Root, Child}
use Rattle.model.specs.Trees.{Tree, leaf, node}
use Rattle.model.specs.Runs.{Transitions, Accepts, Loop, Overloop, PartOverloop}
use Rattle.model.specs.Counting.{Alphabet, Over}
use Rattle.model.proofs.RunLaws.{chain-map}
use Rattle.model.proofs.Loops.{loop-node}
use Rattle.model.proofs.FromParts.{simple-map}
use Rattle.model.specs.Approximation.{Holds}

module _ (Δ : Transitions) (S : Alphabet) (F : ℕ → Type 0) where
  module _ {P : Side → ℕ → ℕ → Type 0} {R : ℕ → Type 0} (h : Holds Δ S F P R) where
    both : {l r : Tree} → ((s : Side) (a b : ℕ) → Overloop Δ (Child s) l a b → P s a b) →
        ((s : Side) (a b : ℕ) → Overloop Δ (Child s) r a b → P s a b) → (s : Side) (a b : ℕ) → PartOverloop Δ l r s a b → P s a b
    both f g Left = f Left
    both f g Right = g Right

    -- The paper's Lemma 27: such sets hold the overloops of every tree over the alphabet.
    pub overloop-inside : (t : Tree) → Over S t → (s : Side) (p q : ℕ) → Overloop Δ (Child s) t p q → P s p q
    overloop-inside (leaf σ) o s p q c = h.leaf_part s σ p q o c
    overloop-inside (node σ l r) o s p q (m, c, u) =
        let inside = both (overloop-inside l o.1) (overloop-inside r o.2) in
        h.node_part s σ p q o.0 (m, chain-map (λ n. n) (simple-map Δ inside) ((loop-node Δ).0 c), u)

    pub top-inside : (t : Tree) → Over S t → (p f : ℕ) → Loop Δ Root t p f → F f → R p
    top-inside (leaf σ) o p f c e = h.leaf_top σ p f o c e
    top-inside (node σ l r) o p f c e =
        let inside = both (overloop-inside l o.1) (overloop-inside r o.2) in
        h.node_top σ p f o.0 (chain-map (λ n. n) (simple-map Δ inside) ((loop-node Δ).0 c)) e

    -- The paper's Theorem 28: where no initial state is in the root set, no tree of any size is accepted.
    pub clear-rejects : {I : ℕ → Type 0} → ((p : ℕ) → I p → ¬ R p) → (t : Tree) → Over S t → ¬ Accepts Δ I F t
    clear-rejects clear t o (i, f, a, b, c) = clear i a (top-inside t o i f c b)
