-- Laws of the candidates of a round: the leaf symbols in the first, the branch symbols in any other.
-- Assumes nothing.
use Prim.Native.Nat.{ℕ, zero, suc}
use mathlib.Core.Path.{◌≡◌, refl, ap, ◌∙◌}
use mathlib.Core.List.{List, [], ◌∷◌, flat_map}
use lib.ListN.{length}
use Rattle.model.specs.Counting.{Alphabet}
use Rattle.model.specs.Saturation.{Algebra, Candidate, leaf_candidate}
use Rattle.model.specs.Fresh.{fresh_nodes, fresh_candidates}
use Rattle.algorithms.specs.Automaton.{Automaton, numbered, alphabet_of}
use Rattle.algorithms.specs.Saturate.{algebra_of}
use Rattle.automaton.specs.declared.Header.{Header}
use Rattle.classes.proofs.Symbols.{map-flat}
use Rattle.overloops.specs.Ready.{Headed}
use Rattle.overloops.proofs.Laws.{headed-symbols}
use Rattle.candidates.specs.Tries.{over_rows, Tries}
use Rattle.candidates.specs.declared.Tried.{Tried}

module _ (A : Automaton) where
  abbrev M : Algebra
  M = algebra_of A

  abbrev tried_in : (h old : ℕ) (base : List (Candidate M)) → List (Candidate M)
  tried_in h old base = fresh_candidates M (alphabet_of A) h old base

  of-list : {base kept cs ds : List (Candidate M)} {rows : List ℕ} {r : Tried} → cs ≡ ds → Tries A base kept ds rows r → Tries A base kept cs rows r
  of-list e t = rw e t

  module _ (hd : Header) (table : List ℕ) (k : Headed A hd table) (old : ℕ) (base : List (Candidate M)) {rows : List ℕ} {r : Tried} where
    pub leaves-tried : (h : ℕ) → h ≡ 0 → base ≡ []
        → Tries A [] [] (flat_map (λ σ. leaf_candidate M σ ∷ []) (numbered 0 hd.branches 0 hd.symbols)) rows r → Tries A base base (tried_in h old base) rows r
    unfolding fresh_candidates
    leaves-tried h e f t =
        rw (e, f)
        (of-list (map-flat (leaf_candidate M) (numbered 0 A.branches 0 A.symbols) ∙ ap (flat_map (λ σ. leaf_candidate M σ ∷ [])) (ap (λ (S : Alphabet). S.leaves) (headed-symbols A hd table k))) t)

    pub branches-tried : (h n : ℕ) → (h ≡ 0 → ⊥) → length base ≡ n
        → Tries A base base (flat_map (over_rows M base old n) (numbered 1 hd.branches 0 hd.symbols)) rows r → Tries A base base (tried_in h old base) rows r
    unfolding fresh_candidates fresh_nodes
    branches-tried zero n e f t = absurd (e refl)
    branches-tried (suc h) n e f t =
        of-list
        (ap (λ (m : ℕ). flat_map (over_rows M base old m) (numbered 1 A.branches 0 A.symbols)) f ∙ ap (flat_map (over_rows M base old n)) (ap (λ (S : Alphabet). S.branches) (headed-symbols A hd table k))) t
