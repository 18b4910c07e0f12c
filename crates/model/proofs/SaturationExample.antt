-- The saturation computes, and what is proved of it applies: two small algebras.
use Prim.Native.Nat.{ℕ}
use mathlib.Core.Path.{◌≡◌, refl}
use mathlib.Core.Bool.{false, ◌&&◌}
use mathlib.Core.List.{List, [], ◌∷◌, flat_map}
use lib.Dec.{eqb, eqb→eq, eqb_refl}
use Rattle.model.specs.Lists.{count_from}
use Rattle.model.specs.Counting.{Alphabet}
use Rattle.model.specs.Saturation.{witness_row, Algebra, Found, Open, Empty, leaf_candidate, class_at, node_candidate, node_candidates, candidates}
use Rattle.model.specs.Saturation.{first_if, first_accepted, known, keep_if_new, absorb, settle, conclude, round, after, rounds, saturation}
use Rattle.model.proofs.Recognition.{language_of, recognizes-own}
use Rattle.model.specs.Demand.{Correct}
use Rattle.model.proofs.Correct.{saturation-correct}

abbrev over : List ℕ → List ℕ → Alphabet
over ls bs = record { leaves = ls; branches = bs }

-- No tree is accepted, and all are equivalent.
abbrev mute : Algebra
mute =
    record {
      Class = ℕ;
      same = eqb;
      leaf_class = λ σ. 0;
      node_class = λ σ x y. 0;
      leaf_accepted = λ σ. false;
      node_accepted = λ σ x y. false;
    }

-- No two leaves are equivalent, and a branch over the leaves 0 and 1 is accepted.
abbrev pair : Algebra
pair =
    record {
      Class = ℕ;
      same = eqb;
      leaf_class = λ σ. σ;
      node_class = λ σ x y. 2;
      leaf_accepted = λ σ. false;
      node_accepted = λ σ x y. eqb x 0 && eqb y 1;
    }

saturations :
    (saturation mute (over (0 ∷ []) []) 64 ≡ Empty 1)
    × (saturation mute (over [] (0 ∷ [])) 64 ≡ Empty 0)
    × (saturation pair (over (0 ∷ 1 ∷ []) (2 ∷ [])) 64 ≡ Found 1 (witness_row 0 255 255 ∷ witness_row 1 255 255 ∷ witness_row 2 0 1 ∷ []))
    × (saturation pair (over (0 ∷ 2 ∷ []) (2 ∷ [])) 1 ≡ Open 0)
unfolding saturation rounds after round conclude settle absorb keep_if_new known first_accepted first_if candidates node_candidates
    node_candidate class_at leaf_candidate count_from flat_map
saturations = (refl, refl, refl, refl)

-- Demand 3 of one of them.
abbrev three : Alphabet
three = over (0 ∷ 1 ∷ []) (2 ∷ [])

pair-correct : Correct three (language_of pair) 64 (saturation pair three 64)
pair-correct = saturation-correct three (language_of pair) pair (recognizes-own pair three eqb→eq eqb_refl) 64
