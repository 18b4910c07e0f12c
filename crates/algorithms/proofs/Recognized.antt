-- The tables of a proper automaton recognize its language: equal tables are equivalent trees, and the tests tell acceptance.
use mathlib.Core.Path.{◌≡◌, refl, ap, ap₂}
use mathlib.Core.Logic.Iff
use mathlib.Core.Logic.{◌↔◌}
use lib.Dec.{T}
use Rattle.relation.specs.Rows.{same_rows}
use Rattle.relation.proofs.Pairs.{same-rows-eq}
use Rattle.model.specs.declared.Side.TheVariants.{Left, Right}
use Rattle.model.specs.declared.Place.TheVariants.{Child}
use Rattle.model.specs.Trees.{Tree, leaf, node}
use Rattle.model.proofs.Recognition.{Recognizes}
use Rattle.algorithms.specs.Automaton.{Automaton, Proper, alphabet_of}
use Rattle.algorithms.specs.Overloops.{overloops, loops, accepts?}
use Rattle.algorithms.proofs.OverloopLaws.{overloops-same, accepts-has}
use Rattle.algorithms.proofs.Tests.{T_true, T-both}
use Rattle.algorithms.specs.Saturate.{Parts, parts, language_of, same_parts, parts_of, algebra_of}

pub same-sound : (x y : Parts) → T (same_parts x y) → x ≡ y
same-sound x y h =
    let b = T-both (same_rows x.left y.left) (same_rows x.right y.right) h in
    ap₂ parts ((same-rows-eq x.left y.left).0 (T_true _ b.0)) ((same-rows-eq x.right y.right).0 (T_true _ b.1))

pub same_refl : (x : Parts) → T (same_parts x x)
same_refl x = rw ((same-rows-eq x.left x.left).1 refl, (same-rows-eq x.right x.right).1 refl) tt

module _ (A : Automaton) (P : Proper A) where
  parts-eq : (t u : Tree) → (parts_of A t ≡ parts_of A u) ↔
      ((overloops A (Child Left) t ≡ overloops A (Child Left) u) × (overloops A (Child Right) t ≡ overloops A (Child Right) u))
  parts-eq t u = (λ e. (ap (λ (x : Parts). x.left) e, ap (λ (x : Parts). x.right) e), λ e. ap₂ parts e.0 e.1)

  pub recognizes : Recognizes (alphabet_of A) (language_of A) (algebra_of A)
  unfolding overloops loops accepts?
  recognizes =
      record {
        same-sound = same-sound;
        same_refl = same_refl;
        cls = parts_of A;
        cls-leaf = λ σ o. refl;
        cls-node = λ σ l r o. refl;
        equivalent =
            λ t u o p.
            Iff.symm (Iff.trans (parts-eq t u) (Iff.and (overloops-same A P (Child Left) t u) (overloops-same A P (Child Right) t u)));
        accepted-leaf = λ σ o. Iff.symm (accepts-has A P (leaf σ));
        accepted-node = λ σ l r o. Iff.symm (accepts-has A P (node σ l r));
      }
