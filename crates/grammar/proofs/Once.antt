-- A text goes wrong at one place.
-- Assumes nothing.
use Prim.Native.Nat.{ℕ, ◌+◌, ◌<◌, ◌≤◌}
use native.Mathlib.Omega.{arith}
use mathlib.Core.Path.{◌≡◌, refl, sym, ap, ◌∙◌}
use mathlib.Core.Bool.{Bool, true, false}
use mathlib.Core.List.{List, ◌++◌}
use lib.Dec.{ltb}
use lib.ListN.{take, drop, take-append-drop}
use lib.Seq.{take-take}
use borrow.Author.Tests.{ltb-true, ltb-false}
use Rattle.grammar.specs.Grammar.{Begins, WrongAt}
use Rattle.grammar.proofs.PushdownLaws.{begins-less}

-- a shorter prefix begins what a longer one does
shorter : (s : List ℕ) (m n : ℕ) → m ≤ n → Begins (take n s) → Begins (take m s)
shorter s m n h b =
    let e : take m s ++ drop m (take n s) ≡ take n s =
    ap (λ (l : List ℕ). l ++ drop m (take n s)) (sym (take-take m n s h)) ∙ take-append-drop m (take n s) in
    begins-less (take m s) (drop m (take n s)) (rw e b)

not-before : {s : List ℕ} {p q : ℕ} → WrongAt s p → WrongAt s q → p < q → ⊥
not-before {s} {p} {q} h k l = h.there (omega (arith, k.within)) (shorter s (p + 1) q (omega arith) k.before)

pub wrong-once : {s : List ℕ} {p q : ℕ} → WrongAt s p → WrongAt s q → p ≡ q
wrong-once {s} {p} {q} h k =
    go (ltb p q) refl (ltb q p) refl
  where
    go : (t : Bool) → ltb p q ≡ t → (u : Bool) → ltb q p ≡ u → p ≡ q
    go true e u f = absurd (not-before h k (ltb-true p q e))
    go false e true f = absurd (not-before k h (ltb-true q p f))
    go false e false f = let x = ltb-false p q e in let y = ltb-false q p f in omega arith
