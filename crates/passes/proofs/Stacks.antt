-- The stack of words after a word more, and after a word in place of two.
-- Assumes nothing.
use Prim.Native.Nat.{ℕ, suc, ◌+◌, ◌-◌, ◌%◌, ◌<◌}
use native.Mathlib.Omega.{arith}
use native.Mathlib.Numerals.{add-one}
use mathlib.Core.Path.{◌≡◌, ◌∙◌}
use mathlib.Core.List.{List, ◌∷◌}
use lib.ListN.{length, get_or, drop, set, length-set}
use lib.Seq.{drop-cons, drop-set-lt, get_or-set_same, lt-length-set}
use Rattle.blocks.proofs.Stores.{first}
use Rattle.passes.specs.Held.{Held}

-- a list from a place on, after a store there
stored : (l : List ℕ) (n v : ℕ) → n < length l → drop n (set l n v) ≡ v ∷ drop (n + 1) l
stored l n v h =
    drop-cons (set l n v) n 0 (lt-length-set l n v h) ∙ rw (get_or-set_same l n v 0 h, drop-set-lt (suc n) l n v (omega arith), add-one n)

pub pushed : (t : List ℕ) (top x y w : ℕ) (ws : List ℕ) → 0 < top → Held t (record { top = top; first = x; second = y }) ws
    → Held (set t (top - 1) w) (record { top = top - 1; first = w; second = x }) (w ∷ ws)
pushed t top x y w ws some h =
    let size = h.size in
    let room = h.room in
    let same : top - 1 + 1 ≡ top = omega arith in
    record {
      size = length-set t (top - 1) w ∙ h.size;
      room = omega arith;
      words = stored t (top - 1) w (omega arith) ∙ rw (same, h.words);
      first = λ a l e. cc;
      second = λ a b l e. h.first b l (cc);
    }

pub merged : (t : List ℕ) (top p q w x y : ℕ) (ws : List ℕ) → top + 1 < 128 → Held t (record { top = top; first = p; second = q }) (x ∷ y ∷ ws)
    → Held (set t (top + 1) w) (record { top = top + 1; first = w; second = get_or t ((top + 1 + 1) % 128) 0 }) (w ∷ ws)
merged t top p q w x y ws few h =
    let size = h.size in
    let one = first t top x (y ∷ ws) h.words in
    let two = first t (top + 1) y ws one.2 in
    record {
      size = length-set t (top + 1) w ∙ h.size;
      room = omega arith;
      words = stored t (top + 1) w (omega arith) ∙ rw two.2;
      first = λ a l e. cc;
      second = λ a b l e.
          let rest : ws ≡ b ∷ l = cc in
          let three = first t (top + 1 + 1) b l (two.2 ∙ rest) in
          let here : (top + 1 + 1) % 128 ≡ top + 1 + 1 = omega (arith, three.0) in
          rw here three.1;
    }
