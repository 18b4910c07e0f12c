-- The bytes of an automaton's payload, one by one.
-- Assumes nothing.
use Prim.Native.Nat.{ℕ, zero, suc, ◌+◌, ◌-◌, ◌/◌, ◌%◌, ◌<◌, ◌≤◌}
use native.Mathlib.Omega.{arith}
use mathlib.Core.Path.{◌≡◌, refl, ap, ◌∙◌}
use mathlib.Core.List.{List, [], ◌∷◌, ◌++◌}
use lib.ListN.{length, get_or, get_or-append}
use lib.Seq.{get_or-append-add}
use Rattle.automaton.specs.Payload.{payload_of}
use Rattle.automaton.specs.declared.Header.{Header}
use Rattle.blocks.specs.FileOf.{word_bytes}

pub payload-length : (h : Header) (records : List ℕ) → length (payload_of h records) ≡ 20 + length records
unfolding payload_of word_bytes
payload-length h records = omega arith

-- the header is before the records
pub front-byte : (h : Header) (records : List ℕ) (i : ℕ) → i < 20 → get_or (payload_of h records) i 0 ≡ get_or (payload_of h []) i 0
unfolding payload_of word_bytes
front-byte h records i l = get_or-append (payload_of h []) records 0 i (omega (arith, payload-length h []))

-- and from offset 20 on stand the records
pub record-byte : (h : Header) (records : List ℕ) (i j : ℕ) → i ≡ 20 + j → get_or (payload_of h records) i 0 ≡ get_or records j 0
unfolding payload_of word_bytes
record-byte h records i j e = ap (λ (k : ℕ). get_or (payload_of h records) k 0) e ∙ get_or-append-add (payload_of h []) records j 0

-- offsets 3, 6 and 7
pub zero-byte : (h : Header) (i : ℕ) → i < 8 → (i ≡ 0 → ⊥) → (i ≡ 1 → ⊥) → (i ≡ 2 → ⊥) → (i ≡ 4 → ⊥) → (i ≡ 5 → ⊥)
    → get_or (payload_of h []) i 0 ≡ 0
unfolding payload_of
zero-byte h zero l a b c d e = absurd (a refl)
zero-byte h (suc zero) l a b c d e = absurd (b refl)
zero-byte h (suc (suc zero)) l a b c d e = absurd (c refl)
zero-byte h (suc (suc (suc zero))) l a b c d e = refl
zero-byte h (suc (suc (suc (suc zero)))) l a b c d e = absurd (d refl)
zero-byte h (suc (suc (suc (suc (suc zero))))) l a b c d e = absurd (e refl)
zero-byte h (suc (suc (suc (suc (suc (suc zero)))))) l a b c d e = refl
zero-byte h (suc (suc (suc (suc (suc (suc (suc zero))))))) l a b c d e = refl
zero-byte h (suc (suc (suc (suc (suc (suc (suc (suc i)))))))) l a b c d e = absurd (omega arith)

-- a word in a list
word_in : (front : List ℕ) (w : ℕ) (rest : List ℕ) (i : ℕ) → length front ≤ i → i < length front + 4
    → get_or (front ++ (word_bytes w ++ rest)) i 0 ≡ get_or (word_bytes w) (i - length front) 0
unfolding word_bytes
word_in front w rest i lo hi =
    let e : i ≡ length front + (i - length front) = omega arith in
    ap (λ (k : ℕ). get_or (front ++ (word_bytes w ++ rest)) k 0) e
    ∙ get_or-append-add front (word_bytes w ++ rest) (i - length front) 0
    ∙ get_or-append (word_bytes w) rest 0 (i - length front) (omega arith)

-- the three sets
module _ (h : Header) where
  abbrev counts : List ℕ
  counts = 87 ∷ h.states ∷ h.symbols ∷ 0 ∷ h.rules % 256 ∷ h.rules / 256 ∷ 0 ∷ 0 ∷ []

  pub initial-byte : (i : ℕ) → 8 ≤ i → i < 12 → get_or (payload_of h []) i 0 ≡ get_or (word_bytes h.initial) (i - 8) 0
  unfolding payload_of word_bytes
  initial-byte i lo hi = word_in counts h.initial (word_bytes h.accepting ++ word_bytes h.branches ++ []) i lo hi

  pub accepted-byte : (i : ℕ) → 12 ≤ i → i < 16 → get_or (payload_of h []) i 0 ≡ get_or (word_bytes h.accepting) (i - 12) 0
  unfolding payload_of word_bytes
  accepted-byte i lo hi = word_in (counts ++ word_bytes h.initial) h.accepting (word_bytes h.branches ++ []) i lo hi

  pub branches-byte : (i : ℕ) → 16 ≤ i → i < 20 → get_or (payload_of h []) i 0 ≡ get_or (word_bytes h.branches) (i - 16) 0
  unfolding payload_of word_bytes
  branches-byte i lo hi = word_in (counts ++ word_bytes h.initial ++ word_bytes h.accepting) h.branches [] i lo hi
