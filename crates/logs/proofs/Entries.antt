-- The entries of a log: at an index, their number, and those of a log that was written from entries.
-- Assumes nothing.
use Prim.Native.Nat.{ℕ, suc, ◌+◌, ◌*◌, ◌/◌, ◌%◌, ◌≤◌, ◌<◌}
use native.Mathlib.Omega.{arith}
use mathlib.Core.Path.{◌≡◌, refl, ap₂}
use mathlib.Core.List.{List, [], ◌∷◌}
use lib.ListN.{length, drop, length-drop}
use lib.Seq.{drop-cons}
use Rattle.watch.specs.Walk.{Entry, bytes_of}
use Rattle.logs.specs.Prefix.{entries_of}
use Rattle.logs.specs.Counting.{entry_at}

-- a log that has entry k goes on with it ..
pub entries_next : (s : List ℕ) (k : ℕ) → 3 * k + 3 ≤ length s → entries_of (drop (3 * k) s) ≡ entry_at s k ∷ entries_of (drop (3 * (k + 1)) s)
unfolding entries_of
entries_next s k h =
    let one = drop-cons s (3 * k) 0 (omega arith) in
    let two = drop-cons s (3 * k + 1) 0 (omega arith) in
    let three = drop-cons s (3 * k + 2) 0 (omega arith) in
    let a : suc (3 * k) ≡ 3 * k + 1 = omega arith in
    let b : suc (3 * k + 1) ≡ 3 * k + 2 = omega arith in
    let c : suc (3 * k + 2) ≡ 3 * (k + 1) = omega arith in
    rw (one, a, two, b, three, c) refl

-- .. and one that does not has no more
few-entries : (s : List ℕ) → length s < 3 → entries_of s ≡ []
unfolding entries_of
few-entries [] h = refl
few-entries (a ∷ []) h = refl
few-entries (a ∷ b ∷ []) h = refl
few-entries (a ∷ b ∷ c ∷ s) h = absurd (omega arith)

pub entries-end : (s : List ℕ) (k : ℕ) → length s < 3 * k + 3 → entries_of (drop (3 * k) s) ≡ []
entries-end s k h = few-entries (drop (3 * k) s) (omega (arith, length-drop (3 * k) s))

-- there are as many as whole threes of bytes
pub entries-length : (s : List ℕ) → length (entries_of s) ≡ length s / 3
unfolding entries_of
entries-length [] = refl
entries-length (a ∷ []) = refl
entries-length (a ∷ b ∷ []) = refl
entries-length (a ∷ b ∷ c ∷ s) = let h = entries-length s in omega (arith, h)

-- entries are read back from their bytes
pub entries-back : (es : List Entry) → entries_of (bytes_of es) ≡ es
unfolding entries_of bytes_of
entries-back [] = refl
entries-back (e ∷ es) =
    let whole : e.0 % 256 + 256 * (e.0 / 256) ≡ e.0 = omega arith in
    ap₂ ◌∷◌ (λ n. (whole n, e.1)) (entries-back es)
