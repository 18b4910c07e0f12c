-- A log, entry by entry: stores at the front of a buffer are the entries' bytes, and what follows them stays.
-- Assumes nothing.
use Prim.Native.Nat.{ℕ, suc, ◌+◌, ◌*◌, ◌≤◌}
use native.Mathlib.Omega.{arith}
use mathlib.Core.Path.{◌≡◌, refl, ap, ◌∙◌}
use mathlib.Core.List.{List, [], ◌∷◌, ◌++◌}
use lib.ListN.{length, drop}
use lib.Seq.{sets, sets-eq}
use Rattle.watch.specs.Walk.{Entry, bytes_of}
use Rattle.watch.specs.Watch.{log_after}
use Rattle.watch.specs.Following.{put_entry}

-- the entries are stored from entry k on
unfoldable pub written : (log : List ℕ) → (k : ℕ) → List Entry → List ℕ
written log k [] = log
written log k (e ∷ es) = written (put_entry log k e.0 e.1) (k + 1) es

pub bytes-length : (es : List Entry) → length (bytes_of es) ≡ 3 * length es
unfolding bytes_of
bytes-length [] = omega arith
bytes-length (e ∷ es) = omega (arith, bytes-length es)

written-sets : (s : List ℕ) (k : ℕ) (es : List Entry) → written s k es ≡ sets s (3 * k) (bytes_of es)
unfolding written bytes_of
written-sets s k [] = refl
written-sets s k (e ∷ es) =
    let a : 3 * k + 1 ≡ suc (3 * k) = omega arith in
    let b : 3 * k + 2 ≡ suc (suc (3 * k)) = omega arith in
    let c : 3 * (k + 1) ≡ suc (suc (suc (3 * k))) = omega arith in
    written-sets (put_entry s k e.0 e.1) (k + 1) es ∙ rw (a, b, c)

pub written-log : (s : List ℕ) (es : List Entry) → 3 * length es ≤ length s → written s 0 es ≡ log_after es s
written-log s es h =
    let e = bytes-length es in
    let f : sets s 0 (bytes_of es) ≡ bytes_of es ++ drop (0 + length (bytes_of es)) s = sets-eq (bytes_of es) s 0 (omega arith) in
    let g : 0 + length (bytes_of es) ≡ 3 * length es = omega arith in
    written-sets s 0 es ∙ ap (λ (k : ℕ). sets s k (bytes_of es)) (let z : 3 * 0 ≡ 0 = omega arith in z) ∙ f ∙ rw g
