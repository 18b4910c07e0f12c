-- Refusal 13 by the length that the code has, and an answer back to its checks. Assumes nothing.
use Rattle.std.proofs.Common.{◌≡◌, ℕ, ◌<◌, ◌≤◌, List, ◌++◌, length, drop, sym, refl, ap, ltb-false, le-ltb, lt-ltb, Ok, Err}
use Rattle.refusal.specs.Checks.{refused, Check}
use Rattle.refusal.specs.declared.Fault.{Fault}
use Rattle.refusal.specs.declared.Refusal.{Refusal}
use Rattle.refusal.proofs.Passed.{clash, if-passed}
use Rattle.block_writer.specs.Written.{room_check, filled, filled_after}

pub room-short : (needed room : ℕ) → room < needed → room_check needed room ≡ refused Fault.Buffer 2 needed
unfolding room_check
room-short needed room l = rw (lt-ltb room needed l)

pub room-enough : (needed room : ℕ) → needed ≤ room → room_check needed room ≡ Ok tt
unfolding room_check
room-enough needed room l = rw (le-ltb room needed l)

pub room-passed : (needed room : ℕ) → room_check needed room ≡ Ok tt → needed ≤ room
unfolding room_check
room-passed needed room e = ltb-false room needed (if-passed _ Fault.Buffer 2 needed e)

-- the length and the bytes that were written make the definition's answer
pub told : (r : ℕ) (x file out : List ℕ) → r ≡ length file → x ≡ file ++ drop r out → filled (Ok r) x ≡ filled_after (Ok tt) file out
told r x file out e f = rw (f, e)

pub after-bytes : (c : Check) (file out : List ℕ) (n : ℕ) → (filled_after c file out).answer ≡ Ok n
    → (c ≡ Ok tt) × (n ≡ length file) × ((filled_after c file out).out ≡ file ++ drop n out)
after-bytes (Ok tt) file out n e = let same : length file ≡ n = cc in (refl, sym same, ap (λ (k : ℕ). file ++ drop k out) same)
after-bytes (Err r) file out n e = clash (cc)

pub after_kept : (c : Check) (file out : List ℕ) (r : Refusal) → (filled_after c file out).answer ≡ Err r → (filled_after c file out).out ≡ out
after_kept (Ok tt) file out r e = clash (cc)
after_kept (Err q) file out r e = refl
