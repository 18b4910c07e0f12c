-- What was written is what stands at a buffer's front.
-- Assumes nothing.
use Rattle.std.proofs.Common.{◌≡◌, ℕ, List, ◌++◌, length, take, sym, ap, ◌∙◌, take_at}

pub front : (n : ℕ) (x y z : List ℕ) → n ≡ length x → y ≡ x ++ z → take n y ≡ x
front n x y z e f = ap (take n) f ∙ take_at x z n (sym e)
