-- Runs of stores into a list: one after another, and one from the first place on; a list from a place on. Assumes nothing.
use Rattle.std.proofs.Common.{◌≡◌, ℕ, suc, ◌+◌, ◌<◌, ◌≤◌, List, [], ◌∷◌, ◌++◌, length, get_or, drop, set, sym, ap, ◌∙◌, add-one, arith, length-drop, drop-cons}
use lib.Seq.{sets, sets-eq}

-- one run of stores after another
pub sets-append : (vs ws l : List ℕ) (i j : ℕ) → j ≡ i + length vs → sets (sets l i vs) j ws ≡ sets l i (vs ++ ws)
sets-append [] ws l i j e = ap (λ (k : ℕ). sets l k ws) (let f : j ≡ i = omega arith in f)
sets-append (v ∷ vs) ws l i j e = sets-append vs ws (set l i v) (suc i) j (omega arith)

-- stores from the first place on are what stands at the front
pub sets-front : (vs l : List ℕ) (n : ℕ) → length vs ≡ n → n ≤ length l → sets l 0 vs ≡ vs ++ drop n l
sets-front vs l n e h =
    let f : 0 + length vs ≡ n = omega arith in
    sets-eq vs l 0 (omega arith) ∙ ap (λ (k : ℕ). vs ++ drop k l) f

-- a list from a place on: its first number, and what follows
pub first :
    (s : List ℕ) (at n : ℕ) (rest : List ℕ) → drop at s ≡ n ∷ rest →
    (at < length s) × (get_or s at 0 ≡ n) × (drop (at + 1) s ≡ rest)
first s at n rest e =
    let h : at < length s = omega (arith, sym (length-drop at s) ∙ ap length e) in
    let c = drop-cons s at 0 h in
    (h, (cc), rw add-one (cc))
