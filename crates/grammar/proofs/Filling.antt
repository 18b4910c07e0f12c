-- The list of nodes after one tag more, and past what is no tag.
-- Assumes nothing.
use Prim.Native.Nat.{ℕ, suc, ◌+◌, ◌<◌, ◌≤◌}
use native.Mathlib.Omega.{arith}
use native.Mathlib.Numerals.{add-one}
use mathlib.Core.Path.{◌≡◌, refl, sym, ap, ◌∙◌}
use mathlib.Core.List.{List, [], ◌∷◌, ◌++◌}
use lib.ListN.{length, get_or, take, drop, set, length-drop, length-set}
use lib.Seq.{take-suc, take-suc-set, take_all}
use Rattle.blocks.proofs.Stores.{first}
use Rattle.tags.specs.Tags.{nodes_in}
use Rattle.tags.proofs.Listed.{nodes-end}
use Rattle.grammar.specs.Reading.{Filled}

-- one node more: what a list has at its front, and what is left of the nodes
stored : (nodes all rest : List ℕ) (count n : ℕ) → count < length nodes → take count nodes ≡ take count all → drop count all ≡ n ∷ rest
    → (take (count + 1) (set nodes count n) ≡ take (count + 1) all) × (drop (count + 1) all ≡ rest) × (count < length all)
stored nodes all rest count n h done left =
    let f = first all count n rest left in
    let a : take (suc count) (set nodes count n) ≡ take count nodes ++ (n ∷ []) = take-suc-set nodes count n h in
    let b : take (suc count) all ≡ take count all ++ (get_or all count 0 ∷ []) = take-suc all count 0 f.0 in
    (rw (add-one count, a, b, f.1, done), f.2, f.0)

-- there is room for one more
pub filled-room : {s nodes : List ℕ} {at count : ℕ} → Filled s at count nodes → at ≤ length s → count < 10924
filled-room f h = omega (arith, f.few, f.fits)

-- past a tag
pub tag-filled : {s nodes : List ℕ} {at count r : ℕ} (n : ℕ) → Filled s at count nodes → at ≤ length s → at + 3 ≤ r
    → nodes_in (drop at s) ≡ n ∷ nodes_in (drop r s) → Filled s r (count + 1) (set nodes count n)
tag-filled {s} {nodes} {at} {count} {r} n f m h e =
    let k = stored nodes (nodes_in s) (nodes_in (drop r s)) count n (rw f.long (filled-room f m)) f.done (f.rest ∙ e) in
    record { few = f.few; long = length-set nodes count n ∙ f.long; fits = omega (arith, f.fits); done = k.0; rest = k.1 }

-- past what is no tag
pub on-filled : {s nodes : List ℕ} {at count r : ℕ} → Filled s at count nodes → at ≤ r → nodes_in (drop at s) ≡ nodes_in (drop r s) → Filled s r count nodes
on-filled f h e = record { few = f.few; long = f.long; fits = omega (arith, f.fits); done = f.done; rest = f.rest ∙ e }

-- where the text ends, the last node is the end's
pub end-filled : {s nodes : List ℕ} {at count : ℕ} → Filled s at count nodes → at ≡ length s
    → (count + 1 ≡ length (nodes_in s)) × (take (count + 1) (set nodes count 0) ≡ nodes_in s)
end-filled {s} {nodes} {at} {count} f h =
    let k = stored nodes (nodes_in s) [] count 0 (rw f.long (filled-room f (omega arith))) f.done (f.rest ∙ nodes-end s at (omega arith)) in
    let n : count + 1 ≡ length (nodes_in s) = omega (arith, k.2, sym (length-drop (count + 1) (nodes_in s)) ∙ ap length k.1) in
    (n, k.0 ∙ take_all (count + 1) (nodes_in s) (omega arith))

-- nothing is read yet
pub nothing-filled : (s nodes : List ℕ) → length s ≤ 32768 → length nodes ≡ 10924 → Filled s 0 0 nodes
nothing-filled s nodes h k = record { few = h; long = k; fits = omega arith; done = refl; rest = refl }
