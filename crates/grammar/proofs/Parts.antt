-- The pushdown automaton over an element and over a run, from their parts.
-- Assumes nothing.
use Prim.Native.Nat.{ℕ, ◌+◌, ◌<◌, ◌≤◌}
use native.Mathlib.Omega.{arith}
use mathlib.Core.Path.{◌≡◌, refl, ◌∙◌}
use mathlib.Core.List.{List, ◌∷◌}
use lib.ListN.{length, get_or}
use lib.Arith.{lt_of_le-ne}
use Rattle.tags.specs.Classes.{class_of}
use Rattle.grammar.proofs.CloseTags.{slash-at}
use Rattle.grammar.specs.Pushdown.{Configuration, Goes, between}
use Rattle.tags.proofs.ClassLaws.{class-less}
use Rattle.grammar.specs.Reading.{class_at, Stuck, Skipped, CloseAt, Passed, PartRead, RunPassed, Filled, RunRead, ElementRead, Named, CloseRead, shut_by}
use Rattle.std.proofs.Common.{Result, Ok, Err}
use Rattle.grammar.specs.declared.Wrong.{Wrong}
use Rattle.grammar.specs.declared.Unreadable.{Unreadable}
use Rattle.grammar.proofs.Going.{trans, stuck-after, class-in, class-of-at, between-dead}

-- an element is read: its tags and the run inside it, and the nodes up to the place after it
pub element-read :
    (s : List ℕ) (at n inside end count : ℕ) (nodes : List ℕ) (x : Result ℕ Wrong) → Named s at n inside → RunPassed s inside end → CloseRead s end n x →
    ((r : ℕ) → x ≡ Ok r → Filled s r count nodes) → ElementRead s at count nodes (shut_by x)
element-read s at n inside end count nodes (Ok r) h k m f =
    let p = k.passed in (
      record {
        from = omega (arith, h.from, p.from, m.from);
        to = m.to;
        goes = λ stack. trans (h.goes stack) (trans (p.goes (n ∷ stack)) (m.goes stack));
      },
      omega (arith, h.from, p.from, m.from),
      f r refl,
    )
element-read s at n inside end count nodes (Err wrong) h k m f =
    let p = k.passed in
    λ stack. stuck-after (omega (arith, h.from, p.from)) (trans (h.goes stack) (p.goes (n ∷ stack))) (m stack)

-- an element of which the run inside was not read
pub element-unread :
    (s : List ℕ) (at n inside count : ℕ) (nodes : List ℕ) (x : Unreadable) → Named s at n inside → RunRead s inside count nodes (Err x) →
    ElementRead s at count nodes (Err x)
element-unread s at n inside count nodes (Unreadable.Wrong wrong) h k = λ stack. stuck-after (omega (arith, h.from)) (h.goes stack) (k (n ∷ stack))
element-unread s at n inside count nodes Unreadable.Deep h k = k

-- a run of which an element was not read
pub run-unread :
    (s : List ℕ) (at r count : ℕ) (nodes : List ℕ) (x : Unreadable) → PartRead s at r → ElementRead s r count nodes (Err x) → RunRead s at count nodes (Err x)
run-unread s at r count nodes (Unreadable.Wrong wrong) h k = let p = h.passed in λ stack. stuck-after p.from (p.goes stack) (k stack)
run-unread s at r count nodes Unreadable.Deep h k = k

pub skipped-elements : {s : List ℕ} {at r : ℕ} → Skipped s at r → PartRead s at r
skipped-elements h = record { passed = record { from = h.from; to = h.to; goes = h.goes }; ends = h.ends }

pub elements-on : {s : List ℕ} {a b c d : ℕ} → PartRead s a b → Passed s b c → Skipped s c d → PartRead s a d
elements-on h k m =
    let p = h.passed in
    record {
      passed =
          record {
            from = omega (arith, p.from, k.from, m.from);
            to = m.to;
            goes = λ stack. trans (p.goes stack) (trans (k.goes stack) (m.goes stack));
          };
      ends = m.ends;
    }

pub less-at : (s : List ℕ) (at : ℕ) → class_at s at ≡ 2 → (at < length s) × (get_or s at 0 ≡ 60)
less-at s at e = let h = class-in s at 2 e (omega arith) in (h.0, class-less _ h.1)

pub close_at : (s : List ℕ) (at : ℕ) → class_at s at ≡ 2 → class_at s (at + 1) ≡ 3 → CloseAt s at
close_at s at e f = slash-at s at (less-at s at e).1 f

-- between tags, a byte that is neither a space nor a `<`
pub stray-stuck :
    {s : List ℕ} {at r : ℕ} {q : Configuration} {stack : List ℕ} → at ≤ r → Goes s at q r (between stack) → (class_of (get_or s r 0) ≡ 0 → ⊥) → r < length s →
    (class_at s r ≡ 2 → ⊥) → Stuck s at q r
stray-stuck {s} {at} {r} {q} {stack} from goes ends inside other =
    record {
      from = from;
      to = omega arith;
      state = between stack;
      goes = goes;
      alive = tt;
      stop = λ l. between-dead _ stack ends (λ e. other (class-of-at s r l ∙ e));
      early = λ e f. absurd (omega arith);
    }

pub elements-stuck :
    {s : List ℕ} {at r : ℕ} → PartRead s at r → (class_at s r ≡ 2 → ⊥) → (r ≡ length s → ⊥) → (stack : List ℕ) → Stuck s at (between stack) r
elements-stuck h k n stack =
    let p = h.passed in
    let l = lt_of_le-ne p.to n in
    stray-stuck p.from (p.goes stack) (h.ends l) l k
