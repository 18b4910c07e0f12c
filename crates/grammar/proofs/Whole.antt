-- From places to whole texts.
-- Assumes nothing.
use Prim.Native.Nat.{ℕ, ◌+◌, ◌<◌}
use native.Mathlib.Omega.{arith}
use mathlib.Core.Path.{◌≡◌, refl, sym, ap, ◌∙◌}
use mathlib.Core.List.{List, []}
use lib.ListN.{length, take}
use lib.Seq.{take-length}
use lib.Arith.{lt_of_le-ne}
use Rattle.tags.proofs.ClassLaws.{space-less}
use Rattle.grammar.specs.Grammar.{Elements, Text, WrongAt}
use Rattle.grammar.specs.Pushdown.{Configuration, between, steps, Goes, here, on}
use Rattle.grammar.proofs.PushdownLaws.{alive-begins, between-writes}
use Rattle.grammar.proofs.Decided.{next-steps, wrong-there, less-in, some_at}
use Rattle.grammar.specs.Reading.{Stuck, Skipped, RunPassed}
use Rattle.grammar.proofs.Going.{trans, stuck-after}
use Rattle.grammar.proofs.CloseTags.{root-closed}

-- where the automaton has got to is what it makes of the bytes before
pub goes-steps :
    {s : List ℕ} {a b : ℕ} {q r : Configuration} → Goes s a q b r → steps (between []) (take a s) ≡ q → steps (between []) (take b s) ≡ r
goes-steps here e = e
goes-steps {s} {a = a} {q = q} (on h g) e = goes-steps g (next-steps s a q h e)

from_start : {s : List ℕ} {b : ℕ} {r : Configuration} → Goes s 0 (between []) b r → steps (between []) (take b s) ≡ r
unfolding steps
from_start g = goes-steps g refl

-- the automaton is stuck: the text is wrong there
pub stuck-wrong : {s : List ℕ} {p : ℕ} → Stuck s 0 (between []) p → WrongAt s p
stuck-wrong {s} {p} h = wrong-there s p h.state h.to (from_start h.goes) h.alive h.stop h.early

-- ---- texts of spaces only

pub spaces-wrong : {s : List ℕ} {p : ℕ} → p ≡ length s → Skipped s 0 p → WrongAt s p
spaces-wrong {s} {p} e h =
    let g = from_start (h.goes []) in
    record {
      within = h.to;
      before = alive-begins (take p s) (rw g tt);
      there = λ l b. omega arith;
      no_text =
          λ r t.
          let i = less-in t.writes t.some in
          space-less _ (h.blank i.0 (omega arith) (omega arith)) i.2;
    }

-- ---- the whole text

-- the automaton reads the whole text, with nothing open at its end
pub goes-right :
    {s : List ℕ} {first end : ℕ} → Skipped s 0 first → first < length s → Goes s 0 (between []) end (between []) → end ≡ length s → (r : Elements) × Text s r
goes-right {s} {first} {end} h l g e =
    let w = between-writes s (sym (ap (steps (between [])) (ap (λ (n : ℕ). take n s) e ∙ take-length s)) ∙ from_start g) in
    (w.0, record { writes = w.1; some = some_at s first w.0 l (h.ends l) w.1 })

pub text-right :
    {s : List ℕ} {first end : ℕ} → Skipped s 0 first → (first ≡ length s → ⊥) → RunPassed s first end → end ≡ length s → (r : Elements) × Text s r
text-right h k m e = goes-right h (lt_of_le-ne h.to k) (trans (h.goes []) (m.passed.goes [])) e

-- a closing tag where nothing is open
pub text-closed :
    {s : List ℕ} {first end : ℕ} → Skipped s 0 first → RunPassed s first end → (end ≡ length s → ⊥) → WrongAt s (end + 1)
text-closed {s} {first} {end} h m k =
    let l : end < length s = lt_of_le-ne m.passed.to k in
    let g = trans (h.goes []) (m.passed.goes []) in
    stuck-wrong (stuck-after (omega arith) g (root-closed s end (m.ends l)))

pub text-stuck : {s : List ℕ} {first p : ℕ} → Skipped s 0 first → ((stack : List ℕ) → Stuck s first (between stack) p) → WrongAt s p
text-stuck h k = stuck-wrong (stuck-after h.from (h.goes []) (k []))
