-- The answers that are written are all that there is room for.
-- Assumes nothing.
use Rattle.std.proofs.Common.{Result, Ok, Err}
use Prim.Native.Nat.{ℕ, ◌+◌, ◌*◌, ◌/◌, ◌<◌, ◌≤◌}
use native.Mathlib.Omega.{arith}
use mathlib.Core.Path.{◌≡◌, refl, sym, ap, ◌∙◌}
use mathlib.Core.Bool.{Bool, true, false}
use mathlib.Core.Logic.{inl, inr}
use mathlib.Core.List.{List, [], ◌∷◌, ◌++◌, append-nil}
use borrow.Author.Tests.{eq-eqb, ne_eqb, lt-ltb}
use lib.ListN.{length, set, take, drop, length-append}
use lib.Seq.{sets, take_all, take_at}
use Rattle.algorithms.specs.Automaton.{Automaton}
use Rattle.blocks.specs.Blocks.{content}
use Rattle.refusal.specs.declared.Refusal.{Refusal}
use Rattle.automaton.specs.File.{parsed}
use Rattle.automaton.specs.declared.Header.{Header}
use Rattle.transitions.specs.Transitions.{automaton_of}
use Rattle.membership.specs.Judged.{judged_by}
use Rattle.membership.specs.Grown.{growth_by}
use Rattle.membership.specs.declared.Answer.{Answer}
use Rattle.batch.specs.Batch.{first_length}
use Rattle.batch.specs.Answers.{answers_of, answer_numbers, all_numbers, after_files, growths_after, later_if, Part, Stopped}
use Rattle.batch.specs.declared.part.Judged.{Judged}
use Rattle.batch.proofs.Answering.{answers_next}
use Rattle.batch.proofs.Parts.{put-more}
use Rattle.batch.proofs.Sums.{sum_more}
use Rattle.answers.specs.All.{answered, numbers_after, outcome, judged_all}

-- no input, no answer; less than a file, one
none : (A : Automaton) (s : List ℕ) → length s ≡ 0 → answers_of A s ≡ []
none A s e = answers_next A s ∙ rw (eq-eqb (length s) 0 e) refl

one : (A : Automaton) (s : List ℕ) → (length s ≡ 0 → ⊥) → length s < first_length s → answers_of A s ≡ judged_by A s ∷ []
one A s some l =
    answers_next A s
    ∙ rw (ne_eqb (length s) 0 some, lt-ltb (length s) (first_length s) l, take_all (first_length s) s (omega arith)) refl

module _ (A : Automaton) (s lent lent' : List ℕ) (r : Judged) (p : Part A s lent lent' r) (room : 3 * r.files ≤ length lent) where
  abbrev Told : (n : ℕ) (after : List ℕ) → Type 0
  Told n after = (n ≡ length (answered A s lent)) × (after ≡ numbers_after (answered A s lent) lent)

  all : answers_of A s ≡ p.answers ++ later_if r.more (answers_of A (drop r.bytes s))
  all = rw (append-nil s, append-nil (drop r.bytes s)) at (p.all [])

  -- the answers so far are those that there is room for
  so_far : answered A s lent ≡ p.answers → Told r.files lent'
  so_far e = rw e (sym p.count, p.written ∙ ap (λ (n : ℕ). all_numbers p.answers ++ drop (3 * n) lent) (sym p.count))

  whole : answers_of A s ≡ p.answers → answered A s lent ≡ p.answers
  unfolding answered
  whole e = ap (take (length lent / 3)) e ∙ take_all (length lent / 3) p.answers (omega (arith, p.count))

  pub ended : r.more ≡ false → Told r.files lent'
  ended e = so_far (whole (all ∙ ap (λ (b : Bool). p.answers ++ later_if b (answers_of A (drop r.bytes s))) e ∙ append-nil p.answers))

  going : r.more ≡ true → answers_of A s ≡ p.answers ++ answers_of A (drop r.bytes s)
  going e = all ∙ ap (λ (b : Bool). p.answers ++ later_if b (answers_of A (drop r.bytes s))) e

  pub nothing_left : r.more ≡ true → length (drop r.bytes s) ≡ 0 → Told r.files lent'
  nothing_left e z = so_far (whole (going e ∙ ap (λ (l : List (Result Answer Refusal)). p.answers ++ l) (none A (drop r.bytes s) z) ∙ append-nil p.answers))

  pub no_room : r.more ≡ true → length lent < 3 * r.files + 3 → Told r.files lent'
  unfolding answered
  no_room e l =
      let n : length lent / 3 ≡ r.files = omega (arith, room) in
      so_far (ap (take (length lent / 3)) (going e) ∙ rw n (take_at p.answers (answers_of A (drop r.bytes s)) r.files p.count))

  -- less than a file is left, where there is room for an answer
  pub left-short : Stopped s lent r → 3 * r.files + 3 ≤ length lent → length (drop r.bytes s) < first_length (drop r.bytes s)
  left-short (inl l) space = l
  left-short (inr l) space = absurd (omega arith)

  -- what is left, less than a file, is refused
  pub one_more : r.more ≡ true → Stopped s lent r → (x lent'' : List ℕ) → x ≡ drop r.bytes s → (length x ≡ 0 → ⊥) → 3 * r.files + 3 ≤ length lent
      → lent'' ≡ sets lent' (3 * r.files) (answer_numbers (judged_by A x)) → Told (r.files + 1) lent''
  unfolding answered
  one_more e stopped x lent'' is some space put =
      let a = judged_by A x in
      let last : answers_of A (drop r.bytes s) ≡ judged_by A x ∷ [] =
      rw (← is) (one A x some (rw (← is) at (left-short stopped space))) in
      let every : answers_of A s ≡ p.answers ++ judged_by A x ∷ [] = going e ∙ ap (λ (l : List (Result Answer Refusal)). p.answers ++ l) last in
      let count : length (p.answers ++ judged_by A x ∷ []) ≡ r.files + 1 = length-append p.answers (judged_by A x ∷ []) ∙ ap (λ (n : ℕ). n + 1) p.count in
      let written : take (length lent / 3) (answers_of A s) ≡ p.answers ++ judged_by A x ∷ [] =
      ap (take (length lent / 3)) every ∙ take_all (length lent / 3) (p.answers ++ judged_by A x ∷ []) (omega (arith, count)) in
      rw written (
        sym count,
        put-more p.answers (judged_by A x) lent lent' lent'' r.files p.count space p.written put
            ∙ ap (λ (n : ℕ). all_numbers (p.answers ++ judged_by A x ∷ []) ++ drop (3 * n) lent) (sym count),
      )

-- the sum of what is left, less than a file
pub last_sum : (A : Automaton) (n at : ℕ) (s lent before after x : List ℕ) → before ≡ growths_after A n s lent → drop at s ≡ after_files n s → x ≡ drop at s
    → length x < first_length x → after ≡ set before n (growth_by A x) → after ≡ growths_after A (n + 1) s lent
last_sum A n at s lent before after x b d e short put =
    sum_more A n at (first_length x) s lent before after x b d (ap first_length e) (sym (take_all (first_length x) x (omega arith)) ∙ ap (take (first_length x)) e) put

-- ---- over an automaton's file

pub all-refused : (w s lent g : List ℕ) (x : Refusal) → parsed w ≡ Err x → outcome (Err x) lent g ≡ judged_all w s lent g
unfolding judged_all
all-refused w s lent g x e = rw e refl

pub all_read : (w s lent g : List ℕ) (h : Header) → parsed w ≡ Ok h → (n : ℕ) (after sums : List ℕ)
    → n ≡ length (answered (automaton_of h (content w)) s lent) → after ≡ numbers_after (answered (automaton_of h (content w)) s lent) lent
    → sums ≡ growths_after (automaton_of h (content w)) n s g → outcome (Ok n) after sums ≡ judged_all w s lent g
unfolding judged_all
all_read w s lent g h e n after sums f a b = rw (e, b, a, f) refl
