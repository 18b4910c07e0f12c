-- Demand 3 holds of what the survey answers and leaves, and of what the quick check answers.
use Rattle.std.proofs.Common.{Ok, Err, Result}
use mathlib.Core.Path.{◌≡◌, refl, sym, ap}
use mathlib.Core.Logic.{◌↔◌}
use mathlib.Core.Bool.{Bool, true, false}
use mathlib.Core.List.Memᴰ
use mathlib.Core.List.{List, [], ◌++◌}
use Prim.Native.Nat.{ℕ, suc, ◌*◌}
use native.Mathlib.Omega.{arith}
use borrow.Author.Tests.{le-ltb}
use lib.Dec.{T}
use lib.ListN.{length, drop}
use Rattle.model.specs.Counting.{Counts}
use Rattle.model.specs.Saturation.{WitnessRow, Verdict, Found, Open, Empty}
use Rattle.model.specs.Demand.{Told, Correct}
use Rattle.algorithms.specs.Automaton.{Automaton, Proper, alphabet_of}
use Rattle.algorithms.specs.Saturate.{language_of, saturation_of}
use Rattle.algorithms.specs.Approximate.{least_parts, sets_of, clear?}
use Rattle.algorithms.proofs.LeastSets.{parts-least, clear-has, clear-sound}
use Rattle.algorithms.proofs.Theorems.{demand-3, count-exists, count-unique}
use Rattle.blocks.specs.Blocks.{content}
use Rattle.refusal.proofs.Passed.{clash}
use Rattle.transitions.specs.Transitions.{automaton_of}
use Rattle.transitions.proofs.Meaning.{file-proper}
use Rattle.emptiness.specs.Surveyed.{plan_bytes, survey_of, written, buffer_check, answered, surveyed_by, surveyed}
use Rattle.emptiness.specs.Checked.{clear_or, checked}
use Rattle.emptiness.specs.Demand3.{Planned, AtMost64, Surveys, Demand3, Approximates, Demand3Quick}
use Rattle.emptiness.specs.declared.Survey.{Survey}
use Rattle.emptiness.specs.declared.Quick.{Quick}
use Rattle.refusal.specs.declared.Refusal.{Refusal}

-- ---- a verdict and how it is told

abbrev survey_told : Verdict → Result Survey Refusal
survey_told v = Ok (survey_of v)

-- what is told of a verdict, back to the verdict
found_back : (v : Verdict) (h rows : ℕ) → survey_told v ≡ Ok (Survey.Found h rows) → (p : List WitnessRow) × (v ≡ Found h p) × (rows ≡ length p)
found_back (Found k p) h rows e =
    let same : k ≡ h = cc in
    let count : length p ≡ rows = cc in
    (p, ap (λ (n : ℕ). Found n p) same, sym count)
found_back (Open k) h rows e = clash (cc)
found_back (Empty k) h rows e = clash (cc)

open-back : (v : Verdict) (h : ℕ) → survey_told v ≡ Ok (Survey.Open h) → v ≡ Open h
open-back (Found k p) h e = clash (cc)
open-back (Open k) h e = let same : k ≡ h = cc in ap Open same
open-back (Empty k) h e = clash (cc)

empty_back : (v : Verdict) (h : ℕ) → survey_told v ≡ Ok (Survey.Empty h) → v ≡ Empty h
empty_back (Found k p) h e = clash (cc)
empty_back (Open k) h e = clash (cc)
empty_back (Empty k) h e = let same : k ≡ h = cc in ap Empty same

height-told : (v : Verdict) → Told 64 v → AtMost64 (survey_told v)
height-told (Found k p) t = t
height-told (Open k) t = t
height-told (Empty k) t = t

buffer-kept : (v : Verdict) (before : List ℕ) → ((h rows : ℕ) → survey_told v ≡ Ok (Survey.Found h rows) → ⊥) → written v before ≡ before
buffer-kept (Found k p) before n = absurd (n k (length p) refl)
buffer-kept (Open k) before n = refl
buffer-kept (Empty k) before n = refl

bytes-written : (v : Verdict) (h rows : ℕ) (p : List WitnessRow) (before : List ℕ) → v ≡ Found h p → rows ≡ length p
    → written v before ≡ plan_bytes p ++ drop (3 * rows) before
bytes-written v h rows p before e f = rw (e, f)

-- ---- counts

module _ (A : Automaton) (P : Proper A) where
  -- what counts is the one number that does
  counts-is : (k m : ℕ) → Counts (alphabet_of A) (language_of A) k m → (n : ℕ) → Counts (alphabet_of A) (language_of A) k n ↔ (n ≡ m)
  counts-is k m c n = (λ d. count-unique A P d c, λ e. rw e c)

  -- no tree has a height below 0
  none-counted : Counts (alphabet_of A) (language_of A) 0 0
  none-counted =
      record {
        trees = [];
        size = refl;
        inside = λ t m. absurd (Memᴰ.not-nil m);
        inequivalent = tt;
        all = λ t over low. absurd (omega arith);
      }

-- ---- a correct verdict, told and written

module _ (A : Automaton) (P : Proper A) (before : List ℕ) where
  correct : Correct (alphabet_of A) (language_of A) 64 (saturation_of A)
  correct = demand-3 A P

  planned : (h rows : ℕ) → survey_told (saturation_of A) ≡ Ok (Survey.Found h rows) → Planned A h rows before (written (saturation_of A) before)
  planned h rows e =
      let f = found_back (saturation_of A) h rows e in
      record {
        plan = f.0;
        is_surveys = f.1;
        witness = correct.witness h f.0 f.1;
        rows_told = f.2;
        bytes = bytes-written (saturation_of A) h rows f.0 before f.1 f.2;
      }

  surveys : Surveys A before (answered (survey_told (saturation_of A)) (written (saturation_of A) before))
  surveys =
      record {
        N = λ h. (count-exists A P (suc h)).0;
        counts = λ h. counts-is A P (suc h) _ (count-exists A P (suc h)).1;
        counts_none = counts-is A P 0 0 (none-counted A P);
        found = λ h. (
          λ x. let f = found_back (saturation_of A) h x.0 x.1 in (correct.says_found h).0 (f.0, f.1),
          λ a. let f = (correct.says_found h).1 a in (length f.0, ap survey_told f.1),
        );
        plan = planned;
        open_says = λ h. (λ e. (correct.says_open h).0 (open-back (saturation_of A) h e), λ a. ap survey_told ((correct.says_open h).1 a));
        empty = λ h. (λ e. (correct.says_empty h).0 (empty_back (saturation_of A) h e), λ a. ap survey_told ((correct.says_empty h).1 a));
        height = height-told (saturation_of A) correct.told;
        kept = buffer-kept (saturation_of A) before;
      }

pub surveyed-right : (w before : List ℕ) → Demand3 w before (surveyed w before)
unfolding surveyed surveyed_by buffer_check
surveyed-right w before h read long =
    rw (read, le-ltb (length before) 195 long)
    (surveys (automaton_of h (content w)) (file-proper w h read) before)

-- ---- a test that is told as Clear or Unsure, against what it tests

abbrev quick_told : Bool → Result Quick Refusal
quick_told b = Ok (clear_or b)

module _ {X : Type 0} where
  clear_told : (b : Bool) → T b ↔ X → (quick_told b ≡ Ok Quick.Clear) ↔ X
  clear_told true e = (λ h. e.0 tt, λ x. refl)
  clear_told false e = (λ h. clash (cc), λ x. absurd (e.1 x))

  unsure-told : (b : Bool) → T b ↔ X → (quick_told b ≡ Ok Quick.Unsure) ↔ (¬ X)
  unsure-told true e = (λ h. clash (cc), λ n. absurd (n (e.0 tt)))
  unsure-told false e = (λ h x. e.1 x, λ n. refl)

clear-is : (b : Bool) → quick_told b ≡ Ok Quick.Clear → T b
clear-is b = (clear_told b (λ t. t, λ t. t)).0

not-refused : (b : Bool) (r : Refusal) → ¬ (quick_told b ≡ Err r)
not-refused true r e = clash (cc)
not-refused false r e = clash (cc)

approximates : (A : Automaton) → Proper A → Approximates A (quick_told (clear? A))
approximates A P =
    record {
      sets = sets_of A (least_parts A);
      least = parts-least A P;
      clear = clear_told (clear? A) (clear-has A P);
      unsure = unsure-told (clear? A) (clear-has A P);
      no_refusal = not-refused (clear? A);
      sound = λ e. clear-sound A P (clear-is (clear? A) e);
    }

pub checked-right : (w : List ℕ) → Demand3Quick w (checked w)
unfolding checked
checked-right w h read = rw read (approximates (automaton_of h (content w)) (file-proper w h read))
