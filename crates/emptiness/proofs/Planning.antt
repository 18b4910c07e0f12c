-- Laws of plans in a buffer: one row more; of a verdict, told and written; and of the survey, by the length of the buffer.
-- Assumes nothing.
use Rattle.std.proofs.Common.{Ok, Err}
use Prim.Native.Nat.{ℕ, zero, suc, ◌+◌, ◌*◌, ◌≤◌}
use mathlib.Core.Path.{◌≡◌, refl, sym, ap, ap₂, ◌∙◌}
use mathlib.Core.Bool.{Bool, true, false}
use mathlib.Core.List.{List, [], ◌∷◌, ◌++◌, map-append, append_assoc}
use native.Mathlib.Omega.{arith}
use borrow.Author.Tests.{ltb-false}
use lib.Dec.{ltb}
use lib.ListN.{length, length-map, length-append, take, drop}
use lib.Seq.{take_at, drop_at, drop-drop}
use Rattle.model.specs.Lists.{count_from}
use Rattle.model.specs.Saturation as saturation
use Rattle.model.specs.Saturation.{WitnessRow}
use Rattle.model.proofs.Turns.{count_from-snoc}
use Rattle.refusal.specs.Checks.{refuse_if}
use Rattle.refusal.specs.declared.Fault.{Fault}
use Rattle.refusal.specs.declared.Refusal.{Refusal}
use Rattle.refusal.proofs.Passed.{clash}
use Rattle.algorithms.specs.Automaton.{Automaton}
use Rattle.algorithms.specs.Saturate.{saturation_of}
use Rattle.representatives.specs.Stored.{origin_of, origin_in, origins_in}
use Rattle.emptiness.specs.Surveyed.{plan_bytes, survey_of, written, buffer_check, answered, surveyed_by}
use Rattle.saturation.specs.Ends.{verdict_of, FoundFew}
use Rattle.emptiness.specs.declared.Survey.{Survey}
use Rattle.representatives.specs.declared.Origin.{Origin}
use Rattle.saturation.specs.declared.Saturated.{Saturated}

pub bytes-length : (p : List WitnessRow) → length (plan_bytes p) ≡ 3 * length p
bytes-length [] = refl
bytes-length (w ∷ p) = omega (arith, bytes-length p)

bytes-append : (p q : List WitnessRow) → plan_bytes (p ++ q) ≡ plan_bytes p ++ plan_bytes q
bytes-append [] q = refl
bytes-append (w ∷ p) q = rw (bytes-append p q) refl

-- the buffer has a plan of k rows in front, and a row is written behind it
module _ (p : List WitnessRow) (w : WitnessRow) (k : ℕ) (t u : List ℕ) (count : length p ≡ k) (front : u ≡ plan_bytes p ++ drop (3 * k) t) where
  size : length (plan_bytes p) ≡ k * 3
  size = omega (arith, bytes-length p)

  rest : drop (k * 3 + 3) u ≡ drop (3 * (k + 1)) t
  rest =
      let e : 3 * k + 3 ≡ 3 * (k + 1) = omega arith in
      rw front (sym (drop-drop 3 (k * 3) (plan_bytes p ++ drop (3 * k) t)) ∙ ap (drop 3) (drop_at (plan_bytes p) (drop (3 * k) t) (k * 3) size)
      ∙ drop-drop 3 (3 * k) t ∙ ap (λ (n : ℕ). drop n t) e)

  pub plan-more : (u' : List ℕ) → u' ≡ take (k * 3) u ++ w.symbol ∷ w.left ∷ w.right ∷ drop (k * 3 + 3) u
      → u' ≡ plan_bytes (p ++ w ∷ []) ++ drop (3 * (k + 1)) t
  plan-more u' e =
      let before : take (k * 3) u ≡ plan_bytes p = rw front (take_at (plan_bytes p) (drop (3 * k) t) (k * 3) size) in
      rw (e, before, rest, bytes-append p (w ∷ [])) (sym (append_assoc (plan_bytes p) (w.symbol ∷ w.left ∷ w.right ∷ []) (drop (3 * (k + 1)) t)))

-- how the trees of the first rows are built
pub origins-snoc : (rows : List ℕ) (i : ℕ) → origins_in rows (i + 1) ≡ origins_in rows i ++ origin_in rows i ∷ []
origins-snoc rows i =
    let e : i + 1 ≡ suc i = omega arith in
    let z : 0 + i ≡ i = omega arith in
    rw (e, count_from-snoc 0 i, z) (map-append (origin_in rows) (count_from 0 i) (i ∷ []))

pub origins-length : (rows : List ℕ) (i : ℕ) → length (origins_in rows i) ≡ i
unfolding count_from
origins-length rows i = length-map (count_from 0 i) (origin_in rows) ∙ counted 0 i
  where
    counted : (s k : ℕ) → length (count_from s k) ≡ k
    counted s zero = refl
    counted s (suc k) = ap suc (counted (suc s) k)

-- the same, of a row of the table
pub plan-step : (rows t u u' : List ℕ) (i : ℕ) (o : Origin) → origin_of o ≡ origin_in rows i → u ≡ plan_bytes (origins_in rows i) ++ drop (3 * i) t
    → u' ≡ take (i * 3) u ++ o.symbol.0 ∷ o.left.0 ∷ o.right.0 ∷ drop (i * 3 + 3) u → u' ≡ plan_bytes (origins_in rows (i + 1)) ++ drop (3 * (i + 1)) t
plan-step rows t u u' i o e f g =
    rw (origins-snoc rows i, ← e) (plan-more (origins_in rows i) (origin_of o) i t u (origins-length rows i) f u' g)

-- ---- a verdict of the rounds, told and written

abbrev pub told_as : Saturated → Survey
told_as (Saturated.Found h n o) = Survey.Found h (n + 1)
told_as (Saturated.Open h) = Survey.Open h
told_as (Saturated.Empty h) = Survey.Empty h

abbrev pub left_as : Saturated → (rows plan : List ℕ) → List ℕ
left_as (Saturated.Found h n o) rows plan = plan_bytes (origins_in rows n ++ origin_of o ∷ []) ++ drop (3 * (n + 1)) plan
left_as (Saturated.Open h) rows plan = plan
left_as (Saturated.Empty h) rows plan = plan

as-told : (r : Saturated) (rows plan : List ℕ) → (told_as r ≡ survey_of (verdict_of r rows)) × (left_as r rows plan ≡ written (verdict_of r rows) plan)
as-told (Saturated.Found h n o) rows plan =
    let count : length (origins_in rows n ++ origin_of o ∷ []) ≡ n + 1 = length-append (origins_in rows n) (origin_of o ∷ []) ∙ ap (λ (k : ℕ). k + 1) (origins-length rows n) in
    (rw count refl, rw count refl)
as-told (Saturated.Open h) rows plan = (refl, refl)
as-told (Saturated.Empty h) rows plan = (refl, refl)

pub verdict-told : (v : saturation.Verdict) (r r' : Saturated) (rows plan plan' : List ℕ) → v ≡ verdict_of r rows → r ≡ r' → plan' ≡ left_as r' rows plan
    → (told_as r' ≡ survey_of v) × (plan' ≡ written v plan)
verdict-told v r r' rows plan plan' e f g = rw (e, f, g) (as-told r' rows plan)

pub found-few : {r : Saturated} {h n : ℕ} {o : Origin} → r ≡ Saturated.Found h n o → FoundFew r → n ≤ 64
found-few e f = rw e at f

-- ---- line 13 of the table

-- a buffer that passes its check
pub long-enough : (buffer : List ℕ) → buffer_check buffer ≡ Ok tt → 195 ≤ length buffer
unfolding buffer_check
long-enough buffer e = by (ltb (length buffer) 195) refl e
  where
    by : (t : Bool) → ltb (length buffer) 195 ≡ t → refuse_if t Fault.Buffer 2 195 ≡ Ok tt → 195 ≤ length buffer
    by true f p = clash (cc)
    by false f p = ltb-false (length buffer) 195 f

-- the survey, by what line 13 says of the buffer
module _ (A : Automaton) (before : List ℕ) where
  pub survey-short : (r : Refusal) → buffer_check before ≡ Err r → answered (Err r) before ≡ surveyed_by A before
  unfolding surveyed_by
  survey-short r e = rw e refl

  pub survey-long : (r : Survey) (after : List ℕ) → buffer_check before ≡ Ok tt → r ≡ survey_of (saturation_of A) → after ≡ written (saturation_of A) before
      → answered (Ok r) after ≡ surveyed_by A before
  unfolding surveyed_by
  survey-long r after e f g = rw e (ap₂ (λ (v : Survey) (b : List ℕ). answered (Ok v) b) f g)
