-- What a count means in terms of runs: the first entries, as many as it says, are a run from the root in a start state, and no more are.
-- Assumes nothing.
use Prim.Native.Nat.{ℕ, zero, suc, ◌≤◌, ◌<◌}
use native.Mathlib.Omega.{arith}
use mathlib.Core.Path.{◌≡◌, refl, sym, ap, subst}
use mathlib.Core.Bool.{Bool, true, false}
use mathlib.Core.List.{List, [], ◌∷◌}
use lib.Dec.{eqb}
use lib.ListN.{length, take}
use borrow.Author.Tests.{eqb-true, eq-eqb}
use Rattle.relation.specs.Sets.{member, member_has}
use Rattle.model.specs.declared.Place.TheVariants.{Root}
use Rattle.model.specs.Trees.{Tree}
use Rattle.model.specs.Runs.{Position, Config, Step, Run, done, ◌then◌}
use Rattle.algorithms.specs.Automaton.{Automaton, In, Δ}
use Rattle.refusal.proofs.Passed.{clash, and-is-true}
use Rattle.links.specs.Numbers.{Numbered, first}
use Rattle.links.proofs.Numbering.{number-unique}
use Rattle.steps.specs.Leads.{leads}
use Rattle.steps.proofs.Stepping.{Led}
use Rattle.steps.proofs.Leading.{leads-led, led-leads}
use Rattle.watch.specs.Walk.{Entry}
use Rattle.agreement.specs.Common.{counted}
use Rattle.logs.specs.Prefix.{begins, run_after, run_prefix}
use Rattle.logs.specs.Promise.{Traced, stands, steps, Lawful, Counts}

module _ (A : Automaton) (t : Tree) where
  -- traced entries are a run
  pub traced-run : {c d : Config} {es : List Entry} → Traced A t c es d → Run (Δ A) Root t c d
  traced-run (stands n) = done
  traced-run (steps n x r) = x then traced-run r

  -- the first of them is where it begins
  pub traced-first : {α : Position} {p : ℕ} {d : Config} {e : Entry} {es : List Entry} → Traced A t (α, p) (e ∷ es) d
      → (u : Tree) × Numbered t e.0 α u × (e.1 ≡ p)
  traced-first (stands {u = u} n) = (u, n, refl)
  traced-first (steps {u = u} n x r) = (u, n, refl)

  -- .. and where there is a second, a step leads to it
  traced-second : {c d : Config} {e f : Entry} {es l : List Entry} → Traced A t c (e ∷ l) d → l ≡ f ∷ es
      → (x : Config) × Step (Δ A) Root t c x × Traced A t x (f ∷ es) d
  traced-second (stands n) g = clash (cc)
  traced-second {d = d} (steps {c = x} n y r) g = (x, y, subst (λ (l : List Entry). Traced A t x l d) g r)

  -- ---- the entries after e, which stands at the position α

  after-within : (e : Entry) (es : List Entry) → run_after A t e es ≤ length es
  unfolding run_after
  after-within e [] = omega arith
  after-within e (f ∷ es) = by (leads A t e.0 e.1 f.0 f.1) (after-within f es)
    where
      by : (b : Bool) → run_after A t f es ≤ length es → counted b (run_after A t f es) ≤ suc (length es)
      by true h = omega arith
      by false h = omega arith

  -- so many are traced ..
  after-traced : {α : Position} {u : Tree} (e : Entry) (es : List Entry) (k : ℕ) → Numbered t e.0 α u → k ≤ run_after A t e es
      → (d : Config) × Traced A t (α, e.1) (e ∷ take k es) d
  unfolding run_after
  after-traced {α} e es zero n h = ((α, e.1), stands n)
  after-traced e [] (suc k) n h = absurd (omega arith)
  after-traced {α} e (f ∷ es) (suc k) n h = by (leads A t e.0 e.1 f.0 f.1) refl h (λ β v m l. after-traced {α = β} {u = v} f es k m l)
    where
      by : (b : Bool) → leads A t e.0 e.1 f.0 f.1 ≡ b → suc k ≤ counted b (run_after A t f es)
          → ((β : Position) (v : Tree) → Numbered t f.0 β v → k ≤ run_after A t f es → (d : Config) × Traced A t (β, f.1) (f ∷ take k es) d)
          → (d : Config) × Traced A t (α, e.1) (e ∷ f ∷ take k es) d
      by true g l later =
          let x = leads-led A t n e.1 f.0 f.1 g in
          let r = later x.position x.tree x.named (omega arith) in
          (r.0, steps n x.step r.1)
      by false g l later = absurd (omega arith)

  -- .. and no more
  traced-after : {α : Position} {u : Tree} {d : Config} (e : Entry) (es : List Entry) (k : ℕ) → Numbered t e.0 α u → k ≤ length es
      → Traced A t (α, e.1) (e ∷ take k es) d → k ≤ run_after A t e es
  unfolding run_after
  traced-after e es zero n h r = omega arith
  traced-after e [] (suc k) n h r = absurd (omega arith)
  traced-after {α = α} {u = u} {d = d} e (f ∷ es) (suc k) n h r =
      let second = traced-second r refl in
      let at = traced-first second.2 in
      let same : second.0 ≡ (second.0.0, f.1) = ap (λ (q : ℕ). (second.0.0, q)) (sym at.2) in
      let l : Led A t α e.1 f.0 f.1 =
      record { position = second.0.0; tree = at.0; named = at.1; step = subst (λ (x : Config). Step (Δ A) Root t (α, e.1) x) same second.1 } in
      let on = led-leads A t n e.1 f.0 f.1 l in
      let later = traced-after {α = second.0.0} {u = at.0} {d = d} f es k at.1 (omega arith) (subst (λ (x : Config). Traced A t x (f ∷ take k es) d) same second.2) in
      rw on (omega (arith, later))

  -- ---- all entries

  pub prefix-counts : (es : List Entry) → Counts A t es (run_prefix A t es)
  unfolding run_prefix
  prefix-counts [] = record { within = omega arith; exactly = λ k l. absurd (omega arith) }
  prefix-counts (e ∷ es) =
      record {
        within = within (begins A.initial e);
        exactly = λ k l. (λ h. lawful k (begins A.initial e) refl h, λ h. few k l h);
      }
    where
      within : (b : Bool) → counted b (run_after A t e es) ≤ suc (length es)
      within true = omega (arith, after-within e es)
      within false = omega arith

      lawful : (k : ℕ) (b : Bool) → begins A.initial e ≡ b → k < counted b (run_after A t e es) → Lawful A t (e ∷ take k es)
      lawful k false g h = absurd (omega arith)
      lawful k true g h =
          let both = and-is-true (eqb e.0 0) (member A.initial e.1) g in
          let root : Numbered t e.0 [] t = subst (λ (i : ℕ). Numbered t i [] t) (sym (eqb-true e.0 0 both.0)) first in
          let r = after-traced e es k root (omega arith) in
          record { start = e.1; starts = (member_has A.initial e.1).0 both.1; last = r.0; traced = r.1 }

      few : (k : ℕ) → k < suc (length es) → Lawful A t (e ∷ take k es) → k < counted (begins A.initial e) (run_after A t e es)
      few k l h =
          let at = traced-first h.traced in
          let root : e.0 ≡ 0 = (number-unique at.1 first).0 in
          let state : In A.initial e.1 = subst (In A.initial) (sym at.2) h.starts in
          let on : begins A.initial e ≡ true = simp (eq-eqb e.0 0 root, (member_has A.initial e.1).1 state) in
          let r = subst (λ (p : ℕ). Traced A t ([], p) (e ∷ take k es) h.last) (sym at.2) h.traced in
          let m = traced-after e es k at.1 (omega arith) r in
          rw on (omega (arith, m))
