-- How a walk ends, in terms of runs: its entries are the configurations of a run, and the last of them has what the answer says.
-- Assumes nothing.
use Rattle.std.proofs.Common.{Option}
use Prim.Native.Nat.{ℕ, zero, suc, ◌+◌, ◌≤◌, ◌<◌}
use native.Mathlib.Omega.{arith}
use mathlib.Core.Path.{◌≡◌, refl, sym, ap, ◌∙◌, subst}
use mathlib.Core.Bool.{Bool, true, false}
use mathlib.Core.List.{List, []}
use lib.Dec.{eqb}
use lib.ListN.{length}
use borrow.Author.Tests.{eqb-true, eq-eqb}
use Rattle.relation.specs.Sets.{member, member_has}
use Rattle.model.specs.declared.Place.TheVariants.{Root}
use Rattle.model.specs.Trees.{Tree, size}
use Rattle.model.specs.Runs.{Position, Config, done, ◌then◌, Run, Deterministic}
use Rattle.model.proofs.Deterministic.{step-unique}
use Rattle.algorithms.specs.Automaton.{Automaton, In, Δ, Proper}
use Rattle.refusal.proofs.Passed.{clash, and-is-true}
use Rattle.links.specs.Numbers.{Numbered, first}
use Rattle.links.proofs.Numbering.{number-unique}
use Rattle.links.proofs.Linking.{named-once}
use Rattle.steps.specs.Successors.{to, successor}
use Rattle.steps.specs.declared.Configuration.{Configuration}
use Rattle.steps.proofs.Stepping.{step-led, led-step, no_step}
use Rattle.watch.specs.Walk.{Entry, Walk, passes, most_steps, walk_from}
use Rattle.watch.specs.Promise.{steps_of, Passing, Halted, Moving, Logged, stands, steps, Stopped, passed, stuck, circling, spent}
use Rattle.watch.specs.declared.Watched.{Watched}
use Rattle.watch.proofs.Turns.{by-turns}
use Rattle.watch.proofs.Rounds.{iterate, never, stays-in}
use Rattle.watch.proofs.Configurations.{at, grid, grid-length, mem-grid, entry-eq, moved, after, closed}
use Rattle.links.proofs.Numbering.{some-nodes}

module _ (A : Automaton) (t : Tree) where
  -- ---- at the root in a final state

  pub passing : (p : ℕ) {u : Tree} {i : ℕ} {α : Position} → Numbered t i α u → passes A i p ≡ true → Passing A t (α, p)
  passing p {i = i} n e =
      let both = and-is-true (eqb i 0) (member A.accepting p) e in
      let z : i ≡ 0 = eqb-true i 0 both.0 in
      ((named-once (rw z at n) first).0, (member_has A.accepting p).0 both.1)

  pub root-passes : (p : ℕ) {u : Tree} {i : ℕ} → Numbered t i [] u → In A.accepting p → passes A i p ≡ true
  root-passes p {i = i} n f = simp (eq-eqb i 0 (number-unique n first).0, (member_has A.accepting p).1 f)

  pub not-passing : (p : ℕ) {u : Tree} {i : ℕ} {α : Position} → Numbered t i α u → passes A i p ≡ false → ¬ Passing A t (α, p)
  not-passing p {u} {i} n e h =
      let f = root-passes p (subst (λ (β : Position). Numbered t i β u) h.0 n) h.1 in
      clash (cc)

  -- ---- a walk and its last configuration

  pub record Walked (budget made : ℕ) (c : Config) (w : Walk) : Type 0 where
    pub last : Config
    pub run : Logged A t c w.entries last
    pub stopped : Stopped A t budget last w.answer
    pub counted : made + length w.entries ≡ steps_of w.answer + 1

  -- so many of the budget are left, no more steps were made than it takes to go round, and node i stands at α
  abbrev Walks : (left made i p : ℕ) → Walk → Type 0
  Walks left made i p w =
      (budget : ℕ) → budget ≡ made + left → made ≤ most_steps A t → (α : Position) (u : Tree) → Numbered t i α u → Walked budget made (α, p) w

  module _ (proper : Proper A) (det : Deterministic (Δ A)) where
    moving : {u : Tree} {i : ℕ} {α : Position} (n : Numbered t i α u) (p j q : ℕ) → successor A t i p ≡ to j q → Moving A t (α, p)
    moving n p j q e = let l = step-led A proper t n p j q e in ((l.position, q), l.step)

    pub walked : (left made i p : ℕ) → Walks left made i p (walk_from A t left made i p)
    walked =
        by-turns A t Walks
        (λ left made i p e budget b most α u n.
        record { last = (α, p); run = stands n; stopped = passed (passing p n e); counted = refl })
        (λ left made i p e s budget b most α u n.
        record { last = (α, p); run = stands n; stopped = stuck (not-passing p n e) (λ c x. no_step A proper t n p det s x); counted = refl })
        (λ left made i p j q e s m budget b most α u n.
        record { last = (α, p); run = stands n; stopped = circling (not-passing p n e) (moving n p j q s) m; counted = refl })
        (λ made i p j q e s m budget b most α u n.
        record {
          last = (α, p);
          run = stands n;
          stopped = spent (not-passing p n e) (moving n p j q s) (omega (arith, m, most)) (omega (arith, b));
          counted = refl;
        })
        (λ left made i p j q e s m later budget b most α u n.
        let l = step-led A proper t n p j q s in
        let w = later budget (omega (arith, b)) (omega (arith, m, most)) l.position l.tree l.named in
        record {
          last = w.last;
          run = steps n (not-passing p n e) l.step w.run;
          stopped = w.stopped;
          counted = omega (arith, w.counted);
        })

  -- ---- the entries are those of a run

  pub logged-run : {c d : Config} {es : List Entry} → Logged A t c es d → Run (Δ A) Root t c d
  logged-run (stands n) = done
  logged-run (steps n h x l) = x then logged-run l

  -- ---- Stuck: there is no other run, and this one has ended

  pub halted-rejects : Deterministic (Δ A) → {c d e : Config} {es : List Entry} → Logged A t c es d → ¬ Passing A t d → Halted A t d → Passing A t e
      → Run (Δ A) Root t c e → ⊥
  halted-rejects det (stands n) short halted end done = short end
  halted-rejects det (stands n) short halted end (x then r) = halted _ x
  halted-rejects det (steps n h x l) short halted end done = h end
  halted-rejects det {e = e} (steps n h x l) short halted end (y then r) =
      halted-rejects det l short halted end (subst (λ (c : Config). Run (Δ A) Root t c e) (step-unique (Δ A) det _ _ _ y x) r)

  -- ---- Circling: the run goes round for ever

  -- the first configurations, as many as there are and one more, do not pass
  abbrev Circles : (left made i p : ℕ) → Walk → Type 0
  Circles left made i p w =
      (n : ℕ) → w.answer ≡ Watched.Circling n → (k : ℕ) → made + k ≤ most_steps A t
      → passes A (iterate (after A t) k (i, p)).0 (iterate (after A t) k (i, p)).1 ≡ false

  circles : (left made i p : ℕ) → Circles left made i p (walk_from A t left made i p)
  unfolding iterate after
  circles =
      by-turns A t Circles (λ left made i p e n v. clash (cc)) (λ left made i p e s n v. clash (cc))
      (λ left made i p j q e s m n v. ended made i p e m)
      (λ made i p j q e s m n v. clash (cc))
      (λ left made i p j q e s m later n v. onward made i p j q e s (later n v))
    where
      ended : (made i p : ℕ) → passes A i p ≡ false → made ≡ most_steps A t → (k : ℕ) → made + k ≤ most_steps A t
          → passes A (iterate (after A t) k (i, p)).0 (iterate (after A t) k (i, p)).1 ≡ false
      ended made i p e m zero l = e
      ended made i p e m (suc k) l = absurd (omega arith)

      onward : (made i p j q : ℕ) → passes A i p ≡ false → successor A t i p ≡ to j q
          → ((k : ℕ) → made + 1 + k ≤ most_steps A t → passes A (iterate (after A t) k (j, q)).0 (iterate (after A t) k (j, q)).1 ≡ false)
          → (k : ℕ) → made + k ≤ most_steps A t → passes A (iterate (after A t) k (i, p)).0 (iterate (after A t) k (i, p)).1 ≡ false
      onward made i p j q e s later zero l = e
      onward made i p j q e s later (suc k) l =
          subst (λ (x : Option Configuration). passes A (iterate (after A t) k (moved x (i, p))).0 (iterate (after A t) k (moved x (i, p))).1 ≡ false) (sym s)
          (later k (omega arith))

  module _ (proper : Proper A) (det : Deterministic (Δ A)) where
    -- a run is steps by number
    iterated : {u : Tree} {i : ℕ} {c d : Config} → Numbered t i c.0 u → Run (Δ A) Root t c d
        → (m j : ℕ) × (v : Tree) × Numbered t j d.0 v × (iterate (after A t) m (i, c.1) ≡ at j d.1)
    unfolding iterate after
    iterated {u = u} {i = i} n done = (0, i, _, n, refl)
    iterated {u = u} {i = i} {c} n (◌then◌ {b = b} x r) =
        let s = led-step A proper t n c.1 det x in
        let rest = iterated {u = s.1} {i = s.0} s.2 r in (
          suc rest.0,
          rest.1,
          rest.2,
          rest.3,
          ap (λ (y : Option Configuration). iterate (after A t) rest.0 (moved y (i, c.1))) s.3 ∙ rest.4,
        )

    pub circling-rejects : (budget start n : ℕ) → start < A.states → (walk_from A t budget 0 0 start).answer ≡ Watched.Circling n
        → (f : ℕ) → In A.accepting f → Run (Δ A) Root t ([], start) ([], f) → ⊥
    circling-rejects budget start n low e f final r =
        let last = iterated first r in
        let all = grid (size t) A.states in
        never (after A t) (0, start) entry-eq all
        (λ m. stays-in (after A t) (0, start) all (closed A proper t) m (mem-grid (size t) A.states 0 start (some-nodes t) low))
        (λ x. passes A x.0 x.1 ≡ true)
        (λ k l y. apart _ (circles budget 0 0 start n e k (omega (arith, grid-length (size t) A.states))) y)
        last.0 (rw last.4 (root-passes f last.3 final))
      where
        apart : (b : Bool) → b ≡ false → b ≡ true → ⊥
        apart b x y = clash (cc)
