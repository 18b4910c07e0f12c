-- The step by node numbers is the model's `Step` between positions; of a deterministic automaton it is the only one.
-- Assumes nothing.
use Prim.Native.Nat.{ℕ, zero, suc, ◌+◌, ◌^◌, ◌<◌}
use native.Mathlib.Omega.{arith}
use mathlib.Core.Path.{◌≡◌, refl, sym, ap, ◌∙◌, subst}
use mathlib.Core.List.{List, [], ◌∷◌}
use lib.ListN.{get_or}
use borrow.Author.Tests.{eq-eqb, ne_eqb}
use Rattle.relation.specs.Bit.{bit}
use Rattle.relation.specs.Lowest.{lowest_of}
use Rattle.relation.proofs.BitLaws.{bit-zero}
use Rattle.relation.proofs.LowestLaws.{lowest-on}
use Rattle.model.specs.declared.Side.{Side}
use Rattle.model.specs.declared.Side.TheVariants.{Left, Right}
use Rattle.model.specs.declared.Place.{Place}
use Rattle.model.specs.declared.Place.TheVariants.{Root}
use Rattle.model.specs.declared.Move.{Move}
use Rattle.model.specs.declared.Move.TheVariants.{Stay, Up, Down}
use Rattle.model.specs.Trees.{Tree, leaf, node, symbol, size}
use Rattle.model.specs.Runs.{Position, place, Config, Step, stays, climbs, descends, Deterministic}
use Rattle.model.proofs.Positions.{at-unique}
use Rattle.algorithms.specs.Automaton.{Automaton, In, Δ, Proper}
use Rattle.refusal.proofs.Passed.{clash}
use Rattle.links.specs.Numbers.{Numbered, to_left, first}
use Rattle.links.specs.Links.{parents_of, rights_of}
use Rattle.links.specs.Tables.{Tables}
use Rattle.links.proofs.Numbering.{some-nodes, numbered-at, number-unique, numbered_within}
use Rattle.links.proofs.Linking.{linked-own, symbol-is, named-once}
use Rattle.steps.specs.Choices.{Choice, Makes, Halts, or_else, first_of, choice}
use Rattle.steps.specs.Successors.{to, goes, successor}
use Rattle.steps.specs.declared.Configuration.{Configuration}
use Rattle.std.proofs.Common.{None}
use Rattle.steps.proofs.Choosing.{transitions-low}

-- ---- the choice is a transition, and where there is none no transition is

module _ (sets : Move → ℕ) where
  tried : (μ : Move) (x : ℕ) → sets μ ≡ x → x < 2 ^ 24 → (later : Choice) (ν : Move) (q : ℕ)
      → (later ≡ Makes ν q → In (sets ν) q) → or_else x μ later ≡ Makes ν q → In (sets ν) q
  tried μ zero e b later ν q rest f = rest f
  tried μ (suc x) e b later ν q rest f =
      let same : μ ≡ ν = cc in
      let low : lowest_of (suc x) ≡ q = cc in
      subst (λ (κ : Move). In (sets κ) q) same (rw (e, ← low) (lowest-on (suc x) (omega arith) (omega arith)))

  pub choice-on : ((μ : Move) → sets μ < 2 ^ 24) → (ν : Move) (q : ℕ) → first_of sets ≡ Makes ν q → In (sets ν) q
  unfolding first_of
  choice-on b ν q e =
      tried Stay (sets Stay) refl (b Stay) _ ν q
      (tried Up (sets Up) refl (b Up) _ ν q
      (tried (Down Left) (sets (Down Left)) refl (b (Down Left)) _ ν q
      (tried (Down Right) (sets (Down Right)) refl (b (Down Right)) Halts ν q (λ f. clash (cc))))) e

  passed_over : (x : ℕ) (μ : Move) (later : Choice) → or_else x μ later ≡ Halts → (x ≡ 0) × (later ≡ Halts)
  passed_over zero μ later e = (refl, e)
  passed_over (suc x) μ later e = clash (cc)

  pub choice-none : first_of sets ≡ Halts → (ν : Move) → sets ν ≡ 0
  unfolding first_of
  choice-none e ν =
      let a = passed_over (sets Stay) Stay _ e in
      let b = passed_over (sets Up) Up _ a.1 in
      let c = passed_over (sets (Down Left)) (Down Left) _ b.1 in
      let d = passed_over (sets (Down Right)) (Down Right) Halts c.1 in
      each a.0 b.0 c.0 d.0 ν
    where
      each : sets Stay ≡ 0 → sets Up ≡ 0 → sets (Down Left) ≡ 0 → sets (Down Right) ≡ 0 → (ν : Move) → sets ν ≡ 0
      each a b c d Stay = a
      each a b c d Up = b
      each a b c d (Down Left) = c
      each a b c d (Down Right) = d

-- of deterministic transitions there is no other
pub only-choice : (A : Automaton) → Proper A → Deterministic (Δ A) → (σ p : ℕ) (τ : Place) (μ : Move) (q : ℕ) → Δ A σ p τ μ q
    → choice A.next σ τ p ≡ Makes μ q
only-choice A proper det σ p τ μ q d = go (choice A.next σ τ p) refl
  where
    sets : Move → ℕ
    sets ν = A.next σ τ ν p

    go : (c : Choice) → choice A.next σ τ p ≡ c → choice A.next σ τ p ≡ Makes μ q
    go Halts e = absurd (omega (arith, subst (λ (x : ℕ). bit x q ≡ 1) (choice-none (λ ν. A.next σ τ ν p) e μ) d, bit-zero q))
    go (Makes ν r) e =
        let same = det.one_transition (choice-on (λ ν. A.next σ τ ν p) (λ ν. transitions-low A proper σ τ ν p) ν r e) d in
        e ∙ cc (same.0, same.1)

-- ---- where a choice leads

-- a step to node j, and its position
pub record Led (A : Automaton) (t : Tree) (α : Position) (p j q : ℕ) : Type 0 where
  pub position : Position
  pub tree : Tree
  pub named : Numbered t j position tree
  pub step : Step (Δ A) Root t (α, p) (position, q)

module _ (A : Automaton) (t : Tree) where
  -- a branch has a right part, which is not the root
  right-part : {i : ℕ} {α : Position} {σ : ℕ} {l r : Tree} → Numbered t i α (node σ l r) → get_or (rights_of t) i 0 ≡ 0 → ⊥
  right-part {i} {α} {σ} {l} {r} n z =
      let m = (linked-own n).right σ l r refl in
      let e : ◌≡◌ {A = Position} (Right ∷ α) [] = (named-once (subst (λ (k : ℕ). Numbered t k (Right ∷ α) r) z m) first).0 in
      clash (cc)

  not-to : (j q : ℕ) → None ≡ to j q → ⊥
  not-to j q e = clash (cc)

  same-to : (i j p q : ℕ) → to i p ≡ to j q → (i ≡ j) × (p ≡ q)
  same-to i j p q e =
      let f : ◌≡◌ {A = Configuration} (record { node = i; state = record { 0 = p } }) (record { node = j; state = record { 0 = q } }) = cc in
      (ap (λ (c : Configuration). c.node) f, ap (λ (c : Configuration). c.state.0) f)

  -- only the root is node 0
  below_root : {u : Tree} {i : ℕ} {s : Side} {α : Position} → Numbered t i (s ∷ α) u → i ≡ 0 → ⊥
  below_root {u} {i} {s} {α} n z =
      let e : ◌≡◌ {A = Position} (s ∷ α) [] = (named-once (subst (λ (k : ℕ). Numbered t k (s ∷ α) u) z n) first).0 in
      clash (cc)

  -- a choice that leads to a node is a step
  pub led : {u : Tree} {i : ℕ} {α : Position} (n : Numbered t i α u) {p : ℕ} (μ : Move) (j q r : ℕ)
      → goes (parents_of t) (rights_of t) i (Makes μ r) ≡ to j q → Δ A (symbol u) p (place Root α) μ r → Led A t α p j q
  led {u} {i} {α} n {p} Stay j q r e d =
      let f = same-to i j r q e in
      record { position = α; tree = u; named = rw f.0 at n; step = stays (numbered-at n) (rw f.1 at d) }
  led {i = i} {α = []} n Up j q r e d =
      let z : i ≡ 0 = (number-unique n first).0 in
      absurd (not-to j q (rw (eq-eqb i 0 z) at e))
  led {i = i} {α = s ∷ α} n Up j q r e d =
      let f = same-to (get_or (parents_of t) i 0) j r q (rw (ne_eqb i 0 (below_root n)) at e) in
      let up = (linked-own n).parent in
      record { position = α; tree = up.0; named = rw f.0 at up.1; step = climbs (numbered-at n) (rw f.1 at d) }
  led {u = leaf σ} {i = i} n (Down Left) j q r e d = absurd (not-to j q (rw (eq-eqb (get_or (rights_of t) i 0) 0 ((linked-own n).no_right σ refl)) at e))
  led {u = leaf σ} {i = i} n (Down Right) j q r e d = absurd (not-to j q (rw (eq-eqb (get_or (rights_of t) i 0) 0 ((linked-own n).no_right σ refl)) at e))
  led {u = node σ x y} {i = i} {α = α} n (Down Left) j q r e d =
      let f = same-to (i + 1) j r q (rw (ne_eqb (get_or (rights_of t) i 0) 0 (right-part n)) at e) in
      record { position = Left ∷ α; tree = x; named = rw f.0 at (to_left n); step = descends (numbered-at n) (rw f.1 at d) }
  led {u = node σ x y} {i = i} {α = α} n (Down Right) j q r e d =
      let f = same-to (get_or (rights_of t) i 0) j r q (rw (ne_eqb (get_or (rights_of t) i 0) 0 (right-part n)) at e) in
      record { position = Right ∷ α; tree = y; named = rw f.0 at ((linked-own n).right σ x y refl); step = descends (numbered-at n) (rw f.1 at d) }

  -- the node that a step leads to
  pub record Goes (i : ℕ) (β : Position) (μ : Move) (q : ℕ) : Type 0 where
    pub target : ℕ
    pub tree : Tree
    pub named : Numbered t target β tree
    pub goes-is : goes (parents_of t) (rights_of t) i (Makes μ q) ≡ to target q

  -- the move of a step, and its node
  pub record Made (u : Tree) (i : ℕ) (c d : Config) : Type 0 where
    pub move : Move
    pub allows : Δ A (symbol u) c.1 (place Root c.0) move d.1
    pub to-node : Goes i d.0 move d.1

  pub made : {u : Tree} {i : ℕ} {c d : Config} → Numbered t i c.0 u → Step (Δ A) Root t c d → Made u i c d
  made {u} {i} n (stays {u = v} a k) =
      let e : v ≡ u = at-unique a (numbered-at n) in
      record { move = Stay; allows = rw e at k; to-node = record { target = i; tree = u; named = n; goes-is = refl } }
  made {u} {i} n (climbs {u = v} a k) =
      let e : v ≡ u = at-unique a (numbered-at n) in
      let up = (linked-own n).parent in
      record {
        move = Up;
        allows = rw e at k;
        to-node = record { target = get_or (parents_of t) i 0; tree = up.0; named = up.1; goes-is = rw (ne_eqb i 0 (below_root n)) };
      }
  made {u} {i} n (descends {s = Left} {α = α} {σ = σ} {l = l} {r = r} a k) =
      let e : u ≡ node σ l r = at-unique (numbered-at n) a in
      let m = subst (λ (v : Tree). Numbered t i α v) e n in
      rw e
      (record {
        move = Down Left;
        allows = k;
        to-node = record { target = i + 1; tree = l; named = to_left m; goes-is = rw (ne_eqb (get_or (rights_of t) i 0) 0 (right-part m)) };
      })
  made {u} {i} n (descends {s = Right} {α = α} {σ = σ} {l = l} {r = r} a k) =
      let e : u ≡ node σ l r = at-unique (numbered-at n) a in
      let m = subst (λ (v : Tree). Numbered t i α v) e n in
      rw e
      (record {
        move = Down Right;
        allows = k;
        to-node =
            record {
              target = get_or (rights_of t) i 0;
              tree = r;
              named = (linked-own m).right σ l r refl;
              goes-is = rw (ne_eqb (get_or (rights_of t) i 0) 0 (right-part m));
            };
      })

-- where a choice leads is by the node's links alone
pub goes-read : {t : Tree} {s P R : List ℕ} → Tables t s P R → (i : ℕ) → i < size t → (c : Choice) → goes P R i c ≡ goes (parents_of t) (rights_of t) i c
goes-read h i l (Makes Stay q) = refl
goes-read h i l (Makes Up q) = rw (h.parents_are i l)
goes-read h i l (Makes (Down Left) q) = rw (h.rights_are i l)
goes-read h i l (Makes (Down Right) q) = rw (h.rights_are i l)
goes-read h i l Halts = refl

-- a step leads into a state, at a node
pub into-state : (A : Automaton) → Proper A → {t : Tree} {c d : Config} → Step (Δ A) Root t c d → d.1 < A.states
into-state A proper (stays a k) = (proper.transitions _ _ _ _ _ k).1
into-state A proper (climbs a k) = (proper.transitions _ _ _ _ _ k).1
into-state A proper (descends a k) = (proper.transitions _ _ _ _ _ k).1

pub into-node : {A : Automaton} {t : Tree} {α : Position} {p j q : ℕ} → Led A t α p j q → j < size t
into-node l = omega (arith, numbered_within l.named, some-nodes l.tree)

-- ---- the step of an automaton

module _ (A : Automaton) (proper : Proper A) (t : Tree) {u : Tree} {i : ℕ} {α : Position} (n : Numbered t i α u) (p : ℕ) where
  -- by the node's symbol and place
  here : successor A t i p ≡ goes (parents_of t) (rights_of t) i (choice A.next (symbol u) (place Root α) p)
  unfolding successor
  here = rw (symbol-is n, (linked-own n).place_is)

  -- it is a step of the model
  pub step-led : (j q : ℕ) → successor A t i p ≡ to j q → Led A t α p j q
  step-led j q e = go (choice A.next (symbol u) (place Root α) p) refl
    where
      go : (c : Choice) → choice A.next (symbol u) (place Root α) p ≡ c → Led A t α p j q
      go Halts f = absurd (not-to A t j q (sym (ap (goes (parents_of t) (rights_of t) i) f) ∙ sym here ∙ e))
      go (Makes μ r) f =
          led A t n μ j q r (sym (ap (goes (parents_of t) (rights_of t) i) f) ∙ sym here ∙ e)
          (choice-on (λ ν. A.next (symbol u) (place Root α) ν p) (λ ν. transitions-low A proper _ _ ν p) μ r f)

  module _ (det : Deterministic (Δ A)) where
    -- .. and each step of the model is it
    pub led-step : {β : Position} {q : ℕ} → Step (Δ A) Root t (α, p) (β, q) → (j : ℕ) × (v : Tree) × Numbered t j β v × (successor A t i p ≡ to j q)
    led-step {β} {q} x =
        let m = made A t n x in
        let g = m.to-node in
        let c = only-choice A proper det (symbol u) p (place Root α) m.move q m.allows in
        (g.target, g.tree, g.named, here ∙ ap (goes (parents_of t) (rights_of t) i) c ∙ g.goes-is)

    -- so where it leads nowhere there is none
    pub no_step : successor A t i p ≡ None → {β : Position} {q : ℕ} → Step (Δ A) Root t (α, p) (β, q) → ⊥
    no_step e x = let s = led-step x in not-to A t s.0 _ (sym e ∙ s.3)
