-- One turn: the steps from the fresh states of a node, by the four moves.
-- Assumes nothing.
use Prim.Native.Nat.{ℕ, ◌+◌, ◌<◌}
use native.Mathlib.Omega.{arith}
use mathlib.Core.Path.{◌≡◌, refl, ap, ◌∙◌, subst}
use mathlib.Core.Logic.{inl, inr, ⊎_elim}
use mathlib.Core.Bool.{true}
use mathlib.Core.List.{List, []}
use lib.ListN.{length, get_or, set}
use Rattle.relation.specs.Sets.{member, member_has}
use Rattle.relation.proofs.BitLaws.{bit-zero}
use Rattle.model.specs.declared.Place.{Place}
use Rattle.model.specs.declared.Side.TheVariants.{Left, Right}
use Rattle.model.specs.declared.Move.{Move}
use Rattle.model.specs.declared.Move.TheVariants.{Stay, Up, Down}
use Rattle.algorithms.specs.Automaton.{In}
use Rattle.refusal.proofs.Passed.{and-is-true}
use Rattle.transitions.specs.Compiled.{cell_of, next_in}
use Rattle.links.specs.Links.{place_in}
use Rattle.steps.specs.Choices.{Makes}
use Rattle.steps.specs.Successors.{goes}
use Rattle.steps.specs.Leads.{arrives, leads_by, leads_in}
use Rattle.steps.proofs.Leading.{some-true, true-some}
use Rattle.reachability.specs.Growth.{Image, Spread, Here, Sent, Either}
use Rattle.reachability.specs.Searched.{Turned}
use Rattle.reachability.proofs.Words.{of-set, set_there, weight-taken}
use Rattle.reachability.proofs.Growing.{spread-then, spread-map, sent-to}

-- the next states by each move
abbrev by_move : (stay up left right : ℕ) → Move → ℕ
by_move stay up left right Stay = stay
by_move stay up left right Up = up
by_move stay up left right (Down Left) = left
by_move stay up left right (Down Right) = right

module _ (table nodes P Q : List ℕ) (v : ℕ) (R F R' F' : List ℕ) (x : Move → ℕ) where
  abbrev σ : ℕ
  σ = get_or nodes v 0

  abbrev τ : Place
  τ = place_in P v

  -- by some move
  abbrev Moved : (j q : ℕ) → Type 0
  Moved j q = (μ : Move) × Sent P Q v μ (x μ) j q

  turned_by : v < length R → v < length F → ((μ : Move) → Image table (cell_of σ τ μ 0) (get_or F v 0) (x μ))
      → Spread (length nodes) Moved R (set F v 0) R' F' → Turned (next_in table) nodes P Q v R F R' F'
  turned_by l m images s =
      record {
        more = s.grown.more;
        kept = λ i q n h. s.grown.kept i q (set_there F v 0 m i q n h);
        new = s.grown.new;
        inside = λ i q h. ⊎_elim (λ g. inl (⊎_elim (λ a. absurd (omega (arith, bit-zero q, a.1))) (λ a. a.1) (of-set F v 0 m i q g))) inr (s.grown.inside i q h);
        all = λ p j q few h k e. s.all j q k (led p j q few h (some-true (leads_by (next_in table) P Q σ τ v p j q) e));
        only = λ j q h. ⊎_elim inl (λ g. inr (g.0, leading j q g.1)) (s.only j q h);
        falls = λ h. omega (arith, weight-taken R F v l m, s.grown.falls);
      }
    where
      led : (p j q : ℕ) → p < 24 → In (get_or F v 0) p → (μ : Move) × (leads_by (next_in table) P Q σ τ v p j q μ ≡ true) → Moved j q
      led p j q few h (μ, e) =
          let both = and-is-true (arrives (goes P Q v (Makes μ q)) j) (member (next_in table σ τ μ p) q) e in
          let at : cell_of σ τ μ p ≡ cell_of σ τ μ 0 + p = omega arith in
          (μ, (both.0, (images μ).into p q few h (subst (λ (k : ℕ). In (get_or table k 0) q) at ((member_has (next_in table σ τ μ p) q).0 both.1))))

      leading : (j q : ℕ) → Moved j q → (p : ℕ) × (p < 24) × In (get_or F v 0) p × (leads_in (next_in table) nodes P Q v p j q ≡ true)
      leading j q (μ, (e, h)) =
          let i = (images μ).from q h in
          let p = i.0 in
          let at : cell_of σ τ μ 0 + p ≡ cell_of σ τ μ p = omega arith in
          let allowed : In (next_in table σ τ μ p) q = subst (λ (k : ℕ). In (get_or table k 0) q) at i.3 in
          (p, i.1, i.2, true-some (leads_by (next_in table) P Q σ τ v p j q) μ (simp (e, (member_has (next_in table σ τ μ p) q).1 allowed)))

module _ (table nodes P Q : List ℕ) (v : ℕ) {R F R₁ F₁ R₂ F₂ R₃ F₃ : List ℕ} {stay up left right : ℕ} where
  -- by the parent, then the two parts, then the node itself
  pub turned : v < length R → v < length F → {at : ℕ} {τ : Place} → at ≡ cell_of (get_or nodes v 0) τ Stay 0 → τ ≡ place_in P v
      → Image table at (get_or F v 0) stay × Image table (at + 24) (get_or F v 0) up × Image table (at + 48) (get_or F v 0) left × Image table (at + 72) (get_or F v 0) right
      → Spread (length nodes) (Sent P [] v Up up) R (set F v 0) R₁ F₁
      → Spread (length nodes) (Either (Sent [] Q v (Down Left) left) (Sent [] Q v (Down Right) right)) R₁ F₁ R₂ F₂
      → Spread (length nodes) (Here v stay) R₂ F₂ R₃ F₃
      → Turned (next_in table) nodes P Q v R F R₃ F₃
  turned l m {at} here place images a b c =
      turned_by table nodes P Q v R F R₃ F₃ (by_move stay up left right) l m by
      (spread-map (length nodes) there back (spread-then a (spread-then b (sent-to (length nodes) P Q v Stay stay v (λ j q. refl) c))))
    where
      e : at ≡ cell_of (get_or nodes v 0) (place_in P v) Stay 0
      e = here ∙ ap (λ (τ : Place). cell_of (get_or nodes v 0) τ Stay 0) place

      from_row : {i k y : ℕ} → i ≡ k → Image table i (get_or F v 0) y → Image table k (get_or F v 0) y
      from_row {y = y} f h = subst (λ (r : ℕ). Image table r (get_or F v 0) y) f h

      by : (μ : Move) → Image table (cell_of (get_or nodes v 0) (place_in P v) μ 0) (get_or F v 0) (by_move stay up left right μ)
      by Stay = from_row e images.0
      by Up = from_row (omega (arith, e)) images.1
      by (Down Left) = from_row (omega (arith, e)) images.2
      by (Down Right) = from_row (omega (arith, e)) images.3

      there : (j q : ℕ) → Either (Sent P Q v Up up) (Either (Either (Sent P Q v (Down Left) left) (Sent P Q v (Down Right) right)) (Sent P Q v Stay stay)) j q
          → (μ : Move) × Sent P Q v μ (by_move stay up left right μ) j q
      there j q (inl h) = (Up, h)
      there j q (inr (inl (inl h))) = (Down Left, h)
      there j q (inr (inl (inr h))) = (Down Right, h)
      there j q (inr (inr h)) = (Stay, h)

      back : (j q : ℕ) → (μ : Move) × Sent P Q v μ (by_move stay up left right μ) j q
          → Either (Sent P Q v Up up) (Either (Either (Sent P Q v (Down Left) left) (Sent P Q v (Down Right) right)) (Sent P Q v Stay stay)) j q
      back j q (Stay, h) = inr (inr h)
      back j q (Up, h) = inl h
      back j q (Down Left, h) = inr (inl (inl h))
      back j q (Down Right, h) = inr (inl (inr h))
