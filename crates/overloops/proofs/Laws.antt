-- Laws of 24 rows in a table: read, and written; of a table of leaves that is filled symbol by symbol; and of what preparing leaves.
-- Assumes nothing.
use Rattle.std.proofs.Common.{Result, Ok}
use Prim.Native.Nat.{ℕ, ◌+◌, ◌≤◌, ◌<◌}
use mathlib.Core.Path.{◌≡◌, refl, sym, ap, ◌∙◌}
use mathlib.Core.Logic.{◌⊎◌, inl, inr}
use mathlib.Core.Bool.{Bool}
use mathlib.Core.List.{List}
use native.Mathlib.Decide.{ℕ_discrete}
use native.Mathlib.Omega.{arith}
use lib.ListN.{length, get_or, set, take, drop, length-set, length-drop}
use lib.Seq.{length-take-le, get_or-take, get_or-drop, get_or-set_same, get_or-set_other, ext_get_or}
use Rattle.model.specs.declared.Side.{Side}
use Rattle.model.specs.declared.Place.{Place}
use Rattle.model.specs.declared.Move.{Move}
use Rattle.relation.specs.Rows.{no_pairs, joined, composed, closed, meeting}
use Rattle.algorithms.specs.Automaton.{Automaton, Proper, ranked, alphabet_of}
use Rattle.relation.specs.Growth.{growth_of}
use Rattle.algorithms.specs.Growth.{leaf_growth, node_growth}
use Rattle.algorithms.specs.Overloops.{accepted_by, moves, node_simple, node_loops, up_closure, leaf_overloops, node_overloops}
use Rattle.algorithms.proofs.OverloopLaws.{row-moves, leaf-as-node, leaf-grows-as-node, within-leaf_overloops}
use Rattle.blocks.specs.Blocks.{content}
use Rattle.automaton.specs.File.{WithinLimits, parsed}
use Rattle.automaton.specs.declared.Header.{Header}
use Rattle.transitions.specs.Transitions.{automaton_of}
use Rattle.transitions.specs.Compiled.{cell_of, Compiled}
use Rattle.transitions.proofs.Laws.{place-small, move-small}
use Rattle.transitions.proofs.Meaning.{file-proper}
use Rattle.overloops.specs.Ready.{Headed, Ready, PreparedAfter}
use Rattle.overloops.specs.Tables.{side_number, leaf_cell, LeavesBelow, Leaves, PutFirst, Put}
use Rattle.refusal.specs.declared.Refusal.{Refusal}

-- ---- 24 rows from a place on

module _ (t : List ℕ) (at : ℕ) (room : at + 24 ≤ length t) where
  pub part_length : length (take 24 (drop at t)) ≡ 24
  part_length = length-take-le 24 (drop at t) (simp length-drop (omega arith))

  pub part-at : (p : ℕ) → p < 24 → get_or (take 24 (drop at t)) p 0 ≡ get_or t (at + p) 0
  part-at p l = get_or-take 24 (drop at t) p 0 l ∙ get_or-drop at t p 0

  pub part-is : (rows : List ℕ) → length rows ≡ 24 → ((p : ℕ) → p < 24 → get_or t (at + p) 0 ≡ get_or rows p 0) → take 24 (drop at t) ≡ rows
  part-is rows e f =
      ext_get_or 0 (take 24 (drop at t)) rows (part_length ∙ sym e)
      (λ p l. let h : p < 24 = omega (arith, part_length) in part-at p h ∙ f p h)

-- the rows of a compiled table are the pairs of the transitions
pub moves-are : (A : Automaton) (t : List ℕ) (σ : ℕ) (τ : Place) (μ : Move) → σ < 32 → Compiled A t → take 24 (drop (cell_of σ τ μ 0) t) ≡ moves A σ τ μ
unfolding moves
moves-are A t σ τ μ l c =
    part-is t (cell_of σ τ μ 0) (omega (arith, c.size, place-small τ, move-small μ)) (moves A σ τ μ) refl
    (λ p h. ap (λ (i : ℕ). get_or t i 0) (omega arith) ∙ c.cells σ τ μ p l h ∙ sym (row-moves A σ τ μ p h))

-- ---- the operations of a node, one after the other

module _ (A : Automaton) (τ : Place) (σ : ℕ) (L R : List ℕ) where
  pub simple-formed : {stay down-left here down-right all : List ℕ}
      → stay ≡ moves A σ τ Move.Stay → down-left ≡ moves A σ τ (Move.Down Side.Left) → here ≡ joined stay (composed down-left L)
      → down-right ≡ moves A σ τ (Move.Down Side.Right) → all ≡ joined here (composed down-right R) → all ≡ node_simple A τ σ L R
  simple-formed s dl h dr a = rw (a, h, s, dl, dr)

  pub growth-formed : (n : ℕ) {all : List ℕ} {growth : ℕ} → A.states ≡ n → all ≡ node_simple A τ σ L R → growth ≡ growth_of n all
      → growth ≡ node_growth A τ σ L R
  unfolding node_growth
  growth-formed n e a g = rw (g, a, e)

  pub loops-formed : (n : ℕ) {all closure : List ℕ} → A.states ≡ n → all ≡ node_simple A τ σ L R → closure ≡ closed n all
      → closure ≡ node_loops A τ σ L R
  unfolding node_loops
  loops-formed n e a c = rw (c, a, e)

  pub overloops-formed : {loops ups exits : List ℕ} → loops ≡ node_loops A τ σ L R → ups ≡ moves A σ τ Move.Up → exits ≡ composed loops ups
      → exits ≡ node_overloops A τ σ L R
  unfolding node_overloops up_closure
  overloops-formed l u x = rw (x, l, u)

-- a leaf is a node whose parts have no overloops
pub leaf-formed : (A : Automaton) → Proper A → (τ : Place) (σ : ℕ) {L R rows : List ℕ} → L ≡ no_pairs → R ≡ no_pairs → rows ≡ node_overloops A τ σ L R
    → rows ≡ leaf_overloops A τ σ
unfolding node_overloops leaf_overloops
leaf-formed A P τ σ l r e = rw (e, l, r, leaf-as-node A P τ σ)

pub leaf-grown : (A : Automaton) → Proper A → (τ : Place) (σ : ℕ) {L R : List ℕ} {growth : ℕ} → L ≡ no_pairs → R ≡ no_pairs → growth ≡ node_growth A τ σ L R
    → growth ≡ leaf_growth A τ σ
leaf-grown A P τ σ l r e = rw (e, l, r, leaf-grows-as-node A P τ σ)

-- acceptance by the loops at the root
pub accepted-by : (A : Automaton) (initial final : ℕ) (rows loops : List ℕ) (b : Bool) → A.initial ≡ initial → A.accepting ≡ final → rows ≡ loops
    → b ≡ meeting rows initial final → b ≡ accepted_by A loops
accepted-by A initial final rows loops b i f l m = rw (m, l, i, f)

pub side-small : (s : Side) → side_number s < 2
side-small Side.Left = omega arith
side-small Side.Right = omega arith

-- the rows of a table of leaves are their overloops
pub leaf-are : (A : Automaton) → Proper A → (t : List ℕ) (σ : ℕ) (s : Side) → σ < 32 → Leaves A t
    → take 24 (drop (leaf_cell σ s) t) ≡ leaf_overloops A (Place.Child s) σ
leaf-are A P t σ s l c =
    part-is t (leaf_cell σ s) (omega (arith, c.size, side-small s)) (leaf_overloops A (Place.Child s) σ) (within-leaf_overloops A P (Place.Child s) σ).rows
    (λ p h. c.rows σ s p l h)

-- ---- rows written one by one

pub put-none : (at : ℕ) (rows t : List ℕ) → PutFirst 0 at rows t t
put-none at rows t = record { size = refl; inside = λ p l. absurd (omega arith); outside = λ i l. refl }

pub put-more : (k at : ℕ) (rows t u : List ℕ) → at + k < length t → PutFirst k at rows t u → PutFirst (k + 1) at rows t (set u (at + k) (get_or rows k 0))
put-more k at rows t u room h =
    record {
      size = length-set u (at + k) (get_or rows k 0) ∙ h.size;
      inside = λ p l. within p l (ℕ_discrete p k);
      outside = λ i l. get_or-set_other u (at + k) i (get_or rows k 0) 0 (beyond i l) ∙ h.outside i (weaker i l);
    }
  where
    within : (p : ℕ) → p < k + 1 → Dec (p ≡ k) → get_or (set u (at + k) (get_or rows k 0)) (at + p) 0 ≡ get_or rows p 0
    within p l (yes e) = rw e (get_or-set_same u (at + k) (get_or rows k 0) 0 (omega (arith, h.size)))
    within p l (no e) = get_or-set_other u (at + k) (at + p) (get_or rows k 0) 0 (λ q. e (omega arith)) ∙ h.inside p (omega arith)

    beyond : (i : ℕ) → (i < at) ⊎ (at + (k + 1) ≤ i) → i ≡ at + k → ⊥
    beyond i (inl l) e = omega arith
    beyond i (inr l) e = omega arith

    weaker : (i : ℕ) → (i < at) ⊎ (at + (k + 1) ≤ i) → (i < at) ⊎ (at + k ≤ i)
    weaker i (inl l) = inl l
    weaker i (inr l) = inr (omega arith)

-- ---- the leaves, symbol by symbol

pub no-leaves : (A : Automaton) (t : List ℕ) → length t ≡ 1536 → LeavesBelow 0 A t
no-leaves A t e = record { size = e; rows = λ σ s p l h. absurd (omega arith) }

-- what is put for symbol n on both sides stands there, and what was put for the symbols before it stays
module _ (rows : Side → List ℕ) (n : ℕ) (t t₁ t₂ : List ℕ) (left : Put (leaf_cell n Side.Left) (rows Side.Left) t t₁)
    (right : Put (leaf_cell n Side.Right) (rows Side.Right) t₁ t₂) where
  pub rows-put : (s : Side) (p : ℕ) → p < 24 → get_or t₂ (leaf_cell n s + p) 0 ≡ get_or (rows s) p 0
  rows-put Side.Left p h = right.outside (leaf_cell n Side.Left + p) (inl (omega arith)) ∙ left.inside p h
  rows-put Side.Right p h = right.inside p h

  pub rows-kept : (σ : ℕ) (s : Side) (p : ℕ) → σ < n → p < 24 → get_or t₂ (leaf_cell σ s + p) 0 ≡ get_or t (leaf_cell σ s + p) 0
  rows-kept σ s p l h =
      let k : leaf_cell σ s + p < leaf_cell n Side.Left = omega (arith, side-small s) in
      right.outside (leaf_cell σ s + p) (inl (omega arith)) ∙ left.outside (leaf_cell σ s + p) (inl k)

module _ (A : Automaton) (n : ℕ) (t t₁ t₂ : List ℕ) where
  abbrev rows_of : Side → List ℕ
  rows_of s = leaf_overloops A (Place.Child s) n

  pub more-leaves : LeavesBelow n A t → Put (leaf_cell n Side.Left) (rows_of Side.Left) t t₁ → Put (leaf_cell n Side.Right) (rows_of Side.Right) t₁ t₂
      → LeavesBelow (n + 1) A t₂
  more-leaves old left right = record { size = right.size ∙ left.size ∙ old.size; rows = λ σ s p l h. by σ s p l h (ℕ_discrete σ n) }
    where
      by : (σ : ℕ) (s : Side) (p : ℕ) → σ < n + 1 → p < 24 → Dec (σ ≡ n) → get_or t₂ (leaf_cell σ s + p) 0 ≡ get_or (leaf_overloops A (Place.Child s) σ) p 0
      by σ s p l h (yes e) = rw e (rows-put rows_of n t t₁ t₂ left right s p h)
      by σ s p l h (no e) = rows-kept rows_of n t t₁ t₂ left right σ s p (omega arith) h ∙ old.rows σ s p (omega arith) h

-- ---- what preparing leaves, by the answer

-- the automaton of a file that reads is that of its header and of the table compiled from it
pub file-headed : (s : List ℕ) (h : Header) (t : List ℕ) → parsed s ≡ Ok h → Compiled (automaton_of h (content s)) t
    → Headed (automaton_of h (content s)) h t
file-headed s h t e c =
    record {
      tabled = record { compiled = c; states = refl; proper = file-proper s h e };
      symbols = refl;
      branches = refl;
      initial = refl;
      accepting = refl;
    }

pub prepared-ready : (r : Result Header Refusal) (h : Header) (s t l t' l' : List ℕ) → r ≡ Ok h → PreparedAfter r s t l t' l'
    → WithinLimits h × Ready (automaton_of h (content s)) h t' l'
prepared-ready r h s t l t' l' e a = rw e at a

-- the symbols of an automaton are those of its header
pub headed-symbols : (A : Automaton) (h : Header) (t : List ℕ) → Headed A h t → alphabet_of A ≡ ranked h.symbols h.branches
headed-symbols A h t k = rw (k.symbols, k.branches)
