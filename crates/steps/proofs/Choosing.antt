-- The table of choices: what a byte says is what it was made of, and the cells have an automaton's choices.
-- Assumes nothing.
use Prim.Native.Nat.{ℕ, zero, suc, ◌+◌, ◌-◌, ◌*◌, ◌/◌, ◌%◌, ◌^◌, ◌≤◌, ◌<◌}
use native.Mathlib.Nat.{lt_of_lt_of_le}
use native.Mathlib.Omega.{arith}
use mathlib.Core.Path.{◌≡◌, refl, ap, ◌∙◌}
use mathlib.Core.List.{List}
use lib.ListN.{length, get_or, set}
use lib.Seq.{get_or-set_same, get_or-set_other}
use lib.Pow.{pow_mono}
use native.Mathlib.Decide.{ℕ_discrete, dec_lt}
use borrow.Author.Tests.{eq-eqb, lt-ltb, le-ltb}
use Rattle.relation.specs.Lowest.{lowest_of}
use Rattle.relation.proofs.BitLaws.{lt-of-bits}
use Rattle.relation.proofs.LowestLaws.{lowest-lt}
use Rattle.model.specs.declared.Side.TheVariants.{Left, Right}
use Rattle.model.specs.declared.Place.{Place}
use Rattle.model.specs.declared.Move.{Move}
use Rattle.model.specs.declared.Move.TheVariants.{Stay, Up, Down}
use Rattle.algorithms.specs.Automaton.{Automaton, In, Proper}
use Rattle.automaton.specs.Payload.{move_byte}
use Rattle.transitions.specs.Transitions.{place_number}
use Rattle.transitions.proofs.Laws.{place-small}
use Rattle.transitions.specs.Compiled.{Compiled}
use Rattle.steps.specs.Choices.{Choice, Makes, Halts, or_else, first_of, choice, code_of, decoded, choice_cell, code_at, Chosen}
use Rattle.steps.specs.Successors.{goes}
use Rattle.std.proofs.Common.{None}

-- ---- bytes

pub decoded-makes : (μ : Move) (q : ℕ) → q < 32 → decoded (move_byte μ * 32 + q) ≡ Makes μ q
unfolding decoded
decoded-makes Stay q h = rw (lt-ltb (0 * 32 + q) 32 (omega arith)) (ap (Makes Stay) (let e : 0 * 32 + q ≡ q = omega arith in e))
decoded-makes Up q h =
    rw (le-ltb (1 * 32 + q) 32 (omega arith), lt-ltb (1 * 32 + q) 64 (omega arith))
    (ap (Makes Up) (let e : (1 * 32 + q) - 32 ≡ q = omega arith in e))
decoded-makes (Down Left) q h =
    rw (le-ltb (2 * 32 + q) 32 (omega arith), le-ltb (2 * 32 + q) 64 (omega arith), lt-ltb (2 * 32 + q) 96 (omega arith))
    (ap (Makes (Down Left)) (let e : (2 * 32 + q) - 64 ≡ q = omega arith in e))
decoded-makes (Down Right) q h =
    rw (le-ltb (3 * 32 + q) 32 (omega arith), le-ltb (3 * 32 + q) 64 (omega arith), le-ltb (3 * 32 + q) 96 (omega arith), lt-ltb (3 * 32 + q) 128 (omega arith))
    (ap (Makes (Down Right)) (let e : (3 * 32 + q) - 96 ≡ q = omega arith in e))

decoded-or : (x : ℕ) (μ : Move) (later : Choice) → x < 2 ^ 24 → decoded (code_of later) ≡ later → decoded (code_of (or_else x μ later)) ≡ or_else x μ later
decoded-or zero μ later h e = e
decoded-or (suc x) μ later h e =
    let low : lowest_of (suc x) < 24 = lowest-lt (suc x) (omega arith) (omega arith) 24 h in
    decoded-makes μ (lowest_of (suc x)) (omega arith)

decoded-first : (sets : Move → ℕ) → ((μ : Move) → sets μ < 2 ^ 24) → decoded (code_of (first_of sets)) ≡ first_of sets
unfolding first_of decoded
decoded-first sets b =
    decoded-or (sets Stay) Stay _ (b Stay)
    (decoded-or (sets Up) Up _ (b Up)
    (decoded-or (sets (Down Left)) (Down Left) _ (b (Down Left))
    (decoded-or (sets (Down Right)) (Down Right) Halts (b (Down Right)) refl)))

-- ---- cells

cell_row : (a p : ℕ) → p < 24 → ((a * 24 + p) / 24 ≡ a) × ((a * 24 + p) % 24 ≡ p)
cell_row a p h = (omega arith, omega arith)

-- a set of states is a number of 24 bits
pub states-low : (A : Automaton) → Proper A → (x : ℕ) → ((q : ℕ) → In x q → q < A.states) → x < 2 ^ 24
states-low A proper x inside = let h : x < 2 ^ A.states = lt-of-bits x A.states inside in lt_of_lt_of_le h (pow_mono proper.few)

pub transitions-low : (A : Automaton) → Proper A → (σ : ℕ) (τ : Place) (μ : Move) (p : ℕ) → A.next σ τ μ p < 2 ^ 24
transitions-low A proper σ τ μ p = states-low A proper (A.next σ τ μ p) (λ q k. (proper.transitions _ _ _ _ q k).1)

module _ (A : Automaton) (proper : Proper A) (table : List ℕ) (compiled : Compiled A table) where
  code_is : (σ : ℕ) (τ : Place) (p : ℕ) → σ < 32 → p < 24 → decoded (code_at table (choice_cell σ τ p)) ≡ choice A.next σ τ p
  unfolding code_at
  code_is σ τ p l h =
      let row = cell_row (σ * 3 + place_number τ) p h in
      let here : (μ : Move) → get_or table (((choice_cell σ τ p) / 24 * 4 + move_byte μ) * 24 + (choice_cell σ τ p) % 24) 0 ≡ A.next σ τ μ p =
      λ μ. rw (row.0, row.1) (compiled.cells σ τ μ p l h) in
      let sets : first_of (λ μ. get_or table (((choice_cell σ τ p) / 24 * 4 + move_byte μ) * 24 + (choice_cell σ τ p) % 24) 0) ≡ choice A.next σ τ p =
      ap first_of (λ n μ. here μ n) in
      ap (λ (c : Choice). decoded (code_of c)) sets ∙ decoded-first _ (λ μ. transitions-low A proper σ τ μ p)

  -- cells that were filled have the choices
  pub filled : (m : ℕ) (codes : List ℕ) → m ≤ 32 → ((c : ℕ) → c < m * 72 → get_or codes c 0 ≡ code_at table c) → Chosen m A.next codes
  filled m codes few at =
      record {
        codes_are = λ σ τ p l h.
            ap decoded (at (choice_cell σ τ p) (omega (arith, place-small τ))) ∙ code_is σ τ p (omega arith) h;
      }

-- one cell more
pub filled_next : (table codes after : List ℕ) (k v : ℕ) → k < length codes → v ≡ code_at table k → after ≡ set codes k v
    → ((c : ℕ) → c < k → get_or codes c 0 ≡ code_at table c) → (c : ℕ) → c < k + 1 → get_or after c 0 ≡ code_at table c
filled_next table codes after k v h e f at c l = rw f (go (ℕ_discrete c k))
  where
    go : Dec (c ≡ k) → get_or (set codes k v) c 0 ≡ code_at table c
    go (yes z) = rw z (get_or-set_same codes k v 0 h ∙ e)
    go (no z) = get_or-set_other codes k c v 0 z ∙ at c (omega arith)

-- ---- the tests in turn

or-none : (x : ℕ) (μ : Move) (later : Choice) → x ≡ 0 → or_else x μ later ≡ later
or-none zero μ later z = refl
or-none (suc x) μ later z = absurd (omega arith)

or_some : (x : ℕ) (μ : Move) (later : Choice) → (x ≡ 0 → ⊥) → or_else x μ later ≡ Makes μ (lowest_of x)
or_some zero μ later z = absurd (z refl)
or_some (suc x) μ later z = refl

-- a cell, by the four sets that were read
module _ (t : List ℕ) (cell at : ℕ) (e : at ≡ cell / 24 * 96 + cell % 24) where
  abbrev sets : Move → ℕ
  sets μ = get_or t ((cell / 24 * 4 + move_byte μ) * 24 + cell % 24) 0

  abbrev read : ℕ → ℕ
  read i = get_or t i 0

  module _ (stay : ℕ) (a : stay ≡ read at) where
    stay-is : stay ≡ sets Stay
    stay-is = a ∙ ap read (let i : at ≡ (cell / 24 * 4 + 0) * 24 + cell % 24 = omega arith in i)

    pub code-stay : (stay ≡ 0 → ⊥) → lowest_of stay ≡ code_at t cell
    unfolding code_at first_of
    code-stay n = rw (← stay-is, or_some stay Stay _ n) (let z : lowest_of stay ≡ 0 * 32 + lowest_of stay = omega arith in z)

    module _ (no-stay : stay ≡ 0) (up : ℕ) (b : up ≡ read (at + 24)) where
      up_is : up ≡ sets Up
      up_is = b ∙ ap read (let i : at + 24 ≡ (cell / 24 * 4 + 1) * 24 + cell % 24 = omega arith in i)

      pub code_up : (up ≡ 0 → ⊥) → 32 + lowest_of up ≡ code_at t cell
      unfolding code_at first_of
      code_up n = rw (← stay-is, or-none stay Stay _ no-stay, ← up_is, or_some up Up _ n)

      module _ (no-up : up ≡ 0) (left : ℕ) (c : left ≡ read (at + 48)) where
        left_is : left ≡ sets (Down Left)
        left_is = c ∙ ap read (let i : at + 48 ≡ (cell / 24 * 4 + 2) * 24 + cell % 24 = omega arith in i)

        pub code-left : (left ≡ 0 → ⊥) → 64 + lowest_of left ≡ code_at t cell
        unfolding code_at first_of
        code-left n =
            rw (← stay-is, or-none stay Stay _ no-stay, ← up_is, or-none up Up _ no-up, ← left_is, or_some left (Down Left) _ n)

        module _ (no-left : left ≡ 0) (right : ℕ) (d : right ≡ read (at + 72)) where
          right_is : right ≡ sets (Down Right)
          right_is = d ∙ ap read (let i : at + 72 ≡ (cell / 24 * 4 + 3) * 24 + cell % 24 = omega arith in i)

          pub code-right : (right ≡ 0 → ⊥) → 96 + lowest_of right ≡ code_at t cell
          unfolding code_at first_of
          code-right n =
              rw (← stay-is, or-none stay Stay _ no-stay, ← up_is, or-none up Up _ no-up, ← left_is, or-none left (Down Left) _ no-left, ← right_is, or_some right (Down Right) _ n)

          pub code-none : right ≡ 0 → 255 ≡ code_at t cell
          unfolding code_at first_of
          code-none n =
              rw (← stay-is, or-none stay Stay _ no-stay, ← up_is, or-none up Up _ no-up, ← left_is, or-none left (Down Left) _ no-left, ← right_is, or-none right (Down Right) _ n)

-- a leaf has no parts
pub leaf-stays : (P R : List ℕ) (i c : ℕ) → 64 ≤ c → c < 128 → get_or R i 0 ≡ 0 → None ≡ goes P R i (decoded c)
unfolding decoded
leaf-stays P R i c l h z = go (dec_lt c 96)
  where
    go : Dec (c < 96) → None ≡ goes P R i (decoded c)
    go (yes k) = rw (le-ltb c 32 (omega arith), le-ltb c 64 l, lt-ltb c 96 k, eq-eqb _ 0 z)
    go (no k) = rw (le-ltb c 32 (omega arith), le-ltb c 64 l, le-ltb c 96 (omega arith), lt-ltb c 128 h, eq-eqb _ 0 z)
