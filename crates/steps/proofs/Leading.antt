-- Whether some step leads from one configuration to another, by node numbers: exactly where a `Step` of the model does.
-- Assumes nothing.
use Prim.Native.Nat.{ℕ, ◌<◌}
use mathlib.Core.Path.{◌≡◌, refl, sym, ap, ap₂, ◌∙◌}
use mathlib.Core.Bool.{Bool, true, false, ◌&&◌, ◌||◌}
use mathlib.Core.List.{List}
use lib.Dec.{eqb}
use lib.ListN.{get_or}
use borrow.Author.Tests.{eqb-true, eq-eqb}
use Rattle.relation.specs.Sets.{member, member_has}
use Rattle.model.specs.declared.Side.{Side}
use Rattle.model.specs.declared.Side.TheVariants.{Left, Right}
use Rattle.model.specs.declared.Place.{Place}
use Rattle.model.specs.declared.Place.TheVariants.{Root}
use Rattle.model.specs.declared.Move.{Move}
use Rattle.model.specs.declared.Move.TheVariants.{Stay, Up, Down}
use Rattle.model.specs.Trees.{Tree, symbol, size}
use Rattle.model.specs.Runs.{Position, place}
use Rattle.algorithms.specs.Automaton.{Automaton}
use Rattle.refusal.proofs.Cases.{or-first}
use Rattle.refusal.proofs.Passed.{clash, and-is-true}
use Rattle.transitions.specs.Compiled.{Next, next_in, Compiled}
use Rattle.links.specs.Numbers.{Numbered}
use Rattle.links.specs.Links.{parents_of, rights_of, place_in}
use Rattle.links.specs.Tables.{Tables}
use Rattle.links.proofs.Numbering.{number-unique}
use Rattle.links.proofs.Linking.{linked-own, symbol-is}
use Rattle.links.proofs.Tabling.{symbol-read, place_read}
use Rattle.steps.specs.Choices.{Makes}
use Rattle.steps.specs.Successors.{to, unless, goes}
use Rattle.steps.specs.Leads.{arrives, leads_by, some_move, leads_in, leads}
use Rattle.steps.proofs.Stepping.{Led, led, made, goes-read}

-- ---- some move

pub some-true : (f : Move → Bool) → some_move f ≡ true → (μ : Move) × (f μ ≡ true)
some-true f e = by (f Stay) (f Up) (f (Down Left)) (f (Down Right)) refl refl refl refl e
  where
    by : (a b c d : Bool) → f Stay ≡ a → f Up ≡ b → f (Down Left) ≡ c → f (Down Right) ≡ d → (a || (b || (c || d))) ≡ true → (μ : Move) × (f μ ≡ true)
    by true b c d x y z w g = (Stay, x)
    by false true c d x y z w g = (Up, y)
    by false false true d x y z w g = (Down Left, z)
    by false false false d x y z w g = (Down Right, w ∙ g)

or_later : (a b : Bool) → b ≡ true → (a || b) ≡ true
or_later true b e = refl
or_later false b e = e

pub true-some : (f : Move → Bool) (μ : Move) → f μ ≡ true → some_move f ≡ true
true-some f Stay e = or-first _ _ e
true-some f Up e = or_later (f Stay) _ (or-first _ _ e)
true-some f (Down Left) e = or_later (f Stay) _ (or_later (f Up) _ (or-first _ _ e))
true-some f (Down Right) e = or_later (f Stay) _ (or_later (f Up) _ (or_later (f (Down Left)) _ e))

-- by the tests in turn: the node, and then the state
pub elsewhere : (a b : Bool) → a ≡ false → false ≡ (a && b)
elsewhere a b e = rw e

pub arrived : (a b : Bool) → a ≡ true → {r : Bool} → r ≡ b → r ≡ (a && b)
arrived a b e f = rw e f

-- the moves in turn, at the place that was read
module _ (next : Next) (P R : List ℕ) (σ : ℕ) {τ υ : Place} (e : τ ≡ υ) (i p j q : ℕ) where
  abbrev tried : Place → Move → Bool
  tried place μ = leads_by next P R σ place i p j q μ

  pub found-move : (μ : Move) {r : Bool} → r ≡ tried τ μ → r ≡ true → true ≡ some_move (tried υ)
  found-move μ f g = sym (true-some (tried υ) μ (ap (λ (place : Place). tried place μ) (sym e) ∙ sym f ∙ g))

  pub last-move : {a b c r : Bool} → a ≡ tried τ Stay → a ≡ false → b ≡ tried τ Up → b ≡ false → c ≡ tried τ (Down Left) → c ≡ false
      → r ≡ tried τ (Down Right) → r ≡ some_move (tried υ)
  last-move x x' y y' z z' w =
      w ∙ none (tried τ Stay) (tried τ Up) (tried τ (Down Left)) _ (sym x ∙ x') (sym y ∙ y') (sym z ∙ z') ∙ ap (λ (place : Place). some_move (tried place)) e
    where
      none : (a b c d : Bool) → a ≡ false → b ≡ false → c ≡ false → d ≡ (a || (b || (c || d)))
      none a b c d x y z = rw (x, y, z)

-- ---- a move that arrives leads there

unless-to : (b : Bool) (k q j : ℕ) → arrives (unless b (to k q)) j ≡ true → unless b (to k q) ≡ to j q
unless-to true k q j e = clash (cc)
unless-to false k q j e = ap (λ (i : ℕ). to i q) (eqb-true k j e)

arrives-to : (P R : List ℕ) (i j q : ℕ) (μ : Move) → arrives (goes P R i (Makes μ q)) j ≡ true → goes P R i (Makes μ q) ≡ to j q
arrives-to P R i j q Stay e = ap (λ (k : ℕ). to k q) (eqb-true i j e)
arrives-to P R i j q Up e = unless-to (eqb i 0) (get_or P i 0) q j e
arrives-to P R i j q (Down Left) e = unless-to (eqb (get_or R i 0) 0) _ q j e
arrives-to P R i j q (Down Right) e = unless-to (eqb (get_or R i 0) 0) _ q j e

-- a leaf has no part on either side
pub no_part : (P R : List ℕ) (i j : ℕ) (s : Side) (q : ℕ) → get_or R i 0 ≡ 0 → false ≡ arrives (goes P R i (Makes (Down s) q)) j
no_part P R i j Left q z = rw (eq-eqb _ 0 z)
no_part P R i j Right q z = rw (eq-eqb _ 0 z)

-- ---- of an automaton on a tree

module _ (A : Automaton) (t : Tree) {u : Tree} {i : ℕ} {α : Position} (n : Numbered t i α u) (p j q : ℕ) where
  abbrev by_move : Move → Bool
  by_move = leads_by A.next (parents_of t) (rights_of t) (symbol u) (place Root α) i p j q

  -- by the node's symbol and place
  here : leads A t i p j q ≡ some_move by_move
  unfolding leads
  here = rw (symbol-is n, (linked-own n).place_is)

  pub leads-led : leads A t i p j q ≡ true → Led A t α p j q
  leads-led e =
      let m = some-true by_move (rw here at e) in
      let μ = m.0 in
      let both = and-is-true (arrives (goes (parents_of t) (rights_of t) i (Makes μ q)) j) (member (A.next (symbol u) (place Root α) μ p) q) m.1 in
      led A t n μ j q q (arrives-to (parents_of t) (rights_of t) i j q μ both.0) ((member_has (A.next (symbol u) (place Root α) μ p) q).0 both.1)

  pub led-leads : Led A t α p j q → leads A t i p j q ≡ true
  led-leads l =
      let m = made A t n l.step in
      let g = m.to-node in
      let same : g.target ≡ j = (number-unique g.named l.named).0 in
      here ∙ true-some by_move m.move
      (simp (g.goes-is, eq-eqb g.target j same, (member_has (A.next (symbol u) (place Root α) m.move p) q).1 m.allows))

-- ---- by what the code reads: the compiled transitions, the node list and its links

module _ (A : Automaton) {table : List ℕ} (compiled : Compiled A table) {t : Tree} {s P R : List ℕ} (tables : Tables t s P R)
    (i : ℕ) (l : i < size t) (low : get_or s i 0 < 32) (p : ℕ) (few : p < 24) (j q : ℕ) where
  move_read : (μ : Move) → leads_by (next_in table) P R (get_or s i 0) (place_in P i) i p j q μ
      ≡ leads_by A.next (parents_of t) (rights_of t) (get_or s i 0) (place_in P i) i p j q μ
  move_read μ = rw (goes-read tables i l (Makes μ q), compiled.cells (get_or s i 0) (place_in P i) μ p low few)

  pub leads-read : leads_in (next_in table) s P R i p j q ≡ leads A t i p j q
  unfolding leads
  leads-read =
      ap some_move (λ n μ. move_read μ n)
      ∙ ap₂ (λ (σ : ℕ) (τ : Place). some_move (leads_by A.next (parents_of t) (rights_of t) σ τ i p j q)) (symbol-read tables i l) (place_read tables i l)
