-- Following the run: what is left of the walk, with the log as it is, gives the whole walk. By what a turn of the loop has read.
-- Assumes nothing.
use Rattle.std.proofs.Common.{Option, Some, None}
use Prim.Native.Nat.{ℕ, suc, ◌+◌, ◌-◌, ◌*◌, ◌≤◌, ◌<◌}
use native.Mathlib.Omega.{arith}
use mathlib.Core.Path.{◌≡◌, refl, sym, ap, ap₂, ◌∙◌}
use mathlib.Core.Bool.{Bool, true, false, ◌&&◌}
use mathlib.Core.List.{List}
use lib.Dec.{eqb}
use lib.ListN.{length, get_or, length-set}
use Rattle.relation.specs.Sets.{member}
use Rattle.model.specs.declared.Place.{Place}
use Rattle.model.specs.Trees.{Tree, size}
use Rattle.algorithms.specs.Automaton.{Automaton, Proper}
use Rattle.links.specs.Links.{parents_of, rights_of, place_in}
use Rattle.links.proofs.Numbering.{some-nodes, all_named}
use Rattle.links.proofs.Tabling.{node-within, symbol-read, place_read}
use Rattle.steps.specs.Choices.{decoded, choice_cell, choice}
use Rattle.steps.specs.Successors.{to, goes, successor}
use Rattle.steps.specs.declared.Configuration.{Configuration}
use Rattle.steps.proofs.Stepping.{goes-read, into-state, into-node, step-led}
use Rattle.watch.specs.Walk.{Walk, ends, passes, most_steps, walk_from, walk}
use Rattle.watch.specs.Checks.{log_length}
use Rattle.watch.specs.Following.{put_entry, Walkable, Followed}
use Rattle.watch.specs.declared.Watched.{Watched}
use Rattle.watch.proofs.Turns.{walk-passed, walk-stuck, walk-circling, walk-spent, walk-on, few-entries}
use Rattle.watch.proofs.Logs.{written, written-log}

-- ---- the loop's invariant

pub record Going (A : Automaton) (t : Tree) (start budget : ℕ) (before log : List ℕ) (made i p : ℕ) : Type 0 where
  pub within : made ≤ budget
  pub sized : length log ≡ length before
  pub node : i < size t
  pub state : p < A.states
  pub answer : (walk A t start budget).answer ≡ (walk_from A t (budget - made) made i p).answer
  pub bytes : written before 0 (walk A t start budget).entries ≡ written log made (walk_from A t (budget - made) made i p).entries

module _ (A : Automaton) (t : Tree) (start budget : ℕ) (before : List ℕ) where
  pub going-begins : start < A.states → Going A t start budget before before 0 0 start
  going-begins low =
      let e : budget ≡ budget - 0 = omega arith in
      record {
        within = omega arith;
        sized = refl;
        node = some-nodes t;
        state = low;
        answer = ap (λ (k : ℕ). (walk_from A t k 0 0 start).answer) e;
        bytes = ap (λ (k : ℕ). written before 0 (walk_from A t k 0 0 start).entries) e;
      }

  module _ (room : log_length budget ≤ length before) (log : List ℕ) (made i p : ℕ) (g : Going A t start budget before log made i p) where
    -- the walk ends here
    ended : (v : ℕ → Watched) → walk_from A t (budget - made) made i p ≡ ends made i p v
        → Followed (walk A t start budget) before (v made) (put_entry log made i p)
    unfolding written
    ended v e =
        record {
          answered = sym (g.answer ∙ ap (λ (w : Walk). w.answer) e);
          log = sym (g.bytes ∙ ap (λ (w : Walk). written log made w.entries) e)
              ∙ written-log before (walk A t start budget).entries (omega (arith, few-entries A t budget 0 0 start));
        }

    -- it goes on
    goes_on : Proper A → passes A i p ≡ false → (j q : ℕ) → successor A t i p ≡ to j q → (made ≡ most_steps A t → ⊥) → (made ≡ budget → ⊥)
        → Going A t start budget before (put_entry log made i p) (made + 1) j q
    unfolding written
    goes_on proper e j q n m z =
        let less : budget - made ≡ suc (budget - (made + 1)) = omega (arith, g.within) in
        let on = walk-on A t (budget - made) made i p e j q n m (budget - (made + 1)) less in
        let l = step-led A proper t (all_named t i g.node).2 p j q n in
        record {
          within = omega (arith, g.within);
          sized = simp length-set g.sized;
          node = into-node l;
          state = into-state A proper l.step;
          answer = g.answer ∙ ap (λ (w : Walk). w.answer) on;
          bytes = g.bytes ∙ ap (λ (w : Walk). written log made w.entries) on;
        }

-- ---- a turn, by what it has read

module _ {accepting most start : ℕ} {s codes P R : List ℕ} (w : Walkable accepting most start s codes P R) (budget : ℕ) {before log : List ℕ} {made i p : ℕ}
    (g : Going w.automaton w.tree start budget before log made i p) where
  abbrev A : Automaton
  A = w.automaton

  abbrev t : Tree
  t = w.tree

  node-symbol : get_or s i 0 < 32
  node-symbol = omega (arith, w.symbols i g.node, w.few_symbols)

  state-low : p < 24
  state-low = omega (arith, g.state, w.proper.few)

  -- what a step asks
  pub step-asks : (i < length s) × (i < length P) × (i < length R) × (i < 65536) × (get_or s i 0 < 32) × (p < 24)
  step-asks = let n = node-within w.tables i g.node in (n.0, n.1, n.2, n.3, node-symbol, state-low)

  -- an entry has room
  pub entry-asks : log_length budget ≤ length before → (3 * made + 3 ≤ length log) × (i < 65536)
  entry-asks room = (omega (arith, g.within, g.sized), (node-within w.tables i g.node).3)

  pass-read : (r : Bool) → (eqb i 0 && member accepting p) ≡ r → passes A i p ≡ r
  pass-read r e = rw w.accepting_is e

  step-read : (y : Option Configuration) → y ≡ goes P R i (decoded (get_or codes (choice_cell (get_or s i 0) (place_in P i) p) 0)) → successor A t i p ≡ y
  unfolding successor
  step-read y e =
      sym
      (e ∙ goes-read w.tables i g.node (decoded (get_or codes (choice_cell (get_or s i 0) (place_in P i) p) 0))
      ∙ ap (goes (parents_of t) (rights_of t) i)
      (w.chosen.codes_are (get_or s i 0) (place_in P i) p (w.symbols i g.node) state-low
      ∙ ap₂ (λ (σ : ℕ) (τ : Place). choice A.next σ τ p) (symbol-read w.tables i g.node) (place_read w.tables i g.node)))

  module _ (room : log_length budget ≤ length before) {after : List ℕ} (e : after ≡ put_entry log made i p) where
    pub told-passed : (r : Bool) → r ≡ (eqb i 0 && member accepting p) → r ≡ true → Followed (walk A t start budget) before (Watched.Passed made) after
    told-passed r f h =
        rw e (ended A t start budget before room log made i p g Watched.Passed (walk-passed A t (budget - made) made i p (pass-read true (sym f ∙ h))))

    module _ (r : Bool) (f : r ≡ (eqb i 0 && member accepting p)) (h : r ≡ false) (y : Option Configuration)
        (n : y ≡ goes P R i (decoded (get_or codes (choice_cell (get_or s i 0) (place_in P i) p) 0))) where
      no-pass : passes A i p ≡ false
      no-pass = pass-read false (sym f ∙ h)

      pub told-stuck : y ≡ None → Followed (walk A t start budget) before (Watched.Stuck made) after
      told-stuck k =
          rw e (ended A t start budget before room log made i p g Watched.Stuck (walk-stuck A t (budget - made) made i p no-pass (step-read y n ∙ k)))

      module _ (d : Configuration) (k : y ≡ Some d) where
        pub told-circling : made ≡ most → Followed (walk A t start budget) before (Watched.Circling made) after
        told-circling m =
            rw e
            (ended A t start budget before room log made i p g Watched.Circling
            (walk-circling A t (budget - made) made i p no-pass d.node d.state.0 (step-read y n ∙ k) (m ∙ sym w.limit)))

        module _ (m : made ≡ most → ⊥) where
          pub told-spent : made ≡ budget → Followed (walk A t start budget) before (Watched.Spent made) after
          told-spent z =
              rw e
              (ended A t start budget before room log made i p g Watched.Spent
              (walk-spent A t (budget - made) made i p no-pass d.node d.state.0 (step-read y n ∙ k) (λ a. m (a ∙ w.limit)) (omega arith)))

          pub told-on : (made ≡ budget → ⊥) → Going A t start budget before after (made + 1) d.node d.state.0
          told-on z =
              rw e
              (goes_on A t start budget before room log made i p g w.proper no-pass d.node d.state.0 (step-read y n ∙ k) (λ a. m (a ∙ w.limit)) z)
