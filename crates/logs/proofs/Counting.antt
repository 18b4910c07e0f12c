-- Counting the entries that are a run: the first k are, the last of them is at a node in a state, and what is left of the log gives the whole count.
-- Assumes nothing.
use Prim.Native.Nat.{ℕ, suc, ◌+◌, ◌*◌, ◌/◌, ◌≤◌, ◌<◌}
use native.Mathlib.Omega.{arith}
use mathlib.Core.Path.{◌≡◌, refl, sym, ap, ◌∙◌, subst}
use mathlib.Core.Bool.{Bool, true, false}
use mathlib.Core.List.{List, [], ◌∷◌}
use lib.Dec.{eqb}
use lib.ListN.{length, get_or, drop}
use borrow.Author.Tests.{eqb-true}
use Rattle.relation.specs.Sets.{member, member_has}
use Rattle.model.specs.Trees.{Tree, size}
use Rattle.algorithms.specs.Automaton.{Automaton, In}
use Rattle.refusal.proofs.Passed.{and-is-true}
use Rattle.transitions.specs.Compiled.{next_in}
use Rattle.links.proofs.Numbering.{some-nodes, all_named}
use Rattle.links.proofs.Tabling.{node-within}
use Rattle.steps.specs.Leads.{leads_in, leads}
use Rattle.steps.proofs.Stepping.{into-state, into-node}
use Rattle.steps.proofs.Leading.{leads-led, leads-read}
use Rattle.watch.specs.Walk.{Entry}
use Rattle.agreement.specs.Common.{counted}
use Rattle.logs.specs.Prefix.{entries_of, begins, run_after, run_prefix}
use Rattle.logs.specs.Counting.{entry_at, Countable}
use Rattle.logs.proofs.Entries.{entries_next, entries-end}

pub record Counted (A : Automaton) (t : Tree) (log : List ℕ) (n k : ℕ) (e : Entry) : Type 0 where
  pub whole : n ≡ length log / 3
  pub within : k ≤ n
  pub node : e.0 < size t
  pub state : e.1 < A.states
  pub left : run_prefix A t (entries_of log) ≡ k + run_after A t e (entries_of (drop (3 * k) log))

module _ {initial : ℕ} {s table P R : List ℕ} (w : Countable initial s table P R) (log : List ℕ) where
  abbrev A : Automaton
  A = w.automaton

  abbrev t : Tree
  t = w.tree

  -- a log of no entry
  pub none-counted : length log / 3 ≡ 0 → 0 ≡ run_prefix A t (entries_of log)
  unfolding run_prefix
  none-counted z =
      let e : entries_of log ≡ [] = entries-end log 0 (omega arith) in
      rw e

  module _ (some : length log / 3 ≡ 0 → ⊥) (e : Entry) (first : e ≡ entry_at log 0) (r : Bool) (f : r ≡ begins initial e) where
    begun : run_prefix A t (entries_of log) ≡ counted r (run_after A t e (entries_of (drop 3 log)))
    unfolding run_prefix
    begun =
        let rest : ℕ = run_after A t e (entries_of (drop 3 log)) in
        let read : entries_of log ≡ e ∷ entries_of (drop 3 log) =
        entries_next log 0 (omega (arith, some)) ∙ ap (λ (x : Entry). x ∷ entries_of (drop 3 log)) (sym first) in
        ap (run_prefix A t) read ∙ ap (λ (b : Bool). counted b rest) (ap (λ (x : ℕ). begins x e) w.initial_is ∙ sym f)

    -- its first entry is not the root in a start state ..
    pub not-begun : r ≡ false → 0 ≡ run_prefix A t (entries_of log)
    not-begun h = sym (begun ∙ rw h refl)

    -- .. or is
    pub count-begins : r ≡ true → Counted A t log (length log / 3) 1 e
    count-begins h =
        let both = and-is-true (eqb e.0 0) (member initial e.1) (sym f ∙ h) in
        let root : e.0 ≡ 0 = eqb-true e.0 0 both.0 in
        record {
          whole = refl;
          within = omega (arith, some);
          node = omega (arith, root, some-nodes t);
          state = w.proper.initials e.1 (subst (λ (x : ℕ). In x e.1) (sym w.initial_is) ((member_has initial e.1).0 both.1));
          left = let one : counted r (run_after A t e (entries_of (drop 3 log))) ≡ suc (run_after A t e (entries_of (drop 3 log))) = rw h in omega (arith, begun, one);
        }

  module _ {n k : ℕ} {e : Entry} (g : Counted A t log n k e) where
    -- what a step asks
    pub step-asks : (e.0 < length s) × (e.0 < length P) × (e.0 < length R) × (e.0 < 65536) × (get_or s e.0 0 < 32) × (e.1 < 24)
    step-asks =
        let low = node-within w.tables e.0 g.node in
        (low.0, low.1, low.2, low.3, w.symbols e.0 g.node, omega (arith, g.state, w.proper.few))

    pub all-counted : n ≤ k → n ≡ run_prefix A t (entries_of log)
    unfolding run_after
    all-counted l =
        let none : entries_of (drop (3 * k) log) ≡ [] = entries-end log k (omega (arith, g.whole)) in
        let rest : run_after A t e (entries_of (drop (3 * k) log)) ≡ 0 = rw none in
        omega (arith, g.left, g.within, rest)

    module _ (more : k < n) (f : Entry) (next : f ≡ entry_at log k) (r : Bool)
        (led : r ≡ leads_in (next_in table) s P R e.0 e.1 f.0 f.1) where
      step-seen : leads A t e.0 e.1 f.0 f.1 ≡ r
      step-seen =
          sym (led ∙ leads-read A w.compiled w.tables e.0 g.node step-asks.4 e.1 step-asks.5 f.0 f.1)

      rest : run_after A t e (entries_of (drop (3 * k) log)) ≡ counted r (run_after A t f (entries_of (drop (3 * (k + 1)) log)))
      unfolding run_after
      rest =
          let later : List Entry = entries_of (drop (3 * (k + 1)) log) in
          ap (run_after A t e) (entries_next log k (omega (arith, g.whole)) ∙ ap (λ (x : Entry). x ∷ later) (sym next))
          ∙ ap (λ (b : Bool). counted b (run_after A t f later)) step-seen

      pub count-ends : r ≡ false → k ≡ run_prefix A t (entries_of log)
      count-ends h =
          let none : run_after A t e (entries_of (drop (3 * k) log)) ≡ 0 = rw (rest, h) in
          omega (arith, g.left, none)

      pub count-on : r ≡ true → Counted A t log n (k + 1) f
      count-on h =
          let one : run_after A t e (entries_of (drop (3 * k) log)) ≡ suc (run_after A t f (entries_of (drop (3 * (k + 1)) log))) = rw (rest, h) in
          let l = leads-led A t (all_named t e.0 g.node).2 e.1 f.0 f.1 (step-seen ∙ h) in
          record {
            whole = g.whole;
            within = omega arith;
            node = into-node l;
            state = into-state A w.proper l.step;
            left = omega (arith, g.left, one);
          }
