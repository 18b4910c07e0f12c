-- What the search finds, in terms of runs: the configurations that are reached by node numbers are those of the model's runs, so the root is reached
-- in a final state exactly where the automaton accepts the tree.
-- Assumes nothing.
use Prim.Native.Nat.{ℕ, ◌≤◌, ◌<◌}
use native.Mathlib.Omega.{arith}
use mathlib.Core.Path.{◌≡◌, refl, sym, ap, ◌∙◌, subst}
use mathlib.Core.Logic.{◌↔◌}
use mathlib.Core.Bool.{Bool, true, false}
use mathlib.Core.List.{List, []}
use lib.Dec.{T}
use lib.ListN.{length, get_or}
use Rattle.model.specs.declared.Place.TheVariants.{Root}
use Rattle.model.specs.Trees.{Tree, size}
use Rattle.model.specs.Runs.{Position, Config, Run, done, ◌then◌}
use Rattle.model.proofs.RunLaws.{◌followed-by◌}
use Rattle.algorithms.specs.Automaton.{Automaton, In, Δ, Accepted, Proper}
use Rattle.algorithms.specs.Overloops.{accepts?}
use Rattle.algorithms.proofs.OverloopLaws.{accepts-has}
use Rattle.model.specs.declared.Signature.{Signature}
use Rattle.automaton.specs.File.{signature_in}
use Rattle.automaton.specs.declared.Header.{Header}
use Rattle.transitions.specs.Compiled.{next_in}
use Rattle.nodes.specs.Preorder.{Writes}
use Rattle.nodes.proofs.Signatures.{written_below}
use Rattle.nodes.proofs.Standing.{size-preorder}
use Rattle.links.specs.Numbers.{Numbered, first}
use Rattle.links.specs.Tables.{Tables}
use Rattle.links.proofs.Numbering.{some-nodes, number-unique, numbered_within}
use Rattle.links.proofs.Linking.{named-once}
use Rattle.steps.specs.Leads.{leads_in, leads}
use Rattle.steps.proofs.Stepping.{Led, made, into-node}
use Rattle.steps.proofs.Leading.{leads-led, led-leads, leads-read}
use Rattle.overloops.specs.Ready.{Headed}
use Rattle.passes.specs.Verdicts.{Tells}
use Rattle.passes.specs.declared.Verdict.{Verdict}
use Rattle.reachability.specs.Reached.{Reached, starts, steps, Found}

-- ---- runs

module _ (A : Automaton) (proper : Proper A) (t : Tree) (table s P Q : List ℕ) where
  abbrev Reaches : (j q : ℕ) → Type 0
  Reaches = Reached (next_in table) s P Q A.initial

  -- a run from the root in a start state to node j in state q
  record Ran (j q : ℕ) : Type 0 where
    position : Position
    tree : Tree
    named : Numbered t j position tree
    start : ℕ
    starting : In A.initial start
    run : Run (Δ A) Root t ([], start) (position, q)

  -- the steps that the code reads are the automaton's
  abbrev Read : Type 0
  Read = (i p j q : ℕ) → i < size t → p < 24 → leads_in (next_in table) s P Q i p j q ≡ leads A t i p j q

  reached-ran : Read → {j q : ℕ} → Reaches j q → Ran j q
  reached-ran read (starts {q = q} h) = record { position = []; tree = t; named = first; start = q; starting = h; run = done }
  reached-ran read (steps {i = i} {p = p} {j = j} {q = q} r few k e) =
      let x = reached-ran read r in
      let inside : i < size t = omega (arith, numbered_within x.named, some-nodes x.tree) in
      let l = leads-led A t x.named p j q (sym (read i p j q inside few) ∙ e) in
      record {
        position = l.position;
        tree = l.tree;
        named = l.named;
        start = x.start;
        starting = x.starting;
        run = x.run followed-by (l.step then done);
      }

  module _ (read : Read) (long : size t ≤ length s) where
    ran-reached : {c d : Config} {u : Tree} {i : ℕ} → Run (Δ A) Root t c d → Numbered t i c.0 u → Reaches i c.1
        → (j : ℕ) × (v : Tree) × Numbered t j d.0 v × Reaches j d.1
    ran-reached {u = u} {i = i} done n r = (i, u, n, r)
    ran-reached {c} {d} {u} {i} (◌then◌ {b = b} x rest) n r =
        let m = made A t n x in
        let g = m.to-node in
        let l : Led A t c.0 c.1 g.target b.1 = record { position = b.0; tree = g.tree; named = g.named; step = x } in
        let few : c.1 < 24 = omega (arith, (proper.transitions _ _ _ _ _ m.allows).0, proper.few) in
        let inside : i < size t = omega (arith, numbered_within n, some-nodes u) in
        let e = read i c.1 g.target b.1 inside few ∙ led-leads A t n c.1 g.target b.1 l in
        ran-reached rest g.named (steps r few (omega (arith, into-node l, long)) e)

    found-accepted : Found (next_in table) s P Q A.initial A.accepting ↔ Accepted A t
    found-accepted = (there, back)
      where
        there : Found (next_in table) s P Q A.initial A.accepting → Accepted A t
        there (q, final, r) =
            let x = reached-ran read r in
            let root : x.position ≡ [] = (named-once x.named first).0 in
            (x.start, q, x.starting, final, subst (λ (α : Position). Run (Δ A) Root t ([], x.start) (α, q)) root x.run)

        back : Accepted A t → Found (next_in table) s P Q A.initial A.accepting
        back (p, q, start, final, run) =
            let x = ran-reached run first (starts start) in
            let root : x.0 ≡ 0 = (number-unique x.2 first).0 in
            (q, final, subst (λ (j : ℕ). Reaches j q) root x.3)

-- ---- the answer

same_test : (r b : Bool) → (r ≡ true → T b) → (T b → r ≡ true) → r ≡ b
same_test true true f g = refl
same_test true false f g = absurd (f refl)
same_test false true f g = g tt
same_test false false f g = refl

pub answer : (A : Automaton) (h : Header) (table s P Q : List ℕ) → ((i : ℕ) → get_or s i 0 < 32) → Headed A h table → (t : Tree) → Tables t s P Q
    → (r : Bool) → (r ≡ true) ↔ Found (next_in table) s P Q h.initial h.accepting → r ≡ accepts? A t
answer A h table s P Q low k t tables r told =
    same_test r (accepts? A t) (λ e. right.1 (same.0 (of (told.0 e)))) (λ e. told.1 (to (same.1 (right.0 e))))
  where
    proper : Proper A
    proper = k.tabled.proper

    long : size t ≤ length s
    long = omega (arith, ap length tables.nodes_are ∙ size-preorder t)

    read : Read A proper t table s P Q
    read i p j q l states = leads-read A k.tabled.compiled tables i l (low i) p states j q

    right : T (accepts? A t) ↔ Accepted A t
    right = accepts-has A proper t

    same : Found (next_in table) s P Q A.initial A.accepting ↔ Accepted A t
    same = found-accepted A proper t table s P Q read long

    of : Found (next_in table) s P Q h.initial h.accepting → Found (next_in table) s P Q A.initial A.accepting
    of f = rw (k.initial, k.accepting) f

    to : Found (next_in table) s P Q A.initial A.accepting → Found (next_in table) s P Q h.initial h.accepting
    to f = rw (k.initial, k.accepting) at f

-- the list that was linked and searched
pub told : (A : Automaton) (h : Header) (table s P Q : List ℕ) → h.symbols ≤ 32 → Headed A h table → (x : (t : Tree) × Writes (signature_in h) s t × Tables t s P Q)
    → (r : Bool) → (r ≡ true) ↔ Found (next_in table) s P Q h.initial h.accepting → (v : Verdict)
    → ((A : Automaton) (sg : Signature) (s : List ℕ) (t : Tree) → Writes sg s t → r ≡ accepts? A t → Tells A sg s v) → Tells A (signature_in h) s v
told A h table s P Q few k x r found v tells =
    tells A (signature_in h) s x.0 x.1 (answer A h table s P Q (written_below _ s x.0 few x.1) k x.0 x.2 r found)
