-- What the code holds of two files that were read is what following the run asks.
-- Assumes nothing.
use Prim.Native.Nat.{ℕ, ◌*◌, ◌^◌, ◌≤◌, ◌<◌}
use native.Mathlib.Omega.{arith}
use native.Mathlib.Nat.{mul-le-mul}
use mathlib.Core.Path.{◌≡◌, sym, ap, ap₂, ◌∙◌, subst}
use mathlib.Core.List.{List, [], ◌++◌, append-nil}
use lib.Count.{ones}
use lib.ListN.{length, drop}
use Rattle.relation.specs.Lowest.{lowest_of}
use Rattle.model.specs.Trees.{Tree, size}
use Rattle.algorithms.specs.Automaton.{Automaton, In, Proper}
use Rattle.automaton.specs.declared.Header.{Header}
use Rattle.transitions.specs.Compiled.{Compiled}
use Rattle.nodes.specs.Preorder.{preorder, Below, Stands}
use Rattle.nodes.proofs.Signatures.{shaped-over}
use Rattle.nodes.proofs.Standing.{size-preorder, stands}
use Rattle.links.specs.Links.{parents_of, rights_of}
use Rattle.links.proofs.Tabling.{tables-are}
use Rattle.steps.specs.Choices.{Chosen}
use Rattle.membership.specs.Judged.{signature_of}
use Rattle.nodes.proofs.Signatures.{below_at}
use Rattle.watch.specs.Following.{Walkable, Held}
use Rattle.watch.proofs.Starts.{one-lowest, starts-low}

module _ {h : Header} {table s : List ℕ} (held : Held h table s) where
  abbrev A : Automaton
  A = held.automaton

  abbrev t : Tree
  t = held.tree

  pub nodes-long : length s ≡ size t
  nodes-long = ap length held.writes.text ∙ size-preorder t

  pub tree-stands : Stands h.branches s 0 t
  tree-stands =
      let shape = (shaped-over (signature_of A) t held.writes.over).0 in
      subst (λ (b : ℕ). Stands b s 0 t) held.headed.branches
      (stands A.branches s 0 t [] shape (held.writes.text ∙ sym (append-nil (preorder t))))

  pub few_nodes : size t ≤ 4096
  few_nodes = omega (arith, nodes-long, held.few)

  pub most-low : length s * h.states < 2 ^ 64
  most-low = let m : length s * h.states ≤ 4096 * 24 = mul-le-mul held.few held.limits.0 in omega (arith, m)

  pub symbols-low : h.symbols ≤ 32
  symbols-low = held.limits.1

  pub symbols-below : Below A.symbols s
  symbols-below = subst (Below A.symbols) (sym held.writes.text) (shaped-over (signature_of A) t held.writes.over).1

  abbrev pub walkable : (P R codes before before' : List ℕ) → ones h.initial ≡ 1
      → ((B : Automaton) → Proper B → Compiled B table → Chosen h.symbols B.next codes)
      → (P ≡ parents_of t ++ drop (size t) before) × (R ≡ rights_of t ++ drop (size t) before')
      → Walkable h.accepting (length s * h.states) (lowest_of h.initial) s codes P R
  walkable P R codes before before' one choices links =
      let proper = held.headed.tabled.proper in
      let initial = held.headed.initial in
      let counted : ones A.initial ≡ 1 = ap ones initial ∙ one in
      let start : In A.initial (lowest_of A.initial) = (one-lowest A.initial (starts-low A proper) counted).0 in
      record {
        automaton = A;
        tree = t;
        proper = proper;
        few_symbols = omega (arith, held.headed.symbols, symbols-low);
        chosen = subst (λ (m : ℕ). Chosen m A.next codes) (sym held.headed.symbols) (choices A proper held.headed.tabled.compiled);
        accepting_is = held.headed.accepting;
        starts = subst (λ (x : ℕ). lowest_of x < A.states) initial (proper.initials _ start);
        limit = ap₂ ◌*◌ (sym nodes-long) held.headed.tabled.states;
        tables = tables-are t s P R _ _ few_nodes held.writes.text links;
        symbols = λ i l. below_at A.symbols s symbols-below i (omega (arith, nodes-long));
      }
