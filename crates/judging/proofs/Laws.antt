-- What the nodes of a file tell of the file.
-- Assumes nothing.
use Rattle.relation.proofs.Pairs.{zeros}
use Rattle.std.proofs.Common.{Ok}
use Prim.Native.Nat.{ℕ, ◌<◌}
use native.Mathlib.Omega.{arith}
use mathlib.Core.Path.{◌≡◌, sym, ap, ◌∙◌}
use mathlib.Core.Bool.{Bool, true, false}
use mathlib.Core.List.{List}
use lib.ListN.{replicate, length-replicate, length, get_or, set, length-set}
use lib.Seq.{get_or-set_same, get_or-set_other}
use Rattle.model.specs.Trees.{Tree}
use Rattle.model.specs.declared.Side.{Side}
use Rattle.model.specs.declared.Place.{Place}
use Rattle.algorithms.specs.Automaton.{Automaton}
use Rattle.algorithms.specs.Overloops.{accepts?}
use Rattle.algorithms.specs.Growth.{growths}
use Rattle.automaton.specs.File.{signature_in}
use Rattle.automaton.specs.declared.Header.{Header}
use Rattle.blocks.specs.Blocks.{content}
use Rattle.nodes.specs.Preorder.{Writes}
use Rattle.nodes.specs.Nodes.{tree_of}
use Rattle.nodes.proofs.Laws.{nodes-pass}
use Rattle.tree.specs.File.{nodes_of, read_tree}
use Rattle.tree.specs.Unpacked.{Unpacked}
use Rattle.overloops.specs.Ready.{Headed}
use Rattle.membership.specs.Grown.{growth_by}
use Rattle.membership.proofs.Laws.{judged-nodes, growth-nodes}
use Rattle.bottom_up.specs.Told.{Weighs}
use Rattle.bottom_up.specs.declared.Weighed.{Weighed}
use Rattle.class_tables.specs.Cache.{indices, CachedIn, Kept}
use Rattle.class_tables.proofs.Empty.{all-zero, empty, kept-cache}
use Rattle.passes.specs.Verdicts.{Tells}
use Rattle.passes.specs.declared.Verdict.{Verdict}
use Rattle.judging.specs.Verdicts.{Judges, JudgesWith, ToldOf, JudgedOf}

module _ (A : Automaton) (h : Header) (table : List ℕ) (k : Headed A h table) (s buffer : List ℕ) (n : ℕ) (u : Unpacked s n buffer) where
  told : (b : Bool) (t : Tree) → Writes (signature_in h) (nodes_of n (content s)) t → accepts? A t ≡ b
      → (read_tree (signature_in h) s ≡ Ok n) × (b ≡ accepts? A (tree_of h.branches (nodes_of n (content s))))
  told b t w e =
      let passed = (nodes-pass (signature_in h) (nodes_of n (content s)) t).1 w in
      (u.reads (signature_in h) passed.0, sym e ∙ ap (accepts? A) (sym passed.1))

  -- what the pass tells of the file's nodes judging answers of the file
  pub judges : (v : Verdict) → Tells A (signature_in h) (nodes_of n (content s)) v → Judges A s v
  judges Verdict.Accepted x = let y = told true x.0 x.1 x.2 in judged-nodes A h table k s n true y.0 y.1
  judges Verdict.Other x = let y = told false x.0 x.1 x.2 in judged-nodes A h table k s n false y.0 y.1
  judges Verdict.Unknown x = tt

  -- and so with the sum
  grown : (g : ℕ) (t : Tree) → Writes (signature_in h) (nodes_of n (content s)) t → g ≡ growths A Place.Root t → g ≡ growth_by A s
  grown g t w e =
      let passed = (nodes-pass (signature_in h) (nodes_of n (content s)) t).1 w in
      growth-nodes A h table k s n g (u.reads (signature_in h) passed.0) (e ∙ ap (growths A Place.Root) (sym passed.1))

  weighs : (v : Verdict) (g : ℕ) → Weighs A (signature_in h) (nodes_of n (content s)) v g → JudgesWith A s v g
  weighs Verdict.Accepted g x = grown g x.0 x.1 x.3
  weighs Verdict.Other g x = grown g x.0 x.1 x.3
  weighs Verdict.Unknown g x = tt

  pub judges-with : (sums : Bool) (r : Weighed) → ToldOf A (signature_in h) (nodes_of n (content s)) sums r → JudgedOf A s sums r
  judges-with sums r x = (judges r.verdict x.0, λ e. weighs r.verdict r.growth (x.1 e))

-- a number that the cache does not go by
pub kept_set : (counts : List ℕ) (at v : ℕ) → 2 < at → Kept counts (set counts at v)
kept_set counts at v far = record {
  size = length-set counts at v;
  classes_are = get_or-set_other counts at 0 v 0 (λ e. omega arith);
  indices_are = λ s. other s;
}
  where
    other : (s : Side) → indices (set counts at v) s ≡ indices counts s
    other Side.Left = get_or-set_other counts at 1 v 0 (λ e. omega arith)
    other Side.Right = get_or-set_other counts at 2 v 0 (λ e. omega arith)

-- numbers that were all written over with 0
pub cleared : (l l' : List ℕ) → l' ≡ replicate (length l) 0 → (length l' ≡ length l) × ((i : ℕ) → i < length l' → get_or l' i 0 ≡ 0)
cleared l l' e = rw e (length-replicate (length l) 0, λ i b. zeros (length l) i)

-- a cache that begins anew: the store keeps class 0
pub renewed : (A : Automaton) (counts store maps cells maps' cells' : List ℕ) (e : ℕ) → CachedIn A counts store maps cells
    → (length maps' ≡ length maps) × ((i : ℕ) → i < length maps' → get_or maps' i 0 ≡ 0)
    → (length cells' ≡ length cells) × ((i : ℕ) → i < length cells' → get_or cells' i 0 ≡ 0)
    → CachedIn A (set (set (set (set counts 0 1) 1 1) 2 1) 4 e) store maps' cells'
renewed A counts store maps cells maps' cells' e k m c =
    let n = k.counts_size in
    let l₁ : length (set counts 0 1) ≡ 6 = length-set counts 0 1 ∙ n in
    let l₂ : length (set (set counts 0 1) 1 1) ≡ 6 = length-set (set counts 0 1) 1 1 ∙ l₁ in
    let l₃ : length (set (set (set counts 0 1) 1 1) 2 1) ≡ 6 = length-set (set (set counts 0 1) 1 1) 2 1 ∙ l₂ in
    let kept = kept_set (set (set (set counts 0 1) 1 1) 2 1) 4 e (omega arith) in
    kept-cache A (set (set (set counts 0 1) 1 1) 2 1) (set (set (set (set counts 0 1) 1 1) 2 1) 4 e) store maps' cells' kept
    (empty A (set (set (set counts 0 1) 1 1) 2 1) store maps' cells' l₃ k.store_size (m.0 ∙ k.maps_size) (c.0 ∙ k.cells_size)
    (get_or-set_other (set (set counts 0 1) 1 1) 2 0 1 0 (λ x. omega arith) ∙ get_or-set_other (set counts 0 1) 1 0 1 0 (λ x. omega arith)
    ∙ get_or-set_same counts 0 1 0 (omega arith))
    ones k.blank (all-zero maps' m.1) (all-zero cells' c.1))
  where
    ones : (s : Side) → indices (set (set (set counts 0 1) 1 1) 2 1) s ≡ 1
    ones Side.Left =
        get_or-set_other (set (set counts 0 1) 1 1) 2 1 1 0 (λ x. omega arith)
        ∙ get_or-set_same (set counts 0 1) 1 1 0 (omega (arith, length-set counts 0 1, k.counts_size))
    ones Side.Right =
        get_or-set_same (set (set counts 0 1) 1 1) 2 1 0 (omega (arith, length-set (set counts 0 1) 1 1, length-set counts 0 1, k.counts_size))
