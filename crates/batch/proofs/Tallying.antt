-- The tally of a batch, part by part; and the cache that it begins with.
-- Assumes nothing.
use Prim.Native.Nat.{ℕ, ◌+◌, ◌*◌, ◌<◌, ◌≤◌}
use native.Mathlib.Omega.{arith}
use mathlib.Core.Path.{◌≡◌, refl, sym, ap, ◌∙◌}
use mathlib.Core.Bool.{Bool, true, false}
use mathlib.Core.List.{List, [], append-nil}
use mathlib.Core.Logic.{inl, inr}
use lib.ListN.{length, take, drop, set, replicate}
use lib.Seq.{drop-drop}
use Rattle.model.specs.declared.Side.{Side}
use Rattle.algorithms.specs.Automaton.{Automaton}
use Rattle.tally.specs.declared.Tally.{Tally}
use Rattle.counting.specs.Counting.{counted_all}
use Rattle.class_tables.specs.Cache.{indices, CachedIn, Cached, Fresh}
use Rattle.class_tables.specs.declared.Cache.{Cache}
use Rattle.class_tables.proofs.Empty.{zeros, no-pairs, empty}
use Rattle.batch.specs.Batch.{first_length, rest_counted, batch_of}
use Rattle.batch.specs.Answers.{Part, Stopped}
use Rattle.batch.specs.declared.part.Judged.{Judged}
use Rattle.batch.proofs.Counted.{gone_on, part-counted, batch-rest}

-- ---- the tables of a cache, as they begin

abbrev pub counts₁ : List ℕ
counts₁ = set (replicate 6 1) 4 2048

one_index : (s : Side) → indices counts₁ s ≡ 1
one_index Side.Left = refl
one_index Side.Right = refl

pub begins : (A : Automaton) → CachedIn A counts₁ (replicate 49152 0) (replicate 66560 0) (replicate 16384 0)
begins A =
    empty A counts₁ (replicate 49152 0) (replicate 66560 0) (replicate 16384 0) refl refl refl refl refl one_index
    (no-pairs (replicate 49152 0) refl (zeros 49152)) (zeros 66560) (zeros 16384)

pub fresh-cached : (A : Automaton) (cache : Cache) → Fresh cache → Cached A cache
fresh-cached A cache e = rw (e.0, e.1, e.2, e.3) (begins A)

-- ---- a part more

module _ (A : Automaton) (before t u : Tally) (s x lent lent' : List ℕ) (at : ℕ) (r : Judged) (so_far : batch_of A before s ≡ batch_of A t (drop at s))
    (is : x ≡ drop at s) (p : Part A x lent lent' r) (counted : u ≡ counted_all t (take (3 * r.files) lent')) where
  after : batch_of A before s ≡ gone_on A r.more u (drop r.bytes x)
  after =
      so_far ∙ ap (batch_of A t) (sym is ∙ sym (append-nil x)) ∙ part-counted A x lent lent' r p t []
      ∙ rw (← counted, append-nil (drop r.bytes x)) refl

  pub tally-ends : r.more ≡ false → u ≡ batch_of A before s
  tally-ends e = sym (after ∙ ap (λ (b : Bool). gone_on A b u (drop r.bytes x)) e)

  pub tally-goes-on : r.more ≡ true → batch_of A before s ≡ batch_of A u (drop (at + r.bytes) s)
  tally-goes-on e =
      after ∙ ap (λ (b : Bool). gone_on A b u (drop r.bytes x)) e
      ∙ ap (batch_of A u) (ap (drop r.bytes) is ∙ drop-drop r.bytes at s)

  -- no whole file is left
  pub tally-rest : r.more ≡ true → Stopped x lent r → 3 * r.files + 3 ≤ length lent → (v : Tally) (left : ℕ) → left ≡ length (drop (at + r.bytes) s)
      → v ≡ rest_counted u left → v ≡ batch_of A before s
  tally-rest e stopped room v left l c =
      let place : drop r.bytes x ≡ drop (at + r.bytes) s = ap (drop r.bytes) is ∙ drop-drop r.bytes at s in
      c ∙ ap (rest_counted u) l ∙ sym (batch-rest A u (drop (at + r.bytes) s) (rw place at (short stopped))) ∙ sym (tally-goes-on e)
    where
      short : Stopped x lent r → length (drop r.bytes x) < first_length (drop r.bytes x)
      short (inl l) = l
      short (inr l) = absurd (omega arith)
