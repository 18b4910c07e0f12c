-- What one step of the pass does: the rest of the list with its stack, the sum so far and the cache, before and after a node.
-- Interface: `Leafed`, `Loaded`, `Stepped`, `StepFew`.
use Rattle.std.proofs.Common.{Option, Some, None}
use Rattle.std.specs.Prelude.{ℕ, ◌≤◌, List, get_or}
use Rattle.model.specs.declared.Signature.{Signature}
use Rattle.algorithms.specs.Automaton.{Automaton}
use Rattle.class_tables.specs.Cache.{Right, classes, Cached}
use Rattle.class_tables.specs.declared.Cache.{Cache}
use Rattle.passes.specs.Stacked.{Stacked}
use Rattle.passes.specs.declared.Stack.{Stack}
use Rattle.bottom_up.specs.Told.{Classed, below_growths}

-- the words of the leaves that were met name their classes
abbrev pub Leafed : Automaton → (count : ℕ) (store leaves : List ℕ) → Type 0
Leafed A count store leaves = (σ : ℕ) → Right A count store σ 0 0 (get_or leaves σ 0)

-- the stack tells of the trees that the list s writes, by the classes of the cache, and the growths below their roots come to a number
pub record Loaded (A : Automaton) (sg : Signature) (cache : Cache) (leaves table s : List ℕ) (st : Stack) (growth : ℕ) : Type 0 where
  pub cached : Cached A cache
  pub leafed : Leafed A (classes cache.counts) cache.store leaves
  pub stacked : Stacked (Classed A (classes cache.counts) cache.store) (below_growths A) sg table s st growth

-- after a step: the stack tells of the longer list; or the pass is off, and the cache is one all the same
abbrev pub Stepped : Automaton → Signature → (cache : Cache) (leaves table s : List ℕ) → Option (Stack × ℕ) → Type 0
Stepped A sg cache leaves table s (Some (st, growth)) = Loaded A sg cache leaves table s st growth
Stepped A sg cache leaves table s None = Cached A cache

-- the sum is at most n
abbrev pub StepFew : (n : ℕ) → Option (Stack × ℕ) → Type 0
StepFew n (Some (st, growth)) = growth ≤ n
StepFew n None = Unit {0}
