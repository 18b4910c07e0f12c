-- `indexing::is_like` meets its contract.
-- Assumes nothing.
use native.Mathlib.Omega.{arith}
use Prim.Native.Nat.{ℕ}
use mathlib.Core.Path.{◌≡◌}
use borrow.Author.Rules.{rules}
use Rattle.indexing.proofs.is_like.Goals as goal

pub returns-then-cache-other : goal.returns-then-cache-other
returns-then-cache-other c = λ e. let z : ◌≡◌ {A = ℕ} 0 1 = cc in absurd (omega arith)

pub returns-then-index_of-eq0 : goal.returns-then-index_of-eq0
returns-then-index_of-eq0 c = λ e. let z : ◌≡◌ {A = ℕ} 0 1 = cc in absurd (omega arith)

pub returns : goal.returns
returns c = λ e. (search rules, omega (arith, c.if-index_of-eq0.false, c.index_of.ensures.0), λ A k τ. rw (← c.class_rows-known.ensures) (c.alike.ensures e A k τ))
