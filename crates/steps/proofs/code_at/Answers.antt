-- `steps::code_at` meets its contract: the tests in turn.
-- Assumes nothing.
use mathlib.Core.Path.{refl, ap, ◌∙◌}
use Prim.Native.Nat.{ℕ, ◌+◌}
use Rattle.steps.proofs.Choosing.{code-stay, code_up, code-left, code-right, code-none}
use Rattle.steps.proofs.code_at.Goals as goal

pub returns-then-stay-ne0 : goal.returns-then-stay-ne0
returns-then-stay-ne0 c = let a = c.args in c.lowest.ensures.0 ∙ code-stay a.table.now a.cell _ refl _ refl c.if-stay-ne0.true

pub returns-then-up-ne0 : goal.returns-then-up-ne0
returns-then-up-ne0 c = let a = c.args in ap (λ (n : ℕ). 32 + n) c.lowest-then-up-ne0.ensures.0 ∙ code_up a.table.now a.cell _ refl _ refl c.if-stay-ne0.false _ refl c.if-up-ne0.true

pub returns-then-left-ne0 : goal.returns-then-left-ne0
returns-then-left-ne0 c = let a = c.args in ap (λ (n : ℕ). 64 + n) c.lowest-then-left-ne0.ensures.0 ∙ code-left a.table.now a.cell _ refl _ refl c.if-stay-ne0.false _ refl c.if-up-ne0.false _ refl c.if-left-ne0.true

pub returns-then-right-ne0 : goal.returns-then-right-ne0
returns-then-right-ne0 c = let a = c.args in ap (λ (n : ℕ). 96 + n) c.lowest-then-right-ne0.ensures.0 ∙ code-right a.table.now a.cell _ refl _ refl c.if-stay-ne0.false _ refl c.if-up-ne0.false _ refl c.if-left-ne0.false _ refl c.if-right-ne0.true

pub returns : goal.returns
returns c = let a = c.args in code-none a.table.now a.cell _ refl _ refl c.if-stay-ne0.false _ refl c.if-up-ne0.false _ refl c.if-left-ne0.false _ refl c.if-right-ne0.false
