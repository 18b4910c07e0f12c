-- `tags::digit` meets its contract.
-- Assumes nothing.
use mathlib.Core.Path.{sym, ◌∙◌}
use native.Mathlib.Omega.{arith}
use Rattle.tags.proofs.Listed.{digit-small, no_digit}
use Rattle.tags.proofs.digit.Goals as goal

pub overflow_sub-result : goal.overflow_sub-result
overflow_sub-result c = (digit-small c.args.b (sym c.class_of.ensures ∙ c.if-class_of-eq-DIGIT.true)).2

pub returns-then-class_of-eq-DIGIT : goal.returns-then-class_of-eq-DIGIT
returns-then-class_of-eq-DIGIT c = let d = digit-small c.args.b (sym c.class_of.ensures ∙ c.if-class_of-eq-DIGIT.true) in (sym d.0, d.1)

pub returns-else-class_of-eq-DIGIT : goal.returns-else-class_of-eq-DIGIT
returns-else-class_of-eq-DIGIT c = (sym (no_digit c.args.b (λ e. c.if-class_of-eq-DIGIT.false (c.class_of.ensures ∙ e))), omega arith)
