-- `emptiness::file::survey_read` meets its contract: the verdict of the rounds, told, and its plan where a tree was found.
-- Assumes nothing.
use borrow.Author.Rules.{rules}
use mathlib.Core.Path.{refl}
use native.Mathlib.Omega.{arith}
use Rattle.algorithms.specs.Saturate.{saturation_of}
use Rattle.saturation.specs.declared.Saturated.{Saturated}
use Rattle.emptiness.proofs.Planning.{verdict-told, found-few}
use Rattle.emptiness.proofs.file.survey_read.Goals as goal

pub write_plan-requires : goal.write_plan-requires
write_plan-requires c = (found-few c.in-Found.is c.saturate.ensures.0, search rules)

pub overflow_add-rows : goal.overflow_add-rows
overflow_add-rows c = let few = found-few c.in-Found.is c.saturate.ensures.0 in omega arith

pub returns-in-Open : goal.returns-in-Open
returns-in-Open c = λ A k. verdict-told (saturation_of A) _ (Saturated.Open _) _ _ _ (c.saturate.ensures.1 A k) c.in-Open.is refl

pub returns-in-Empty : goal.returns-in-Empty
returns-in-Empty c = λ A k. verdict-told (saturation_of A) _ (Saturated.Empty _) _ _ _ (c.saturate.ensures.1 A k) c.in-Empty.is refl

pub returns-in-Found : goal.returns-in-Found
returns-in-Found c = λ A k. verdict-told (saturation_of A) _ (Saturated.Found _ _ _) _ _ _ (c.saturate.ensures.1 A k) c.in-Found.is c.write_plan.ensures
