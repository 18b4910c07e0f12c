-- `engine::numbers::engine_judge` meets its contract: it is `judge`, with the answer and its sum as numbers; that answer meets the demand.
-- Assumes nothing.
use mathlib.Core.Path.{ap, ◌∙◌}
use Rattle.membership.specs.declared.Judged.{Judged}
use Rattle.numbering.specs.Numbers.{answer_number, answer_told, growth_numbers}
use Rattle.engine.proofs.numbers.engine_judge.Goals as goal

pub returns : goal.returns
returns c =
    let answer = c.judge in
    let told = c.put_judged.ensures in
    let e = answer.ensures.equals in record {
      equals = (
        told.0 ∙ ap (λ (j : Judged). answer_number j.answer) e,
        told.1 ∙ ap growth_numbers e,
        told.2 ∙ ap (λ (j : Judged). answer_told j.answer) e,
      );
      right = (answer.result, told.0, told.1, told.2, answer.ensures.right, answer.ensures.grown);
    }
