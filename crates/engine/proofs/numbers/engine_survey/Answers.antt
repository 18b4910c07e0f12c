-- `engine::numbers::engine_survey` meets its contract: it is `survey`, with the answer as numbers; that answer meets the demand.
-- Assumes nothing.
use mathlib.Core.Path.{ap, ◌∙◌}
use Rattle.emptiness.specs.Surveyed.{Answered}
use Rattle.numbering.specs.Numbers.{survey_number, survey_told}
use Rattle.engine.proofs.numbers.engine_survey.Goals as goal

pub returns : goal.returns
returns c =
    let answer = c.survey in
    let e = answer.ensures.equals in record {
      equals = (
        c.put_survey.ensures.0 ∙ ap (λ (o : Answered). survey_number o.answer) e,
        c.put_survey.ensures.1 ∙ ap (λ (o : Answered). survey_told o.answer) e,
        ap (λ (o : Answered). o.buffer) e,
      );
      right = (answer.result, c.put_survey.ensures.0, c.put_survey.ensures.1, answer.ensures.right);
    }
