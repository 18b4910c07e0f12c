-- `engine::numbers::engine_judge_all` meets its contract: it is `judge_all`, with the answer as numbers.
-- Assumes nothing.
use mathlib.Core.Path.{ap, ◌∙◌}
use Rattle.answers.specs.All.{Outcome}
use Rattle.numbering.specs.Numbers.{count_number, count_told}
use Rattle.engine.proofs.numbers.engine_judge_all.Goals as goal

pub returns : goal.returns
returns c =
    let answer = c.judge_all in
    let e = answer.ensures.equals in record {
      equals = (
        c.put_count.ensures.0 ∙ ap (λ (o : Outcome). count_number o.judgement) e,
        c.put_count.ensures.1 ∙ ap (λ (o : Outcome). count_told o.judgement) e,
        ap (λ (o : Outcome). o.numbers) e,
        ap (λ (o : Outcome). o.growths) e,
      );
      right = (answer.result, c.put_count.ensures.0, c.put_count.ensures.1, answer.ensures.right);
    }
