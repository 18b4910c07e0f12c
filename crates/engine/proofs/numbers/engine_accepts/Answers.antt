-- `engine::numbers::engine_accepts` meets its contract: it is `accepts`, with the answer as numbers; that answer meets the demand.
-- Assumes nothing.
use mathlib.Core.Path.{ap, ◌∙◌}
use Rattle.numbering.specs.Numbers.{answer_number, answer_told}
use Rattle.engine.proofs.numbers.engine_accepts.Goals as goal

pub returns : goal.returns
returns c =
    let answer = c.accepts in
    let e = answer.ensures.equals in record {
      equals = (c.put_answer.ensures.0 ∙ ap answer_number e, c.put_answer.ensures.1 ∙ ap answer_told e);
      right = (answer.result, c.put_answer.ensures.0, c.put_answer.ensures.1, answer.ensures.right);
    }
