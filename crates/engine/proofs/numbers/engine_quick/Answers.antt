-- `engine::numbers::engine_quick` meets its contract: it is `quick`, with the answer as numbers; that answer meets the demand.
-- Assumes nothing.
use mathlib.Core.Path.{ap, ◌∙◌}
use Rattle.numbering.specs.Numbers.{quick_number, quick_told}
use Rattle.engine.proofs.numbers.engine_quick.Goals as goal

pub returns : goal.returns
returns c =
    let answer = c.quick in
    let e = answer.ensures.equals in record {
      equals = (c.put_quick.ensures.0 ∙ ap quick_number e, c.put_quick.ensures.1 ∙ ap quick_told e);
      right = (answer.result, c.put_quick.ensures.0, c.put_quick.ensures.1, answer.ensures.right);
    }
