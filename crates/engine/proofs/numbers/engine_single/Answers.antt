-- `engine::numbers::engine_single` meets its contract: it is `single`, with the answer as numbers; that answer is right.
-- Assumes nothing.
use mathlib.Core.Path.{ap, ◌∙◌}
use Rattle.numbering.specs.Numbers.{single_number, single_told}
use Rattle.engine.proofs.numbers.engine_single.Goals as goal

pub returns : goal.returns
returns c =
    let answer = c.single in
    let e = answer.ensures.equals in record {
      equals = (c.put_single.ensures.0 ∙ ap single_number e, c.put_single.ensures.1 ∙ ap single_told e);
      right = (answer.result, c.put_single.ensures.0, c.put_single.ensures.1, answer.ensures.right);
    }
