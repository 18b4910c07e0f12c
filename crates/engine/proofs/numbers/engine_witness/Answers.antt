-- `engine::numbers::engine_witness` meets its contract: it is `witness`, with the answer as numbers; that answer meets the promise.
-- Assumes nothing.
use mathlib.Core.Path.{ap, ◌∙◌}
use Rattle.block_writer.specs.Written.{Filled}
use Rattle.numbering.specs.Numbers.{count_number, count_told}
use Rattle.engine.proofs.numbers.engine_witness.Goals as goal

pub returns : goal.returns
returns c =
    let answer = c.witness in
    let e = answer.ensures.equals in record {
      equals = (
        c.put_count.ensures.0 ∙ ap (λ (o : Filled). count_number o.answer) e,
        c.put_count.ensures.1 ∙ ap (λ (o : Filled). count_told o.answer) e,
        ap (λ (o : Filled). o.out) e,
      );
      right = (answer.result, c.put_count.ensures.0, c.put_count.ensures.1, answer.ensures.right);
    }
