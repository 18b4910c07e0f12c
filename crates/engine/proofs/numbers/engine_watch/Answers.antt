-- `engine::numbers::engine_watch` meets its contract: it is `watch`, with the answer as numbers; that answer meets the promise.
-- Assumes nothing.
use mathlib.Core.Path.{ap, ◌∙◌}
use Rattle.watch.specs.Watch.{Outcome}
use Rattle.numbering.specs.Numbers.{watch_number, watch_told}
use Rattle.engine.proofs.numbers.engine_watch.Goals as goal

pub returns : goal.returns
returns c =
    let answer = c.watch in
    let e = answer.ensures.equals in record {
      equals = (
        c.put_watched.ensures.0 ∙ ap (λ (o : Outcome). watch_number o.answer) e,
        c.put_watched.ensures.1 ∙ ap (λ (o : Outcome). watch_told o.answer) e,
        ap (λ (o : Outcome). o.log) e,
      );
      right = (answer.result, c.put_watched.ensures.0, c.put_watched.ensures.1, answer.ensures.right);
    }
