-- `engine::numbers::engine_count` meets its contract: it is `count_held`, with the tally and the answer as numbers.
-- Assumes nothing.
use mathlib.Core.Path.{ap, ◌∙◌}
use Rattle.tally.specs.Tally.{counted_up}
use Rattle.tally.specs.declared.Tallied.{Tallied}
use Rattle.numbering.specs.Numbers.{tally_of, tally_numbers, check_number, check_told}
use Rattle.engine.proofs.numbers.engine_count.Goals as goal

pub returns : goal.returns
returns c =
    let start = c in
    let e = c.count_held-counted.ensures
    ∙ ap (counted_up (tally_of start.args.tally.now)) c.outcome_of.ensures in (
      c.put_check.ensures.0 ∙ ap (λ (r : Tallied). check_number r.check) e,
      c.put_check.ensures.1 ∙ ap (λ (r : Tallied). check_told r.check) e,
      c.put_tally.ensures ∙ ap (λ (r : Tallied). tally_numbers r.tally) e,
    )
