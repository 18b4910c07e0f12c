-- `engine::numbers::engine_tally` meets its contract: it is `tally`, with the tally and the answer as numbers.
-- Assumes nothing.
use mathlib.Core.Path.{ap, ◌∙◌}
use Rattle.tally.specs.declared.Tallied.{Tallied}
use Rattle.numbering.specs.Numbers.{tally_numbers, check_number, check_told}
use Rattle.engine.proofs.numbers.engine_tally.Goals as goal

pub returns : goal.returns
returns c =
    let e = c.tally-tallied.ensures in (
      c.put_check.ensures.0 ∙ ap (λ (r : Tallied). check_number r.check) e,
      c.put_check.ensures.1 ∙ ap (λ (r : Tallied). check_told r.check) e,
      c.put_tally.ensures ∙ ap (λ (r : Tallied). tally_numbers r.tally) e,
    )
