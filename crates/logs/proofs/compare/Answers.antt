-- `logs::compare` meets its contract: the part and the numbers of one answer. What it means is then a law of the definition.
-- Assumes nothing.
use Rattle.logs.proofs.Right.{answered}
use Rattle.logs.proofs.compare.Goals as goal

pub returns : goal.returns
returns c =
    let both = answered _ _ _ _ _ c.count-compared.ensures c.part.ensures.equals c.numbers.ensures in
    record { itself = c.part.ensures.itself; equals = both.0; right = both.1 }
