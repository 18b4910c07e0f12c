-- `canonical::with_rules` meets its contract: the counts and the sets are the header's own.
-- Assumes nothing.
use mathlib.Core.Path.{refl}
use Rattle.canonical.proofs.with_rules.Goals as goal

pub returns : goal.returns
returns c = refl
