-- `interchange::is_double` meets its contract: what the mark says.
-- Assumes nothing.
use Prim.Native.Nat.{ℕ, ◌+◌, ◌*◌}
use mathlib.Core.Path.{sym, ap, ◌∙◌}
use lib.ListN.{get_or}
use Rattle.relation.specs.Bit.{bit}
use Rattle.relation.specs.Sets.{member_has}
use Rattle.interchange.proofs.is_double.Goals as goal

pub returns : goal.returns
returns c =
    λ e A class n marked l.
    marked c.args.row.0 c.args.side l c.args.symbol.0
    (ap (λ (k : ℕ). bit (get_or c.args.doubles.now (c.args.row.0 * 2 + k) 0) c.args.symbol.0) (sym c.side_number.ensures.0)
    ∙ (member_has _ _).0 (sym c.contains.ensures ∙ e))
