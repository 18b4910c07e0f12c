-- Refusal 23 of two logs. The quotation is of document 02, W8.
-- Interface: `logs_check`.
use Rattle.std.specs.Prelude.{ℕ, ◌%◌, not, List, eqb, length}
use Rattle.refusal.specs.Checks.{refuse_if, ◌and_then◌, Check}
use Rattle.refusal.specs.declared.Fault.{Fault}

-- "23 .. a log's length is no multiple of three, place 0 for the first log and 1 for the second, the first looked at first"
unfoldable pub logs_check : (a b : List ℕ) → Check
logs_check a b = refuse_if (not (eqb (length a % 3) 0)) Fault.Log 2 0 and_then refuse_if (not (eqb (length b % 3) 0)) Fault.Log 2 1
