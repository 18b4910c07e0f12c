-- What was put ends within the text.
use Rattle.std.proofs.Common.{◌≤◌, length}
use Rattle.markup_cases.proofs.read_text.Given as goal

abbrev pub invariant-loop : goal.invariant-loop
invariant-loop l = l.end ≤ length l.text
