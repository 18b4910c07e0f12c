-- `reporting::move_front` meets its contract. The invariant: the first i bytes have been moved.
-- Assumes nothing.
use Rattle.reporting.proofs.Moving.{Moved}
use Rattle.reporting.proofs.move_front.Given as goal

abbrev pub invariant-loop-i : goal.invariant-loop-i
invariant-loop-i l = Moved l.from l.initial.buffer l.i l.buffer
