-- `grammar::element` and `grammar::run`, which call each other: what each loop keeps, and what each call makes smaller.
-- Assumes nothing.
use Rattle.std.proofs.Common.{◌+◌, ◌-◌, ◌*◌, length}
use Rattle.grammar.specs.Reading.{PartRead, Filled}
use Rattle.grammar.proofs.+element_run.Given as goal

abbrev pub decreases-element : goal.decreases-element
decreases-element l = 2 * (length l.text.now - l.at)

abbrev pub decreases-run : goal.decreases-run
decreases-run l = 2 * (length l.text.now - l.at) + 1

abbrev pub invariant-run-loop-at : goal.invariant-run-loop-at
invariant-run-loop-at l = PartRead l.text l.at l.next × Filled l.text l.next l.count l.nodes

abbrev pub decreases-run-loop-at : goal.decreases-run-loop-at
decreases-run-loop-at l = length l.text - l.next
