-- `grammar::read_deep` meets its contract.
-- Assumes nothing.
-- the opening tag, and the closing tag, that was read
use Prim.Native.Nat.{◌-◌}
use lib.ListN.{length}
use Rattle.grammar.specs.Reading.{Reached}
use Rattle.grammar.proofs.read_deep.Given as goal

abbrev pub invariant-loop-numbers : goal.invariant-loop-numbers
invariant-loop-numbers l = Reached l.text l.next l.numbers l.depth l.count l.nodes

abbrev pub decreases-loop-numbers : goal.decreases-loop-numbers
decreases-loop-numbers l = length l.text - l.next
