-- `logs::prefix::run_prefix` meets its contract. The invariant: the first k entries are a run, and what is left of the log gives the count.
-- Assumes nothing.
use Rattle.logs.specs.Counting.{entry_of, Countable}
use Rattle.logs.proofs.Counting.{Counted}
use Rattle.logs.proofs.prefix.run_prefix.Given as goal

abbrev pub invariant-loop-k : goal.invariant-loop-k
invariant-loop-k l = (w : Countable l.initial' l.nodes l.table l.parents l.rights) → Counted w.automaton w.tree l.log l.n l.k (entry_of l.last)
