-- `plans::symbol_of` ends, after 32 symbols at most.
-- Assumes nothing.
use Prim.Native.Nat.{◌≤◌}
use Rattle.plans.proofs.symbol_of.Given as goal

abbrev pub invariant-loop-symbol : goal.invariant-loop-symbol
invariant-loop-symbol l = l.symbol ≤ 32
