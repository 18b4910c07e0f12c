-- `logs::prefix::run_prefix` meets its contract. The invariant: the first k entries are a run, and what is left of the log gives the count.
-- Assumes nothing.
use native.Mathlib.Omega.{arith}
use Rattle.logs.proofs.Counting.{none-counted, not-begun, count-begins, step-asks, all-counted, count-ends, count-on}
use Rattle.logs.proofs.prefix.run_prefix.Goals as goal

pub returns-then-n-eq0 : goal.returns-then-n-eq0
returns-then-n-eq0 c = λ w. none-counted w _ c.if-n-eq0.true

pub returns-then-not-is_start : goal.returns-then-not-is_start
returns-then-not-is_start c = λ w. not-begun w _ c.if-n-eq0.false _ c.entry_at-last.ensures _ c.is_start.ensures (c.if-not-is_start.true)

pub loop-k-init : goal.loop-k-init
loop-k-init c = λ w. count-begins w _ c.if-n-eq0.false _ c.entry_at-last.ensures _ c.is_start.ensures (c.if-not-is_start.false)

pub entry_at-next-requires : goal.entry_at-next-requires
entry_at-next-requires c = let g = c.loop-k.invariant c.requires in omega (arith, g.whole, c.loop-k-test.true)

pub leads-requires : goal.leads-requires
leads-requires c = step-asks c.requires _ (c.loop-k.invariant c.requires)

pub returns-then-not-leads : goal.returns-then-not-leads
returns-then-not-leads c = λ w. count-ends w _ (c.loop-k.invariant w) c.loop-k-test.true _ c.entry_at-next.ensures _ c.leads.ensures (c.if-not-leads.true)

pub loop-k-preserved : goal.loop-k-preserved
loop-k-preserved c = λ w. count-on w _ (c.loop-k.invariant w) c.loop-k-test.true _ c.entry_at-next.ensures _ c.leads.ensures (c.if-not-leads.false)

pub returns : goal.returns
returns c = λ w. all-counted w _ (c.loop-k.invariant w) c.loop-k-test.false
