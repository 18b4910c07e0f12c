-- `watch::follow::follow` meets its contract. The invariant: what is left of the walk, with the log as it is, gives the whole walk.
-- Assumes nothing.
use native.Mathlib.Omega.{arith}
use Rattle.watch.proofs.Going.{going-begins, step-asks, entry-asks, told-passed, told-stuck, told-circling, told-spent, told-on}
use Rattle.watch.proofs.follow.follow.Goals as goal

pub loop-at-init : goal.loop-at-init
loop-at-init c = λ w. going-begins _ _ _ _ _ w.starts

pub put_entry-requires : goal.put_entry-requires
put_entry-requires c = let q = c.requires in entry-asks q.0 _ (c.loop-at.invariant q.0) q.2

pub shape_of-log-then-is_passing : goal.shape_of-log-then-is_passing
shape_of-log-then-is_passing c = omega (arith, (c.loop-at.invariant c.requires.0).sized)

pub returns-then-is_passing : goal.returns-then-is_passing
returns-then-is_passing c = λ w. told-passed w _ (c.loop-at.invariant w) c.requires.2 c.put_entry.ensures _ c.is_passing.ensures c.if-is_passing.true

pub step-requires : goal.step-requires
step-requires c = let q = c.requires in step-asks q.0 _ (c.loop-at.invariant q.0)

pub shape_of-log-in_default : goal.shape_of-log-in_default
shape_of-log-in_default c = omega (arith, (c.loop-at.invariant c.requires.0).sized)

pub returns-in_default : goal.returns-in_default
returns-in_default c = λ w. told-stuck w _ (c.loop-at.invariant w) c.requires.2 c.put_entry.ensures _ c.is_passing.ensures c.if-is_passing.false _ c.step.ensures c.in_default.is

pub shape_of-log-then-made-most : goal.shape_of-log-then-made-most
shape_of-log-then-made-most c = omega (arith, (c.loop-at.invariant c.requires.0).sized)

pub returns-then-made-most : goal.returns-then-made-most
returns-then-made-most c = λ w. told-circling w _ (c.loop-at.invariant w) c.requires.2 c.put_entry.ensures _ c.is_passing.ensures c.if-is_passing.false _ c.step.ensures _ c.in-Some.is c.if-made-most.true

pub shape_of-log-then-made-budget : goal.shape_of-log-then-made-budget
shape_of-log-then-made-budget c = omega (arith, (c.loop-at.invariant c.requires.0).sized)

pub returns-then-made-budget : goal.returns-then-made-budget
returns-then-made-budget c = λ w. told-spent w _ (c.loop-at.invariant w) c.requires.2 c.put_entry.ensures _ c.is_passing.ensures c.if-is_passing.false _ c.step.ensures _ c.in-Some.is c.if-made-most.false c.if-made-budget.true

pub overflow_add-made : goal.overflow_add-made
overflow_add-made c = let q = c.requires in omega (arith, (c.loop-at.invariant q.0).within, q.1)

pub loop-at-smaller : goal.loop-at-smaller
loop-at-smaller c = let q = c.requires in omega (arith, (c.loop-at.invariant q.0).within, c.if-made-budget.false)

pub loop-at-preserved : goal.loop-at-preserved
loop-at-preserved c = λ w. told-on w _ (c.loop-at.invariant w) c.requires.2 c.put_entry.ensures _ c.is_passing.ensures c.if-is_passing.false _ c.step.ensures _ c.in-Some.is c.if-made-most.false c.if-made-budget.false
