-- `reporting::move_front` meets its contract. The invariant: the first i bytes have been moved.
-- Assumes nothing.
use Prim.Native.Nat.{◌-◌}
use mathlib.Core.Path.{◌≡◌, refl}
use native.Mathlib.Omega.{arith}
use Rattle.reporting.proofs.Moving.{begun, onward, all_moved}
use Rattle.reporting.proofs.move_front.Goals as goal

pub loop-i-init : goal.loop-i-init
loop-i-init c = begun c.args.from c.args.buffer.now

pub bounds-buffer-from : goal.bounds-buffer-from
bounds-buffer-from c = let m = c.loop-i.invariant.size in omega (arith, m, c.loop-i-test.true, c.requires)

pub bounds-buffer-i : goal.bounds-buffer-i
bounds-buffer-i c = let m = c.loop-i.invariant.size in omega (arith, m, c.loop-i-test.true, c.requires)

pub loop-i-preserved : goal.loop-i-preserved
loop-i-preserved c =
    let k = c.args in
    let l = c.loop-i in
    onward k.from k.buffer.now l.i l.buffer (omega (arith, c.loop-i-test.true, c.requires)) l.invariant

pub shape_of-buffer : goal.shape_of-buffer
shape_of-buffer c = c.loop-i.invariant.size

pub returns : goal.returns
returns c =
    let k = c.args in
    let l = c.loop-i in
    let all : l.i ≡ k.to - k.from = omega (arith, c.loop-i-test.false, l.auto.i-end) in
    (refl, l.invariant.size, rw (← all) (all_moved k.from k.to k.buffer.now l.i l.buffer c.requires.0 c.requires.1 all l.invariant))
