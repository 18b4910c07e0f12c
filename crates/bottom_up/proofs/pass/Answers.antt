-- `bottom_up::pass` meets its contract. The invariant: the stack tells of the trees that the list writes from a node on, and the sum is small.
-- Assumes nothing.
use Rattle.std.proofs.Common.{None}
use borrow.Author.Rules.{rules}
use Rattle.relation.proofs.Pairs.{zeros}
use Prim.Native.Nat.{◌+◌}
use native.Mathlib.Omega.{arith}
use mathlib.Core.Path.{◌≡◌, refl, sym, ◌∙◌}
use Rattle.nodes.proofs.Reached.{symbol-here}
use Rattle.passes.proofs.Laws.{from}
use Rattle.bottom_up.proofs.Ending.{begun, whole, passed-more}
use Rattle.bottom_up.proofs.pass.Goals as goal

pub loop-at-init : goal.loop-at-init
loop-at-init c = (search rules, search rules, omega arith, λ A k h. begun A _ _ _ _ c.args.symbols.now refl (zeros 32) h)

pub returns-in_err-symbol : goal.returns-in_err-symbol
returns-in_err-symbol c =
    let none : c.from_residual.result ≡ None = grind arith in
    rw none (λ A k h. ((c.loop-at.invariant.3 A k h).cached, tt), tt)

pub loop-at-preserved : goal.loop-at-preserved
loop-at-preserved c =
    let v = c.loop-at.invariant in
    let on = c.in_ok-next.was in
    let few = rw on at c.node_step.ensures.1 in
    let here = symbol-here _ _ _ (sym c.in_ok-symbol.was ∙ c.read_at.ensures) in (
      omega (arith, c.loop-at-test.true),
      omega (arith, v.1),
      omega (arith, few, v.2, v.1, c.loop-at-test.true),
      λ A k h. rw (from _ _ v.0 v.1, ← here.1) (rw on at (c.node_step.ensures.0 A _ k (v.3 A k h))),
    )

pub returns-in_err-next : goal.returns-in_err-next
returns-in_err-next c =
    let none : c.from_residual-in_err-next.result ≡ None = grind arith in
    rw none (λ A k h. (rw c.in_err-next.was at (c.node_step.ensures.0 A _ k (c.loop-at.invariant.3 A k h)), tt), tt)

pub returns : goal.returns
returns c =
    let v = c.loop-at.invariant in
    let one : c.loop-at.at ≡ 1 = omega (arith, v.0, c.loop-at-test.false) in (
      λ A k h.
          let read = v.3 A k h in
          (read.cached, rw (whole c.args.symbols.now c.loop-at.at one c.requires.0) at (c.ended.ensures.0 A _ _ _ _ read)),
      passed-more (c.loop-at.growth + 2047) 8388608 c.ended.result (omega (arith, v.2, c.requires.1)) c.ended.ensures.1,
    )
