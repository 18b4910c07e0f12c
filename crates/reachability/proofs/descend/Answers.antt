-- `reachability::descend` meets its contract: a leaf has no parts, and a branch has two.
-- Assumes nothing.
use borrow.Author.Tests.{ne_eqb}
use Prim.Native.Nat.{◌+◌}
use native.Mathlib.Omega.{arith}
use mathlib.Core.Path.{refl, sym}
use mathlib.Core.List.{[]}
use lib.ListN.{get_or}
use Rattle.model.specs.declared.Side.TheVariants.{Left, Right}
use Rattle.model.specs.declared.Move.TheVariants.{Down}
use Rattle.steps.proofs.Leading.{no_part}
use Rattle.reachability.proofs.Growing.{spread-then, sent-nowhere, sent-to}
use Rattle.reachability.proofs.descend.Goals as goal

pub overflow_cast-part : goal.overflow_cast-part
overflow_cast-part c = omega (arith, c.shared_slice_known-2-1.given c.args.node)

pub returns-then-part-eq0 : goal.returns-then-part-eq0
returns-then-part-eq0 c =
    let a = c.args in
    let Q = a.rights.now in
    let v = a.node in
    let leaf = c.if-part-eq0.true in (
      omega arith,
      spread-then (sent-nowhere a.nodes [] Q v (Down Left) a.next.left (λ j q. sym (no_part [] Q v j Left q leaf)))
          (sent-nowhere a.nodes [] Q v (Down Right) a.next.right (λ j q. sym (no_part [] Q v j Right q leaf))),
    )

pub returns : goal.returns
returns c =
    let second = c in
    let first = second in
    let a = first.args in
    let Q = a.rights.now in
    let v = a.node in
    let part = first.if-part-eq0.false in (
      omega (arith, second.add.ensures.0, second.waiting-1.given),
      spread-then
          (sent-to a.nodes [] Q v (Down Left) a.next.left (v + 1) (λ j q. rw (ne_eqb (get_or Q v 0) 0 part) refl) first.add-height.ensures.1)
          (sent-to a.nodes [] Q v (Down Right) a.next.right (get_or Q v 0) (λ j q. rw (ne_eqb (get_or Q v 0) 0 part) refl) second.add.ensures.1),
    )
