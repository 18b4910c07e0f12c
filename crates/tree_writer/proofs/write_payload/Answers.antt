-- `tree_writer::write_payload` meets its contract.
-- Assumes nothing.
use borrow.Author.Rules.{rules}
use native.Mathlib.Omega.{arith}
use Prim.Native.Nat.{◌+◌, ◌<◌}
use mathlib.Core.Path.{◌≡◌, refl, sym, ap}
use mathlib.Core.List.{◌++◌}
use lib.ListN.{length, drop, length-set}
use lib.Seq.{take_all}
use Rattle.blocks.proofs.Laws.{copied_more}
use Rattle.tree.specs.Payload.{payload_of}
use Rattle.tree_writer.proofs.Reading.{payload-length}
use Rattle.tree_writer.proofs.write_payload.Goals as goal

pub loop-i-init : goal.loop-i-init
loop-i-init c = (search rules, search rules, refl)

pub payload_byte-requires : goal.payload_byte-requires
payload_byte-requires c = (search rules, c.requires.0)

pub loop-i-preserved : goal.loop-i-preserved
loop-i-preserved c =
    let l = c.loop-i in
    let a = c.args in
    let n = payload-length a.nodes.now in
    let here : l.i < 4 + length a.nodes.now = search rules in (
      search rules,
      simp length-set (search rules),
      rw (l.invariant.2, c.payload_byte.ensures)
          (copied_more (payload_of a.nodes.now) a.payload.now l.i (omega (arith, n)) (search rules)),
    )

pub returns : goal.returns
returns c =
    let l = c.loop-i in
    let a = c.args in
    let n = payload-length a.nodes.now in
    let e : 4 + length a.nodes.now ≡ l.i = search rules in
    (sym n, rw (l.invariant.2, e) (ap (λ x. x ++ drop l.i a.payload.now) (take_all l.i (payload_of a.nodes.now) (omega (arith, n)))))
