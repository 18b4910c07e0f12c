-- `automaton_writer::write_payload` meets its contract.
-- Assumes nothing.
use borrow.Author.Rules.{rules}
use native.Mathlib.Omega.{arith}
use Prim.Native.Nat.{◌+◌, ◌<◌}
use mathlib.Core.Path.{◌≡◌, refl, sym, ap}
use mathlib.Core.List.{◌++◌}
use lib.ListN.{length, drop, length-set}
use lib.Seq.{take_all}
use Rattle.blocks.proofs.Laws.{copied_more}
use Rattle.automaton.specs.Payload.{payload_of}
use Rattle.automaton_writer.proofs.Bytes.{payload-length}
use Rattle.automaton_writer.proofs.write_payload.Goals as goal

pub loop-i-init : goal.loop-i-init
loop-i-init c = (search rules, search rules, refl)

pub loop-i-preserved : goal.loop-i-preserved
loop-i-preserved c =
    let l = c.loop-i in
    let a = c.args in
    let n = payload-length a.header a.records.now in
    let here : l.i < 20 + length a.records.now = search rules in (
      search rules,
      simp length-set (search rules),
      rw (l.invariant.2, c.payload_byte.ensures)
          (copied_more (payload_of a.header a.records.now) a.payload.now l.i (omega (arith, n)) (search rules)),
    )

pub returns : goal.returns
returns c =
    let l = c.loop-i in
    let a = c.args in
    let n = payload-length a.header a.records.now in
    let e : 20 + length a.records.now ≡ l.i = search rules in
    (sym n, rw (l.invariant.2, e) (ap (λ x. x ++ drop l.i a.payload.now) (take_all l.i (payload_of a.header a.records.now) (omega (arith, n)))))
