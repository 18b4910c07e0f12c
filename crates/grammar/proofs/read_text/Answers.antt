-- `grammar::read_text` meets its contract.
-- Assumes nothing.
-- the run that was read
use Rattle.std.proofs.Common.{Some, None, Ok}
use borrow.Author.Rules.{rules}
use native.Mathlib.Omega.{arith}
use Prim.Native.Nat.{◌+◌}
use mathlib.Core.Path.{ap, ◌∙◌}
use lib.Arith.{lt_of_le-ne}
use Rattle.grammar.proofs.Decided.{told}
use Rattle.grammar.proofs.Filling.{filled-room, on-filled, nothing-filled, end-filled}
use Rattle.grammar.proofs.Whole.{spaces-wrong, text-right, text-closed, text-stuck}
use Rattle.grammar.proofs.read_text.Goals as goal

pub skip-first-requires : goal.skip-first-requires
skip-first-requires c = record { at_in_bounds = search rules; table = c.class_table-classes.ensures }

pub returns-then-first-text : goal.returns-then-first-text
returns-then-first-text c = (told _ (Some c.skip-first.result) _ (spaces-wrong c.if-first-text.true c.skip-first.ensures), tt)

pub run-requires : goal.run-requires
run-requires c =
    let k = c.skip-first.ensures in
    let q = c.requires in
    record { at_in_bounds = k.to; table = c.class_table-classes.ensures; filled = on-filled (nothing-filled _ _ q.0 q.1) k.from k.nodes }

pub read_deep-requires : goal.read_deep-requires
read_deep-requires c =
    let q = c.requires in
    let k = c.skip-first.ensures in
    record { text_len_bound = (q.0, c.run.array_long, k, lt_of_le-ne k.to c.if-first-text.false); table = c.class_table-classes.ensures }

pub overflow_add-result : goal.overflow_add-result
overflow_add-result c =
    let passed = c.in-Ok.ensures in
    let p = passed.0.passed in omega (arith, p.to)

pub returns-then-end-text : goal.returns-then-end-text
returns-then-end-text c =
    let passed = c.in-Ok.ensures in
    (told _ (Some (c.in-Ok.end + 1)) _ (text-closed c.skip-first.ensures passed.0 c.if-end-text.true), tt)

pub bounds-nodes-count : goal.bounds-nodes-count
bounds-nodes-count c =
    let passed = c.in-Ok.ensures in
    let p = passed in filled-room p.1 p.0.passed.to

pub overflow_add-result-in-Ok : goal.overflow_add-result-in-Ok
overflow_add-result-in-Ok c =
    let passed = c.in-Ok.ensures in
    let p = passed in let h = filled-room p.1 p.0.passed.to in omega arith

pub returns-in-Err-Wrong : goal.returns-in-Err-Wrong
returns-in-Err-Wrong c = (told _ (Some c.in-Err-Wrong.wrong.0) _ (text-stuck c.skip-first.ensures (rw c.in-Err-Wrong.field-0-is at c.in-Err-Wrong.ensures)), tt)

pub returns-else-end-text : goal.returns-else-end-text
returns-else-end-text c =
    let passed = c.in-Ok.ensures in
    let p = passed in
    let e = end-filled p.1 c.if-end-text.false in
    let t = text-right c.skip-first.ensures c.if-first-text.false p.0 c.if-end-text.false in
    (ap Ok e.0 ∙ told _ None _ t, e.1)
