-- `grammar::read_deep` meets its contract.
-- Assumes nothing.
-- the opening tag, and the closing tag, that was read
use Rattle.std.proofs.lemmas.Result.{err_from_is_err_and}
use Rattle.std.proofs.Common.{Some, None, Ok}
use native.Mathlib.Omega.{arith}
use native.Mathlib.Nat.{pos_of_ne-zero}
use mathlib.Core.Path.{◌≡◌, refl, sym, ap, ◌∙◌}
use lib.ListN.{length}
use Rattle.grammar.specs.Reading.{Named, Closes}
use Rattle.grammar.proofs.Decided.{told}
use Rattle.grammar.proofs.Filling.{end-filled}
use Rattle.grammar.proofs.Parts.{less-at}
use Rattle.grammar.proofs.Deep.{reached-first, count_room, reached-open, reached-close, reached-stuck, reached-other, reached-early, reached-right}
use Rattle.grammar.proofs.read_deep.Goals as goal

pub loop-numbers-init : goal.loop-numbers-init
loop-numbers-init c = let q = c.requires.text_len_bound in reached-first q.0 q.1 refl q.2

pub class_at-requires : goal.class_at-requires
class_at-requires c = c.requires.table

pub read_tag-requires : goal.read_tag-requires
read_tag-requires c =
    let l = c.loop-numbers in
    let k = less-at _ l.next (sym c.class_at.ensures ∙ c.loop-numbers-test.true) in
    record { at_in_bounds = (k.0, k.1, l.invariant.numbered); table = c.requires.table }

pub returns-in_err-step : goal.returns-in_err-step
returns-in_err-step c =
    let p = err_from_is_err_and c.from_residual.result c.from_residual.ensures.1 in
    rw (p.1, p.2) (told _ (Some c.in_err-step.field-0.0.0) _ (reached-stuck c.loop-numbers.invariant c.in_err-step.ensures), tt)

pub bounds-nodes-count : goal.bounds-nodes-count
bounds-nodes-count c = count_room c.loop-numbers.invariant

pub overflow_add-count : goal.overflow_add-count
overflow_add-count c = let h = count_room c.loop-numbers.invariant in omega arith

pub bounds-numbers-depth : goal.bounds-numbers-depth
bounds-numbers-depth c = let k = c.loop-numbers.invariant.numbered.deep in omega arith

pub overflow_add-depth : goal.overflow_add-depth
overflow_add-depth c = let k = c.loop-numbers.invariant.numbered.deep in omega arith

pub skip-next-requires : goal.skip-next-requires
skip-next-requires c =
    let named : Named c.args.text.now c.loop-numbers.next c.in-Opens.number c.in-Opens.inside = rw c.in-Opens.is at c.in_ok-step.ensures in
    record { at_in_bounds = named.to; table = c.requires.table }

pub loop-numbers-smaller-in-Opens : goal.loop-numbers-smaller-in-Opens
loop-numbers-smaller-in-Opens c =
    let named : Named c.args.text.now c.loop-numbers.next c.in-Opens.number c.in-Opens.inside = rw c.in-Opens.is at c.in_ok-step.ensures in
    let k = c.skip-next.ensures in
    omega (arith, named.from, named.to, k.from, k.to)

pub loop-numbers-preserved-in-Opens : goal.loop-numbers-preserved-in-Opens
loop-numbers-preserved-in-Opens c =
    let named : Named c.args.text.now c.loop-numbers.next c.in-Opens.number c.in-Opens.inside = rw c.in-Opens.is at c.in_ok-step.ensures in
    reached-open c.loop-numbers.invariant _ named c.skip-next.ensures

pub bounds-nodes-count-in-Closes : goal.bounds-nodes-count-in-Closes
bounds-nodes-count-in-Closes c = count_room c.loop-numbers.invariant

pub overflow_add-count-in-Closes : goal.overflow_add-count-in-Closes
overflow_add-count-in-Closes c = let h = count_room c.loop-numbers.invariant in omega arith

pub overflow_sub-depth : goal.overflow_sub-depth
overflow_sub-depth c =
    let l = c.loop-numbers in
    let closes : Closes c.args.text.now l.next l.numbers l.depth c.in-Closes.after = rw c.in-Closes.is at c.in_ok-step.ensures in
    pos_of_ne-zero closes.some

pub skip-next-requires-in-Closes : goal.skip-next-requires-in-Closes
skip-next-requires-in-Closes c =
    let l = c.loop-numbers in
    let closes : Closes c.args.text.now l.next l.numbers l.depth c.in-Closes.after = rw c.in-Closes.is at c.in_ok-step.ensures in
    record { at_in_bounds = closes.shut.to; table = c.requires.table }

pub loop-numbers-smaller : goal.loop-numbers-smaller
loop-numbers-smaller c =
    let l = c.loop-numbers in
    let closes : Closes c.args.text.now l.next l.numbers l.depth c.in-Closes.after = rw c.in-Closes.is at c.in_ok-step.ensures in
    let n = closes.shut in
    let k = c.skip-next-in-Closes.ensures in
    omega (arith, n.from, n.to, k.from, k.to)

pub loop-numbers-preserved : goal.loop-numbers-preserved
loop-numbers-preserved c =
    let l = c.loop-numbers in
    let closes : Closes c.args.text.now l.next l.numbers l.depth c.in-Closes.after = rw c.in-Closes.is at c.in_ok-step.ensures in
    reached-close l.invariant closes c.skip-next-in-Closes.ensures

pub returns-then-next-text : goal.returns-then-next-text
returns-then-next-text c =
    let l = c.loop-numbers in
    (told _ (Some l.next) _ (reached-other l.invariant c.if-next-text.true (λ e. c.loop-numbers-test.false (c.class_at.ensures ∙ e))), tt)

pub returns-then-depth-ne0 : goal.returns-then-depth-ne0
returns-then-depth-ne0 c =
    let l = c.loop-numbers in
    (told _ (Some l.next) _ (reached-early l.invariant (omega (arith, l.invariant.to, c.if-next-text.false)) c.if-depth-ne0.true), tt)

pub bounds-nodes-count-2 : goal.bounds-nodes-count-2
bounds-nodes-count-2 c = count_room c.loop-numbers.invariant

pub returns : goal.returns
returns c =
    let l = c.loop-numbers in
    let q = c.requires.text_len_bound in
    let end : l.next ≡ length c.args.text.now = omega (arith, l.invariant.to, c.if-next-text.false) in
    let f = end-filled l.invariant.filled end in
    (ap Ok f.0 ∙ told _ None _ (reached-right l.invariant q.2 q.3 end c.if-depth-ne0.false), f.1)
