-- `grammar::element` and `grammar::run`, which call each other, meet their contracts.
-- Assumes nothing.
use Rattle.std.proofs.lemmas.Result.{err_from_is_err_and}
use Rattle.std.proofs.Common.{arith, sym, ◌+◌, ◌∙◌, set, Ok, Err}
use Rattle.grammar.proofs.Parts.{element-read, element-unread, run-unread, elements-on, close_at, less-at, elements-stuck}
use Rattle.grammar.proofs.Filling.{tag-filled, on-filled}
use Rattle.grammar.proofs.+element_run.Goals as goal

pub element-run-requires : goal.element-run-requires
element-run-requires t c =
    let n = c.in_ok-number.ensures in
    let q = c.requires.opens in (
      omega (arith, n.from, n.to, c.decreases, q.0),
      (n.to, (c.requires.table, tag-filled _ c.requires.filled (omega (arith, q.0)) n.from n.nodes)),
    )

pub element-returns-in_err-number : goal.element-returns-in_err-number
element-returns-in_err-number t c =
    let p = err_from_is_err_and c.from_residual.result c.from_residual.ensures.1 in
    rw (p.1, p.2) c.in_err-number.ensures

pub element-returns-in_err-end : goal.element-returns-in_err-end
element-returns-in_err-end t c =
    let p = err_from_is_err_and c.from_residual-in_err-end.result c.from_residual-in_err-end.ensures.1 in
    rw (p.1, p.2) (element-unread _ _ _ _ c.run.new.count c.run.new.nodes c.in_err-end.field-0.0 c.in_ok-number.ensures c.in_err-end.ensures)

pub element-returns-in_err-after : goal.element-returns-in_err-after
element-returns-in_err-after t c =
    let p = err_from_is_err_and c.from_residual-in_err-after.result c.from_residual-in_err-after.ensures.1 in
    let r = c.in_ok-end.ensures in
    rw (p.1, p.2)
    (element-read _ _ _ _ _ (c.run.new.count + 1) (set c.run.new.nodes c.run.new.count 0) (Err c.in_err-after.field-0.0) c.in_ok-number.ensures r.0 c.in_err-after.ensures (λ k e. cc))

pub element-returns : goal.element-returns
element-returns t c =
    let r = c.in_ok-end.ensures in
    element-read _ _ _ _ _ _ _ (Ok _) c.in_ok-number.ensures r.0 c.in_ok-after.ensures
    (λ k e. let m = rw (c.in_ok-after.was ∙ e) at c.close_tag.ensures in tag-filled 0 r.1 r.0.passed.to m.from m.nodes)

pub run-returns-then-class_at-eq-SLASH : goal.run-returns-then-class_at-eq-SLASH
run-returns-then-class_at-eq-SLASH t c =
    let l = c.loop-at in (
      record {
        passed = l.invariant.0.passed;
        ends = λ h. close_at _ l.next (sym c.class_at.ensures ∙ c.loop-at-test.true) (sym c.class_at-in-loop-at.ensures ∙ c.if-class_at-eq-SLASH.true);
      },
      l.invariant.1,
    )

pub run-element-requires : goal.run-element-requires
run-element-requires t c =
    let l = c.loop-at in
    let p = l.invariant.0.passed in
    let k = less-at _ l.next (sym c.class_at.ensures ∙ c.loop-at-test.true) in (
      omega (arith, p.from, p.to, c.decreases),
      ((k.0, k.1, λ e. c.if-class_at-eq-SLASH.false (c.class_at-in-loop-at.ensures ∙ e)), (c.requires.table, l.invariant.1)),
    )

pub run-returns-in_err-after : goal.run-returns-in_err-after
run-returns-in_err-after t c =
    let p = err_from_is_err_and c.from_residual.result c.from_residual.ensures.1 in
    rw (p.1, p.2) (run-unread _ _ _ c.element.new.count c.element.new.nodes c.in_err-after.field-0.0 c.loop-at.invariant.0 c.in_err-after.ensures)

pub run-loop-at-preserved : goal.run-loop-at-preserved
run-loop-at-preserved t c =
    let e = c.in_ok-after.ensures in
    let k = c.skip-next-in-loop-at.ensures in
    (elements-on c.loop-at.invariant.0 e.0 k, on-filled e.2 k.from k.nodes)

pub run-returns-else-next-text : goal.run-returns-else-next-text
run-returns-else-next-text t c =
    elements-stuck c.loop-at.invariant.0 (λ e. c.loop-at-test.false (c.class_at.ensures ∙ e)) c.if-next-text.false
