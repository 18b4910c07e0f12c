-- `grammar::read_tag` meets its contract.
-- Assumes nothing.
use Rattle.std.proofs.lemmas.Result.{err_from_is_err_and}
use Rattle.std.proofs.Common.{Ok, Err}
use native.Mathlib.Omega.{arith}
use native.Mathlib.Nat.{pos_of_ne-zero}
use mathlib.Core.Path.{sym, ◌∙◌}
use Rattle.grammar.proofs.Deep.{opened-read, closed-read, closes-nothing}
use Rattle.grammar.proofs.CloseTags.{slash-at}
use Rattle.grammar.proofs.read_tag.Goals as goal

pub returns-in_err-number : goal.returns-in_err-number
returns-in_err-number c =
    let p = err_from_is_err_and c.from_residual.result c.from_residual.ensures.1 in
    rw (p.1, p.2) (opened-read _ _ c.args.numbers.now c.args.depth (Err c.in_err-number.field-0.0) c.in_err-number.ensures)

pub returns-then-class_at-ne-SLASH : goal.returns-then-class_at-ne-SLASH
returns-then-class_at-ne-SLASH c = opened-read _ _ c.args.numbers.now c.args.depth (Ok _) c.in_ok-number.ensures

pub returns-then-depth-eq0 : goal.returns-then-depth-eq0
returns-then-depth-eq0 c =
    closes-nothing _ _ _ _ (slash-at _ _ c.requires.at_in_bounds.1 (sym c.class_at.ensures ∙ c.if-class_at-ne-SLASH.false)) c.if-depth-eq0.true

pub close_tag-requires : goal.close_tag-requires
close_tag-requires c =
    let q = c.requires.at_in_bounds in
    let p = pos_of_ne-zero c.if-depth-eq0.false in
    (omega (arith, q.0), (λ l. slash-at _ _ q.1 (sym c.class_at.ensures ∙ c.if-class_at-ne-SLASH.false)), q.2.small _ (omega arith))

pub returns-in_err-after : goal.returns-in_err-after
returns-in_err-after c =
    let p = err_from_is_err_and c.from_residual-in_err-after.result c.from_residual-in_err-after.ensures.1 in
    rw (p.1, p.2) (closed-read _ _ c.args.numbers.now c.args.depth (Err c.in_err-after.field-0.0) c.if-depth-eq0.false c.in_err-after.ensures)

pub returns : goal.returns
returns c = closed-read _ _ _ _ (Ok _) c.if-depth-eq0.false c.in_ok-after.ensures
