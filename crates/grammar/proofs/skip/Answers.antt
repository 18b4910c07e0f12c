-- `grammar::skip` meets its contract.
-- Assumes nothing.
use borrow.Author.Rules.{rules}
use native.Mathlib.Omega.{arith}
use mathlib.Core.Path.{◌≡◌, refl, sym, ◌∙◌}
use lib.ListN.{length}
use Rattle.grammar.specs.Reading.{Skipped}
use Rattle.tags.proofs.Listed.{nodes-on}
use Rattle.tags.proofs.ClassLaws.{space-less}
use Rattle.grammar.specs.Pushdown.{here}
use Rattle.grammar.proofs.Going.{trans, space-go, one_more}
use Rattle.grammar.proofs.skip.Goals as goal

pub loop-next-init : goal.loop-next-init
loop-next-init c = (search rules, search rules, λ stack. here, λ i l h. absurd (omega arith), refl)

pub class_in-requires : goal.class_in-requires
class_in-requires c = c.requires.table

pub returns-then-class_in-ne-SPACE : goal.returns-then-class_in-ne-SPACE
returns-then-class_in-ne-SPACE c =
    let l = c.loop-next in
    record { from = l.invariant.0; to = l.invariant.1; goes = l.invariant.2; blank = l.invariant.3; nodes = l.invariant.4; ends = λ h e. c.if-class_in-ne-SPACE.true (c.class_in.ensures ∙ e) }

pub loop-next-preserved : goal.loop-next-preserved
loop-next-preserved c =
    let l = c.loop-next in (
      search rules,
      search rules,
      λ stack. trans (l.invariant.2 stack) (space-go _ l.next stack (search rules) (sym c.class_in.ensures ∙ c.if-class_in-ne-SPACE.false)),
      one_more c.args.text.now l.invariant.3 (sym c.class_in.ensures ∙ c.if-class_in-ne-SPACE.false),
      l.invariant.4 ∙ nodes-on c.args.text.now l.next _ refl (search rules) (space-less _ (sym c.class_in.ensures ∙ c.if-class_in-ne-SPACE.false)),
    )

pub returns : goal.returns
returns c =
    let l = c.loop-next in
    let end : l.next ≡ length c.args.text.now = omega (arith, l.invariant.1, c.loop-next-test.false) in
    let read : Skipped c.args.text.now c.args.at l.next =
    record { from = l.invariant.0; to = l.invariant.1; goes = l.invariant.2; blank = l.invariant.3; nodes = l.invariant.4; ends = λ h e. absurd (omega arith) } in
    rw (← end) read
