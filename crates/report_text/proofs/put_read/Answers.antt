-- `report_text::put_read` meets its contract: what is told by the tables of an automaton is told of it.
-- Assumes nothing.
use borrow.Author.Rules.{rules}
use Rattle.text.proofs.Laws.{told-as}
use Rattle.report_text.proofs.Laws.{head-is, single-is}
use Rattle.report_text.proofs.put_read.Goals as goal

pub returns : goal.returns
returns c =
    let told = c.put_head.ensures in (
      λ p ready.
          told-as told.0 (head-is _ p _ _ _ _ _ (single-is _ p _ _ _ ready c.single_prepared-single.ensures) (c.quick_prepared-quick.ensures _ ready) (search rules) (c.survey_prepared-survey.ensures _ ready)),
      told.1,
    )
