-- `emptiness::file::survey_prepared` meets its contract: a short buffer is told, and any other is answered by the automaton's saturation.
-- Assumes nothing.
use mathlib.Core.Path.{sym, ◌∙◌}
use Rattle.refusal.proofs.Cases.{handed_on}
use Rattle.emptiness.proofs.Planning.{long-enough, survey-short, survey-long}
use Rattle.emptiness.proofs.file.survey_prepared.Goals as goal

pub returns-in_err-buffer_check : goal.returns-in_err-buffer_check
returns-in_err-buffer_check c A k =
    rw (handed_on _ _ c.from_residual.ensures.1) (survey-short A _ _ (sym c.buffer_check.ensures ∙ c.in_err-buffer_check.was))

pub survey_read-requires : goal.survey_read-requires
survey_read-requires c = (c.requires, long-enough _ (sym c.buffer_check.ensures ∙ c.in_ok-buffer_check.was))

pub returns : goal.returns
returns c A k =
    let r = c.survey_read.ensures A k in
    survey-long A _ _ _ (sym c.buffer_check.ensures ∙ c.in_ok-buffer_check.was) r.0 r.1
