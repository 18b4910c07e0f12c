-- `emptiness::file::survey` meets its contract: a refused file is told, and any other answered by its automaton. Demand 3 is then a law of the
-- definition.
-- Assumes nothing.
use Prim.Native.Nat.{ℕ}
use mathlib.Core.Path.{◌≡◌, sym, ◌∙◌}
use mathlib.Core.List.{List}
use Rattle.refusal.proofs.Cases.{handed_on}
use Rattle.overloops.proofs.Laws.{prepared-ready}
use Rattle.emptiness.specs.Surveyed.{Answered, answered, surveyed}
use Rattle.emptiness.specs.Demand3.{Demand3}
use Rattle.emptiness.proofs.Proved.{surveyed-right}
use Rattle.emptiness.proofs.file.survey.Goals as goal

-- what is equal to the definition's answer and buffer meets demand 3
meets : (w before : List ℕ) (o : Answered) → o ≡ surveyed w before → Demand3 w before o
meets w before o e = rw e (surveyed-right w before)

pub survey_prepared-requires : goal.survey_prepared-requires
survey_prepared-requires c =
    (prepared-ready _ _ _ _ _ _ _ c.in_ok-header.was c.prepare.ensures.1).0

pub returns-in_err-header : goal.returns-in_err-header
unfolding surveyed
returns-in_err-header c =
    let e : answered c.from_residual.result c.args.plan.now ≡ surveyed c.args.file.now c.args.plan.now =
    rw (handed_on _ _ c.from_residual.ensures.1, sym c.prepare.ensures.0 ∙ c.in_err-header.was) in
    record { equals = e; right = meets c.args.file.now c.args.plan.now _ e }

pub returns : goal.returns
unfolding surveyed
returns c =
    let ready = prepared-ready _ _ _ _ _ _ _ c.in_ok-header.was c.prepare.ensures.1 in
    let e : answered c.survey_prepared.result c.survey_prepared.new.plan ≡ surveyed c.args.file.now c.args.plan.now = rw (sym c.prepare.ensures.0 ∙ c.in_ok-header.was) (c.survey_prepared.ensures _ ready.1) in
    record { equals = e; right = meets c.args.file.now c.args.plan.now _ e }
