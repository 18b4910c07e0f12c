-- `report_text::report_bytes` meets its contract: by what reading says.
-- Assumes nothing.
-- the file reads, and its automaton is ready
use Rattle.std.proofs.Common.{Ok}
use borrow.Author.Rules.{rules}
use mathlib.Core.Path.{◌≡◌, sym, ◌∙◌}
use Rattle.blocks.specs.Blocks.{content}
use Rattle.automaton.specs.File.{WithinLimits, parsed}
use Rattle.transitions.specs.Transitions.{automaton_of}
use Rattle.overloops.specs.Ready.{Ready}
use Rattle.overloops.proofs.Laws.{prepared-ready}
use Rattle.text.proofs.Laws.{then, told-as}
use Rattle.report_text.proofs.Laws.{report-refused, report-read}
use Rattle.report_text.proofs.report_bytes.Goals as goal

pub tally_all-tally-requires : goal.tally_all-tally-requires
tally_all-tally-requires c =
    let ready : let h = c.in-Ok.header in
    WithinLimits h
    × Ready (automaton_of h (content c.args.automaton.now)) h c.prepare.new.table c.prepare.new.leaves = prepared-ready _ _ _ _ _ _ _ c.in-Ok.is c.prepare.ensures.1 in
    (ready).0

pub put_read-end-requires : goal.put_read-end-requires
put_read-end-requires c =
    let ready : let h = c.in-Ok.header in
    WithinLimits h
    × Ready (automaton_of h (content c.args.automaton.now)) h c.prepare.new.table c.prepare.new.leaves = prepared-ready _ _ _ _ _ _ _ c.in-Ok.is c.prepare.ensures.1 in
    (search rules, (ready).0)

pub returns-in-Err : goal.returns-in-Err
returns-in-Err c = told-as c.put_refused.ensures.0 (report-refused _ _ _ (sym c.prepare.ensures.0 ∙ c.in-Err.is))

pub returns-in-Ok : goal.returns-in-Ok
returns-in-Ok c =
    let read_is : parsed c.args.automaton.now ≡ Ok c.in-Ok.header = sym c.prepare.ensures.0 ∙ c.in-Ok.is in
    let ready : let h = c.in-Ok.header in
    WithinLimits h
    × Ready (automaton_of h (content c.args.automaton.now)) h c.prepare.new.table c.prepare.new.leaves = prepared-ready _ _ _ _ _ _ _ c.in-Ok.is c.prepare.ensures.1 in
    let told = c in
    let head = c.put_read-end.ensures.0 _ (ready).1 in
    told-as (then head c.put_tally.ensures.0) (report-read _ _ (read_is) _ _ (c.tally_all-tally.ensures _ (ready).1.headed))
