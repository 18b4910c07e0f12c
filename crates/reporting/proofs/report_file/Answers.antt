-- `reporting::report_file` meets its contract: by what reading says.
-- Assumes nothing.
-- the file reads, and its automaton is ready
use Rattle.std.proofs.Common.{Ok}
use mathlib.Core.Path.{◌≡◌, refl, sym, ◌∙◌}
use Rattle.blocks.specs.Blocks.{content}
use Rattle.automaton.specs.File.{WithinLimits, parsed}
use Rattle.transitions.specs.Transitions.{automaton_of}
use Rattle.overloops.specs.Ready.{Ready}
use Rattle.overloops.proofs.Laws.{prepared-ready}
use Rattle.reporting.proofs.Laws.{reported-refused, reported-read}
use Rattle.reporting.proofs.report_file.Goals as goal

pub print_head-first-requires : goal.print_head-first-requires
print_head-first-requires c =
    let ready : let h = c.in-Ok.header in
    WithinLimits h
    × Ready (automaton_of h (content c.args.file.now)) h c.prepare.new.table c.prepare.new.leaves = prepared-ready _ _ _ _ _ _ _ c.in-Ok.is c.prepare.ensures.1 in
    (ready).0

pub tally_files-tally-requires : goal.tally_files-tally-requires
tally_files-tally-requires c =
    let ready : let h = c.in-Ok.header in
    WithinLimits h
    × Ready (automaton_of h (content c.args.file.now)) h c.prepare.new.table c.prepare.new.leaves = prepared-ready _ _ _ _ _ _ _ c.in-Ok.is c.prepare.ensures.1 in
    (ready).0

pub returns-in-Err : goal.returns-in-Err
returns-in-Err c = reported-refused _ _ _ _ (sym c.prepare.ensures.0 ∙ c.in-Err.is) c.print_refused.ensures

pub returns-in-Ok : goal.returns-in-Ok
returns-in-Ok c =
    let read_is : parsed c.args.file.now ≡ Ok c.in-Ok.header = sym c.prepare.ensures.0 ∙ c.in-Ok.is in
    let ready : let h = c.in-Ok.header in
    WithinLimits h
    × Ready (automaton_of h (content c.args.file.now)) h c.prepare.new.table c.prepare.new.leaves = prepared-ready _ _ _ _ _ _ _ c.in-Ok.is c.prepare.ensures.1 in
    let told = c in
    reported-read _ _ _ _ _ _ _ (read_is) (c.tally_files-tally.ensures _ (ready).1.headed) (c.print_head-first.ensures _ (ready).1) c.print_tally-last.ensures refl
