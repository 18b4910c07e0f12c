-- `batch::file::tally` meets its contract: by what reading says.
-- Assumes nothing.
-- the automaton's file reads
use Rattle.std.proofs.Common.{Ok}
use Prim.Native.Nat.{ℕ}
use mathlib.Core.Path.{◌≡◌, sym, ◌∙◌}
use mathlib.Core.List.{List}
use Rattle.blocks.specs.Blocks.{content}
use Rattle.automaton.specs.File.{parsed}
use Rattle.automaton.specs.declared.Header.{Header}
use Rattle.automaton.proofs.Passed.{file-limits}
use Rattle.transitions.specs.Transitions.{automaton_of}
use Rattle.transitions.proofs.Laws.{loaded-read}
use Rattle.overloops.specs.Ready.{Headed}
use Rattle.overloops.proofs.Laws.{file-headed}
use Rattle.batch.proofs.Laws.{tallied-refused, tallied-read}
use Rattle.batch.proofs.file.tally.Goals as goal

pub tally_all-tally-requires : goal.tally_all-tally-requires
tally_all-tally-requires c =
    let w : List ℕ = c.args.automaton.now in
    let h : Header = c.in-Ok.header in
    let read : parsed w ≡ Ok h = sym c.load.ensures.0 ∙ c.in-Ok.is in
    let told = c in file-limits (w) (h) (read)

pub returns-in-Err : goal.returns-in-Err
returns-in-Err c = tallied-refused _ _ _ _ (sym c.load.ensures.0 ∙ c.in-Err.is)

pub returns-in-Ok : goal.returns-in-Ok
returns-in-Ok c =
    let w : List ℕ = c.args.automaton.now in
    let h : Header = c.in-Ok.header in
    let read : parsed w ≡ Ok h = sym c.load.ensures.0 ∙ c.in-Ok.is in
    let headed : Headed (automaton_of h (content w)) h c.load.new.table = file-headed w h _ read (loaded-read _ h w _ _ c.in-Ok.is c.load.ensures.1) in
    let told = c in tallied-read _ _ _ _ _ (read) (c.tally_all-tally.ensures _ (headed))
