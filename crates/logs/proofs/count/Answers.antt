-- `logs::count` meets its contract: a refused file is told, and any other pair of logs is counted by its automaton.
-- Assumes nothing.
-- the automaton's file reads
use Rattle.std.proofs.Common.{Ok}
use Prim.Native.Nat.{ℕ}
use mathlib.Core.Path.{◌≡◌, sym, ◌∙◌}
use mathlib.Core.List.{List}
use Rattle.refusal.proofs.Cases.{handed_on}
use Rattle.blocks.specs.Blocks.{content}
use Rattle.automaton.specs.File.{parsed}
use Rattle.automaton.specs.declared.Header.{Header}
use Rattle.automaton.proofs.Passed.{file-limits}
use Rattle.transitions.specs.Transitions.{automaton_of}
use Rattle.transitions.proofs.Laws.{loaded-read}
use Rattle.overloops.specs.Ready.{Headed}
use Rattle.overloops.proofs.Laws.{file-headed}
use Rattle.logs.proofs.Telling.{both-refused, both_read}
use Rattle.logs.proofs.count.Goals as goal

pub count_file-requires : goal.count_file-requires
count_file-requires c =
    let w : List ℕ = c.args.automaton.now in
    let h : Header = c.in_ok-header.header in
    let read : parsed w ≡ Ok h = sym c.load.ensures.0 ∙ c.in_ok-header.was in
    let headed : Headed (automaton_of h (content w)) h c.load.new.table = file-headed w h _ read (loaded-read _ h w _ _ c.in_ok-header.was c.load.ensures.1) in
    (file-limits (w) (h) (read), (automaton_of (h) (content (w)), headed))

pub returns-in_err-header : goal.returns-in_err-header
returns-in_err-header c = rw (handed_on _ _ c.from_residual.ensures.1) (both-refused _ _ _ _ _ (sym c.load.ensures.0 ∙ c.in_err-header.was))

pub returns : goal.returns
returns c =
    let w : List ℕ = c.args.automaton.now in
    let h : Header = c.in_ok-header.header in
    let read : parsed w ≡ Ok h = sym c.load.ensures.0 ∙ c.in_ok-header.was in
    let headed : Headed (automaton_of h (content w)) h c.load.new.table = file-headed w h _ read (loaded-read _ h w _ _ c.in_ok-header.was c.load.ensures.1) in
    c.count_file.ensures _ (headed) ∙ sym (both_read (w) _ _ _ (h) (read))
