-- `answers::judge_all` meets its contract: by what reading says.
-- Assumes nothing.
-- what is equal to the definition's answers is right, file by file
-- the automaton's file reads
use Rattle.std.proofs.Common.{Ok}
use Prim.Native.Nat.{ℕ}
use mathlib.Core.Path.{◌≡◌, sym, ◌∙◌}
use mathlib.Core.List.{List}
use Rattle.blocks.specs.Blocks.{content}
use Rattle.automaton.specs.File.{parsed}
use Rattle.automaton.specs.declared.Header.{Header}
use Rattle.automaton.proofs.Passed.{file-limits}
use Rattle.transitions.specs.Transitions.{automaton_of}
use Rattle.transitions.proofs.Laws.{loaded-read}
use Rattle.overloops.specs.Ready.{Headed}
use Rattle.overloops.proofs.Laws.{file-headed}
use Rattle.answers.specs.All.{Outcome, judged_all, Each}
use Rattle.answers.proofs.Laws.{all-refused, all_read}
use Rattle.answers.proofs.Eachwise.{each}
use Rattle.refusal.proofs.Cases.{handed_on}
use Rattle.answers.proofs.judge_all.Goals as goal

right : (w s lent g : List ℕ) (o : Outcome) → o ≡ judged_all w s lent g → Each w s o
right w s lent g o e = rw e (each w s lent g)

pub judge_files-requires : goal.judge_files-requires
judge_files-requires c =
    let w : List ℕ = c.args.automaton.now in
    let h : Header = c.in_ok-header.header in
    let read : parsed w ≡ Ok h = sym c.load.ensures.0 ∙ c.in_ok-header.was in
    let told = c in file-limits (w) (h) (read)

pub returns-in_err-header : goal.returns-in_err-header
returns-in_err-header c =
    let equal : _ ≡ _ = rw (handed_on _ _ c.from_residual.ensures.1) (all-refused _ _ _ _ _ (sym c.load.ensures.0 ∙ c.in_err-header.was)) in
    record { equals = equal; right = right _ _ _ _ _ equal }

pub returns : goal.returns
returns c =
    let w : List ℕ = c.args.automaton.now in
    let h : Header = c.in_ok-header.header in
    let read : parsed w ≡ Ok h = sym c.load.ensures.0 ∙ c.in_ok-header.was in
    let headed : Headed (automaton_of h (content w)) h c.load.new.table = file-headed w h _ read (loaded-read _ h w _ _ c.in_ok-header.was c.load.ensures.1) in
    let told = c in
    let e = c.judge_files.ensures _ (headed) in
    let equal : _ ≡ _ = (all_read _ _ _ _ _ (read) _ _ _ e.0 e.1 e.2) in record { equals = equal; right = right _ _ _ _ _ equal }
