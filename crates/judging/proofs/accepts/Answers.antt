-- `judging::accepts` meets its contract: a refused file is told, and any other is judged by its automaton. Demand 2 is then a law of the definition.
-- Assumes nothing.
-- what is equal to the definition's answer meets demand 2
-- the automaton's file reads
use Rattle.std.proofs.Common.{Result, Ok}
use Prim.Native.Nat.{ℕ}
use mathlib.Core.Path.{◌≡◌, sym, ◌∙◌}
use mathlib.Core.List.{List}
use Rattle.blocks.specs.Blocks.{content}
use Rattle.automaton.specs.File.{parsed}
use Rattle.automaton.specs.declared.Header.{Header}
use Rattle.automaton.proofs.Passed.{file-limits}
use Rattle.transitions.specs.Transitions.{automaton_of}
use Rattle.transitions.proofs.Laws.{loaded-read}
use Rattle.overloops.specs.Ready.{Headed}
use Rattle.overloops.proofs.Laws.{file-headed}
use Rattle.membership.specs.Judged.{judged}
use Rattle.membership.specs.Demand2.{Demand2}
use Rattle.membership.specs.declared.Answer.{Answer}
use Rattle.membership.proofs.Proved.{judged-right}
use Rattle.refusal.specs.declared.Refusal.{Refusal}
use Rattle.refusal.proofs.Cases.{handed_on}
use Rattle.judging.proofs.accepts.Goals as goal

right : (w s : List ℕ) (r : Result Answer Refusal) → r ≡ judged w s → Demand2 w s r
right w s r e = rw e (judged-right w s)

pub accepts_file-requires : goal.accepts_file-requires
unfolding judged
accepts_file-requires c =
    let w : List ℕ = c.args.automaton.now in
    let h : Header = c.in_ok-header.header in
    let read : parsed w ≡ Ok h = sym c.load.ensures.0 ∙ c.in_ok-header.was in
    let told = c in file-limits (w) (h) (read)

pub returns-in_err-header : goal.returns-in_err-header
unfolding judged
returns-in_err-header c =
    let equal : _ ≡ judged c.args.automaton.now c.args.tree.now = handed_on _ _ c.from_residual.ensures.1 ∙ rw (sym c.load.ensures.0 ∙ c.in_err-header.was) in record { equals = equal; right = right _ _ _ equal }

pub returns : goal.returns
unfolding judged
returns c =
    let w : List ℕ = c.args.automaton.now in
    let h : Header = c.in_ok-header.header in
    let read : parsed w ≡ Ok h = sym c.load.ensures.0 ∙ c.in_ok-header.was in
    let headed : Headed (automaton_of h (content w)) h c.load.new.table = file-headed w h _ read (loaded-read _ h w _ _ c.in_ok-header.was c.load.ensures.1) in
    let judged-is : c.accepts_file.result ≡ judged c.args.automaton.now c.args.tree.now = let told = c in rw (read) (c.accepts_file.ensures _ (headed)) in
    let equal : _ ≡ _ = (judged-is) in record { equals = equal; right = right _ _ _ equal }
