-- `judging::judge` meets its contract: a refused file is told, and any other is judged by its automaton. Demand 2, and that the sum is counted from runs,
-- are then laws of the definition.
-- Assumes nothing.
-- what is equal to the definition's answer meets demand 2, and has the sum
-- the automaton's file reads
use Rattle.std.proofs.Common.{Result, Ok, Err}
use Prim.Native.Nat.{ℕ}
use mathlib.Core.Path.{◌≡◌, sym, ◌∙◌}
use mathlib.Core.List.{List}
use Rattle.blocks.specs.Blocks.{content}
use Rattle.automaton.specs.File.{parsed}
use Rattle.automaton.specs.declared.Header.{Header}
use Rattle.automaton.proofs.Passed.{file-limits}
use Rattle.transitions.specs.Transitions.{automaton_of}
use Rattle.transitions.proofs.Laws.{loaded-read}
use Rattle.overloops.specs.Ready.{Headed}
use Rattle.overloops.proofs.Laws.{file-headed}
use Rattle.membership.specs.Judged.{judged}
use Rattle.membership.specs.Demand2.{Demand2}
use Rattle.membership.specs.Grown.{growth_judged, judged_with, GrowthRight}
use Rattle.membership.specs.declared.Answer.{Answer}
use Rattle.membership.specs.declared.Judged.{Judged}
use Rattle.membership.proofs.Proved.{judged-right, growth-right}
use Rattle.refusal.specs.declared.Refusal.{Refusal}
use Rattle.judging.proofs.judge.Goals as goal

right : (w s : List ℕ) (r : Judged) → r ≡ judged_with w s → Demand2 w s r.answer
right w s r e = rw e (judged-right w s)

grown : (w s : List ℕ) (r : Judged) → r ≡ judged_with w s → GrowthRight w s r
grown w s r e = rw e (growth-right w s)

with-sum : {a b : Result Answer Refusal} {g n : ℕ} → a ≡ b → g ≡ n → ◌≡◌ {A = Judged} (record { answer = a; growth = g }) (record { answer = b; growth = n })
with-sum e f = rw (e, f)

pub judge_file-requires : goal.judge_file-requires
unfolding judged growth_judged
judge_file-requires c =
    let w : List ℕ = c.args.automaton.now in
    let h : Header = c.in-Ok.header in
    let read : parsed w ≡ Ok h = sym c.load.ensures.0 ∙ c.in-Ok.is in
    let told = c in file-limits (w) (h) (read)

pub returns-in-Err : goal.returns-in-Err
unfolding judged growth_judged
returns-in-Err c =
    let refused-is : ◌≡◌ {A = Judged} (record { answer = Err c.in-Err.refusal; growth = 0 }) (judged_with c.args.automaton.now c.args.tree.now) = rw (sym c.load.ensures.0 ∙ c.in-Err.is) in
    record { equals = refused-is; right = right _ _ _ refused-is; grown = grown _ _ _ refused-is }

pub returns-in-Ok : goal.returns-in-Ok
unfolding judged growth_judged
returns-in-Ok c =
    let w : List ℕ = c.args.automaton.now in
    let h : Header = c.in-Ok.header in
    let read : parsed w ≡ Ok h = sym c.load.ensures.0 ∙ c.in-Ok.is in
    let headed : Headed (automaton_of h (content w)) h c.load.new.table = file-headed w h _ read (loaded-read _ h w _ _ c.in-Ok.is c.load.ensures.1) in
    let judged-is : c.judge_file.result ≡ judged_with c.args.automaton.now c.args.tree.now = let told = c in
    let both = c.judge_file.ensures _ (headed) in
    rw (read) (with-sum both.0 both.1) in
    record { equals = judged-is; right = right _ _ _ judged-is; grown = grown _ _ _ judged-is }
