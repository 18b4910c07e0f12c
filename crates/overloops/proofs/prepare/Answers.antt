-- `overloops::prepare` meets its contract: what loading left is compiled on, or all is as it was.
-- Assumes nothing.
-- the file reads, and the table is its automaton's
use Rattle.std.proofs.Common.{Ok}
use borrow.Author.Rules.{rules}
use Prim.Native.Nat.{ℕ}
use mathlib.Core.Path.{◌≡◌, refl, sym, ◌∙◌}
use mathlib.Core.List.{List}
use Rattle.blocks.specs.Blocks.{content}
use Rattle.automaton.specs.File.{parsed}
use Rattle.automaton.specs.declared.Header.{Header}
use Rattle.automaton.proofs.Passed.{file-limits}
use Rattle.transitions.specs.Transitions.{automaton_of}
use Rattle.overloops.specs.Ready.{Headed}
use Rattle.transitions.proofs.Laws.{loaded-read}
use Rattle.overloops.proofs.Laws.{file-headed}
use Rattle.refusal.proofs.Cases.{handed_on}
use Rattle.overloops.proofs.prepare.Goals as goal

pub fill_leaves-requires : goal.fill_leaves-requires
fill_leaves-requires c =
    let h : Header = c.in_ok-header.header in
    let s : List ℕ = c.args.file.now in
    let read_is : parsed s ≡ Ok h = sym c.load.ensures.0 ∙ c.in_ok-header.was in
    ((file-limits _ _ (read_is)).0, search rules)

pub returns-in_err-header : goal.returns-in_err-header
returns-in_err-header c =
    let e = handed_on _ _ c.from_residual.ensures.1 in
    let told = rw c.in_err-header.was at c.load.ensures in
    (e ∙ told.0, rw e (told.1, refl))

pub returns : goal.returns
returns c =
    let h : Header = c.in_ok-header.header in
    let s : List ℕ = c.args.file.now in
    let read_is : parsed s ≡ Ok h = sym c.load.ensures.0 ∙ c.in_ok-header.was in
    let headed : Headed (automaton_of h (content s)) h c.load.new.table = file-headed s h _ read_is (loaded-read _ h s _ _ c.in_ok-header.was c.load.ensures.1) in
    let told = rw c.in_ok-header.was at c.load.ensures in
    let read = c in
    (told.0, (file-limits _ _ (read_is), record { headed = headed; leaves_are = c.fill_leaves.ensures _ (headed).tabled }))
