-- `determinism::single_file` meets its contract: by what loading says, of the file's automaton. What that means is then a law of the
-- definition.
-- Assumes nothing.
-- what is equal to the definition's answer is right
-- the file reads
use Rattle.std.proofs.Common.{Result, Ok}
use Prim.Native.Nat.{ℕ}
use mathlib.Core.Path.{◌≡◌, refl, sym, ap, ◌∙◌}
use mathlib.Core.List.{List}
use Rattle.automaton.specs.File.{parsed}
use Rattle.automaton.proofs.Passed.{file-limits}
use Rattle.determinism.specs.Single.{single_if, single_of}
use Rattle.determinism.specs.Singles.{SingleRight}
use Rattle.determinism.specs.declared.Singleness.{Singleness}
use Rattle.transitions.specs.Transitions.{automaton_of}
use Rattle.determinism.proofs.Determinism.{single-determined}
use Rattle.transitions.proofs.Laws.{loaded-read}
use Rattle.determinism.proofs.RepeatedRecords.{single-right}
use Rattle.refusal.specs.declared.Refusal.{Refusal}
use Rattle.refusal.proofs.Cases.{handed_on}
use Rattle.determinism.proofs.single_file.Goals as goal

right : (s : List ℕ) (r : Result Singleness Refusal) → r ≡ single_of s → SingleRight s r
right s r e = rw e (single-right s)

pub single_prepared-requires : goal.single_prepared-requires
unfolding single_of
single_prepared-requires c =
    let read_is : parsed c.args.file.now ≡ Ok c.in_ok-header.header = sym c.load.ensures.0 ∙ c.in_ok-header.was in
    file-limits _ _ (read_is)

pub returns-in_err-header : goal.returns-in_err-header
unfolding single_of
returns-in_err-header c =
    let e : _ ≡ single_of c.args.file.now = handed_on _ _ c.from_residual.ensures.1 ∙ rw (sym c.load.ensures.0 ∙ c.in_err-header.was) in
    record { equals = e; right = right _ _ e }

pub returns : goal.returns
unfolding single_of
returns c =
    let read_is : parsed c.args.file.now ≡ Ok c.in_ok-header.header = sym c.load.ensures.0 ∙ c.in_ok-header.was in
    let told = c in
    let compiled = loaded-read _ _ _ _ _ told.in_ok-header.was told.load.ensures.1 in
    let e : _ ≡ single_of c.args.file.now = rw (read_is) (ap Ok (c.single_prepared.ensures (automaton_of _ _) compiled refl refl ∙ ap single_if (sym (single-determined _ _ (file-limits _ _ (read_is)).0)))) in
    record { equals = e; right = right _ _ e }
