-- `watch::watch_check` meets its contract: the tests in turn.
-- Assumes nothing.
-- where it is told to be single
use Prim.Native.Nat.{ℕ}
use native.Mathlib.Omega.{arith}
use mathlib.Core.Path.{◌≡◌, sym, ap, ◌∙◌}
use mathlib.Core.Bool.{true}
use mathlib.Core.List.{List}
use lib.Count.{ones, ones-le}
use mir.Syntax.{w32}
use mir.Val.{Fits}
use borrow.Author.Rules.{rules}
use Rattle.algorithms.specs.Automaton.{Automaton}
use Rattle.automaton.specs.declared.Header.{Header}
use Rattle.overloops.specs.Ready.{Headed}
use Rattle.determinism.specs.Determined.{determined}
use Rattle.watch.proofs.Checking.{told-single, told-multiple, check-multiple, check-starts, check-budget, check-room, check-passes}
use Rattle.watch.proofs.watch_check.Goals as goal

pub returns-in_default : goal.returns-in_default
returns-in_default c =
    λ A k.
    c.refused.ensures
    ∙ check-multiple (determined A) A _ _
    (told-multiple (determined A) c.in_default.is
    (c.single_prepared.ensures A k.tabled.compiled k.symbols k.tabled.states))

pub overflow_cast-starts : goal.overflow_cast-starts
overflow_cast-starts c =
    let f : Fits w32 c.args.header.initial = search rules in
    record { fits = omega (arith, ones-le 32 _ f.fits) }

pub returns-then-starts-ne1 : goal.returns-then-starts-ne1
returns-then-starts-ne1 c =
    let header : Header = c.args.header in
    let table : List ℕ = c.args.table.now in
    let single-is : (A : Automaton) → Headed A header table → determined A ≡ true = λ A k. told-single (determined A) c.in-Single.is
    (c.single_prepared.ensures A k.tabled.compiled k.symbols k.tabled.states) in
    let starts-are : (A : Automaton) → Headed A header table → ones header.initial ≡ ones A.initial = λ A k. ap ones (sym k.initial) in
    λ A k.
    c.refused-then-starts-ne1.ensures ∙ check-starts (determined A) A _ _ (single-is A k) _ (starts-are A k) c.if-starts-ne1.true

pub returns-then-budget-gt20000 : goal.returns-then-budget-gt20000
returns-then-budget-gt20000 c =
    let header : Header = c.args.header in
    let table : List ℕ = c.args.table.now in
    let single-is : (A : Automaton) → Headed A header table → determined A ≡ true = λ A k. told-single (determined A) c.in-Single.is
    (c.single_prepared.ensures A k.tabled.compiled k.symbols k.tabled.states) in
    let starts-are : (A : Automaton) → Headed A header table → ones header.initial ≡ ones A.initial = λ A k. ap ones (sym k.initial) in
    λ A k.
    c.refused-then-budget-gt20000.ensures ∙ check-budget (determined A) A _ _ (single-is A k) _ (starts-are A k) c.if-starts-ne1.false c.if-budget-gt20000.true

pub returns-then-room-budget : goal.returns-then-room-budget
returns-then-room-budget c =
    let header : Header = c.args.header in
    let table : List ℕ = c.args.table.now in
    let single-is : (A : Automaton) → Headed A header table → determined A ≡ true = λ A k. told-single (determined A) c.in-Single.is
    (c.single_prepared.ensures A k.tabled.compiled k.symbols k.tabled.states) in
    let starts-are : (A : Automaton) → Headed A header table → ones header.initial ≡ ones A.initial = λ A k. ap ones (sym k.initial) in
    λ A k.
    c.refused-then-room-budget.ensures
    ∙ check-room (determined A) A _ _ (single-is A k) _ (starts-are A k) c.if-starts-ne1.false c.if-budget-gt20000.false c.if-room-budget.true

pub returns : goal.returns
returns c =
    let header : Header = c.args.header in
    let table : List ℕ = c.args.table.now in
    let single-is : (A : Automaton) → Headed A header table → determined A ≡ true = λ A k. told-single (determined A) c.in-Single.is
    (c.single_prepared.ensures A k.tabled.compiled k.symbols k.tabled.states) in
    let starts-are : (A : Automaton) → Headed A header table → ones header.initial ≡ ones A.initial = λ A k. ap ones (sym k.initial) in
    λ A k.
    check-passes (determined A) A _ _ (single-is A k) _ (starts-are A k) c.if-starts-ne1.false c.if-budget-gt20000.false c.if-room-budget.false
