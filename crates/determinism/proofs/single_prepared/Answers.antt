-- `determinism::single_prepared` meets its contract: what the table tells is told of every automaton that it is compiled from.
-- Assumes nothing.
use borrow.Author.Rules.{rules}
use native.Mathlib.Omega.{arith}
use mathlib.Core.Path.{◌≡◌, sym, ap, ◌∙◌}
use Prim.Native.Nat.{ℕ, ◌≤◌}
use mathlib.Core.Bool.{Bool}
use mathlib.Core.List.{List}
use Rattle.algorithms.specs.Automaton.{Automaton}
use Rattle.transitions.specs.Compiled.{Compiled, next_in}
use Rattle.determinism.specs.Determined.{one_symbols, determined}
use Rattle.determinism.specs.Single.{single_if}
use Rattle.determinism.proofs.Determinism.{table-determined}
use Rattle.determinism.proofs.single_prepared.Goals as goal

told : (A : Automaton) (t : List ℕ) (symbols states : ℕ) (b : Bool) → symbols ≤ 32 → states ≤ 24 → b ≡ one_symbols (next_in t) states symbols
    → Compiled A t → A.symbols ≡ symbols → A.states ≡ states → single_if b ≡ single_if (determined A)
told A t symbols states b m n e compiled f g =
    let whole : one_symbols (next_in t) states symbols ≡ determined A = rw (← f, ← g) (table-determined A t compiled (omega arith) (omega arith)) in
    ap single_if (e ∙ whole)

pub returns-then-one_symbols : goal.returns-then-one_symbols
returns-then-one_symbols c A compiled f g = told A _ _ _ _ (search rules) (search rules) (sym c.if-one_symbols.true ∙ c.one_symbols.ensures) compiled f g

pub returns-else-one_symbols : goal.returns-else-one_symbols
returns-else-one_symbols c A compiled f g = told A _ _ _ _ (search rules) (search rules) (sym c.if-one_symbols.false ∙ c.one_symbols.ensures) compiled f g
