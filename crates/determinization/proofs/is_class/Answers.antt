-- `determinization::is_class` meets its contract.
-- Assumes nothing.
use Rattle.relation.proofs.Pairs.{same-rows-eq}
use Prim.Native.Nat.{ℕ}
use native.Mathlib.Omega.{arith}
use mathlib.Core.Path.{◌≡◌, sym, ◌∙◌}
use borrow.Author.Rules.{rules}
use Rattle.determinization.proofs.is_class.Goals as goal

pub returns-then-class-eq0 : goal.returns-then-class-eq0
returns-then-class-eq0 c = λ e. let z : ◌≡◌ {A = ℕ} 0 1 = cc in absurd (omega arith)

pub returns-then-cache-class : goal.returns-then-cache-class
returns-then-cache-class c = λ e. let z : ◌≡◌ {A = ℕ} 0 1 = cc in absurd (omega arith)

pub returns-then-not-same : goal.returns-then-not-same
returns-then-not-same c = λ e. let z : ◌≡◌ {A = ℕ} 0 1 = cc in absurd (omega arith)

pub returns : goal.returns
returns c = λ e. record { some = omega arith; known = search rules; left_rows = sym c.class_rows.ensures ∙ (same-rows-eq _ _).0 (sym c.same.ensures ∙ c.if-not-same.false); right_rows = sym c.class_rows-2.ensures ∙ (same-rows-eq _ _).0 (sym c.same-2.ensures ∙ e) }
