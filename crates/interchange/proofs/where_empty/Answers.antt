-- `interchange::where_empty` meets its contract.
-- Assumes nothing.
use mathlib.Core.Path.{sym, ap, ◌∙◌}
use Prim.Native.Nat.{ℕ}
use native.Mathlib.Omega.{arith}
use Rattle.relation.specs.Bit.{bit}
use Rattle.relation.proofs.BitLaws.{bit-zero, bit-pow-eq, one_shl}
use borrow.Author.Rules.{rules}
use Rattle.interchange.proofs.where_empty.Goals as goal

pub returns-then-set-eq0 : goal.returns-then-set-eq0
returns-then-set-eq0 c = λ σ e. (sym (bit-pow-eq c.args.symbol σ (sym (ap (λ (x : ℕ). bit x σ) (one_shl c.args.symbol (search rules))) ∙ e)), search rules)

pub returns-else-set-eq0 : goal.returns-else-set-eq0
returns-else-set-eq0 c = λ σ e. absurd (omega (arith, e, bit-zero σ))
