-- `candidates::first_right` meets its contract: the definition's cases.
-- Assumes nothing.
use borrow.Author.Rules.{rules}
use Prim.Native.Nat.{◌-◌}
use mathlib.Core.Path.{◌≡◌, refl}
use native.Mathlib.Omega.{arith}
use borrow.Author.Tests.{lt-ltb, le-ltb}
use Rattle.candidates.proofs.first_right.Goals as goal

pub returns-then-left-old : goal.returns-then-left-old
returns-then-left-old c = (search rules, search rules, λ n. rw (lt-ltb c.args.left.0 c.args.old (search rules)) refl)

pub returns-else-left-old : goal.returns-else-left-old
returns-else-left-old c = (search rules, λ l. absurd (omega arith), λ n. let e : n - 0 ≡ n = omega arith in rw (le-ltb c.args.left.0 c.args.old (search rules), e) refl)
