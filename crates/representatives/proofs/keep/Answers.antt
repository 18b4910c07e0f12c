-- `representatives::keep` meets its contract: over 64 rows, a known class, a new one over 64, a new one stored.
-- Assumes nothing.
use borrow.Author.Rules.{rules}
use Rattle.representatives.proofs.Table.{searched, keep-full, keep_known, keep-over, keep-new}
use Rattle.representatives.proofs.keep.Goals as goal

pub returns-then-n-gt64 : goal.returns-then-n-gt64
returns-then-n-gt64 c = (search rules, λ A kept d s o x. keep-full A _ _ kept d s (search rules) _)

pub returns-then-is_known : goal.returns-then-is_known
returns-then-is_known c = (search rules, λ A kept d s o x. keep_known A _ _ kept d s (searched A _ _ kept d _ s (search rules) x c.is_known.ensures c.if-is_known.true))

pub returns-then-n-eq64 : goal.returns-then-n-eq64
returns-then-n-eq64 c =
    (search rules, λ A kept d s o x. keep-over A _ _ kept d s (search rules) (searched A _ _ kept d _ s (search rules) x c.is_known.ensures c.if-is_known.false))

pub returns : goal.returns
returns c = (
  search rules,
  λ A kept d s o x. keep-new A _ _ kept d s _ (search rules) _ _ o x c.store.ensures
      (searched A _ _ kept d _ s (search rules) x c.is_known.ensures c.if-is_known.false),
)
