-- `candidates::try_rights` meets its contract. The invariant: the right rows before were tried.
-- Assumes nothing.
use borrow.Author.Rules.{rules}
use mathlib.Core.Path.{◌≡◌}
use Rattle.classes.proofs.Symbols.{range_none, range_snoc, range_split, map-flat}
use Rattle.candidates.proofs.Trying.{begun, turn, ended, few-kept}
use Rattle.candidates.proofs.Skipping.{rights-settled}
use Rattle.candidates.proofs.try_rights.Goals as goal

pub loop-right-init : goal.loop-right-init
loop-right-init c = (search rules, search rules, search rules, λ A k base before h e m s. begun A (range_none _ _) h)

pub returns-in-Accepted : goal.returns-in-Accepted
returns-in-Accepted c = (tt, λ A k base before h e m s. rw (map-flat _ _) (ended A _ (range_split _ _ _ _ c.loop-right.invariant.0 (search rules)) (turn A (range_snoc _ _ _ c.loop-right.invariant.0) (c.loop-right.invariant.3 A k base before h e m s) (λ g. c.try_right.ensures.1 A k base _ g (search rules) (search rules) m (rights-settled A _ _ _ c.loop-right.right c.loop-right.invariant.0 s (c.loop-right.invariant.3 A k base before h e m s))) c.in-Accepted.is)))

pub loop-right-preserved : goal.loop-right-preserved
loop-right-preserved c = (search rules, search rules, few-kept c.in-Kept.is c.try_right.ensures.0, λ A k base before h e m s. turn A (range_snoc _ _ _ c.loop-right.invariant.0) (c.loop-right.invariant.3 A k base before h e m s) (λ g. c.try_right.ensures.1 A k base _ g (search rules) (search rules) m (rights-settled A _ _ _ c.loop-right.right c.loop-right.invariant.0 s (c.loop-right.invariant.3 A k base before h e m s))) c.in-Kept.is)

pub returns : goal.returns
returns c = (
  c.loop-right.invariant.2,
  λ A k base before h e m s.
      let end : c.loop-right.right ≡ c.args.to = search rules in
      rw (map-flat _ _) (rw end at (c.loop-right.invariant.3 A k base before h e m s)),
)
