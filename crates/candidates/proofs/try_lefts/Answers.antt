-- `candidates::try_lefts` meets its contract. The invariant: the left rows before were tried.
-- Assumes nothing.
use borrow.Author.Rules.{rules}
use mathlib.Core.Path.{◌≡◌, refl}
use mathlib.Core.List.{flat_map}
use Rattle.model.specs.Lists.{count_from}
use Rattle.classes.proofs.Symbols.{count-snoc, count-split}
use Rattle.candidates.proofs.Trying.{begun, turn, ended, few-kept}
use Rattle.candidates.proofs.Skipping.{old-settled, lefts-settled}
use Rattle.candidates.proofs.try_lefts.Goals as goal

pub loop-left-init : goal.loop-left-init
unfolding flat_map count_from
loop-left-init c = (search rules, search rules, λ A k base before h e s i. begun A refl h)

pub returns-in-Accepted : goal.returns-in-Accepted
returns-in-Accepted c = (tt, λ A k base before h e s i. ended A _ (count-split _ c.loop-left.left c.args.to (search rules)) (turn A (count-snoc _ _) (c.loop-left.invariant.2 A k base before h e s i) (λ g. c.try_left.ensures.1 A k base _ g e s.marks (λ b la lb. old-settled A c.args.symbol.0 c.args.old c.args.to h (λ a' b' la' lb'. s.pairs c.args.symbol.0 a' b' i la' lb') _ c.loop-left.left b la lb) (lefts-settled A c.args.symbol.0 c.args.old c.args.to h (λ a' b' la' lb'. s.pairs c.args.symbol.0 a' b' i la' lb') c.loop-left.left (c.loop-left.invariant.2 A k base before h e s i))) c.in-Accepted.is))

pub loop-left-preserved : goal.loop-left-preserved
loop-left-preserved c = (search rules, few-kept c.in-Kept.is c.try_left.ensures.0, λ A k base before h e s i. turn A (count-snoc _ _) (c.loop-left.invariant.2 A k base before h e s i) (λ g. c.try_left.ensures.1 A k base _ g e s.marks (λ b la lb. old-settled A c.args.symbol.0 c.args.old c.args.to h (λ a' b' la' lb'. s.pairs c.args.symbol.0 a' b' i la' lb') _ c.loop-left.left b la lb) (lefts-settled A c.args.symbol.0 c.args.old c.args.to h (λ a' b' la' lb'. s.pairs c.args.symbol.0 a' b' i la' lb') c.loop-left.left (c.loop-left.invariant.2 A k base before h e s i))) c.in-Kept.is)

pub returns : goal.returns
returns c = (
  c.loop-left.invariant.1,
  λ A k base before h e s i.
      let end : c.loop-left.left ≡ c.args.to = search rules in
      rw end at (c.loop-left.invariant.2 A k base before h e s i),
)
