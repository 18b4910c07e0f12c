-- `saturation::saturate` meets its contract. The invariant: the tables as a round begins, and what the rounds from here on say.
-- Assumes nothing.
use borrow.Author.Rules.{rules}
use Rattle.saturation.proofs.Ending.{begins, ends_found, ends_open, ends-empty, goes_on}
use Rattle.saturation.proofs.saturate.Goals as goal

pub loop-origin-init : goal.loop-origin-init
loop-origin-init c = (search rules, search rules, search rules, search rules, λ A k. begins A _ _)

pub returns-in-Accepted : goal.returns-in-Accepted
returns-in-Accepted c =
    let l = c.loop-origin in
    (l.invariant.1, λ A k. ends_found A l.rows l.doubles l.old l.n l.height (l.invariant.4 A k) (search rules) l.invariant.0 l.invariant.1 _ (c.mark.ensures A (c.fill_entered.ensures A k.headed.tabled.compiled)) _ _ (λ base h e f s. c.round.ensures.1 A k base h e f s) c.in-Accepted.is)

pub returns-then-m-gt64 : goal.returns-then-m-gt64
returns-then-m-gt64 c =
    let l = c.loop-origin in
    (tt, λ A k. ends_open A l.rows l.doubles l.old l.n l.height (l.invariant.4 A k) (search rules) l.invariant.0 l.invariant.1 _ (c.mark.ensures A (c.fill_entered.ensures A k.headed.tabled.compiled)) _ _ (λ base h e f s. c.round.ensures.1 A k base h e f s) c.in-Kept.is (search rules))

pub returns-then-m-n : goal.returns-then-m-n
returns-then-m-n c =
    let l = c.loop-origin in
    (tt, λ A k. ends-empty A l.rows l.doubles l.old l.n l.height (l.invariant.4 A k) (search rules) l.invariant.0 l.invariant.1 _ (c.mark.ensures A (c.fill_entered.ensures A k.headed.tabled.compiled)) _ _ (λ base h e f s. c.round.ensures.1 A k base h e f s) c.in-Kept.is (search rules) (search rules))

pub loop-origin-preserved : goal.loop-origin-preserved
loop-origin-preserved c =
    let l = c.loop-origin in
    (search rules, search rules, search rules, search rules, λ A k. goes_on A l.rows l.doubles l.old l.n l.height (l.invariant.4 A k) (search rules) l.invariant.0 l.invariant.1 _ (c.mark.ensures A (c.fill_entered.ensures A k.headed.tabled.compiled)) _ _ (λ base h e f s. c.round.ensures.1 A k base h e f s) c.in-Kept.is (search rules) (search rules))
