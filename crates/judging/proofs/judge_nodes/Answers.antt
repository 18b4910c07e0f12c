-- `judging::judge_nodes` meets its contract: what the cache tells is so, and where it tells nothing the search does.
-- Assumes nothing.
use Rattle.class_tables.proofs.Empty.{kept-cache}
use Rattle.judging.proofs.judge_nodes.Goals as goal

pub returns-then-not-begin : goal.returns-then-not-begin
returns-then-not-begin c = λ A k h. (kept-cache A _ _ _ _ _ c.begin.ensures h, c.without_cache.ensures A k)

pub returns-in-Accepted : goal.returns-in-Accepted
returns-in-Accepted c =
    λ A k h.
    let told = c.judge_nodes-weighed.ensures A k (kept-cache A _ _ _ _ _ c.begin.ensures h) in
    let weighs = rw c.in-Accepted.is at told.1 in
    (kept-cache A _ _ _ _ _ c.end.ensures told.0, ((weighs.0, weighs.1, weighs.2), λ e. weighs))

pub returns-in-Other : goal.returns-in-Other
returns-in-Other c =
    λ A k h.
    let told = c.judge_nodes-weighed.ensures A k (kept-cache A _ _ _ _ _ c.begin.ensures h) in
    let weighs = rw c.in-Other.is at told.1 in
    (kept-cache A _ _ _ _ _ c.end-in-Other.ensures told.0, ((weighs.0, weighs.1, weighs.2), λ e. weighs))

pub returns-in-Unknown : goal.returns-in-Unknown
returns-in-Unknown c =
    λ A k h.
    let told = c.judge_nodes-weighed.ensures A k (kept-cache A _ _ _ _ _ c.begin.ensures h) in
    (rw c.renew.ensures.0 (c.renew.ensures.2 A _ (kept-cache A _ _ _ _ _ c.end-in-Unknown.ensures told.0)), c.without_cache-in-Unknown.ensures A k)
