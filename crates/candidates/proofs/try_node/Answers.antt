-- `candidates::try_node` meets its contract: one candidate, over the classes of two rows, of which its test and its class are told.
-- Assumes nothing.
use borrow.Author.Rules.{rules}
use Rattle.model.specs.Saturation.{node_candidate}
use Rattle.algorithms.specs.Saturate.{algebra_of}
use Rattle.candidates.proofs.Trying.{one-accepted, one-full, one_kept, node-row-is, node-class-is, node-accepted-is}
use Rattle.candidates.proofs.try_node.Goals as goal

pub returns-then-node_accepted : goal.returns-then-node_accepted
returns-then-node_accepted c =
    (tt, λ A k base kept h la lb. one-accepted A (node_candidate (algebra_of A) base _ _ _) h _ (node-accepted-is A h _ _ _ la lb (search rules) (search rules) c.class_at-l.ensures c.class_at-r.ensures (c.node_accepted.ensures A k)) c.if-node_accepted.true (node-row-is A base _ _ _))

pub returns-then-n-eq65 : goal.returns-then-n-eq65
returns-then-n-eq65 c =
    (search rules, λ A k base kept h la lb. one-full A (node_candidate (algebra_of A) base _ _ _) h (search rules) (node-accepted-is A h _ _ _ la lb (search rules) (search rules) c.class_at-l.ensures c.class_at-r.ensures (c.node_accepted.ensures A k)) c.if-node_accepted.false)

pub returns : goal.returns
returns c = (
  c.keep.ensures.0,
  λ A k base kept h la lb.
      one_kept A (node_candidate (algebra_of A) base _ _ _) h _ _ (node-accepted-is A h _ _ _ la lb (search rules) (search rules) c.class_at-l.ensures c.class_at-r.ensures (c.node_accepted.ensures A k)) c.if-node_accepted.false
      (c.keep.ensures.1 A kept (node_candidate (algebra_of A) base _ _ _) h.stored (node-row-is A base _ _ _)
      (node-class-is A h _ _ _ la lb (search rules) (search rules) c.class_at-l.ensures c.class_at-r.ensures (c.node_class.ensures A k.tabled))),
)
