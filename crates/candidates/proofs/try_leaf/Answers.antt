-- `candidates::try_leaf` meets its contract: one candidate.
-- Assumes nothing.
use Rattle.model.specs.Saturation.{leaf_candidate}
use Rattle.algorithms.specs.Saturate.{algebra_of}
use Rattle.candidates.proofs.Trying.{one-accepted, one_kept, leaf-row-is, leaf-class-is, leaf-accepted-is}
use Rattle.candidates.proofs.try_leaf.Goals as goal

pub returns-then-leaf_accepted : goal.returns-then-leaf_accepted
returns-then-leaf_accepted c = (tt, λ A k base kept h. one-accepted A (leaf_candidate (algebra_of A) _) h _ (leaf-accepted-is A _ (c.leaf_accepted.ensures A k.headed)) c.if-leaf_accepted.true (leaf-row-is A _))

pub returns : goal.returns
returns c = (
  c.keep.ensures.0,
  λ A k base kept h.
      one_kept A (leaf_candidate (algebra_of A) _) h _ _ (leaf-accepted-is A _ (c.leaf_accepted.ensures A k.headed)) c.if-leaf_accepted.false
      (c.keep.ensures.1 A kept (leaf_candidate (algebra_of A) _) h.stored (leaf-row-is A _)
      (leaf-class-is A _ (c.leaf_class.ensures A k.headed.tabled.proper k.leaves_are))),
)
