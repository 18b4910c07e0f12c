-- `determinization::new_word` meets its contract.
-- Assumes nothing.
use Rattle.determinization.proofs.Computing.{node-computed, after-moved}
use native.Mathlib.Omega.{arith}
use Rattle.determinization.proofs.new_word.Goals as goal

pub returns-then-class-gt1023 : goal.returns-then-class-gt1023
returns-then-class-gt1023 c = (c.class_for-class.ensures.0, λ A k h l r. (after-moved c.class_for-class.ensures.0 c.class_for-class.ensures.1 (c.class_for-class.ensures.2 A _ _ h).0, λ some. absurd (omega arith)))

pub returns : goal.returns
returns c = (
  c.class_for-class.ensures.0,
  λ A k h l r.
      let found = c.class_for-class.ensures.2 A _ _ h in
      let after = after-moved c.class_for-class.ensures.0 c.class_for-class.ensures.1 found.0 in
      let small = c.if-class-gt1023.false in
      let left = c.node_part-l.ensures.0 A k in
      let right = c.node_part-r.ensures.0 A k in
      node-computed A _ _ _ _ _ _ _ _ _ _ _ _ _ _ _ _ l r after (found.1 (omega (arith, small))) c.word_with-word.ensures left right (c.keep.ensures A _ _),
)
