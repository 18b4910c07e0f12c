-- `determinization::leaf_word` meets its contract.
-- Assumes nothing.
use mathlib.Core.Path.{refl}
use native.Mathlib.Omega.{arith}
use Rattle.determinization.proofs.leaf_word.Goals as goal

pub returns-then-word-ne0 : goal.returns-then-word-ne0
returns-then-word-ne0 c = λ A k h. (record { cached = h; same = λ i s e. refl; more = omega arith }, c.word_of-word.ensures A _ _ h h.some h.some)

pub returns : goal.returns
returns c = λ A k h. c.computed.ensures A k h h.some h.some
