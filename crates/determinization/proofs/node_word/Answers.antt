-- `determinization::node_word` meets its contract.
-- Assumes nothing.
use mathlib.Core.Path.{refl}
use native.Mathlib.Omega.{arith}
use Rattle.determinization.proofs.node_word.Goals as goal

pub returns-then-word-ne0 : goal.returns-then-word-ne0
returns-then-word-ne0 c = λ A k h l r. (record { cached = h; same = λ i s e. refl; more = omega arith }, c.word_of-word.ensures A _ _ h l r)
