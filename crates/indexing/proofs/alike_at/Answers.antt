-- `indexing::alike_at` meets its contract.
-- Assumes nothing.
use Rattle.relation.proofs.Pairs.{same-rows-eq}
use mathlib.Core.Path.{sym, ◌∙◌}
use Rattle.indexing.proofs.alike_at.Goals as goal

pub returns : goal.returns
returns c = λ e A k. sym (c.carried.ensures A k) ∙ (same-rows-eq _ _).0 (sym c.same.ensures ∙ e) ∙ c.carried-2.ensures A k
