-- `batch::part::whole_length` meets its contract.
-- Assumes nothing.
use Rattle.batch.specs.Batch.{first_length}
use lib.ListN.{length, length-drop}
use mathlib.Core.Path.{◌≡◌, ap, ◌∙◌}
use Prim.Native.Nat.{◌<◌, ◌≤◌}
use native.Mathlib.Omega.{arith}
use borrow.Author.Rules.{rules}
use Rattle.batch.proofs.part.whole_length.Goals as goal

pub returns-then-rest-length : goal.returns-then-rest-length
returns-then-rest-length c = let l : length c.back-rest.result.now < c.first_length-length.result = search rules in (λ n some. absurd (cc), λ e. rw (c.first_length-length.ensures.0, c.back-rest.ensures) at l)

pub returns : goal.returns
returns c = let l : c.first_length-length.result ≤ length c.back-rest.result.now = search rules in let m = rw c.back-rest.ensures at l in (λ n some. let same : n ≡ c.first_length-length.result = cc in rw same (c.first_length-length.ensures.0 ∙ ap first_length c.back-rest.ensures, c.first_length-length.ensures.1, omega (arith, m, length-drop c.args.at c.args.bytes.now, c.first_length-length.ensures.1)), λ e. absurd (cc))
