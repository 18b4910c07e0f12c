-- `engine::numbers::engine_compare` meets its contract: the counts, and the part's length, as numbers; that answer meets the promise.
-- Assumes nothing.
-- a refusal tells no length
use Rattle.std.proofs.Common.{Result, Ok, Err}
use mathlib.Core.Path.{◌≡◌, refl, ap, ap₂, ◌∙◌}
use mathlib.Core.List.{List}
use Prim.Native.Nat.{ℕ}
use lib.ListN.{length}
use Rattle.agreement.specs.Common.{common_part}
use Rattle.logs.specs.Compare.{part_of}
use Rattle.logs.specs.declared.Compared.{Compared}
use Rattle.refusal.specs.declared.Refusal.{Refusal}
use Rattle.logs.proofs.Right.{answer-right}
use Rattle.numbering.specs.Numbers.{compared_number, compared_counts, compared_told}
use Rattle.engine.proofs.numbers.engine_compare.Goals as goal

length-told : (c : Result Compared Refusal) (a b : List ℕ) → compared_counts c (length (common_part a b)) ≡ compared_counts c (length (part_of c a b))
length-told (Ok counts) a b = refl
length-told (Err r) a b = refl

pub returns : goal.returns
returns c =
    let put = c.put_compared.ensures in
    let answer = c.count-compared in
    let e = answer.ensures in
    let part = c.common-part.ensures.equals in
    let counts = put.1 ∙ ap (λ (l : List ℕ). compared_counts answer.result (length l)) part in record {
      equals = (
        put.0 ∙ ap compared_number e,
        put.1 ∙ ap₂ (λ (x : Result Compared Refusal) (l : List ℕ). compared_counts x (length l)) e part,
        put.2 ∙ ap compared_told e,
      );
      right = (answer.result, put.0, counts ∙ length-told answer.result _ _, put.2, answer-right _ _ _ _ answer.result e);
    }
