-- `grammar::open_tag` meets its contract.
-- Assumes nothing.
-- past the first test a digit stands after `<`
-- past the third test another one stands after it
use native.Mathlib.Omega.{arith}
use Prim.Native.Nat.{◌+◌}
use mathlib.Core.Path.{◌≡◌, sym, ◌∙◌}
use Rattle.grammar.specs.Reading.{class_at}
use Rattle.grammar.proofs.OpenTags.{first-wrong, first_byte, short, second-wrong, second-byte, third-wrong, long}
use Rattle.grammar.proofs.open_tag.Goals as goal

pub class_at-requires : goal.class_at-requires
class_at-requires c = c.requires.table

pub returns-then-class_at-ne-DIGIT : goal.returns-then-class_at-ne-DIGIT
returns-then-class_at-ne-DIGIT c =
    first-wrong _ _ c.requires.opens.0 c.requires.opens.1 (λ e. c.if-class_at-ne-DIGIT.true (c.class_at.ensures ∙ e)) c.requires.opens.2

pub bounds-text-at : goal.bounds-text-at
bounds-text-at c =
    let first-is : class_at c.args.text.now (c.args.at + 1) ≡ 1 = sym c.class_at.ensures ∙ c.if-class_at-ne-DIGIT.false in
    let first_fits = first_byte _ _ c.requires.opens.0 c.requires.opens.1 first-is in
    first_fits.0

pub overflow_sub-first : goal.overflow_sub-first
overflow_sub-first c =
    let first-is : class_at c.args.text.now (c.args.at + 1) ≡ 1 = sym c.class_at.ensures ∙ c.if-class_at-ne-DIGIT.false in
    let first_fits = first_byte _ _ c.requires.opens.0 c.requires.opens.1 first-is in
    first_fits.1

pub class_at-class-requires : goal.class_at-class-requires
class_at-class-requires c = c.requires.table

pub returns-then-class-eq-GREATER : goal.returns-then-class-eq-GREATER
returns-then-class-eq-GREATER c =
    let first-is : class_at c.args.text.now (c.args.at + 1) ≡ 1 = sym c.class_at.ensures ∙ c.if-class_at-ne-DIGIT.false in
    short _ _ c.requires.opens.0 c.requires.opens.1 first-is (sym c.class_at-class.ensures ∙ c.if-class-eq-GREATER.true)

pub returns-then-class-ne-DIGIT : goal.returns-then-class-ne-DIGIT
returns-then-class-ne-DIGIT c =
    let first-is : class_at c.args.text.now (c.args.at + 1) ≡ 1 = sym c.class_at.ensures ∙ c.if-class_at-ne-DIGIT.false in
    second-wrong _ _ c.requires.opens.0 c.requires.opens.1 first-is
    (λ k. absurd (c.if-class-ne-DIGIT.true (c.class_at-class.ensures ∙ k)))
    (λ k. c.if-class-eq-GREATER.false (c.class_at-class.ensures ∙ k))

pub returns-then-leading_zero : goal.returns-then-leading_zero
returns-then-leading_zero c =
    let first-is : class_at c.args.text.now (c.args.at + 1) ≡ 1 = sym c.class_at.ensures ∙ c.if-class_at-ne-DIGIT.false in
    second-wrong _ _ c.requires.opens.0 c.requires.opens.1 first-is
    (λ k. omega arith)
    (λ k. c.if-class-eq-GREATER.false (c.class_at-class.ensures ∙ k))

pub bounds-text-at-2 : goal.bounds-text-at-2
bounds-text-at-2 c =
    let first-is : class_at c.args.text.now (c.args.at + 1) ≡ 1 = sym c.class_at.ensures ∙ c.if-class_at-ne-DIGIT.false in
    let second_is : class_at c.args.text.now (c.args.at + 2) ≡ 1 = sym c.class_at-class.ensures ∙ c.if-class-ne-DIGIT.false in
    let second_fits = second-byte _ _ c.requires.opens.0 c.requires.opens.1 first-is second_is (omega arith) in
    second_fits.0

pub overflow_sub-second : goal.overflow_sub-second
overflow_sub-second c =
    let first-is : class_at c.args.text.now (c.args.at + 1) ≡ 1 = sym c.class_at.ensures ∙ c.if-class_at-ne-DIGIT.false in
    let second_is : class_at c.args.text.now (c.args.at + 2) ≡ 1 = sym c.class_at-class.ensures ∙ c.if-class-ne-DIGIT.false in
    let second_fits = second-byte _ _ c.requires.opens.0 c.requires.opens.1 first-is second_is (omega arith) in
    second_fits.1

pub class_at-ends-requires : goal.class_at-ends-requires
class_at-ends-requires c = c.requires.table

pub returns-then-not-ends : goal.returns-then-not-ends
returns-then-not-ends c =
    let first-is : class_at c.args.text.now (c.args.at + 1) ≡ 1 = sym c.class_at.ensures ∙ c.if-class_at-ne-DIGIT.false in
    let second_is : class_at c.args.text.now (c.args.at + 2) ≡ 1 = sym c.class_at-class.ensures ∙ c.if-class-ne-DIGIT.false in
    third-wrong _ _ c.requires.opens.0 c.requires.opens.1 first-is second_is (omega arith) (omega arith)

pub overflow_mul-result : goal.overflow_mul-result
overflow_mul-result c =
    let first-is : class_at c.args.text.now (c.args.at + 1) ≡ 1 = sym c.class_at.ensures ∙ c.if-class_at-ne-DIGIT.false in
    let first_fits = first_byte _ _ c.requires.opens.0 c.requires.opens.1 first-is in
    omega (arith, first_fits)

pub overflow_add-result-2 : goal.overflow_add-result-2
overflow_add-result-2 c =
    let first-is : class_at c.args.text.now (c.args.at + 1) ≡ 1 = sym c.class_at.ensures ∙ c.if-class_at-ne-DIGIT.false in
    let first_fits = first_byte _ _ c.requires.opens.0 c.requires.opens.1 first-is in
    let second_is : class_at c.args.text.now (c.args.at + 2) ≡ 1 = sym c.class_at-class.ensures ∙ c.if-class-ne-DIGIT.false in
    let second_fits = second-byte _ _ c.requires.opens.0 c.requires.opens.1 first-is second_is (omega arith) in
    let h = first_fits in
    let k = second_fits in
    omega arith

pub returns : goal.returns
returns c =
    let first-is : class_at c.args.text.now (c.args.at + 1) ≡ 1 = sym c.class_at.ensures ∙ c.if-class_at-ne-DIGIT.false in
    let second_is : class_at c.args.text.now (c.args.at + 2) ≡ 1 = sym c.class_at-class.ensures ∙ c.if-class-ne-DIGIT.false in
    long _ _ c.requires.opens.0 c.requires.opens.1 first-is second_is (omega arith) (omega arith)
