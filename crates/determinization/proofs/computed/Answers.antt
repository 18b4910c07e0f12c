-- `determinization::computed` meets its contract.
-- Assumes nothing.
use mathlib.Core.Path.{refl, ◌∙◌}
use native.Mathlib.Omega.{arith}
use Rattle.determinization.proofs.Computing.{cells-moved}
use Rattle.determinization.proofs.computed.Goals as goal

pub returns-then-word-ne0 : goal.returns-then-word-ne0
returns-then-word-ne0 c =
    λ A k h l r.
    let first = c.map_class.ensures.2 A _ k.compiled h l in
    let one = cells-moved c.map_class.ensures.1 first.0 in
    let second = c.map_class-2.ensures.2 A _ k.compiled one (rw first.1 r) in
    let two = cells-moved c.map_class-2.ensures.1 second.0 in
    let same = second.1 ∙ first.1 in
    let stays = c.map_class-2.ensures.0 ∙ c.map_class.ensures.0 in
    (record { cached = two; same = λ i s e. rw stays refl; more = omega (arith, same) }, c.word_around-word.ensures A _ _ two (rw same l) (rw same r))

pub returns : goal.returns
returns c =
    λ A k h l r.
    let first = c.map_class.ensures.2 A _ k.compiled h l in
    let one = cells-moved c.map_class.ensures.1 first.0 in
    let second = c.map_class-2.ensures.2 A _ k.compiled one (rw first.1 r) in
    let two = cells-moved c.map_class-2.ensures.1 second.0 in
    let same = second.1 ∙ first.1 in
    let stays = c.map_class-2.ensures.0 ∙ c.map_class.ensures.0 in
    let z = c.new_word.ensures.1 A k two (rw same l) (rw same r) in
    (record { cached = z.0.cached; same = λ i s e. rw (← stays) (z.0.same i s (rw same e)); more = omega (arith, same, z.0.more) }, z.1)
