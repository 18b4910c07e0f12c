-- `blocks::add_words` meets its contract: each sum takes its word, and runs round as the total may.
-- Assumes nothing.
use Rattle.blocks.proofs.Laws.{words-added}
use Rattle.blocks.proofs.add_words.Goals as goal

pub returns : goal.returns
returns c =
    let one = c in
    let two = c in
    let three = c in
    rw (one.wrapping_add_u32.ensures.value, two.wrapping_add_u32-2.ensures.value, three.wrapping_add_u32-3.ensures.value, c.wrapping_add_u32-4.ensures.value)
    (words-added
    _
    _
    _
    _
    _
    _
    _
    _
    _
    _
    _
    one.word_at.ensures
    two.word_at-2.ensures
    three.word_at-3.ensures
    c.fourth_word.ensures)
