-- `blocks::fourth_word` meets its contract.
-- Assumes nothing.
use Rattle.std.proofs.Common.{◌≡◌, add-zero, rules}
use Rattle.blocks.proofs.Laws.{word-sum-more}
use Rattle.blocks.proofs.fourth_word.Goals as goal

pub returns-then-words-eq4 : goal.returns-then-words-eq4
returns-then-words-eq4 c =
    let a = c.args in
    let four : a.words ≡ 4 = search rules in
    rw (four, c.word_at.ensures) (word-sum-more a.file.now a.at 3)

pub returns-else-words-eq4 : goal.returns-else-words-eq4
returns-else-words-eq4 c =
    let three : c.args.words ≡ 3 = search rules in
    rw (three, add-zero)
