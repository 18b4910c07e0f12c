-- `grammar::close_tag` meets its contract.
-- Assumes nothing.
-- past the first test `</` stands there
use Prim.Native.Nat.{◌+◌, ◌/◌, ◌%◌}
use lib.Arith.{lt_of_le-ne}
use Rattle.grammar.specs.Reading.{CloseAt}
use Rattle.grammar.proofs.CloseTags.{early-stuck, byte-no, byte-yes, short-wrong-0, short-wrong-1, short-shut, long-wrong-0, long-wrong-1, long-wrong-2, long-shut}
use Rattle.grammar.proofs.close_tag.Goals as goal

pub returns-then-at-text : goal.returns-then-at-text
returns-then-at-text c = early-stuck _ _ _ c.if-at-text.true

pub returns-then-not-is_byte : goal.returns-then-not-is_byte
returns-then-not-is_byte c =
    let close-is : CloseAt c.args.text.now c.args.at = c.requires.1 (lt_of_le-ne c.requires.0 c.if-at-text.false) in
    let a = c.args in
    short-wrong-0 _ _ _ close-is c.if-number-lt10.true
    (byte-no a.text.now (a.at + 2) (48 + a.number) c.is_byte.result c.if-not-is_byte.true c.is_byte.ensures)

pub returns-then-not-is_byte-2 : goal.returns-then-not-is_byte-2
returns-then-not-is_byte-2 c =
    let close-is : CloseAt c.args.text.now c.args.at = c.requires.1 (lt_of_le-ne c.requires.0 c.if-at-text.false) in
    let a = c.args in
    let short-yes = byte-yes a.text.now (a.at + 2) (48 + a.number) c.is_byte.result c.if-not-is_byte.false c.is_byte.ensures in
    short-wrong-1 _ _ _ close-is c.if-number-lt10.true short-yes
    (byte-no a.text.now (a.at + 3) (62) c.is_byte-then-number-lt10.result c.if-not-is_byte-2.true c.is_byte-then-number-lt10.ensures)

pub returns-then-not-is_byte-3 : goal.returns-then-not-is_byte-3
returns-then-not-is_byte-3 c =
    let close-is : CloseAt c.args.text.now c.args.at = c.requires.1 (lt_of_le-ne c.requires.0 c.if-at-text.false) in
    let a = c.args in
    long-wrong-0 _ _ _ close-is c.if-number-lt10.false
    (byte-no a.text.now (a.at + 2) (48 + a.number / 10) c.is_byte-else-number-lt10.result c.if-not-is_byte-3.true c.is_byte-else-number-lt10.ensures)

pub returns-then-not-is_byte-4 : goal.returns-then-not-is_byte-4
returns-then-not-is_byte-4 c =
    let close-is : CloseAt c.args.text.now c.args.at = c.requires.1 (lt_of_le-ne c.requires.0 c.if-at-text.false) in
    let a = c.args in
    let long-yes = byte-yes a.text.now (a.at + 2) (48 + a.number / 10) c.is_byte-else-number-lt10.result c.if-not-is_byte-3.false c.is_byte-else-number-lt10.ensures in
    long-wrong-1 _ _ _ close-is c.if-number-lt10.false long-yes
    (byte-no a.text.now (a.at + 3) (48 + a.number % 10) c.is_byte-else-number-lt10-2.result c.if-not-is_byte-4.true c.is_byte-else-number-lt10-2.ensures)

pub returns-then-not-is_byte-5 : goal.returns-then-not-is_byte-5
returns-then-not-is_byte-5 c =
    let close-is : CloseAt c.args.text.now c.args.at = c.requires.1 (lt_of_le-ne c.requires.0 c.if-at-text.false) in
    let a = c.args in
    let long-yes = byte-yes a.text.now (a.at + 2) (48 + a.number / 10) c.is_byte-else-number-lt10.result c.if-not-is_byte-3.false c.is_byte-else-number-lt10.ensures in
    let long-yes-2 = byte-yes a.text.now (a.at + 3) (48 + a.number % 10) c.is_byte-else-number-lt10-2.result c.if-not-is_byte-4.false c.is_byte-else-number-lt10-2.ensures in
    long-wrong-2 _ _ _ close-is c.if-number-lt10.false long-yes long-yes-2
    (byte-no a.text.now (a.at + 4) (62) c.is_byte-else-number-lt10-3.result c.if-not-is_byte-5.true c.is_byte-else-number-lt10-3.ensures)

pub returns-else-not-is_byte-2 : goal.returns-else-not-is_byte-2
returns-else-not-is_byte-2 c =
    let close-is : CloseAt c.args.text.now c.args.at = c.requires.1 (lt_of_le-ne c.requires.0 c.if-at-text.false) in
    let a = c.args in
    let short-yes = byte-yes a.text.now (a.at + 2) (48 + a.number) c.is_byte.result c.if-not-is_byte.false c.is_byte.ensures in
    short-shut _ _ _ close-is c.if-number-lt10.true short-yes
    (byte-yes a.text.now (a.at + 3) (62) c.is_byte-then-number-lt10.result c.if-not-is_byte-2.false c.is_byte-then-number-lt10.ensures)

pub returns-else-not-is_byte-5 : goal.returns-else-not-is_byte-5
returns-else-not-is_byte-5 c =
    let close-is : CloseAt c.args.text.now c.args.at = c.requires.1 (lt_of_le-ne c.requires.0 c.if-at-text.false) in
    let a = c.args in
    let long-yes = byte-yes a.text.now (a.at + 2) (48 + a.number / 10) c.is_byte-else-number-lt10.result c.if-not-is_byte-3.false c.is_byte-else-number-lt10.ensures in
    let long-yes-2 = byte-yes a.text.now (a.at + 3) (48 + a.number % 10) c.is_byte-else-number-lt10-2.result c.if-not-is_byte-4.false c.is_byte-else-number-lt10-2.ensures in
    long-shut _ _ _ close-is c.if-number-lt10.false long-yes long-yes-2 c.requires.2
    (byte-yes a.text.now (a.at + 4) (62) c.is_byte-else-number-lt10-3.result c.if-not-is_byte-5.false c.is_byte-else-number-lt10-3.ensures)
