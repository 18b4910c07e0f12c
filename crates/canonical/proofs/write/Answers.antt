-- `canonical::write` meets its contract: a file that reads is compiled and written from its table, and a refused one leaves the output.
-- Assumes nothing.
use Rattle.std.proofs.Common.{Ok}
use Prim.Native.Nat.{ℕ, ◌*◌, ◌≤◌}
use mathlib.Core.Path.{◌≡◌, refl, sym, ap, ◌∙◌}
use mathlib.Core.List.{List}
use native.Mathlib.Omega.{arith}
use lib.ListN.{length, take}
use Rattle.blocks.specs.Blocks.{content}
use Rattle.refusal.proofs.Cases.{handed_on}
use Rattle.automaton.specs.File.{parsed}
use Rattle.automaton.specs.declared.Header.{Header}
use Rattle.automaton.proofs.Passed.{file-read, file-limits, contents-are, contents-fit}
use Rattle.transitions.specs.Transitions.{automaton_of}
use Rattle.transitions.specs.Compiled.{Compiled, next_in}
use Rattle.block_writer.specs.Written.{Filled, filled}
use Rattle.rule_order.specs.Listed.{listed}
use Rattle.rule_order.proofs.Listing.{listed-ordered}
use Rattle.canonical.specs.Canonical.{written_for, canonical_of}
use Rattle.canonical.specs.Promise.{Promise}
use Rattle.canonical.proofs.Form.{remaining-few}
use Rattle.canonical.proofs.OneForm.{refused-is, read_is, canonical-right}
use Rattle.canonical.proofs.write.Goals as goal

-- what is equal to the definition's answer and bytes meets the promise
promised : (s before : List ℕ) (o : Filled) → o ≡ canonical_of s before → Promise s before o
promised s before o e = rw e (canonical-right s before)

-- the rules in the table are those that remain, 1,536 at the most
room : (s : List ℕ) (h : Header) (table : List ℕ) → parsed s ≡ Ok h → Compiled (automaton_of h (content s)) table
    → 5 * length (listed (next_in table) h.states h.symbols) ≤ 7680
room s h table e k =
    let n = ap length (listed-ordered h (content s) table (file-limits s h e) k) in
    omega (arith, n, remaining-few h (content s) (file-read s h e).laid_out.few)

made : (s : List ℕ) (h : Header) (table out : List ℕ) (o : Filled) → parsed s ≡ Ok h → Compiled (automaton_of h (content s)) table
    → o ≡ written_for h (listed (next_in table) h.states h.symbols) out → o ≡ canonical_of s out
made s h table out o e k w =
    w ∙ ap (λ (l : List _). written_for h l out) (listed-ordered h (content s) table (file-limits s h e) k) ∙ sym (read_is s out h e)

pub slice_bounds-contents-end : goal.slice_bounds-contents-end
slice_bounds-contents-end c =
    -- the part of the buffer that is lent on holds the joined contents
    let content-is : take c.content_length-len.result c.parse.new.contents ≡ content c.args.file.now =
    contents-are _ _ _ _ c.in_ok-header.header _ c.in_ok-header.was c.parse.ensures.1 c.content_length-len.ensures in
    contents-fit _ _ _ c.content_length-len.ensures content-is

pub slice_bounds-compile-end : goal.slice_bounds-compile-end
slice_bounds-compile-end c =
    -- the part of the buffer that is lent on holds the joined contents
    let content-is : take c.content_length-len.result c.parse.new.contents ≡ content c.args.file.now =
    contents-are _ _ _ _ c.in_ok-header.header _ c.in_ok-header.was c.parse.ensures.1 c.content_length-len.ensures in
    rw content-is c.content_length-len.ensures

pub compile-requires : goal.compile-requires
compile-requires c =
    -- the file reads
    let read : parsed c.args.file.now ≡ Ok c.in_ok-header.header = sym c.parse.ensures.0 ∙ c.in_ok-header.was in
    -- the part of the buffer that is lent on holds the joined contents
    let content-is : take c.content_length-len.result c.parse.new.contents ≡ content c.args.file.now =
    contents-are _ _ _ _ c.in_ok-header.header _ c.in_ok-header.was c.parse.ensures.1 c.content_length-len.ensures in
    (rw content-is (file-read _ _ read).laid_out, refl)

pub write_table-requires : goal.write_table-requires
write_table-requires c =
    -- the file reads
    let read : parsed c.args.file.now ≡ Ok c.in_ok-header.header = sym c.parse.ensures.0 ∙ c.in_ok-header.was in
    -- the part of the buffer that is lent on holds the joined contents
    let content-is : take c.content_length-len.result c.parse.new.contents ≡ content c.args.file.now =
    contents-are _ _ _ _ c.in_ok-header.header _ c.in_ok-header.was c.parse.ensures.1 c.content_length-len.ensures in
    -- the table has the compiled transitions
    let compiled : Compiled (automaton_of c.in_ok-header.header (content c.args.file.now)) c.compile.new.table = rw content-is at c.compile.ensures in
    (file-limits _ _ read, room _ _ _ read compiled)

pub returns-in_err-header : goal.returns-in_err-header
returns-in_err-header c =
    let e : filled c.from_residual.result c.args.out.now ≡ canonical_of c.args.file.now c.args.out.now =
    rw (handed_on _ _ c.from_residual.ensures.1) (sym (refused-is _ _ _ (sym c.parse.ensures.0 ∙ c.in_err-header.was))) in
    record { equals = e; right = promised _ _ _ e }

pub returns : goal.returns
returns c =
    -- the file reads
    let read : parsed c.args.file.now ≡ Ok c.in_ok-header.header = sym c.parse.ensures.0 ∙ c.in_ok-header.was in
    -- the part of the buffer that is lent on holds the joined contents
    let content-is : take c.content_length-len.result c.parse.new.contents ≡ content c.args.file.now =
    contents-are _ _ _ _ c.in_ok-header.header _ c.in_ok-header.was c.parse.ensures.1 c.content_length-len.ensures in
    -- the table has the compiled transitions
    let compiled : Compiled (automaton_of c.in_ok-header.header (content c.args.file.now)) c.compile.new.table = rw content-is at c.compile.ensures in
    let e = made _ _ _ _ _ read compiled c.write_table.ensures in
    record { equals = e; right = promised _ _ _ e }
