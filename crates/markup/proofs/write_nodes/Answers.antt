-- `markup::write_nodes` meets its contract.
-- Assumes nothing.
use Rattle.refusal.proofs.Cases.{handed_on}
use Rattle.std.proofs.Common.{Ok, Err}
use Prim.Native.Nat.{ℕ, ◌+◌, ◌*◌, ◌≤◌}
use mathlib.Core.Path.{◌≡◌, sym, ap, ◌∙◌}
use mathlib.Core.List.{List}
use Rattle.model.specs.declared.Signature.{Signature}
use Rattle.tags.specs.Tags.{nodes_in}
use native.Mathlib.Omega.{arith}
use lib.ListN.{length}
use Rattle.blocks.specs.FileOf.{blocks_needed, file_of}
use Rattle.tree.specs.Payload.{payload_of}
use Rattle.block_writer.specs.Written.{room_check, filled_after}
use Rattle.block_writer.proofs.Answers.{room-passed, told}
use Rattle.refusal.proofs.Passed.{both-passed}
use Rattle.markup.specs.Checks.{text_check, tag_check, tree_check}
use Rattle.markup.specs.Written.{text_file, markup_for}
use Rattle.markup.proofs.Checked.{tree-few, tree-refused, room-decides, long-is, file-is}
use Rattle.refusal.specs.Checks.{Check}
use Rattle.markup.proofs.write_nodes.Goals as goal

-- what is left is 13
room-is :
    (sg : Signature) (s nodes out : List ℕ) → text_check s ≡ Ok tt → nodes ≡ nodes_in s → tag_check sg s ≡ Ok tt → tree_check s ≡ Ok tt →
    (x : Check) → x ≡ room_check (512 * blocks_needed (4 + length nodes)) (length out) → markup_for sg s out ≡ filled_after x (text_file s) out
room-is sg s nodes out text listed tags tree x e =
    let n : length (text_file s) ≡ 512 * blocks_needed (4 + length nodes) = rw listed (long-is s text) in
    room-decides sg s out text tags tree
    ∙ ap (λ (c : Check). filled_after c (text_file s) out) (ap (λ (k : ℕ). room_check k (length out)) n ∙ sym e)

pub returns-in_err-tree_check : goal.returns-in_err-tree_check
returns-in_err-tree_check c =
    let e = handed_on _ _ c.from_residual.ensures.1 in
    rw e (sym (tree-refused c.args.signature c.args.text.now c.args.out.now c.requires.1 _ (sym c.tree_check.ensures ∙ c.in_err-tree_check.was)))

pub room_check-requires : goal.room_check-requires
room_check-requires c =
    -- 19, 4 and 12 pass the text
    let checks : (tag_check c.args.signature c.args.text.now ≡ Ok tt) × (tree_check c.args.text.now ≡ Ok tt) = both-passed _ _ (sym c.tree_check.ensures ∙ c.in_ok-tree_check.was) in
    let few : length c.args.nodes.now ≤ 4096 = rw c.requires.2 (tree-few _ c.requires.1 checks.1) in
    omega (arith, few)

pub returns-in_err-room_check : goal.returns-in_err-room_check
returns-in_err-room_check c =
    -- 19, 4 and 12 pass the text
    let checks : (tag_check c.args.signature c.args.text.now ≡ Ok tt) × (tree_check c.args.text.now ≡ Ok tt) = both-passed _ _ (sym c.tree_check.ensures ∙ c.in_ok-tree_check.was) in
    let e = handed_on _ _ c.from_residual-in_err-room_check.ensures.1 in
    rw e (sym (room-is c.args.signature c.args.text.now c.args.nodes.now c.args.out.now c.requires.1 c.requires.2 checks.0 checks.1 (Err _)
    (sym c.in_err-room_check.was ∙ c.room_check.ensures)))

pub write_tree-requires : goal.write_tree-requires
write_tree-requires c =
    -- 19, 4 and 12 pass the text
    let checks : (tag_check c.args.signature c.args.text.now ≡ Ok tt) × (tree_check c.args.text.now ≡ Ok tt) = both-passed _ _ (sym c.tree_check.ensures ∙ c.in_ok-tree_check.was) in
    let few : length c.args.nodes.now ≤ 4096 = rw c.requires.2 (tree-few _ c.requires.1 checks.1) in
    (few, room-passed _ (length c.args.out.now) (sym c.room_check.ensures ∙ c.in_ok-room_check.was))

pub returns : goal.returns
returns c =
    -- 19, 4 and 12 pass the text
    let checks : (tag_check c.args.signature c.args.text.now ≡ Ok tt) × (tree_check c.args.text.now ≡ Ok tt) = both-passed _ _ (sym c.tree_check.ensures ∙ c.in_ok-tree_check.was) in
    let e = c.write_tree.ensures in
    let n : file_of (payload_of c.args.nodes.now) ≡ text_file c.args.text.now = file-is _ _ c.requires.1 c.requires.2 in
    told _ _ (text_file c.args.text.now) c.args.out.now (rw n at e.0) (rw n at e.1)
    ∙ sym (room-is c.args.signature c.args.text.now c.args.nodes.now c.args.out.now c.requires.1 c.requires.2 checks.0 checks.1 (Ok tt)
    (sym c.in_ok-room_check.was ∙ c.room_check.ensures))
