-- A text that 18 passes: its elements, its nodes, and what 19, 4, 12 and 13 come to in the code's order.
-- Assumes nothing.
use Rattle.std.proofs.Common.{Option, Some, None, Result, Ok, Err}
use Prim.Native.Nat.{ℕ, ◌+◌, ◌*◌, ◌<◌, ◌≤◌}
use native.Mathlib.Omega.{arith}
use mathlib.Core.Path.{◌≡◌, refl, sym, ap, ◌∙◌}
use mathlib.Core.Bool.{true, false}
use mathlib.Core.List.{List}
use lib.Dec.{ltb}
use lib.ListN.{length}
use borrow.Author.Tests.{lt-ltb, le-ltb, ltb-false}
use Rattle.blocks.specs.FileOf.{blocks_needed, file_of}
use Rattle.tree.specs.Payload.{payload_of, tree_file}
use Rattle.blocks.specs.Search.{lowest}
use Rattle.relation.specs.Sets.{member}
use Rattle.model.specs.Trees.{size}
use Rattle.model.specs.declared.Signature.{Signature}
use Rattle.refusal.specs.Checks.{refused, refuse_if, refuse_at, ◌and_then◌, Check}
use Rattle.refusal.specs.declared.Fault.{Fault}
use Rattle.refusal.specs.declared.Refusal.{Refusal}
use Rattle.refusal.proofs.Passed.{clash, both-passed, if-passed, at-passed}
use Rattle.nodes.specs.Nodes.{nodes_check, height_check}
use Rattle.nodes.specs.Preorder.{preorder}
use Rattle.nodes.proofs.Standing.{size-preorder}
use Rattle.tree_writer.proofs.Reading.{tree-long}
use Rattle.tags.specs.Tags.{bad_tag, nodes_in}
use Rattle.grammar.specs.Grammar.{Elements, Text, WrongAt, tree_of}
use Rattle.grammar.specs.Wrong.{wrong_place}
use Rattle.grammar.specs.Reading.{parse_of}
use Rattle.grammar.specs.declared.Wrong.{Wrong}
use Rattle.grammar.proofs.Decided.{answered, one_answer}
use Rattle.markup.specs.Checks.{text_tree, text_check, tag_check, size_check, tree_check, Signed}
use Rattle.block_writer.specs.Written.{room_check, filled, filled_after}
use Rattle.markup.specs.Written.{text_file, markup_check, markup_for, refused_by}
use Rattle.markup.proofs.Unambiguous.{text-elements, text-nodes}
use Rattle.markup.proofs.Heights.{passed-tags, only-height}

-- ---- 18

pub text-long : (s : List ℕ) → 32768 < length s → text_check s ≡ refused Fault.Text 2 32768
unfolding text_check
text-long s h = rw (lt-ltb 32768 (length s) h)

pub text-short : (s : List ℕ) → length s ≤ 32768 → text_check s ≡ refuse_at Fault.Text 2 (wrong_place s)
unfolding text_check
text-short s h = rw (le-ltb 32768 (length s) h)

pub text-wrong : (s : List ℕ) (place : ℕ) → WrongAt s place → wrong_place s ≡ Some place
text-wrong s place h = one_answer s (wrong_place s) (Some place) (answered s) h

pub text-nothing : (s : List ℕ) (r : Elements) → Text s r → wrong_place s ≡ None
text-nothing s r t = one_answer s (wrong_place s) None (answered s) (r, t)

pub text-passed : (s : List ℕ) → text_check s ≡ Ok tt → (length s ≤ 32768) × ((r : Elements) × Text s r)
unfolding text_check
text-passed s e =
    let both = both-passed (refuse_if (ltb 32768 (length s)) Fault.Text 2 32768) (refuse_at Fault.Text 2 (wrong_place s)) e in
    (ltb-false 32768 (length s) (if-passed _ Fault.Text 2 32768 both.0), rw (at-passed (wrong_place s) Fault.Text 2 both.1) at (answered s))

abbrev place_read : Result ℕ Wrong → ℕ
place_read (Ok k) = k
place_read (Err wrong) = wrong.0

-- by what was read
pub read-wrong : (s : List ℕ) (x : Result ℕ Wrong) (place : ℕ) → length s ≤ 32768 → x ≡ parse_of (wrong_place s) (length (nodes_in s)) → x ≡ Err (record { 0 = place })
    → text_check s ≡ refused Fault.Text 2 place
read-wrong s x place h e f = text-short s h ∙ go (wrong_place s) (sym e ∙ f)
  where
    go : (w : Option ℕ) → parse_of w (length (nodes_in s)) ≡ Err (record { 0 = place }) → refuse_at Fault.Text 2 w ≡ refused Fault.Text 2 place
    go None g = clash (cc)
    go (Some p) g = let same : p ≡ place = ap place_read g in ap (λ (n : ℕ). refused Fault.Text 2 n) same

pub read_right : (s : List ℕ) (x : Result ℕ Wrong) (k : ℕ) → length s ≤ 32768 → x ≡ parse_of (wrong_place s) (length (nodes_in s)) → x ≡ Ok k
    → (text_check s ≡ Ok tt) × (k ≡ length (nodes_in s))
read_right s x k h e f = let g = go (wrong_place s) (sym e ∙ f) in (text-short s h ∙ g.0, g.1)
  where
    go : (w : Option ℕ) → parse_of w (length (nodes_in s)) ≡ Ok k → (refuse_at Fault.Text 2 w ≡ Ok tt) × (k ≡ length (nodes_in s))
    go None g = (refl, cc)
    go (Some p) g = clash (cc)

-- ---- the tree

pub text-tree : {s : List ℕ} {r : Elements} → Text s r → text_tree s ≡ tree_of r
text-tree t = ap tree_of (text-elements t.writes)

module _ (s : List ℕ) (passed : text_check s ≡ Ok tt) where
  pub nodes_are : nodes_in s ≡ preorder (text_tree s)
  nodes_are = let t = (text-passed s passed).1.1 in text-nodes t.writes ∙ ap preorder (sym (text-tree t))

  pub size_is : size (text_tree s) ≡ length (nodes_in s)
  size_is = sym (size-preorder (text_tree s)) ∙ ap length (sym nodes_are)

  pub few : length (nodes_in s) ≤ 4096 → size_check s ≡ Ok tt
  unfolding size_check
  few h = rw (size_is, le-ltb 4096 (length (nodes_in s)) h)

  pub many : 4096 < length (nodes_in s) → size_check s ≡ refused Fault.Count 1 2
  unfolding size_check
  many h = rw (size_is, lt-ltb 4096 (length (nodes_in s)) h)

  pub long-is : length (text_file s) ≡ 512 * blocks_needed (4 + length (nodes_in s))
  long-is = tree-long (text_tree s) ∙ ap (λ (n : ℕ). 512 * blocks_needed (4 + n)) size_is

-- the file that is written from the nodes is the text's
pub file-is : (s nodes : List ℕ) → text_check s ≡ Ok tt → nodes ≡ nodes_in s → file_of (payload_of nodes) ≡ text_file s
unfolding tree_file
file-is s nodes passed e = ap (λ (x : List ℕ). file_of (payload_of x)) (e ∙ nodes_are s passed)

-- ---- 19

module _ (sg : Signature) (s : List ℕ) where
  pub zero-tag : member sg.branches 0 ≡ true → tag_check sg s ≡ refused Fault.Tag 2 0
  unfolding tag_check
  zero-tag e = rw e

  pub leaf-zero : tag_check sg s ≡ Ok tt → member sg.branches 0 ≡ false
  unfolding tag_check
  leaf-zero e =
      if-passed _ Fault.Tag 2 0 (both-passed (refuse_if (member sg.branches 0) Fault.Tag 2 0) (refuse_at Fault.Tag 2 (lowest (bad_tag sg.branches s) (length s))) e).0

  pub other-tags : member sg.branches 0 ≡ false → (f : Option ℕ) → lowest (bad_tag sg.branches s) (length s) ≡ f → tag_check sg s ≡ refuse_at Fault.Tag 2 f
  unfolding tag_check
  other-tags e f k = rw (e, k)

-- ---- 19, 4 and 12, by lines 10 to 12 of the nodes

module _ (sg : Signature) (s : List ℕ) (signed : Signed sg) (passed : text_check s ≡ Ok tt) (leaf : member sg.branches 0 ≡ false) where
  -- lines 10 to 12 pass the nodes: 19 and 12 pass the text
  pub nodes-passed : nodes_check sg (nodes_in s) ≡ Ok tt → (tag_check sg s ≡ Ok tt) × (height_check (text_tree s) ≡ Ok tt)
  nodes-passed e =
      let t = (text-passed s passed).1 in
      let w = t.1.writes in
      let tags = passed-tags sg s t.0 w leaf e in
      (tags, rw (text-tree t.1) (sym (only-height sg s t.0 w leaf tags signed) ∙ e))

  -- 19 passes the text: lines 10 to 12 are 12
  pub tags-passed : tag_check sg s ≡ Ok tt → nodes_check sg (nodes_in s) ≡ height_check (text_tree s)
  tags-passed e =
      let t = (text-passed s passed).1 in
      only-height sg s t.0 t.1.writes leaf e signed ∙ ap height_check (sym (text-tree t.1))

-- ---- 4 and 12, after 19

module _ (sg : Signature) (s : List ℕ) (passed : text_check s ≡ Ok tt) (tags : tag_check sg s ≡ Ok tt) where
  pub large-tree : 4096 < length (nodes_in s) → tag_check sg s and_then tree_check s ≡ refused Fault.Count 1 2
  unfolding tree_check
  large-tree h = rw (tags, many s passed h)

  pub small-tree : length (nodes_in s) ≤ 4096 → tag_check sg s and_then tree_check s ≡ height_check (text_tree s)
  unfolding tree_check
  small-tree h = rw (tags, few s passed h)

-- the same where no tag is bad, for the check itself
pub many_told : (sg : Signature) (s : List ℕ) → text_check s ≡ Ok tt → member sg.branches 0 ≡ false → lowest (bad_tag sg.branches s) (length s) ≡ None
    → 4096 < length (nodes_in s) → tag_check sg s and_then tree_check s ≡ refused Fault.Count 1 2
many_told sg s passed leaf tags h = large-tree sg s passed (other-tags sg s leaf _ tags) h

-- what 4 leaves
pub tree-few : (s : List ℕ) → text_check s ≡ Ok tt → tree_check s ≡ Ok tt → length (nodes_in s) ≤ 4096
unfolding tree_check size_check
tree-few s passed e =
    let both = both-passed (size_check s) (height_check (text_tree s)) e in
    let h = ltb-false 4096 (size (text_tree s)) (if-passed _ Fault.Count 1 2 both.0) in
    omega (arith, size_is s passed)

-- ---- the answer, by the first check that refuses

then-assoc : (a b c : Check) → (a and_then b) and_then c ≡ a and_then b and_then c
then-assoc (Ok tt) b c = refl
then-assoc (Err r) b c = refl

module _ (sg : Signature) (s out : List ℕ) where
  pub text-told : (place : ℕ) (c : Check) (x : Result ℕ Refusal) → text_check s ≡ refused Fault.Text 2 place → c ≡ refused Fault.Text 2 place → x ≡ refused_by c
      → filled x out ≡ markup_for sg s out
  unfolding markup_for markup_check
  text-told place c x e f g = rw (e, g, f)

  module _ (passed : text_check s ≡ Ok tt) where
    pub tree-refused : (r : Refusal) → tag_check sg s and_then tree_check s ≡ Err r → markup_for sg s out ≡ filled (Err r) out
    unfolding markup_for markup_check
    tree-refused r e =
        let room = room_check (length (text_file s)) (length out) in
        let f : tag_check sg s and_then tree_check s and_then room ≡ Err r = sym (then-assoc (tag_check sg s) (tree_check s) room) ∙ ap (λ (c : Check). c and_then room) e in
        rw (passed, f)

    pub room-decides : tag_check sg s ≡ Ok tt → tree_check s ≡ Ok tt → markup_for sg s out ≡ filled_after (room_check (length (text_file s)) (length out)) (text_file s) out
    unfolding markup_for markup_check
    room-decides t k = rw (passed, t, k)

-- a text that is too long, for the check itself
pub long_told : (sg : Signature) (s out : List ℕ) (c : Check) (x : Result ℕ Refusal) → 32768 < length s → c ≡ refused Fault.Text 2 32768 → x ≡ refused_by c
    → filled x out ≡ markup_for sg s out
long_told sg s out c x h e f = text-told sg s out 32768 c x (text-long s h) e f
