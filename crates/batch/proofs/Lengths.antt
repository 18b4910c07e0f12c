-- The length told by the first block is that of every file that reads. Assumes nothing.
use Rattle.std.proofs.Common.{Ok, Err}
use Prim.Native.Nat.{ℕ, ◌+◌, ◌*◌, ◌/◌, ◌%◌, ◌≤◌, ◌<◌}
use mathlib.Core.Path.{◌≡◌, refl, sym, ap, ap₂, ◌∙◌}
use mathlib.Core.List.{List}
use native.Mathlib.Omega.{arith}
use borrow.Author.Tests.{eqb-true, le-leb, not-false}
use lib.ListN.{length, get_or, take}
use lib.Seq.{get_or-take, length-take-le}
use Rattle.blocks.specs.Blocks.{half_at, content}
use Rattle.blocks.proofs.Laws.{content-length, content-at}
use Rattle.refusal.specs.Checks.{◌and_then◌, Check}
use Rattle.refusal.specs.Lines.{file_check, kind_check, count_check, blocks_needed, size_check}
use Rattle.refusal.specs.declared.Fault.{Fault}
use Rattle.refusal.proofs.Passed.{clash, both-passed, if-passed, count-passed, file-passed}
use Rattle.model.specs.declared.Signature.{Signature}
use Rattle.tree.specs.File.{tree_format, count_of, layout_check, body_check, nodes_if, read_tree}
use Rattle.batch.specs.Batch.{file_blocks}

passed-of : (c : Check) (k k' : ℕ) → nodes_if c k ≡ Ok k' → c ≡ Ok tt
passed-of (Ok tt) k k' e = refl
passed-of (Err r) k k' e = clash (cc)

-- a byte of the header stands in the first block
header-byte : (s : List ℕ) (i : ℕ) → 512 ≤ length s → i < 4 → get_or (content s) i 0 ≡ get_or (take 512 s) i 0
header-byte s i long few =
    let place : i / 508 * 512 + i % 508 ≡ i = omega arith in
    content-at s i (omega arith) ∙ ap (λ (n : ℕ). get_or s n 0) place ∙ sym (get_or-take 512 s i 0 (omega arith))

blocks-of : (first : List ℕ) (nodes : ℕ) → 4 ≤ length first → nodes ≡ half_at first 2 → nodes ≤ 4096
    → file_blocks first ≡ blocks_needed (4 + nodes)
unfolding file_blocks
blocks-of first nodes h e l = rw (← e, le-leb 4 (length first) h, le-leb nodes 4096 l) refl

-- as many blocks as line 5 asks for
whole-blocks : (n m b : ℕ) → n % 512 ≡ 0 → m ≡ n / 512 * 508 → m / 508 ≡ b → n ≡ 512 * b
whole-blocks n m b e f g = omega arith

pub file-length : (sg : Signature) (s : List ℕ) (k : ℕ) → read_tree sg s ≡ Ok k → length s ≡ 512 * file_blocks (take 512 s)
unfolding read_tree layout_check size_check
file-length sg s k e =
    let p = content s in
    let all = both-passed (file_check tree_format s) (layout_check p and_then body_check sg p) (passed-of _ _ _ e) in
    let layout = (both-passed (layout_check p) (body_check sg p) all.1).0 in
    let counts = (both-passed (kind_check tree_format p) (count_check tree_format (count_of p) 1 4096 2 and_then size_check tree_format (4 + count_of p) p) layout).1 in
    let both = both-passed (count_check tree_format (count_of p) 1 4096 2) (size_check tree_format (4 + count_of p) p) counts in
    let limits = count-passed tree_format (count_of p) 1 4096 2 both.0 in
    let blocks : length p / 508 ≡ blocks_needed (4 + count_of p) = eqb-true _ _ (not-false _ (if-passed _ Fault.Size 1 (blocks_needed (4 + count_of p)) both.1)) in
    let file = file-passed tree_format s all.0 in
    let nodes = ap₂ (λ (a b : ℕ). a + 256 * b) (header-byte s 2 file.some (omega arith)) (header-byte s 3 file.some (omega arith)) in
    let header : 4 ≤ length (take 512 s) = omega (arith, length-take-le 512 s file.some) in
    let told = blocks-of (take 512 s) (count_of p) header nodes limits.1 in
    whole-blocks (length s) (length p) (file_blocks (take 512 s)) file.whole (content-length s) (blocks ∙ sym told)
