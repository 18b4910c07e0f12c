-- Refusals 16 and 13, by the size that the code counts up to 4,097.
-- Assumes nothing.
use Rattle.std.proofs.Common.{Ok}
use Prim.Native.Nat.{ℕ, ◌+◌, ◌*◌, ◌<◌, ◌≤◌, min}
use native.Mathlib.Omega.{arith}
use mathlib.Core.Path.{◌≡◌}
use mathlib.Core.List.{List}
use borrow.Author.Tests.{lt-ltb, le-ltb, ltb-false}
use lib.ListN.{length}
use Rattle.blocks.specs.FileOf.{blocks_needed}
use Rattle.model.specs.Trees.{size}
use Rattle.refusal.specs.Checks.{refused, Check}
use Rattle.refusal.specs.declared.Fault.{Fault}
use Rattle.refusal.proofs.Passed.{both-passed, if-passed}
use Rattle.tree_writer.proofs.Reading.{tree-long}
use Rattle.block_writer.specs.Written.{room_check}
use Rattle.block_writer.proofs.Answers.{room-passed}
use Rattle.witness.specs.Plan.{plan_tree, large_check}
use Rattle.witness.specs.Written.{plan_file, space_check}

-- `file::space_check` names this one
pub space_large : (p : List ℕ) (room : ℕ) → 4096 < size (plan_tree p) → space_check p room ≡ refused Fault.Large 2 0
unfolding space_check large_check
space_large p room h = rw (lt-ltb 4096 (size (plan_tree p)) h)

pub not-large : (p : List ℕ) (n : ℕ) → n ≡ min (size (plan_tree p)) 4097 → n ≤ 4096 → large_check p ≡ Ok tt
unfolding large_check
not-large p n e h = rw (le-ltb 4096 (size (plan_tree p)) (omega arith))

pub counted : (p : List ℕ) (n : ℕ) → n ≡ min (size (plan_tree p)) 4097 → n ≤ 4096 → n ≡ size (plan_tree p)
counted p n e h = omega arith

-- the length of the file, by the size of its tree
pub file-long : (p : List ℕ) → length (plan_file p) ≡ 512 * blocks_needed (4 + size (plan_tree p))
file-long p = tree-long (plan_tree p)

pub room-is : (p : List ℕ) (room n : ℕ) {x : Check} → n ≡ size (plan_tree p) → x ≡ room_check (512 * blocks_needed (4 + n)) room
    → x ≡ room_check (length (plan_file p)) room
room-is p room n e ex = rw (file-long p, ← e) ex

pub large-passed : (p : List ℕ) → large_check p ≡ Ok tt → size (plan_tree p) ≤ 4096
unfolding large_check
large-passed p e = ltb-false 4096 (size (plan_tree p)) (if-passed _ Fault.Large 2 0 e)

pub space-passed : (p : List ℕ) (room : ℕ) → space_check p room ≡ Ok tt → (size (plan_tree p) ≤ 4096) × (length (plan_file p) ≤ room)
unfolding space_check
space-passed p room e =
    let both = both-passed (large_check p) (room_check (length (plan_file p)) room) e in
    (large-passed p both.0, room-passed (length (plan_file p)) room both.1)

pub space-passes : (p : List ℕ) (room : ℕ) → large_check p ≡ Ok tt → room_check (length (plan_file p)) room ≡ Ok tt → space_check p room ≡ Ok tt
unfolding space_check
space-passes p room l r = rw (l, r)
