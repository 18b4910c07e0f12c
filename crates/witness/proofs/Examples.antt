-- Plans over the symbols 0, 1 (leaves) and 2 (a branch), by computing.
-- Assumes nothing.
use Rattle.std.proofs.Common.{Ok}
use mathlib.Core.Path.{◌≡◌, refl}
use mathlib.Core.List.{List, [], ◌∷◌}
use Prim.Native.Nat.{ℕ}
use Rattle.blocks.specs.Search.{lowest_from}
use Rattle.relation.specs.Sets.{member}
use Rattle.model.specs.Trees.{leaf, node}
use Rattle.model.specs.declared.Signature.{Signature}
use Rattle.refusal.specs.Checks.{refused}
use Rattle.refusal.specs.declared.Fault.{Fault}
use Rattle.nodes.specs.Preorder.{preorder}
use Rattle.witness.specs.Plan.{tree_within, row_tree, plan_tree, length_wrong, parts_wrong, row_wrong, plan_check}

abbrev sg : Signature
sg = record { symbols = 3; branches = 4 }

abbrev plan : List ℕ
plan = 0 ∷ 255 ∷ 255 ∷ 1 ∷ 255 ∷ 255 ∷ 2 ∷ 0 ∷ 1 ∷ []

-- "A shared row is copied each time it is used."
abbrev shared : List ℕ
shared = 0 ∷ 255 ∷ 255 ∷ 2 ∷ 0 ∷ 0 ∷ 2 ∷ 1 ∷ 1 ∷ []

tree-of-plan : plan_tree plan ≡ node 2 (leaf 0) (leaf 1)
unfolding row_tree tree_within
tree-of-plan = refl

shared-nodes : preorder (plan_tree shared) ≡ 2 ∷ 2 ∷ 0 ∷ 0 ∷ 2 ∷ 0 ∷ 0 ∷ []
unfolding row_tree tree_within preorder
shared-nodes = refl

passes : plan_check sg plan ≡ Ok tt
unfolding plan_check length_wrong row_wrong parts_wrong lowest_from member
passes = refl

empty : plan_check sg [] ≡ refused Fault.Plan 2 0
unfolding plan_check length_wrong
empty = refl

four_bytes : plan_check sg (0 ∷ 255 ∷ 255 ∷ 0 ∷ []) ≡ refused Fault.Plan 2 0
unfolding plan_check length_wrong
four_bytes = refl

itself : plan_check sg (0 ∷ 255 ∷ 255 ∷ 2 ∷ 0 ∷ 1 ∷ []) ≡ refused Fault.Plan 2 1
unfolding plan_check length_wrong row_wrong parts_wrong lowest_from member
itself = refl

-- every row is looked at, used or not
unused : plan_check sg (0 ∷ 255 ∷ 255 ∷ 3 ∷ 255 ∷ 255 ∷ 2 ∷ 0 ∷ 0 ∷ []) ≡ refused Fault.Plan 2 1
unfolding plan_check length_wrong row_wrong parts_wrong lowest_from member
unused = refl

leaf-with-parts : plan_check sg (0 ∷ 255 ∷ 255 ∷ 1 ∷ 0 ∷ 0 ∷ []) ≡ refused Fault.Plan 2 1
unfolding plan_check length_wrong row_wrong parts_wrong lowest_from member
leaf-with-parts = refl

one-255 : plan_check sg (0 ∷ 255 ∷ 255 ∷ 2 ∷ 0 ∷ 255 ∷ []) ≡ refused Fault.Plan 2 1
unfolding plan_check length_wrong row_wrong parts_wrong lowest_from member
one-255 = refl
