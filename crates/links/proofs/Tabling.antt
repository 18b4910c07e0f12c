-- What a node list and the tables of its links hold of a tree: after `link`, and at a node.
-- Assumes nothing.
use Prim.Native.Nat.{ℕ, ◌≤◌, ◌<◌}
use native.Mathlib.Omega.{arith}
use mathlib.Core.Path.{◌≡◌, ap, ◌∙◌}
use mathlib.Core.List.{List, ◌++◌}
use lib.ListN.{length, get_or, drop, get_or-append, length-append}
use Rattle.model.specs.Trees.{Tree, size}
use Rattle.nodes.specs.Preorder.{preorder}
use Rattle.nodes.proofs.Standing.{size-preorder}
use Rattle.links.specs.Links.{parents_of, rights_of, place_in}
use Rattle.links.specs.Tables.{Tables}
use Rattle.links.proofs.Storing.{parents-length, rights-length}

-- links at the front of a table
module _ (front table rest : List ℕ) (n : ℕ) (long : length front ≡ n) (e : table ≡ front ++ rest) where
  front_long : n ≤ length table
  front_long = omega (arith, ap length e, length-append front rest)

  front_at : (i : ℕ) → i < n → get_or table i 0 ≡ get_or front i 0
  front_at i h = rw e (get_or-append front rest 0 i (omega arith))

-- after `link`
pub tables-are : (t : Tree) (s P R before before' : List ℕ) → size t ≤ 4096 → s ≡ preorder t
    → (P ≡ parents_of t ++ drop (size t) before) × (R ≡ rights_of t ++ drop (size t) before') → Tables t s P R
tables-are t s P R before before' few nodes links =
    record {
      few_nodes = few;
      nodes_are = nodes;
      parents_long = front_long (parents_of t) P _ (size t) (parents-length 0 0 t) links.0;
      parents_are = front_at (parents_of t) P _ (size t) (parents-length 0 0 t) links.0;
      rights_long = front_long (rights_of t) R _ (size t) (rights-length 0 t) links.1;
      rights_are = front_at (rights_of t) R _ (size t) (rights-length 0 t) links.1;
    }

-- at a node
module _ {t : Tree} {s P R : List ℕ} (h : Tables t s P R) (i : ℕ) (l : i < size t) where
  pub node-within : (i < length s) × (i < length P) × (i < length R) × (i < 65536)
  node-within =
      let long : length s ≡ size t = ap length h.nodes_are ∙ size-preorder t in
      (omega arith, omega (arith, h.parents_long), omega (arith, h.rights_long), omega (arith, h.few_nodes))

  pub symbol-read : get_or s i 0 ≡ get_or (preorder t) i 0
  symbol-read = ap (λ (x : List ℕ). get_or x i 0) h.nodes_are

  -- the place is by the parent alone
  pub place_read : place_in P i ≡ place_in (parents_of t) i
  unfolding place_in
  place_read = rw (h.parents_are i l)
