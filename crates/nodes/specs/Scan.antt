-- What one pass over a node list finds, and what that says of lines 10 to 12 (`Scanning`, `proofs/Waiting`: the same as the whole list does).
-- Interface: `nothing_read`, `first_after`, `parts_after`, `Fits`, `risen_from`, `descended_from`, `path_after`, `scanned_of`, `scan_of`, `symbols_by`,
-- `shape_by`, `height_by`.
use Rattle.std.specs.Prelude.{ℕ, zero, suc, ◌+◌, ◌-◌, ◌*◌, ◌/◌, ◌%◌, ◌^◌, ◌<◌, Bool, true, false, List, [], ◌∷◌, eqb, ltb, leb}
use Rattle.relation.specs.Sets.{member}
use Rattle.model.specs.declared.Signature.{Signature}
use Rattle.refusal.specs.Checks.{refuse_if, ◌and_then◌, Check}
use Rattle.refusal.specs.declared.Fault.{Fault}
use Rattle.nodes.specs.Reader.{pick_place}
use Rattle.nodes.specs.declared.Path.{Path}
use Rattle.nodes.specs.declared.Scan.{Scan}

abbrev pub path_of : (depth waiting : ℕ) → Path
path_of depth waiting = record { depth = depth; waiting = waiting }

-- one part is open: the tree
unfoldable pub nothing_read : Scan
nothing_read = record { nodes = 0; parts = 1; unknown = 0; over = 0; high = 0; path = path_of 0 0 }

-- the first node of a kind after one more node, which is `here` of that kind or not; without one, the number of nodes
unfoldable pub first_after : (first nodes : ℕ) → (here : Bool) → ℕ
first_after first nodes true = first
first_after first nodes false = pick_place (eqb first nodes) (nodes + 1) first

-- 1 for a branch, 0 for a leaf: whether a part is opened to the left, one step deeper
abbrev pub opened_by : (branch : Bool) → ℕ
opened_by true = 1
opened_by false = 0

-- a branch closes one part and opens two, a leaf closes one; a closed tree stays closed
unfoldable pub parts_after : (parts : ℕ) → (branch : Bool) → ℕ
parts_after zero branch = 0
parts_after (suc parts) true = suc parts + 1
parts_after (suc parts) false = parts

-- `waiting` has a bit for each depth at most
abbrev pub Fits : Path → Type 0
Fits p = p.waiting < 2 ^ p.depth

abbrev pub pick_path : Bool → Path → Path → Path
pick_path true a b = a
pick_path false a b = b

-- up from a depth to the next right part that waits, which then waits no more; 66 where none does
unfoldable pub risen_from : (depth waiting : ℕ) → Path
risen_from zero w = path_of 66 0
risen_from (suc d) w = pick_path (eqb (w % 2) 1) (path_of (suc d) (w - 1)) (risen_from d (w / 2))

-- to the left part, one deeper, where the right one waits; at depth 65 nothing is asked of those that wait
unfoldable pub descended_from : Path → Path
descended_from p = pick_path (eqb p.depth 64) (path_of 65 0) (path_of (p.depth + 1) (2 * p.waiting + 1))

-- after a branch or a leaf; a path that is too deep, or has no part to come, stays
abbrev pub moved_by : (branch : Bool) → Path → Path
moved_by true p = descended_from p
moved_by false p = risen_from p.depth p.waiting

unfoldable pub path_after : Path → (branch : Bool) → Path
path_after p branch = pick_path (ltb 64 p.depth) p (moved_by branch p)

unfoldable pub scanned_of : Signature → Scan → (symbol : ℕ) → Scan
scanned_of sg scan σ = record {
  nodes = scan.nodes + 1;
  parts = parts_after scan.parts (member sg.branches σ);
  unknown = first_after scan.unknown scan.nodes (leb sg.symbols σ);
  over = first_after scan.over scan.nodes (eqb scan.parts 0);
  high = first_after scan.high scan.nodes (eqb scan.path.depth 65);
  path = path_after scan.path (member sg.branches σ);
}

unfoldable pub scan_of : Signature → Scan → List ℕ → Scan
scan_of sg scan [] = scan
scan_of sg scan (σ ∷ s) = scan_of sg (scanned_of sg scan σ) s

-- what a scan of the whole list says of line 10, and of line 11
unfoldable pub symbols_by : Scan → Check
symbols_by scan = refuse_if (ltb scan.unknown scan.nodes) Fault.Symbol 1 scan.unknown

unfoldable pub shape_by : Scan → Check
shape_by scan =
    refuse_if (ltb scan.over scan.nodes) Fault.Shape 1 scan.over and_then refuse_if (ltb 0 scan.parts) Fault.Shape 1 scan.nodes

-- and of line 12
unfoldable pub height_by : Scan → Check
height_by scan = refuse_if (ltb scan.high scan.nodes) Fault.Height 1 scan.high
