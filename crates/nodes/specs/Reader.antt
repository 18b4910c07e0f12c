-- What stands at a place of a node list, and the place after it.
-- Interface: `node_at`, `place_after`.
use Rattle.std.specs.Prelude.{ℕ, ◌+◌, Bool, true, false, List, length, get_or, ltb, Option, Some, None}
use Rattle.model.specs.declared.Symbol.{Symbol}

abbrev pub pick_here : Bool → Option Symbol → Option Symbol → Option Symbol
pick_here true a b = a
pick_here false a b = b

unfoldable pub node_at : List ℕ → (at : ℕ) → Option Symbol
node_at s at = pick_here (ltb at (length s)) (Some (record { 0 = get_or s at 0 })) None

abbrev pub pick_place : Bool → ℕ → ℕ → ℕ
pick_place true a b = a
pick_place false a b = b

unfoldable pub place_after : List ℕ → (at : ℕ) → ℕ
place_after s at = pick_place (ltb at (length s)) (at + 1) at
