-- The verdict of what the code comes to, with the table of rows that it left.
-- Interface: `verdict_of`, `FoundFew`.
use Rattle.std.specs.Prelude.{List, [], ◌∷◌, ◌++◌, ℕ, ◌≤◌}
use Rattle.model.specs.Saturation as saturation
use Rattle.representatives.specs.Stored.{origin_of, origins_in}
use Rattle.saturation.specs.declared.Saturated.{Saturated}

-- Found after n rows: how their trees are built, and then the accepted one's
abbrev pub verdict_of : Saturated → (rows : List ℕ) → saturation.Verdict
verdict_of (Saturated.Found h n o) rows = saturation.Found h (origins_in rows n ++ origin_of o ∷ [])
verdict_of (Saturated.Open h) rows = saturation.Open h
verdict_of (Saturated.Empty h) rows = saturation.Empty h

-- a tree is found after at most 64 rows
abbrev pub FoundFew : Saturated → Type 0
FoundFew (Saturated.Found h n o) = n ≤ 64
FoundFew (Saturated.Open h) = Unit {0}
FoundFew (Saturated.Empty h) = Unit {0}
