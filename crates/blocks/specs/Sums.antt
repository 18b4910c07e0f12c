-- Four sums that run side by side (document 02, W5: "take four 32-bit words per step").
-- Interface: `total`.
use Rattle.std.specs.Prelude.{ℕ, ◌+◌}
use Rattle.blocks.specs.declared.Sums.{Sums}

-- what they come to together
abbrev pub total : Sums → ℕ
total s = s.0 + s.1 + s.2 + s.3
