-- A class of the code as the definition has it.
-- Interface: `parts_in`.
use Rattle.algorithms.specs.Saturate.{Parts, parts}
use Rattle.classes.specs.declared.Class.{Class}

abbrev pub parts_in : Class → Parts
parts_in c = parts c.left.rows c.right.rows
