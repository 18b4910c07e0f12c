-- A table has each byte's class if one test passes at each of its 256 entries; antt computes it.
-- Assumes nothing.
use Prim.Native.Nat.{ℕ}
use mathlib.Core.Path.{◌≡◌}
use mathlib.Core.Bool.{Bool}
use mathlib.Core.List.{List}
use native.Mathlib.Omega.{arith}
use lib.Dec.{T, eqb, eqb→eq}
use lib.ListN.{length, get_or}
use Rattle.tags.specs.Classes.{class_of, IsTable}
use Rattle.tags.proofs.Table.{every, at}

unfoldable pub has_class : (byte class : ℕ) → Bool
has_class b c = eqb c (class_of b)

pub classed : (t : List ℕ) → T (every has_class 0 t) → length t ≡ 256 → IsTable t
unfolding IsTable has_class
classed t all e b h = eqb→eq (get_or t b 0) (class_of b) (at has_class t all b (omega arith))
