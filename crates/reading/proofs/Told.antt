-- The numbers told are those that the library's `unwrap_or` gives.
-- Assumes nothing.
use Rattle.std.proofs.Common.{Option, Some, None, Result, Ok, Err}
use Prim.Native.Nat.{ℕ}
use mathlib.Core.Path.{◌≡◌, refl}
use Rattle.std.specs.Option.{unwrap_or}
use Rattle.std.specs.Result.{result_unwrap_or}
use Rattle.refusal.specs.declared.Refusal.{Refusal}
use Rattle.reading.specs.Reading.{place_or, count_told}

pub or_place : (found : Option ℕ) (other : ℕ) → unwrap_or found other ≡ place_or found other
or_place (Some k) other = refl
or_place None other = refl

pub or_count : (parsed : Result ℕ Refusal) → result_unwrap_or parsed 0 ≡ count_told parsed
or_count (Ok k) = refl
or_count (Err r) = refl
