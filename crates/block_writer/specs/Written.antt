-- What a call that writes a file answers, and what is left in the lent output: the same for every request of document 02 that writes one.
-- Interface: `room_check`, `Filled`, `filled`, `filled_after`.
use Rattle.std.specs.Prelude.{ℕ, List, ◌++◌, length, drop, nat_lt, Result, Ok, Err}
use Rattle.refusal.specs.Checks.{refuse_if, Check}
use Rattle.refusal.specs.declared.Fault.{Fault}
use Rattle.refusal.specs.declared.Refusal.{Refusal}

-- 13: "if the output is shorter than the file, place the file's length"
unfoldable pub room_check : (needed room : ℕ) → Check
room_check needed room = refuse_if (nat_lt room needed) Fault.Buffer 2 needed

-- an answer, and the lent bytes afterwards
pub record Filled : Type 0 where
  pub answer : Result ℕ Refusal
  pub out : List ℕ

abbrev pub filled : Result ℕ Refusal → List ℕ → Filled
filled answer out = record { answer = answer; out = out }

-- "a call that writes a file tells its length, and a refused call leaves every lent byte as it was"; "bytes after the file are unchanged"
abbrev pub filled_after : Check → (file out : List ℕ) → Filled
filled_after (Err r) file out = filled (Err r) out
filled_after (Ok tt) file out = filled (Ok (length file)) (file ++ drop (length file) out)
