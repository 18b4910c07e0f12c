-- The tally after one more outcome, and the percent of accepted trees (document 01, Tally and report; line 14 of the table; document 02, W3).
-- Interface: `counted_up`, `judged_in`, `percent_of`.
use Rattle.std.specs.Prelude.{ℕ, ◌+◌, ◌*◌, ◌/◌, ◌%◌, cond, eqb, leb, ltb, Ok, Err}
use Rattle.refusal.specs.Checks.{refuse_if, Check}
use Rattle.refusal.specs.declared.Fault.{Fault}
use Rattle.tally.specs.declared.Outcome.{Outcome}
use Rattle.tally.specs.declared.Tallied.{Tallied}
use Rattle.tally.specs.declared.Tally.{Tally}

-- the three numbers together: "accepted, other (judged, not accepted), refused, 32 bits each"
abbrev pub total : Tally → ℕ
total t = t.accepted + t.other + t.refused

-- 14: "the tally's three numbers add to 1,000,000 or more"; at 0; file 2
abbrev pub limit_check : Tally → Check
limit_check t = refuse_if (leb 1000000 (total t)) Fault.Tally 2 0

-- "a call of its own adds one for an answer, a letter's refusal included"
abbrev pub plus_one : Tally → Outcome → Tally
plus_one t Outcome.Accepted = record { accepted = t.accepted + 1; other = t.other; refused = t.refused }
plus_one t Outcome.Other = record { accepted = t.accepted; other = t.other + 1; refused = t.refused }
plus_one t Outcome.Refused = record { accepted = t.accepted; other = t.other; refused = t.refused + 1 }

-- one more where the check passes, and the tally as it was where it refuses
abbrev pub tally_after : Check → Tally → Outcome → Tallied
tally_after (Ok tt) t o = record { tally = plus_one t o; check = Ok tt }
tally_after (Err r) t o = record { tally = t; check = Err r }

-- the tally after one more outcome, and whether the outcome was counted
unfoldable pub counted_up : Tally → Outcome → Tallied
counted_up t o = tally_after (limit_check t) t o

-- of q and q + 1 the even one
abbrev pub even_of : ℕ → ℕ
even_of q = q + q % 2

-- division by d gives q and a rest, and `twice` is twice the rest: q where the rest is under half of d, q + 1 where it is over; the sheet "rounds
-- a half to the even number" (document 02, W3)
abbrev pub rounded_by : (q twice d : ℕ) → ℕ
rounded_by q twice d = cond (ltb twice d) q (cond (ltb d twice) (q + 1) (even_of q))

-- 100 a / d as a whole number: its quotient and rest, rounded so
abbrev pub nearest : (a d : ℕ) → ℕ
nearest a d = rounded_by (100 * a / d) (2 * (100 * a % d)) d

-- those that were judged: "accepted + other"
abbrev pub judged_in : Tally → ℕ
judged_in t = t.accepted + t.other

-- "Percent is 100 × accepted over accepted + other, rounded to the nearest, ..; 0 if nothing was judged." "The percentage is worked out in whole
-- numbers" (document 02, W3).
unfoldable pub percent_of : Tally → ℕ
percent_of t = cond (eqb (judged_in t) 0) 0 (nearest t.accepted (judged_in t))
