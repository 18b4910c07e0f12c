-- `counted_up` in its two cases, and the total after an outcome that is counted. Assumes nothing.
use Rattle.std.proofs.Common.{Ok}
use mathlib.Core.Path.{◌≡◌}
use Prim.Native.Nat.{◌+◌, ◌≤◌, ◌<◌}
use native.Mathlib.Omega.{arith}
use borrow.Author.Tests.{le-leb, lt-leb}
use Rattle.refusal.specs.Checks.{refused}
use Rattle.refusal.specs.declared.Fault.{Fault}
use Rattle.tally.specs.declared.Outcome.{Outcome}
use Rattle.tally.specs.declared.Tally.{Tally}
use Rattle.tally.specs.Tally.{total, plus_one, counted_up}

-- refusal 14: the tally is as it was
pub counted-full : (t : Tally) (o : Outcome) → 1000000 ≤ total t → counted_up t o ≡ record { tally = t; check = refused Fault.Tally 2 0 }
unfolding counted_up
counted-full t o full = rw (le-leb 1000000 (total t) full)

pub counted-one : (t : Tally) (o : Outcome) → total t < 1000000 → counted_up t o ≡ record { tally = plus_one t o; check = Ok tt }
unfolding counted_up
counted-one t o below = rw (lt-leb 1000000 (total t) below)

pub one_more : (t : Tally) (o : Outcome) → total (plus_one t o) ≡ total t + 1
one_more t Outcome.Accepted = omega arith
one_more t Outcome.Other = omega arith
one_more t Outcome.Refused = omega arith
