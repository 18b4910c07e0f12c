-- `text::put_decimal` meets its contract: the digits are the fewest, at most 20.
-- Assumes nothing.
use Prim.Native.Nat.{◌≤◌, ◌<◌}
use native.Mathlib.Omega.{arith}
use Rattle.text.proofs.Laws.{at-most-20, as-decimal}
use Rattle.text.proofs.put_decimal.Goals as goal

pub put-requires : goal.put-requires
put-requires c =
    let d = c.decimal-k in
    let small : c.args.n < 18446744073709551616 = omega arith in
    let few : d.result ≤ 20 = at-most-20 _ _ small d.ensures.len in
    omega (arith, d.ensures.in_bounds.1)

pub returns : goal.returns
returns c =
    let d = c.decimal-k in
    let small : c.args.n < 18446744073709551616 = omega arith in
    as-decimal _ _ d.new.out _ _ d.result _ small d.ensures.len d.ensures.digits d.ensures.in_bounds.1 c.put.ensures
