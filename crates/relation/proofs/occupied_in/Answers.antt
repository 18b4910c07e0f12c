-- `relation::occupied_in` meets its contract: at each turn the rows before p are in the set or are 0.
-- Assumes nothing.
use borrow.Author.Rules.{rules}
use mathlib.Core.Path.{sym, subst}
use Prim.Native.Nat.{ℕ, ◌+◌}
use native.Mathlib.Omega.{arith}
use lib.Bits.{bit_or}
use Rattle.relation.proofs.Members.{Upto, upto-none, upto_turn, upto_done}
use Rattle.relation.proofs.occupied_in.Goals as goal

pub loop-p-init : goal.loop-p-init
loop-p-init c = (search rules, upto-none c.args.rows.now)

pub loop-p-preserved : goal.loop-p-preserved
loop-p-preserved c =
    let at = c.loop-p in
    let a = c.args.rows.now in
    (search rules, subst (λ (x : ℕ). Upto a (at.p + 1) (bit_or at.set x)) (sym c.flag-set.ensures) (upto_turn a at.p at.set at.invariant.1))

pub returns : goal.returns
returns c =
    let at = c.loop-p in
    let a = c.args.rows.now in
    upto_done a at.p at.set c.requires (omega arith) at.invariant.1
