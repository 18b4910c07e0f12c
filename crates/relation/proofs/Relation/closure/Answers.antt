-- `relation::Relation::closure` meets its contract: the first loop adds the self pairs, and the second goes through the states of `between`.
-- Assumes nothing.
use borrow.Author.Rules.{rules}
use mathlib.Core.Path.{◌≡◌, refl, ap, subst, ◌∙◌}
use Prim.Native.Nat.{ℕ, ◌<◌}
use native.Mathlib.Omega.{arith}
use lib.ListN.{length, get_or, length-map}
use Rattle.relation.specs.Bit.{bit}
use Rattle.relation.proofs.BitLaws.{one_shl}
use Rattle.relation.specs.Rows.{or_if, absorbed, through}
use Rattle.relation.proofs.Over.{over_done}
use Rattle.relation.proofs.Members.{lowest-row, rest-falls}
use Rattle.relation.proofs.Turns.{absorb-turn}
use Rattle.relation.proofs.Closing.{selfs-none, selfs-step, Closing, closing-begin, closing-small, closing-step, closing-done}
use Rattle.relation.proofs.Relation.closure.Goals as goal

pub loop-p-init : goal.loop-p-init
loop-p-init c =
    let args = c.args in
    let la : length args.self.rows ≡ 24 = search rules in
    (search rules, selfs-none args.self.rows args.states la)

pub loop-p-preserved : goal.loop-p-preserved
loop-p-preserved c =
    let at = c.loop-p in
    let args = c.args in
    let mask = c.below-mask in (
      search rules,
      selfs-step args.self.rows args.states at.p _ mask.result at.self.rows (omega arith) (one_shl at.p (omega arith)) mask.ensures
          at.invariant.1,
    )

pub loop-rest-init : goal.loop-rest-init
loop-rest-init c =
    let at = c.loop-p in
    let a = c.args.self.rows in
    let la : length a ≡ 24 = search rules in
    let set = c.between in
    let mask = c.below-mask in
    let n = c.args.states in
    let begin =
    closing-begin n a at.self.rows set.result mask.result at.p (omega arith) la set.ensures mask.ensures (omega arith) at.invariant.1
    in
    (closing-small (omega arith) begin, at.invariant.1.size, λ R e h. h)

pub offset_bounds-self-k : goal.offset_bounds-self-k
offset_bounds-self-k c = omega (arith, lowest-row c.loop-rest.invariant.0 c.lowest-k.ensures (omega arith))

pub bounds-self-k : goal.bounds-self-k
bounds-self-k c = omega (arith, lowest-row c.loop-rest.invariant.0 c.lowest-k.ensures (omega arith))

pub loop-p-2-init : goal.loop-p-2-init
loop-p-2-init c = (search rules, refl)

pub overflow_cast-k : goal.overflow_cast-k
overflow_cast-k c =
    let at = c.loop-rest in
    let l = lowest-row at.invariant.0 c.lowest-k.ensures (omega arith) in search rules

pub overflow_shr-self : goal.overflow_shr-self
overflow_shr-self c =
    let at = c.loop-rest in
    omega (arith, lowest-row at.invariant.0 c.lowest-k.ensures (omega arith))

pub loop-p-2-preserved : goal.loop-p-2-preserved
loop-p-2-preserved c =
    let at = c.loop-p-2 in
    let out = c.loop-rest in
    let k = c.lowest-k in
    let l = out.invariant.1 in (
      search rules,
      absorb-turn k.result _ out.self.rows at.self.rows at.p c.or_if.result (omega arith) at.invariant.1 c.or_if.ensures,
    )

pub loop-rest-smaller : goal.loop-rest-smaller
loop-rest-smaller c = rest-falls c.loop-rest.invariant.0 c.without_lowest-rest.ensures (omega arith)

pub loop-rest-preserved : goal.loop-rest-preserved
loop-rest-preserved c =
    let at = c.loop-rest in
    let in3 = c.loop-p-2 in
    let s = at.self.rows in
    let n = c.args.states in
    let k = c.lowest-k in
    let r = c.without_lowest-rest in
    let row = get_or s k.result 0 in
    let l = at.invariant.1 in
    let some : 0 < at.rest = omega arith in
    let full : length (absorbed k.result row s) ≡ length s = length-map s (λ (x : ℕ). or_if (bit x k.result) x row) in
    let e : in3.self.rows ≡ through k.result s =
    over_done (absorbed k.result row s) s in3.self.rows in3.p full (omega arith) in3.invariant.1 in (
      omega (arith, rest-falls at.invariant.0 r.ensures some, at.invariant.0),
      ap length e ∙ full ∙ l,
      λ R f h.
          closing-step n R s in3.self.rows at.rest k.result r.result (omega arith) f some at.invariant.0 k.ensures r.ensures e
          (at.invariant.2 R f h),
    )

pub returns : goal.returns
returns c =
    let at = c.loop-rest in
    let one = c.loop-p in
    let a = c.args.self.rows in
    let n = c.args.states in
    let la : length a ≡ 24 = search rules in
    let z : at.rest ≡ 0 = omega arith in
    let set = c.between in
    let mask = c.below-mask in
    let begin =
    closing-begin n a one.self.rows set.result mask.result one.p (omega arith) la set.ensures mask.ensures (omega arith) one.invariant.1
    in
    closing-done n a at.self.rows (omega arith) la (subst (Closing n a at.self.rows) z (at.invariant.2 a la begin))
