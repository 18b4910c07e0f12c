-- `emptiness::plan::put_row` meets its contract. The invariant: the first k bytes of the row are pasted into the buffer.
-- Assumes nothing.
use borrow.Author.Rules.{rules}
use Prim.Native.Nat.{ℕ, ◌+◌, ◌*◌}
use mathlib.Core.Path.{◌≡◌}
use mathlib.Core.List.{List, [], ◌∷◌, append_assoc}
use native.Mathlib.Numerals.{add-one}
use lib.ListN.{take, drop, length-set}
use lib.Seq.{paste-zero, paste-suc}
use Rattle.representatives.specs.declared.Origin.{Origin}
use Rattle.emptiness.proofs.plan.put_row.Goals as goal

abbrev bytes : Origin → List ℕ
bytes o = o.symbol.0 ∷ o.left.0 ∷ o.right.0 ∷ []

pub loop-k-init : goal.loop-k-init
loop-k-init c = let a = c.args in (search rules, search rules, paste-zero a.plan.now (a.row.0 * 3) (bytes a.origin))

pub loop-k-preserved : goal.loop-k-preserved
loop-k-preserved c =
    let l = c.loop-k in
    let a = c.args in
    (search rules, simp length-set (search rules), rw (l.invariant.2, add-one) (paste-suc a.plan.now (a.row.0 * 3) (bytes a.origin) l.k 0 (search rules) (search rules)))

pub returns : goal.returns
returns c =
    let a = c.args in
    let end : c.loop-k.k ≡ 3 = search rules in
    rw (c.loop-k.invariant.2, end) (append_assoc (take (a.row.0 * 3) a.plan.now) (bytes a.origin) (drop (a.row.0 * 3 + 3) a.plan.now))
