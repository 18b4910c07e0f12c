-- `bottom_up::concluded` meets its contract.
-- Assumes nothing.
use Rattle.bottom_up.proofs.Ending.{node-first, leaf_first}
use Rattle.model.specs.declared.Side.{Side}
use mathlib.Core.Path.{◌∙◌}
use native.Mathlib.Omega.{arith}
use Rattle.bottom_up.proofs.concluded.Goals as goal

pub returns-then-symbol-gt31 : goal.returns-then-symbol-gt31
returns-then-symbol-gt31 c = λ A count s k e h. c.unknown.ensures A _ s

pub returns-then-left-gt1023 : goal.returns-then-left-gt1023
returns-then-left-gt1023 c = λ A count s k e h. c.unknown-then-left-gt1023.ensures A _ s

pub returns-then-right-gt1023 : goal.returns-then-right-gt1023
returns-then-right-gt1023 c = λ A count s k e h. c.unknown-then-right-gt1023.ensures A _ s

pub node_weighed-requires : goal.node_weighed-requires
node_weighed-requires c =
    (c.requires.0, omega (arith, c.if-symbol-gt31.false), rw c.in-Parts.is at c.requires.1)

pub returns-else-right-gt1023 : goal.returns-else-right-gt1023
returns-else-right-gt1023 c =
    λ A count s k e h.
    let p = rw c.in-Parts.is at h in
    let first = node-first _ s _ p.σ p.l p.r p.writes e in
    c.node_weighed.ensures A _ s k p.l p.r (c.class_rows.ensures ∙ p.named_l.1 Side.Left) (c.class_rows-in-Parts.ensures ∙ p.named_r.1 Side.Right)
    (rw first p.writes) (rw first p.grown)

pub returns-in-Leaf : goal.returns-in-Leaf
returns-in-Leaf c =
    λ A count s k e h.
    let p = rw c.in-Leaf.is at h in
    c.leaf_weighed.ensures A _ s k (rw (leaf_first _ s _ p.0 p.1 e) p.1)
