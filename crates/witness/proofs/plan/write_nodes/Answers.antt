-- `witness::plan::write_nodes` meets its contract.
-- Assumes nothing.
use Prim.Native.Nat.{ℕ}
use native.Mathlib.Omega.{arith}
use mathlib.Core.Path.{◌≡◌, sym, ap, ◌∙◌}
use mathlib.Core.List.{◌++◌}
use lib.ListN.{drop}
use Rattle.model.specs.Trees.{size}
use Rattle.nodes.specs.Preorder.{preorder}
use Rattle.witness.specs.Plan.{plan_tree}
use Rattle.witness.proofs.Writing.{front-written}
use Rattle.witness.proofs.plan.write_nodes.Goals as goal

pub returns : goal.returns
returns c =
    let t = plan_tree c.args.plan.now in
    let e = c.write_row.ensures in
    let n : c.write_row.result ≡ size t = omega (arith, e.0) in
    (n, e.1 ∙ front-written t c.args.nodes.now c.requires.1 ∙ ap (λ (k : ℕ). preorder t ++ drop k c.args.nodes.now) (sym n))
