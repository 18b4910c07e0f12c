-- `linking::link_tree` meets its contract. The invariant: the stack and the tables tell of the trees that the list writes from a node on.
-- Assumes nothing.
use borrow.Author.Tests.{eqb-true}
use Rattle.linking.proofs.Steps.{begun, ended}
use Rattle.passes.proofs.Laws.{from}
use Rattle.nodes.proofs.Reached.{symbol-here}
use native.Mathlib.Omega.{arith}
use mathlib.Core.Path.{◌≡◌, refl, sym, ◌∙◌}
use Prim.Native.Nat.{ℕ}
use lib.ListN.{length-drop}
use borrow.Author.Rules.{rules}
use Rattle.linking.proofs.link_tree.Goals as goal

pub loop-at-init : goal.loop-at-init
loop-at-init c = (search rules, search rules, search rules, begun _ _ _ _ c.args.symbols.now refl (search rules) (search rules))

pub returns-in_default : goal.returns-in_default
returns-in_default c = λ e. let z : ◌≡◌ {A = ℕ} 0 1 = cc in absurd (omega arith)

pub loop-at-preserved : goal.loop-at-preserved
loop-at-preserved c = let v = c.loop-at.invariant in let here = symbol-here _ _ _ (sym c.in-Some.is ∙ c.read_at.ensures) in (omega (arith, v.0), c.node_step.auto.parents ∙ v.1, c.node_step.auto.rights ∙ v.2, rw (from _ _ (omega (arith, c.loop-at-test.true)) v.0, ← here.1) (rw c.in-Some-node_step.is at (c.node_step.ensures _ _ (omega (arith, v.0, c.loop-at-test.true, length-drop c.loop-at.at c.args.symbols.now)) v.3)))

pub returns-in-None : goal.returns-in-None
returns-in-None c = λ e. let z : ◌≡◌ {A = ℕ} 0 1 = cc in absurd (omega arith)

pub returns : goal.returns
returns c = λ e. let v = c.loop-at.invariant in let none : c.loop-at.at ≡ 0 = omega (arith, c.loop-at-test.false) in ended _ _ _ _ c.args.symbols.now _ (rw none at v.3) c.requires.1 (eqb-true _ _ e)
