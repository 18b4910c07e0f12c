-- `emptiness::file::quick` meets its contract: a refused file is told, and any other answered by its automaton. Demand 3 is then a law of the
-- definition.
-- Assumes nothing.
use Rattle.std.proofs.Common.{Result, Ok}
use Prim.Native.Nat.{ℕ}
use mathlib.Core.Path.{◌≡◌, sym, ap, ◌∙◌}
use mathlib.Core.List.{List}
use Rattle.refusal.proofs.Cases.{handed_on}
use Rattle.overloops.proofs.Laws.{prepared-ready}
use Rattle.emptiness.specs.Checked.{checked}
use Rattle.emptiness.specs.Demand3.{Demand3Quick}
use Rattle.emptiness.proofs.Proved.{checked-right}
use Rattle.emptiness.specs.declared.Quick.{Quick}
use Rattle.refusal.specs.declared.Refusal.{Refusal}
use Rattle.emptiness.proofs.file.quick.Goals as goal

-- what is equal to the definition's answer meets demand 3
meets : (w : List ℕ) (r : Result Quick Refusal) → r ≡ checked w → Demand3Quick w r
meets w r e = rw e (checked-right w)

pub quick_prepared-requires : goal.quick_prepared-requires
quick_prepared-requires c =
    (prepared-ready _ _ _ _ _ _ _ c.in_ok-header.was c.prepare.ensures.1).0

pub returns-in_err-header : goal.returns-in_err-header
unfolding checked
returns-in_err-header c =
    let e : c.from_residual.result ≡ checked c.args.file.now =
    rw (handed_on _ _ c.from_residual.ensures.1, sym c.prepare.ensures.0 ∙ c.in_err-header.was) in
    record { equals = e; right = meets c.args.file.now _ e }

pub returns : goal.returns
unfolding checked
returns c =
    let ready = prepared-ready _ _ _ _ _ _ _ c.in_ok-header.was c.prepare.ensures.1 in
    let e : _ ≡ checked c.args.file.now = rw (sym c.prepare.ensures.0 ∙ c.in_ok-header.was) (ap Ok (c.quick_prepared.ensures _ ready.1)) in
    record { equals = e; right = meets c.args.file.now _ e }
