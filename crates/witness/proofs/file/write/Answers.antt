-- `witness::file::write` meets its contract.
-- Assumes nothing.
use Prim.Native.Nat.{ℕ}
use mathlib.Core.Path.{◌≡◌, sym, ◌∙◌}
use mathlib.Core.List.{List}
use Rattle.refusal.proofs.Cases.{handed_on}
use Rattle.block_writer.specs.Written.{Filled, filled}
use Rattle.witness.specs.Written.{witness_of}
use Rattle.witness.specs.Promise.{Promise}
use Rattle.witness.proofs.Right.{refused-is, witness-is, witness-right}
use Rattle.witness.proofs.file.write.Goals as goal

-- what is equal to the definition's answer and bytes meets the promise
meets : (w p before : List ℕ) (o : Filled) → o ≡ witness_of w p before → Promise w p before o
meets w p before o e = rw e (witness-right w p before)

pub returns-in_err-header : goal.returns-in_err-header
returns-in_err-header c =
    let read = sym c.read.ensures.0 ∙ c.in_err-header.was in
    let e : filled c.from_residual.result c.args.out.now ≡ witness_of c.args.file.now c.args.plan.now c.args.out.now =
    rw (handed_on _ _ c.from_residual.ensures.1) (sym (refused-is _ _ _ _ read)) in
    record { equals = e; right = meets c.args.file.now c.args.plan.now c.args.out.now _ e }

pub returns : goal.returns
returns c =
    let read = sym c.read.ensures.0 ∙ c.in_ok-header.was in
    let e : filled c.write_checked.result c.write_checked.new.out ≡ witness_of c.args.file.now c.args.plan.now c.args.out.now = (rw c.from-signature.ensures at c.write_checked.ensures) ∙ sym (witness-is _ _ _ _ read) in
    record { equals = e; right = meets c.args.file.now c.args.plan.now c.args.out.now _ e }
