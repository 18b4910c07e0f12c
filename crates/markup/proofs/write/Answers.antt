-- `markup::write` meets its contract.
-- Assumes nothing.
use Rattle.refusal.proofs.Cases.{handed_on}
use Prim.Native.Nat.{ℕ}
use mathlib.Core.Path.{◌≡◌, sym, ap, ◌∙◌}
use Rattle.std.proofs.Common.{Result}
use Rattle.refusal.specs.declared.Refusal.{Refusal}
use mathlib.Core.List.{List}
use Rattle.block_writer.specs.Written.{Filled, filled}
use Rattle.transitions.proofs.Meaning.{file-symbols}
use Rattle.markup.specs.Written.{markup_of}
use Rattle.markup.specs.Promise.{Promise}
use Rattle.markup.proofs.Right.{refused-is, markup-is, markup-right}
use Rattle.markup.proofs.write.Goals as goal

-- what is equal to the definition's answer and bytes meets the promise
promised : (w s before : List ℕ) (o : Filled) → o ≡ markup_of w s before → Promise w s before o
promised w s before o e = rw e (markup-right w s before)

pub write_text-requires : goal.write_text-requires
write_text-requires c = rw c.from-signature.ensures (file-symbols _ _ (sym c.read.ensures.0 ∙ c.in_ok-header.was))

pub returns-in_err-header : goal.returns-in_err-header
returns-in_err-header c =
    let read = sym c.read.ensures.0 ∙ c.in_err-header.was in
    let h = handed_on _ _ c.from_residual.ensures.1 in
    let e = ap (λ (x : Result ℕ Refusal). filled x c.args.out.now) h ∙ sym (refused-is _ _ _ _ read) in
    record { equals = e; right = promised _ _ _ _ e }

pub returns : goal.returns
returns c =
    let read = sym c.read.ensures.0 ∙ c.in_ok-header.was in
    let e = (rw c.from-signature.ensures at c.write_text.ensures) ∙ sym (markup-is _ _ _ _ read) in
    record { equals = e; right = promised _ _ _ _ e }
