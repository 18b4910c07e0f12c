-- `automaton::file::parse` meets its contract. The part of the buffer that is lent on is the joined contents, so each check is the definition's.
-- Assumes nothing.
-- the file, after lines 1 and 2
-- the part of the buffer that is lent on holds the joined contents
use Rattle.std.proofs.Common.{Ok}
use Prim.Native.Nat.{ℕ, ◌≤◌}
use mathlib.Core.Path.{◌≡◌, sym, ap, ap₂, ◌∙◌}
use mathlib.Core.List.{List}
use native.Mathlib.Omega.{arith}
use lib.ListN.{length, take, length-append}
use lib.Seq.{take_all}
use Rattle.blocks.specs.Blocks.{content}
use Rattle.blocks.proofs.Laws.{content-length, joined_is}
use Rattle.refusal.specs.Lines.{file_check}
use Rattle.refusal.proofs.Passed.{file-passed}
use Rattle.automaton.specs.File.{format, header_of, layout_check, body_check, parsed}
use Rattle.automaton.proofs.Passed.{layout-passed}
use Rattle.refusal.proofs.Cases.{handed_on}
use Rattle.automaton.proofs.file.parse.Goals as goal

pub returns-in_err-file_check : goal.returns-in_err-file_check
unfolding parsed
returns-in_err-file_check c = let e = handed_on _ _ c.from_residual.ensures.1 in (rw (e, sym c.file_check.ensures ∙ c.in_err-file_check.was), rw e)

pub join-len-requires : goal.join-len-requires
unfolding parsed
join-len-requires c =
    let file_at : List ℕ = c.args.file.now in
    let file-is : file_check format (file_at) ≡ Ok tt = sym c.file_check.ensures ∙ c.in_ok-file_check.was in
    let size = file-passed format _ (file-is) in omega arith

pub slice_bounds-buffer-end : goal.slice_bounds-buffer-end
unfolding parsed
slice_bounds-buffer-end c = rw c.join-len.ensures.1 (simp length-append (omega (arith, c.join-len.ensures.0)))

pub slice_bounds-content-end : goal.slice_bounds-content-end
unfolding parsed
slice_bounds-content-end c =
    let file_at : List ℕ = c.args.file.now in
    let content_at : List ℕ = content (file_at) in
    let content-is : take c.join-len.result c.join-len.new.out ≡ content_at = joined_is _ _ _ _ c.join-len.ensures.0 c.join-len.ensures.1 in
    rw (content-is) c.join-len.ensures.0

pub header-header-requires : goal.header-header-requires
unfolding parsed
header-header-requires c =
    let file_at : List ℕ = c.args.file.now in
    let file-is : file_check format (file_at) ≡ Ok tt = sym c.file_check.ensures ∙ c.in_ok-file_check.was in
    let content_at : List ℕ = content (file_at) in
    let content-is : take c.join-len.result c.join-len.new.out ≡ content_at = joined_is _ _ _ _ c.join-len.ensures.0 c.join-len.ensures.1 in
    let content-size : 508 ≤ length content_at = let size = file-passed format (file_at) (file-is) in
    omega (arith, content-length (file_at)) in
    let size = content-size in rw (content-is) (omega arith)

pub layout_check-requires : goal.layout_check-requires
unfolding parsed
layout_check-requires c =
    let file_at : List ℕ = c.args.file.now in
    let file-is : file_check format (file_at) ≡ Ok tt = sym c.file_check.ensures ∙ c.in_ok-file_check.was in
    let content_at : List ℕ = content (file_at) in
    let content-is : take c.join-len.result c.join-len.new.out ≡ content_at = joined_is _ _ _ _ c.join-len.ensures.0 c.join-len.ensures.1 in
    let content-size : 508 ≤ length content_at = let size = file-passed format (file_at) (file-is) in
    omega (arith, content-length (file_at)) in
    let size = content-size in rw (content-is) (omega arith)

pub returns-in_err-layout_check : goal.returns-in_err-layout_check
unfolding parsed
returns-in_err-layout_check c =
    let file_at : List ℕ = c.args.file.now in
    let file-is : file_check format (file_at) ≡ Ok tt = sym c.file_check.ensures ∙ c.in_ok-file_check.was in
    let content_at : List ℕ = content (file_at) in
    let content-is : take c.join-len.result c.join-len.new.out ≡ content_at = joined_is _ _ _ _ c.join-len.ensures.0 c.join-len.ensures.1 in
    let header_is : c.header-header.result ≡ header_of (content_at) = c.header-header.ensures ∙ ap header_of (content-is) in
    let layout_is : c.layout_check.result ≡ layout_check (header_of (content_at)) (content_at) = c.layout_check.ensures ∙ ap₂ layout_check (header_is) (content-is) in
    let e = handed_on _ _ c.from_residual-in_err-layout_check.ensures.1 in (rw (e, file-is, sym (layout_is) ∙ c.in_err-layout_check.was), rw e)

pub body_check-requires : goal.body_check-requires
unfolding parsed
body_check-requires c = layout-passed _ _ (sym c.layout_check.ensures ∙ c.in_ok-layout_check.was)

pub returns-in_err-body_check : goal.returns-in_err-body_check
unfolding parsed
returns-in_err-body_check c =
    let file_at : List ℕ = c.args.file.now in
    let file-is : file_check format (file_at) ≡ Ok tt = sym c.file_check.ensures ∙ c.in_ok-file_check.was in
    let content_at : List ℕ = content (file_at) in
    let content-is : take c.join-len.result c.join-len.new.out ≡ content_at = joined_is _ _ _ _ c.join-len.ensures.0 c.join-len.ensures.1 in
    let header_is : c.header-header.result ≡ header_of (content_at) = c.header-header.ensures ∙ ap header_of (content-is) in
    let layout_is : c.layout_check.result ≡ layout_check (header_of (content_at)) (content_at) = c.layout_check.ensures ∙ ap₂ layout_check (header_is) (content-is) in
    let layout-passes : layout_check (header_of (content_at)) (content_at) ≡ Ok tt = sym (layout_is) ∙ c.in_ok-layout_check.was in
    let body_is : c.body_check.result
    ≡ body_check (header_of (content_at)) (content_at) = c.body_check.ensures
    ∙ ap₂ body_check (header_is) (content-is) in
    let told = c in
    let e = handed_on _ _ c.from_residual-in_err-body_check.ensures.1 in (rw (e, file-is, layout-passes, sym (body_is) ∙ c.in_err-body_check.was), rw e)

pub copy-requires : goal.copy-requires
unfolding parsed
copy-requires c =
    let file_at : List ℕ = c.args.file.now in
    let file-is : file_check format (file_at) ≡ Ok tt = sym c.file_check.ensures ∙ c.in_ok-file_check.was in
    let content_at : List ℕ = content (file_at) in
    let content-is : take c.join-len.result c.join-len.new.out ≡ content_at = joined_is _ _ _ _ c.join-len.ensures.0 c.join-len.ensures.1 in
    let content-most : length content_at ≤ 3048 = let size = file-passed format (file_at) (file-is) in
    omega (arith, content-length (file_at)) in
    rw (content-is, c.copy-arg-1.given.0.1) (content-most)

pub returns : goal.returns
unfolding parsed
returns c =
    let file_at : List ℕ = c.args.file.now in
    let file-is : file_check format (file_at) ≡ Ok tt = sym c.file_check.ensures ∙ c.in_ok-file_check.was in
    let content_at : List ℕ = content (file_at) in
    let content-is : take c.join-len.result c.join-len.new.out ≡ content_at = joined_is _ _ _ _ c.join-len.ensures.0 c.join-len.ensures.1 in
    let content-all : take (length content_at) content_at ≡ content_at = take_all (length content_at) content_at (omega arith) in
    let header_is : c.header-header.result ≡ header_of (content_at) = c.header-header.ensures ∙ ap header_of (content-is) in
    let layout_is : c.layout_check.result ≡ layout_check (header_of (content_at)) (content_at) = c.layout_check.ensures ∙ ap₂ layout_check (header_is) (content-is) in
    let layout-passes : layout_check (header_of (content_at)) (content_at) ≡ Ok tt = sym (layout_is) ∙ c.in_ok-layout_check.was in
    let body_is : c.body_check.result
    ≡ body_check (header_of (content_at)) (content_at) = c.body_check.ensures
    ∙ ap₂ body_check (header_is) (content-is) in
    let told = c in (
      rw (file-is, layout-passes, sym (body_is) ∙ c.in_ok-body_check.was)
          (ap Ok (header_is)),
      rw (content-is, content-all) at c.copy.ensures.1,
    )
