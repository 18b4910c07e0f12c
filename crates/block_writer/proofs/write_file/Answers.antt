-- `block_writer::write_file` meets its contract.
-- Assumes nothing.
use Rattle.std.proofs.Common.{◌≡◌, ◌+◌, ◌*◌, ◌/◌, ◌%◌, ◌<◌, ◌≤◌, ◌++◌, length, drop, sym, refl, ap, ◌∙◌, arith, length-set, take_all, rules}
use Rattle.blocks.proofs.Laws.{copied_more}
use Rattle.blocks.specs.FileOf.{blocks_needed, check_for, file_of}
use Rattle.blocks.proofs.Written.{file-length, file-at}
use Rattle.block_writer.proofs.write_file.Goals.{then-i-eq508, else-i-eq508}
use Rattle.block_writer.proofs.write_file.Goals as goal

pub loop-i-init : goal.loop-i-init
loop-i-init c = (search rules, search rules, refl, λ h. absurd (omega arith))

pub file_byte-requires : goal.file_byte-requires
file_byte-requires c = (
  search rules,
  λ h.
      elim c.if-i-eq508.branch [
        | then-i-eq508 w ↦ w.check-is ∙ w.check_for-check.ensures
        | else-i-eq508 w ↦ w.check-is ∙ c.loop-i.invariant.3 (omega arith)
      ],
)

pub loop-i-preserved : goal.loop-i-preserved
loop-i-preserved c =
    let l = c.loop-i in
    let a = c.args in
    let at_hand : 508 ≤ c.loop-i.i % 512 → c.if-i-eq508.check ≡ check_for c.args.payload.now (c.loop-i.i / 512) =
    λ h.
    elim c.if-i-eq508.branch [
      | then-i-eq508 w ↦ w.check-is ∙ w.check_for-check.ensures
      | else-i-eq508 w ↦ w.check-is ∙ c.loop-i.invariant.3 (omega arith)
    ] in
    let here : l.i < 512 * blocks_needed (length a.payload.now) = search rules in (
      search rules,
      simp length-set (search rules),
      rw (l.invariant.2, c.file_byte.ensures, ← file-at a.payload.now l.i here)
          (copied_more (file_of a.payload.now) a.out.now l.i (rw (file-length a.payload.now) here) (search rules)),
      λ h.
          let same : (l.i + 1) / 512 ≡ l.i / 512 = omega arith in
          at_hand (omega arith) ∙ ap (check_for a.payload.now) (sym same),
    )

pub returns : goal.returns
returns c =
    let l = c.loop-i in
    let a = c.args in
    let n = file-length a.payload.now in
    let end : l.i ≡ length (file_of a.payload.now) = omega (arith, n) in
    let e : 512 * blocks_needed (length a.payload.now) ≡ l.i = omega (arith, n) in
    (sym n, rw (l.invariant.2, e) (ap (λ x. x ++ drop l.i a.out.now) (take_all l.i (file_of a.payload.now) (omega arith))))
