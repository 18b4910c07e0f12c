-- `nodes::scan_nodes` meets its contract: a node more is `onward`, and the end is `ended`.
-- Assumes nothing.
use Rattle.std.proofs.Common.{◌≡◌, sym, ap, ap₂, ◌∙◌, arith, Some}
use Rattle.nodes.specs.Reader.{node_at, place_after}
use Rattle.nodes.specs.Scan.{scanned_of}
use Rattle.nodes.proofs.Reached.{symbol-here, place-next, begun, onward, ended}
use Rattle.nodes.proofs.scan_nodes.Goals as goal

pub loop-symbol-init : goal.loop-symbol-init
loop-symbol-init c =
    let r = c.reader_of-reader.ensures in
    (ap (λ b. b.now) r.0, (begun c.args.signature c.args.symbols.now, sym r.1, sym c.unread-scan.ensures))

pub loop-symbol-smaller : goal.loop-symbol-smaller
loop-symbol-smaller c =
    let i = c.loop-symbol.invariant in
    let h = symbol-here _ _ _ (c.in-Some.ensures ∙ ap (λ s. node_at s c.loop-symbol.reader.at) i.0) in
    let e = c.moved_on-reader.ensures.1 ∙ ap (λ s. place_after s c.loop-symbol.reader.at) i.0 ∙ place-next _ _ h.0 in
    omega (arith, h.0, e)

pub loop-symbol-preserved : goal.loop-symbol-preserved
loop-symbol-preserved c =
    let i = c.loop-symbol.invariant in
    let p = i.1.0 in
    let h : Some c.in-Some.symbol ≡ node_at c.args.symbols.now p.place = c.in-Some.ensures ∙ ap₂ node_at i.0 (sym i.1.1) in
    let e = c.moved_on-reader.ensures.1 ∙ ap₂ place_after i.0 (sym i.1.1) ∙ place-next _ _ (symbol-here _ _ _ h).0 in (
      ap (λ b. b.now) c.moved_on-reader.ensures.0 ∙ i.0,
      (
        onward c.args.signature c.args.symbols.now p c.in-Some.symbol h,
        sym e,
        ap (λ x. scanned_of c.args.signature x c.in-Some.symbol.0) i.1.2 ∙ sym c.scanned-scan.ensures,
      ),
    )

pub returns : goal.returns
returns c =
    let i = c.loop-symbol.invariant in
    sym i.1.2 ∙ ended c.args.signature c.args.symbols.now i.1.0 (c.in_default.ensures ∙ ap₂ node_at i.0 (sym i.1.1))
