-- `nodes::check` meets its contract: what the pass over the list found is what lines 10 and 11 say (`scan-symbols`, `scan-shape`); a line
-- refuses, or leaves the next; where line 11 passes, the tree stands at the first node.
-- Assumes nothing.
use mathlib.Core.Path.{◌≡◌, sym, ap, ◌∙◌}
use Rattle.refusal.proofs.Cases.{then-stop, handed_on}
use Rattle.nodes.specs.Nodes.{symbols_check, shape_check, nodes_check}
use Rattle.nodes.proofs.Laws.{root}
use Rattle.nodes.specs.Scan.{symbols_by, shape_by, height_by}
use Rattle.nodes.proofs.Scanning.{scan-symbols, scan-shape}
use Rattle.nodes.proofs.Waiting.{scan-height}
use Rattle.nodes.proofs.check.Goals as goal

pub returns-in_err-symbols_check : goal.returns-in_err-symbols_check
unfolding nodes_check
returns-in_err-symbols_check c =
    let symbols-said : c.symbols_check.result ≡ symbols_check c.args.signature c.args.symbols.now = c.symbols_check.ensures ∙ ap symbols_by c.scan_nodes-scan.ensures ∙ scan-symbols _ _ in
    handed_on _ _ c.from_residual.ensures.1 ∙ then-stop _ _ (sym c.in_err-symbols_check.was ∙ symbols-said)

pub returns-in_err-shape_check : goal.returns-in_err-shape_check
unfolding nodes_check
returns-in_err-shape_check c =
    let symbols-said : c.symbols_check.result ≡ symbols_check c.args.signature c.args.symbols.now = c.symbols_check.ensures ∙ ap symbols_by c.scan_nodes-scan.ensures ∙ scan-symbols _ _ in
    let shape-said : c.shape_check.result
    ≡ shape_check c.args.signature.branches
    c.args.symbols.now = c.shape_check.ensures ∙ ap shape_by c.scan_nodes-scan.ensures ∙ scan-shape _ _ in
    let symbols = sym (symbols-said) ∙ c.in_ok-symbols_check.was in
    rw symbols (handed_on _ _ c.from_residual-in_err-shape_check.ensures.1 ∙ then-stop _ _ (sym c.in_err-shape_check.was ∙ shape-said))

pub returns : goal.returns
unfolding nodes_check
returns c =
    let symbols-said : c.symbols_check.result ≡ symbols_check c.args.signature c.args.symbols.now = c.symbols_check.ensures ∙ ap symbols_by c.scan_nodes-scan.ensures ∙ scan-symbols _ _ in
    let shape-said : c.shape_check.result
    ≡ shape_check c.args.signature.branches
    c.args.symbols.now = c.shape_check.ensures ∙ ap shape_by c.scan_nodes-scan.ensures ∙ scan-shape _ _ in
    let symbols = sym (symbols-said) ∙ c.in_ok-symbols_check.was in
    let shape = sym (shape-said) ∙ c.in_ok-shape_check.was in
    rw (symbols, shape) (c.height_check.ensures ∙ ap height_by c.scan_nodes-scan.ensures ∙ scan-height _ _ _ (root _ _ shape))
