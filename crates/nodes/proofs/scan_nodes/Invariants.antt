-- `nodes::scan_nodes` meets its contract: the reader has come as far as `Reached` says, and each turn brings it nearer to the end.
-- Assumes nothing.
use Rattle.std.proofs.Common.{◌≡◌, ◌-◌, length}
use Rattle.nodes.proofs.Reached.{Reached}
use Rattle.nodes.proofs.scan_nodes.Given as goal

abbrev pub invariant-loop-symbol : goal.invariant-loop-symbol
invariant-loop-symbol l =
    (l.reader.symbols.now ≡ l.symbols)
    × ((p : Reached l.signature l.symbols) × (p.place ≡ l.reader.at) × (p.scan ≡ l.scan))

abbrev pub decreases-loop-symbol : goal.decreases-loop-symbol
decreases-loop-symbol l = length l.symbols - l.reader.at
