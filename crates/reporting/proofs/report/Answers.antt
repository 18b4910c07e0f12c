-- `reporting::report` meets its contract: what was read is reported on.
-- Assumes nothing.
use Prim.Native.Nat.{ℕ}
use native.Mathlib.Omega.{arith}
use mathlib.Core.Path.{◌≡◌, sym, subst}
use lib.ListN.{length, take}
use lib.Seq.{length-take-le}
use Rattle.reporting.specs.Trace.{Asked}
use Rattle.reporting.proofs.report.Goals as goal

pub returns : goal.returns
returns c =
    let k = c.read_part-n in
    let n : k.result ≡ length (take k.result k.new.buffer) = sym (length-take-le k.result k.new.buffer (omega (arith, k.ensures.0, k.ensures.3))) in
    (take k.result k.new.buffer, subst (λ (m : ℕ). Asked c.args.automaton 3073 m) n k.ensures.2, c.report_file.ensures)
