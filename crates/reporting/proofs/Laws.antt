-- Laws of what is reported. Assumes nothing.
use Rattle.std.proofs.Common.{Ok, Err}
use Prim.Native.Nat.{ℕ}
use mathlib.Core.Path.{◌≡◌, subst}
use mathlib.Core.Bool.{Bool, ◌&&◌}
use mathlib.Core.List.{List}
use lib.ListN.{take}
use Rattle.blocks.specs.Blocks.{content}
use Rattle.refusal.specs.declared.Refusal.{Refusal}
use Rattle.automaton.specs.File.{parsed}
use Rattle.automaton.specs.declared.Header.{Header}
use Rattle.transitions.specs.Transitions.{automaton_of}
use Rattle.tally.specs.declared.Tally.{Tally}
use Rattle.text.specs.Appended.{Appended}
use Rattle.text.proofs.Laws.{front-is}
use Rattle.wording.specs.ReportLines.{refused_line, tally_line}
use Rattle.report_text.specs.Report.{head_of}
use Rattle.reporting.specs.declared.Descriptor.{Descriptor}
use Rattle.reporting.specs.Trace.{Handed}
use Rattle.reporting.specs.Reported.{Tallied, Reported}

pub reported-refused : (w : List ℕ) (d : Descriptor) (r : Refusal) (took : Bool) → parsed w ≡ Err r → Handed (refused_line r) took → Reported w d took
reported-refused w d r took e f = rw e f

pub reported-read : (w : List ℕ) (d : Descriptor) (h : Header) (t : Tally) (first last took : Bool) → parsed w ≡ Ok h → Tallied d (automaton_of h (content w)) t
    → Handed (head_of h (content w)) first → Handed (tally_line t) last → took ≡ (first && last) → Reported w d took
reported-read w d h t first last took e x y z b = rw e (t, x, first, last, y, z, b)

-- a text that was put at the front of a buffer, and handed over
pub handed-text : {a b text : List ℕ} {r : ℕ} → Appended a 0 text b r → (took : Bool) → Handed (take r b) took → Handed text took
handed-text p took x = subst (λ (s : List ℕ). Handed s took) (front-is p) x
