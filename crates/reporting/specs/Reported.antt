-- What the report says of files that are read in pieces. Nothing is known of the bytes that reading gives, so that this says: there are bytes,
-- those of the pieces, of which this is the report.
-- Interface: `Tallied`, `Reported`.
use Rattle.std.specs.Prelude.{◌≡◌, Bool, ◌&&◌, List, ◌++◌, ◌⊎◌, ℕ}
use Rattle.algorithms.specs.Automaton.{Automaton}
use Rattle.automaton.specs.declared.Header.{Header}
use Rattle.automaton.specs.File.{read_automaton}
use Rattle.transitions.specs.Transitions.{automaton_of}
use Rattle.tally.specs.declared.Tally.{Tally}
use Rattle.batch.specs.Batch.{nothing_counted, batch_of}
use Rattle.wording.specs.ReportLines.{refused_line, tally_line}
use Rattle.report_text.specs.Report.{head_of}
use Rattle.reporting.specs.declared.Descriptor.{Descriptor}
use Rattle.reporting.specs.Trace.{Handed, PiecesRead, InputEnded, all_read}

-- a tally is that of all that was read, end to end; and the input has ended, or whatever else would have come changes nothing
abbrev pub Tallied : (descriptor : Descriptor) → Automaton → Tally → Type 0
Tallied descriptor A t =
    (pieces : List (List ℕ)) × PiecesRead descriptor pieces × (t ≡ batch_of A nothing_counted (all_read pieces))
    × (InputEnded descriptor pieces ⊎ ((more : List ℕ) → batch_of A nothing_counted (all_read pieces ++ more) ≡ t))

-- by an automaton that was read, and trees' files from a descriptor: what was handed over, and whether all of it was taken
abbrev pub ReportedRead : Header → (p : List ℕ) → (descriptor : Descriptor) → (took : Bool) → Type 0
ReportedRead h p descriptor took =
    (t : Tally) × Tallied descriptor (automaton_of h p) t × (first : Bool) × (last : Bool) × Handed (head_of h p) first × Handed (tally_line t) last × (took ≡ (first && last))

-- of an automaton's file w
abbrev pub Reported : (w : List ℕ) → (descriptor : Descriptor) → (took : Bool) → Type 0
Reported w descriptor took = read_automaton w (λ r. Handed (refused_line r) took) (λ h p. ReportedRead h p descriptor took)
