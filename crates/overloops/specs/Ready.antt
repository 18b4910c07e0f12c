-- What code has of an automaton that was read: its header, the table of its transitions and the overloops of its leaves; and what preparing a file
-- leaves in the lent tables.
-- Interface: `Headed`, `Ready`, `PreparedAfter`.
use Rattle.std.specs.Prelude.{◌≡◌, List, ℕ, Result, Ok, Err}
use Rattle.blocks.specs.Blocks.{content}
use Rattle.algorithms.specs.Automaton.{Automaton}
use Rattle.automaton.specs.File.{WithinLimits}
use Rattle.automaton.specs.declared.Header.{Header}
use Rattle.transitions.specs.Transitions.{automaton_of}
use Rattle.overloops.specs.Tables.{Tabled, Leaves}
use Rattle.refusal.specs.declared.Refusal.{Refusal}

-- the header has the automaton's counts and sets, and the table its transitions ..
pub record Headed (A : Automaton) (h : Header) (table : List ℕ) : Type 0 where
  pub tabled : Tabled A h.states table
  pub symbols : A.symbols ≡ h.symbols
  pub branches : A.branches ≡ h.branches
  pub initial : A.initial ≡ h.initial
  pub accepting : A.accepting ≡ h.accepting

-- .. and a second table the overloops of its leaves: all that judging, survey, quick check and tally need
pub record Ready (A : Automaton) (h : Header) (table leaves : List ℕ) : Type 0 where
  pub headed : Headed A h table
  pub leaves_are : Leaves A leaves

-- after preparing the file s: the tables of its automaton, or, of a refused file, what stood there
abbrev pub PreparedAfter : Result Header Refusal → (s table leaves table' leaves' : List ℕ) → Type 0
PreparedAfter (Ok h) s table leaves table' leaves' = WithinLimits h × Ready (automaton_of h (content s)) h table' leaves'
PreparedAfter (Err r) s table leaves table' leaves' = (table' ≡ table) × (leaves' ≡ leaves)
