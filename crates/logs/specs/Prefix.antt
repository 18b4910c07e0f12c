-- How many entries from the start of a log are a run of an automaton on a tree; the trade calls it a lawful walk. The quotations are of document 02,
-- W8 and, of an entry, W7.
-- Interface: `entry`, `entries_of`, `begins`, `run_after`, `run_prefix`.
use Rattle.std.specs.Prelude.{ℕ, ◌+◌, ◌*◌, Bool, ◌&&◌, List, [], ◌∷◌, eqb}
use Rattle.relation.specs.Sets.{member}
use Rattle.model.specs.Trees.{Tree}
use Rattle.algorithms.specs.Automaton.{Automaton}
use Rattle.steps.specs.Leads.{leads}
use Rattle.watch.specs.Walk.{Entry}
use Rattle.agreement.specs.Common.{counted}

-- "three bytes: node, low byte first, then state"
abbrev pub entry : (low high state : ℕ) → Entry
entry low high state = (low + 256 * high, state)

-- the whole entries of a log
unfoldable pub entries_of : List ℕ → List Entry
entries_of [] = []
entries_of (a ∷ []) = []
entries_of (a ∷ b ∷ []) = []
entries_of (a ∷ b ∷ c ∷ s) = entry a b c ∷ entries_of s

-- "root in a start state"
abbrev pub begins : (initial : ℕ) → Entry → Bool
begins initial e = eqb e.0 0 && member initial e.1

-- "then each entry reached from the one before by a rule": how many of those after entry e are; a node or a state that does not exist is not
-- reached
unfoldable pub run_after : Automaton → Tree → Entry → List Entry → ℕ
run_after A t e [] = 0
run_after A t e (f ∷ es) = counted (leads A t e.0 e.1 f.0 f.1) (run_after A t f es)

-- "how many entries from its start are a lawful walk"; "an empty log has 0"
unfoldable pub run_prefix : Automaton → Tree → List Entry → ℕ
run_prefix A t [] = 0
run_prefix A t (e ∷ es) = counted (begins A.initial e) (run_after A t e es)
