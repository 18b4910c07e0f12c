-- What code has of an automaton that was read, held together.
-- Interface: `HeadedFor`, `ReadyFor`.
use Rattle.algorithms.specs.Automaton.{Automaton}
use Rattle.overloops.specs.Ready.{Headed, Ready}
use Rattle.classes.specs.declared.Prepared.{Prepared}

-- without the leaves
abbrev pub HeadedFor : Automaton → Prepared → Type 0
HeadedFor A p = Headed A p.header p.table.now

abbrev pub ReadyFor : Automaton → Prepared → Type 0
ReadyFor A p = Ready A p.header p.table.now p.leaves.now
