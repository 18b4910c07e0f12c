-- For the code: what the lent tables hold of an automaton and a tree.
-- Interface: `entry_at`, `entry_of`, `Countable`.
use Rattle.std.specs.Prelude.{ℕ, ◌+◌, ◌*◌, ◌<◌, ◌≡◌, List, get_or}
use Rattle.model.specs.Trees.{Tree, size}
use Rattle.algorithms.specs.Automaton.{Automaton, Proper}
use Rattle.transitions.specs.Compiled.{Compiled}
use Rattle.links.specs.Tables.{Tables}
use Rattle.steps.specs.declared.Configuration.{Configuration}
use Rattle.watch.specs.Walk.{Entry}
use Rattle.logs.specs.Prefix.{entry}

-- entry k, where the log has it
abbrev pub entry_at : List ℕ → (k : ℕ) → Entry
entry_at s k = entry (get_or s (3 * k) 0) (get_or s (3 * k + 1) 0) (get_or s (3 * k + 2) 0)

-- a configuration as an entry
abbrev pub entry_of : Configuration → Entry
entry_of c = (c.node, c.state.0)

-- of an automaton its transitions and start states; of a tree its nodes and their links
pub record Countable (initial : ℕ) (s table P R : List ℕ) : Type 0 where
  pub automaton : Automaton
  pub tree : Tree
  pub proper : Proper automaton
  pub compiled : Compiled automaton table
  pub initial_is : automaton.initial ≡ initial
  pub tables : Tables tree s P R
  pub symbols : (i : ℕ) → i < size tree → get_or s i 0 < 32
