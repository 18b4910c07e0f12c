-- For the code: what the lent tables hold of an automaton and a tree, and what following the run promises.
-- Interface: `put_entry`, `Walkable`, `Followed`, `Held`.
use Rattle.std.specs.Prelude.{ℕ, ◌+◌, ◌*◌, ◌/◌, ◌%◌, ◌≤◌, ◌<◌, ◌≡◌, List, length, get_or, set}
use Rattle.model.specs.Trees.{Tree, size}
use Rattle.algorithms.specs.Automaton.{Automaton, Proper}
use Rattle.automaton.specs.File.{WithinLimits}
use Rattle.automaton.specs.declared.Header.{Header}
use Rattle.nodes.specs.Preorder.{Writes}
use Rattle.links.specs.Tables.{Tables}
use Rattle.overloops.specs.Ready.{Headed}
use Rattle.steps.specs.Choices.{Chosen}
use Rattle.membership.specs.Judged.{signature_of}
use Rattle.watch.specs.Walk.{Walk, most_steps}
use Rattle.watch.specs.Watch.{log_after}
use Rattle.watch.specs.declared.Watched.{Watched}

-- entry k of a log is stored
abbrev pub put_entry : (log : List ℕ) → (k i p : ℕ) → List ℕ
put_entry log k i p = set (set (set log (3 * k) (i % 256)) (3 * k + 1) (i / 256)) (3 * k + 2) p

-- of an automaton its choices, final states and a state to start from; of a tree its nodes and their links; and nodes × states
pub record Walkable (accepting most start : ℕ) (s codes P R : List ℕ) : Type 0 where
  pub automaton : Automaton
  pub tree : Tree
  pub proper : Proper automaton
  pub few_symbols : automaton.symbols ≤ 32
  pub chosen : Chosen automaton.symbols automaton.next codes
  pub accepting_is : automaton.accepting ≡ accepting
  pub starts : start < automaton.states
  pub limit : most_steps automaton tree ≡ most
  pub tables : Tables tree s P R
  pub symbols : (i : ℕ) → i < size tree → get_or s i 0 < automaton.symbols

-- the answer and each byte of the log are the walk's
pub record Followed (x : Walk) (before : List ℕ) (answer : Watched) (after : List ℕ) : Type 0 where
  pub answered : answer ≡ x.answer
  pub log : after ≡ log_after x.entries before

-- both files were read: a header with its compiled transitions, and a node list
pub record Held (h : Header) (table s : List ℕ) : Type 0 where
  pub automaton : Automaton
  pub tree : Tree
  pub limits : WithinLimits h
  pub headed : Headed automaton h table
  pub writes : Writes (signature_of automaton) s tree
  pub few : length s ≤ 4096
