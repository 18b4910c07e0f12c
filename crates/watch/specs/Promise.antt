-- What W7 says of an answer and of the log afterwards, in terms of runs. Definitions only; the quotations are of document 02, W7.
-- Interface: `steps_of`, `Passing`, `Halted`, `Moving`, `Logged`, `Stopped`, `Watches`, `Promise`.
use Rattle.std.specs.Prelude.{◌≡◌, List, [], ◌∷◌, ℕ, ◌+◌, ◌≤◌, ◌<◌, length, Ok, Err}
use Rattle.model.specs.declared.Place.TheVariants.{Root}
use Rattle.model.specs.Trees.{Tree}
use Rattle.model.specs.Runs.{Position, Config, Step, Deterministic}
use Rattle.algorithms.specs.Automaton.{Automaton, In, Δ, Accepted}
use Rattle.blocks.specs.Blocks.{content}
use Rattle.refusal.specs.declared.Refusal.{Refusal}
use Rattle.automaton.specs.File.{parsed}
use Rattle.automaton.specs.declared.Header.{Header}
use Rattle.transitions.specs.Transitions.{automaton_of}
use Rattle.nodes.specs.Preorder.{Writes}
use Rattle.links.specs.Numbers.{Numbered}
use Rattle.tree.specs.File.{nodes_of, read_tree}
use Rattle.membership.specs.Judged.{signature_of}
use Rattle.watch.specs.Walk.{Entry, most_steps}
use Rattle.watch.specs.Checks.{log_length}
use Rattle.watch.specs.Watch.{Outcome, log_after}
use Rattle.watch.specs.declared.Watched.{Watched}

-- "the steps made are in the answer"
abbrev pub steps_of : Watched → ℕ
steps_of (Watched.Passed n) = n
steps_of (Watched.Stuck n) = n
steps_of (Watched.Circling n) = n
steps_of (Watched.Spent n) = n

module _ (A : Automaton) (t : Tree) where
  -- "at the root in a final state"
  abbrev pub Passing : Config → Type 0
  Passing c = (c.0 ≡ []) × In A.accepting c.1

  -- "no rule applies", and one does
  abbrev pub Halted : Config → Type 0
  Halted c = (d : Config) → ¬ Step (Δ A) Root t c d

  abbrev pub Moving : Config → Type 0
  Moving c = (d : Config) × Step (Δ A) Root t c d

  -- "follow the run and log each position": the entries are the configurations of a run from c to d, each a node of the tree and a state; before each
  -- step it is looked whether the tree is passed
  pub data Logged : Config → List Entry → Config → Type 0 where
    stands : {α : Position} {u : Tree} {i p : ℕ} → Numbered t i α u → Logged (α, p) ((i, p) ∷ []) (α, p)
    steps : {α : Position} {u : Tree} {i p : ℕ} {c d : Config} {es : List Entry} → Numbered t i α u → ¬ Passing (α, p)
        → Step (Δ A) Root t (α, p) c → Logged c es d → Logged (α, p) ((i, p) ∷ es) d

  -- "Before each step, in this order": what is answered where the walk ends, at d; a later answer only where the earlier ones are not given
  pub data Stopped (budget : ℕ) (d : Config) : Watched → Type 0 where
    -- "Passed at the root in a final state"
    passed : {n : ℕ} → Passing d → Stopped budget d (Watched.Passed n)
    -- "Stuck if no rule applies"
    stuck : {n : ℕ} → ¬ Passing d → Halted d → Stopped budget d (Watched.Stuck n)
    -- "Circling if the steps made equal nodes × states"
    circling : {n : ℕ} → ¬ Passing d → Moving d → n ≡ most_steps A t → Stopped budget d (Watched.Circling n)
    -- "Spent if they equal the budget": never with a budget of nodes × states or more
    spent : {n : ℕ} → ¬ Passing d → Moving d → n < most_steps A t → n ≡ budget → Stopped budget d (Watched.Spent n)

  -- of a call that is not refused: its answer, and the log afterwards
  pub record Watches (budget : ℕ) (before : List ℕ) (answer : Watched) (after : List ℕ) : Type 0 where
    -- "one start state"
    pub start : ℕ
    pub starts : In A.initial start
    pub only : (q : ℕ) → In A.initial q → q ≡ start
    -- "the first entry is the root in the start state"; one entry more than steps
    pub entries : List Entry
    pub last : Config
    pub run : Logged ([], start) entries last
    pub made : length entries ≡ steps_of answer + 1
    -- "bytes after the log are unchanged"
    pub log : after ≡ log_after entries before
    pub stopped : Stopped budget last answer
    -- "Passed implies the letter is accepted; Stuck and Circling imply it isn't"
    pub passed : (n : ℕ) → answer ≡ Watched.Passed n → Accepted A t
    pub stuck : (n : ℕ) → answer ≡ Watched.Stuck n → ¬ Accepted A t
    pub circling : (n : ℕ) → answer ≡ Watched.Circling n → ¬ Accepted A t

-- of an automaton's file w, a tree's file s, the budget, the log before, and the answer with the log afterwards
pub record Promise (w s : List ℕ) (budget : ℕ) (before : List ℕ) (o : Outcome) : Type 0 where
  -- "a refused call leaves every lent byte as it was" (W1)
  pub kept : (r : Refusal) → o.answer ≡ Err r → o.log ≡ before
  -- both files were read, and the list of k nodes writes the tree t: the run is followed, unless the call is refused ..
  pub watches : (h : Header) (k : ℕ) (t : Tree) → parsed w ≡ Ok h → let A = automaton_of h (content w) in
      read_tree (signature_of A) s ≡ Ok k → Writes (signature_of A) (nodes_of k (content s)) t
      → (x : Watched) → o.answer ≡ Ok x → Watches A t budget before x o.log
  -- .. which it is not "for a single walker with one start state" and a budget and a log within the limits
  pub follows : (h : Header) (k : ℕ) (start : ℕ) → parsed w ≡ Ok h → let A = automaton_of h (content w) in
      read_tree (signature_of A) s ≡ Ok k → Deterministic (Δ A) → In A.initial start → ((q : ℕ) → In A.initial q → q ≡ start)
      → budget ≤ 20000 → log_length budget ≤ length before → (r : Refusal) → ¬ (o.answer ≡ Err r)
