-- What W8 says of the part, of the numbers and of a refusal, in terms of runs. Definitions only; the quotations are of document 02, W8.
-- Interface: `Traced`, `Lawful`, `Counts`, `Promise`.
use Rattle.std.specs.Prelude.{ℕ, suc, ◌*◌, ◌%◌, ◌≤◌, ◌<◌, ◌≡◌, ◌↔◌, List, [], ◌∷◌, length, take, Result, Ok, Err}
use Rattle.model.specs.declared.Place.TheVariants.{Root}
use Rattle.model.specs.Trees.{Tree}
use Rattle.model.specs.Runs.{Position, Config, Step}
use Rattle.algorithms.specs.Automaton.{Automaton, In, Δ}
use Rattle.blocks.specs.Blocks.{content}
use Rattle.refusal.specs.declared.Refusal.{Refusal}
use Rattle.automaton.specs.File.{parsed}
use Rattle.automaton.specs.declared.Header.{Header}
use Rattle.transitions.specs.Transitions.{automaton_of}
use Rattle.nodes.specs.Preorder.{Writes}
use Rattle.links.specs.Numbers.{Numbered}
use Rattle.tree.specs.File.{nodes_of, read_tree}
use Rattle.membership.specs.Judged.{signature_of}
use Rattle.watch.specs.Walk.{Entry}
use Rattle.agreement.specs.Longest.{Longest}
use Rattle.logs.specs.Prefix.{entries_of}
use Rattle.logs.specs.Compare.{told_of}
use Rattle.logs.specs.declared.Compared.{Compared}

module _ (A : Automaton) (t : Tree) where
  -- the entries are the configurations of a run from c to d, each a node of the tree and a state: "each entry reached from the one before by a rule"
  pub data Traced : Config → List Entry → Config → Type 0 where
    stands : {α : Position} {u : Tree} {i p : ℕ} → Numbered t i α u → Traced (α, p) ((i, p) ∷ []) (α, p)
    steps : {α : Position} {u : Tree} {i p : ℕ} {c d : Config} {es : List Entry} → Numbered t i α u → Step (Δ A) Root t (α, p) c → Traced c es d
        → Traced (α, p) ((i, p) ∷ es) d

  -- "a lawful walk: root in a start state, then each entry reached from the one before by a rule"
  pub record Lawful (es : List Entry) : Type 0 where
    pub start : ℕ
    pub starts : In A.initial start
    pub last : Config
    pub traced : Traced ([], start) es last

  -- "how many entries from its start are a lawful walk": the first k + 1 are one exactly where k is below that number
  pub record Counts (es : List Entry) (n : ℕ) : Type 0 where
    pub within : n ≤ length es
    pub exactly : (k : ℕ) → k < length es → (k < n) ↔ Lawful (take (suc k) es)

-- of an automaton's file w, a tree's file s, the logs a and b, the part handed back and the numbers told
pub record Promise (w s a b part told : List ℕ) : Type 0 where
  -- the numbers are those of a refusal or of two counts
  pub answer : Result Compared Refusal
  pub told_is : told ≡ told_of answer
  -- which of the two the first number tells: no refusal has the number 0
  pub numbered : (r : Refusal) → answer ≡ Err r → 0 < r.number
  -- "A refusal comes with an empty part and both numbers 0" (`told_of` has the numbers) ..
  pub refused : (r : Refusal) → answer ≡ Err r → part ≡ []
  -- .. and anything else with "the longest opening stretch of whole entries in which the two agree, as that part of the first log itself"
  pub agreeing : (c : Compared) → answer ≡ Ok c → (k : ℕ) × (part ≡ take (3 * k) a) × Longest a b k
  -- both files were read, and the list of k nodes writes the tree t: each count is right ..
  pub counts : (h : Header) (k : ℕ) (t : Tree) → parsed w ≡ Ok h → let A = automaton_of h (content w) in
      read_tree (signature_of A) s ≡ Ok k → Writes (signature_of A) (nodes_of k (content s)) t
      → (c : Compared) → answer ≡ Ok c → Counts A t (entries_of a) c.first × Counts A t (entries_of b) c.second
  -- .. and there are counts where both logs are whole entries, for every automaton: "The walker need not be single here"
  pub counted : (h : Header) (k : ℕ) → parsed w ≡ Ok h → let A = automaton_of h (content w) in
      read_tree (signature_of A) s ≡ Ok k → length a % 3 ≡ 0 → length b % 3 ≡ 0
      → (c : Compared) × (answer ≡ Ok c)
