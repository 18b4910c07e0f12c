-- What trying candidates one after the other gives: the first that is accepted, or the rows kept. In terms of the saturation's own
-- functions on lists.
-- Interface: `over_rows`, `Keeps`, `Settled`, `Marks`, `Skips`, `Tries`, `Few`.
use Rattle.std.specs.Prelude.{◌≡◌, ℕ, ◌<◌, ◌≤◌, ltb, length}
use Rattle.std.proofs.Math.Option.{none, some}
use mathlib.Core.List.{List, map, flat_map}
use Rattle.model.specs.Lists.{◌∈◌, Nth, count_from}
use Rattle.model.specs.Saturation.{Algebra, Candidate, class_at, node_candidate, first_accepted, absorb}
use Rattle.model.specs.Fresh.{rights}
use Rattle.model.proofs.FreshRows.{Old}
use Rattle.algorithms.specs.Automaton.{Automaton, alphabet_of}
use Rattle.algorithms.specs.Saturate.{algebra_of}
use Rattle.representatives.specs.Stored.{origin_of, StoredAt, Stored}
use Rattle.interchange.specs.Interchange.{Marked}
use Rattle.representatives.specs.declared.Origin.{Origin}
use Rattle.candidates.specs.declared.Tried.{Tried}

-- the candidates of a branch symbol over the first k rows, and on the right the first `to`, without those over two rows below `old`
abbrev pub over_lefts : (M : Algebra) (base : List (Candidate M)) (old to σ k : ℕ) → List (Candidate M)
over_lefts M base old to σ k = flat_map (λ a. map (λ b. node_candidate M base σ a b) (rights (ltb a old) old to)) (count_from 0 k)

-- over all the first `to` rows
abbrev pub over_rows : (M : Algebra) (base : List (Candidate M)) (old to σ : ℕ) → List (Candidate M)
over_rows M base old to σ = over_lefts M base old to σ to

module _ (A : Automaton) where
  -- the table has the rows that a round began with
  abbrev pub Held : (base : List (Candidate (algebra_of A))) (rows : List ℕ) → Type 0
  Held base rows = (i : ℕ) (c : Candidate (algebra_of A)) → i < 64 → Nth base i c → StoredAt A rows i c

  -- the rows kept so far, n by count, with those that the round began with in front
  pub record Keeps (base kept : List (Candidate (algebra_of A))) (n : ℕ) (rows : List ℕ) : Type 0 where
    pub stored : Stored A rows n kept
    pub extends : (i : ℕ) (c : Candidate (algebra_of A)) → Nth base i c → Nth kept i c

  -- the candidate of σ over the rows a and b need not be tried: it is not accepted, and its class is that of a row kept
  abbrev pub Settled : (base kept : List (Candidate (algebra_of A))) (σ a b : ℕ) → Type 0
  Settled base kept σ a b = Old (algebra_of A) kept (node_candidate (algebra_of A) base σ a b)

  -- the table's marks are of the rows that the round began with
  abbrev pub Marks : (base : List (Candidate (algebra_of A))) (doubles : List ℕ) → Type 0
  Marks base doubles = Marked A (class_at (algebra_of A) base) (length base) doubles

  -- what a round rests on where it skips candidates: the marks, and that those over two rows below `old` are settled
  pub record Skips (base : List (Candidate (algebra_of A))) (old : ℕ) (doubles : List ℕ) : Type 0 where
    pub marks : Marks base doubles
    pub pairs : (σ a b : ℕ) → σ ∈ (alphabet_of A).branches → a < old → b < old → Settled base base σ a b

  -- after the candidates cs: the first that is accepted, with the round's first rows as they were; or the rows kept
  pub data Tries (base kept cs : List (Candidate (algebra_of A))) (rows : List ℕ) : Tried → Type 0 where
    accepted : {o : Origin} (c : Candidate (algebra_of A)) → first_accepted (algebra_of A) cs ≡ some c → origin_of o ≡ c.row → Held base rows
        → Tries base kept cs rows (Tried.Accepted o)
    onward : {n : ℕ} → first_accepted (algebra_of A) cs ≡ none → Keeps base (absorb (algebra_of A) kept cs) n rows → Tries base kept cs rows (Tried.Kept n)

-- a count of rows is at most 65
abbrev pub Few : Tried → Type 0
Few (Tried.Accepted o) = Unit {0}
Few (Tried.Kept n) = n ≤ 65
