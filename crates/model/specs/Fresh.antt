-- A saturation that tries, in each round, only the candidates over some row of the last round: all others were tried before, were not
-- accepted and are not new. It tells the same: `fresh-saturation` of FreshRows.
-- Interface: `rights`, `fresh_candidates`, `fresh_saturation`.
use Rattle.std.specs.Prelude.{ℕ, zero, suc, ◌-◌, Bool, true, false, length, ltb}
use mathlib.Core.List.{List, [], map, flat_map}
use Rattle.model.specs.Lists.{count_from}
use Rattle.model.specs.Counting.{Alphabet}
use Rattle.model.specs.Saturation.{Algebra, Candidate, Verdict, Open, Ending, leaf_candidate, node_candidate}
use Rattle.model.specs.Saturation.{first_accepted, absorb, conclude, after}

-- ---- the rounds

-- The right rows to try beside a left row: where that is an old row, only the new ones.
abbrev pub rights : (is-old : Bool) (old n : ℕ) → List ℕ
rights true old n = count_from old (n - old)
rights false old n = count_from 0 n

module _ (M : Algebra) where
  unfoldable pub fresh_nodes : List ℕ → (old : ℕ) → List (Candidate M) → List (Candidate M)
  fresh_nodes branches old kept =
      let n = length kept in
      flat_map (λ σ. flat_map (λ a. map (λ b. node_candidate M kept σ a b) (rights (ltb a old) old n)) (count_from 0 n)) branches

  -- `old` rows stood when the last round began.
  unfoldable pub fresh_candidates : Alphabet → (h old : ℕ) → List (Candidate M) → List (Candidate M)
  fresh_candidates S zero old kept = map (leaf_candidate M) S.leaves
  fresh_candidates S (suc h) old kept = fresh_nodes S.branches old kept

  -- As `round`, `rounds` and `saturation`, over these candidates.
  unfoldable pub fresh_round : Alphabet → (limit h old : ℕ) → List (Candidate M) → Ending M
  fresh_round S limit h old kept =
      let cs = fresh_candidates S h old kept in
      conclude M limit h kept (first_accepted M cs) (absorb M kept cs)

  unfoldable pub fresh_rounds : Alphabet → (limit fuel h old : ℕ) → List (Candidate M) → Verdict
  fresh_rounds S limit zero h old kept = Open h
  fresh_rounds S limit (suc fuel) h old kept =
      after M (fresh_round S limit h old kept) (λ next. fresh_rounds S limit fuel (suc h) (length kept) next)

  unfoldable pub fresh_saturation : Alphabet → ℕ → Verdict
  fresh_saturation S limit = fresh_rounds S limit (suc limit) 0 0 []
