-- What W8 says of the part in words: a beginning of both logs, in whole entries, and no longer one is. proofs/Agreeing has the proof of it.
-- Interface: `Agrees`, `Longest`.
use Rattle.std.specs.Prelude.{ℕ, ◌*◌, ◌≤◌, ◌≡◌, List, length, take}

-- both logs have k whole entries, and their first k are the same bytes
pub record Agrees (a b : List ℕ) (k : ℕ) : Type 0 where
  pub in_first : 3 * k ≤ length a
  pub in_second : 3 * k ≤ length b
  pub same : take (3 * k) a ≡ take (3 * k) b

-- "the longest opening stretch of whole entries in which the two agree"
pub record Longest (a b : List ℕ) (k : ℕ) : Type 0 where
  pub agrees : Agrees a b k
  pub longest : (j : ℕ) → Agrees a b j → j ≤ k
