-- What single says of a file that reads (document 02, W2): of the set of its spread rules, and of its automaton by the paper's Definition 19.
-- Interface: `Singles`, `SingleRight`.
use Rattle.std.specs.Prelude.{ℕ, ◌≡◌, ◌↔◌, List, Result, Ok, Err}
use Rattle.model.specs.Lists.{◌∈◌}
use Rattle.model.specs.Runs.{Deterministic}
use Rattle.algorithms.specs.Automaton.{Δ}
use Rattle.blocks.specs.Blocks.{content}
use Rattle.refusal.specs.declared.Refusal.{Refusal}
use Rattle.automaton.specs.File.{parsed}
use Rattle.automaton.specs.declared.Header.{Header}
use Rattle.automaton.specs.declared.Rule.{Rule}
use Rattle.transitions.specs.Transitions.{automaton_of}
use Rattle.transitions.specs.Spread.{spread_rules}
use Rattle.determinism.specs.Single.{Single}
use Rattle.determinism.specs.declared.Singleness.{Singleness}

-- of a header and the joined contents
pub record Singles (h : Header) (contents : List ℕ) (r : Result Singleness Refusal) : Type 0 where
  -- "Equal rules, after place 3 is spread over its places, count as the same rule": it is single where no two others meet ..
  pub rules : (r ≡ Ok Singleness.Single) ↔ Single (λ (x : Rule). x ∈ spread_rules h contents)
  -- .. which is where a symbol, a state and a place have at most one transition
  pub deterministic : (r ≡ Ok Singleness.Single) ↔ Deterministic (Δ (automaton_of h contents))
  -- else it is not single, and is not refused
  pub no_refusal : (x : Refusal) → ¬ (r ≡ Err x)

abbrev pub SingleRight : (file : List ℕ) → Result Singleness Refusal → Type 0
SingleRight s r = (h : Header) → parsed s ≡ Ok h → Singles h (content s) r
