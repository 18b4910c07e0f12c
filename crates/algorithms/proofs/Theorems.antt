-- Demands 2 and 3 hold of every proper automaton, and each N(h) that demand 3 speaks of is one number.
use mathlib.Core.Path.{◌≡◌}
use mathlib.Core.Logic.{◌↔◌}
use lib.Dec.{T}
use Prim.Native.Nat.{ℕ}
use Rattle.model.specs.Trees.{Tree}
use Rattle.model.specs.Counting.{Counts}
use Rattle.model.specs.Demand.{Correct}
use Rattle.model.proofs.CountingLaws.{counts-unique}
use Rattle.model.proofs.Rows.{counts-exist}
use Rattle.model.proofs.Correct.{saturation-correct}
use Rattle.model.proofs.FreshRows.{fresh-saturation}
use Rattle.algorithms.specs.Automaton.{Automaton, Accepted, Proper, alphabet_of}
use Rattle.algorithms.specs.Saturate.{language_of, algebra_of, saturation_of, fresh_saturation_of}
use Rattle.algorithms.specs.Overloops.{accepts?}
use Rattle.algorithms.proofs.OverloopLaws.{accepts-has}
use Rattle.algorithms.proofs.Recognized.{same-sound, same_refl, recognizes}

-- Demand 2: the computed answer is acceptance by runs.
pub demand-2 : (A : Automaton) → Proper A → (t : Tree) → T (accepts? A t) ↔ Accepted A t
demand-2 = accepts-has

-- Demand 3 of the saturation: each verdict is told exactly when it holds. (Of the approximation: `parts-least`, `clear-has` and `clear-sound` of
-- LeastSets.)
pub demand-3 : (A : Automaton) → Proper A → Correct (alphabet_of A) (language_of A) 64 (saturation_of A)
demand-3 A P = saturation-correct (alphabet_of A) (language_of A) (algebra_of A) (recognizes A P) 64

-- N(k - 1) exists, and is one number.
pub count-exists : (A : Automaton) → Proper A → (k : ℕ) → (n : ℕ) × Counts (alphabet_of A) (language_of A) k n
count-exists A P = counts-exist (alphabet_of A) (language_of A) (algebra_of A) (recognizes A P)

pub count-unique : (A : Automaton) → Proper A → {k n m : ℕ} → Counts (alphabet_of A) (language_of A) k n → Counts (alphabet_of A) (language_of A) k m → n ≡ m
count-unique A P = counts-unique (alphabet_of A) (language_of A) (algebra_of A) (recognizes A P)

-- The saturation that leaves out what was tried before tells the same.
pub fresh-same : (A : Automaton) → fresh_saturation_of A ≡ saturation_of A
fresh-same A = fresh-saturation (algebra_of A) same-sound same_refl (alphabet_of A) 64
