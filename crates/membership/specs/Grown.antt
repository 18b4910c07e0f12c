-- The sum of growths that judging answers (document 02, W9): "The sum comes with accepted and with not accepted, and equals the same sum made over
-- the definition. It is at most 576 × nodes. A refused letter has sum 0."
-- Interface: `growth_by`, `growth_judged`, `judged_with`, `GrowthRight`.
use Rattle.std.specs.Prelude.{◌≡◌, List, ℕ, ◌*◌, ◌≤◌, Result, Ok, Err}
use Rattle.model.specs.declared.Place.{Place}
use Rattle.model.specs.Trees.{Tree}
use Rattle.algorithms.specs.Automaton.{Automaton}
use Rattle.algorithms.specs.Growth.{growths, Grows}
use Rattle.blocks.specs.Blocks.{content}
use Rattle.refusal.specs.declared.Refusal.{Refusal}
use Rattle.automaton.specs.File.{parsed}
use Rattle.automaton.specs.declared.Header.{Header}
use Rattle.transitions.specs.Transitions.{automaton_of, by_automaton}
use Rattle.tree.specs.File.{nodes_of, read_tree}
use Rattle.nodes.specs.Nodes.{tree_of}
use Rattle.nodes.specs.Preorder.{Writes}
use Rattle.membership.specs.Judged.{signature_of, judged}
use Rattle.membership.specs.declared.Judged.{Judged}

-- of a tree's file s that was read: the sum over its nodes, the root at the root's place
abbrev pub growth_read : Automaton → Result ℕ Refusal → (s : List ℕ) → ℕ
growth_read A (Ok k) s = growths A Place.Root (tree_of A.branches (nodes_of k (content s)))
growth_read A (Err r) s = 0

-- of a tree's file s, by an automaton
unfoldable pub growth_by : Automaton → (s : List ℕ) → ℕ
growth_by A s = growth_read A (read_tree (signature_of A) s) s

-- of an automaton's file w and a tree's file s; 0 where w is refused
unfoldable pub growth_judged : (w s : List ℕ) → ℕ
growth_judged w s = by_automaton w (λ r. 0) (λ A. growth_by A s)

-- an answer with its sum
abbrev pub judged_with : (w s : List ℕ) → Judged
judged_with w s = record { answer = judged w s; growth = growth_judged w s }

-- What the sum is, with no tables: counted at each node from runs (`Grows`), of the tree that the file's k nodes write. And 0 for every refusal.
pub record GrowthRight (w s : List ℕ) (r : Judged) : Type 0 where
  pub counted : (h : Header) (k : ℕ) → parsed w ≡ Ok h
      → let A = automaton_of h (content w) in read_tree (signature_of A) s ≡ Ok k
      → ((t : Tree) → Writes (signature_of A) (nodes_of k (content s)) t → Grows A Place.Root t r.growth) × (r.growth ≤ 576 * k)
  pub refused : (x : Refusal) → r.answer ≡ Err x → r.growth ≡ 0
