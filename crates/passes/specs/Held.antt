-- The stack of words: a lent table that fills from its end, with the two words on top in a struct as well.
-- Interface: `Held`.
use Rattle.std.specs.Prelude.{ℕ, ◌≤◌, ◌≡◌, List, ◌∷◌, length, drop}
use Rattle.passes.specs.declared.Stack.{Stack}

-- the table holds these words, the first on top
pub record Held (table : List ℕ) (st : Stack) (ws : List ℕ) : Type 0 where
  pub size : length table ≡ 128
  pub room : st.top ≤ 128
  pub words : drop st.top table ≡ ws
  pub first : (x : ℕ) (l : List ℕ) → ws ≡ x ∷ l → st.first ≡ x
  pub second : (x y : ℕ) (l : List ℕ) → ws ≡ x ∷ y ∷ l → st.second ≡ y
