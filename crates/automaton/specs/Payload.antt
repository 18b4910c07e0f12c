-- The payload of an automaton's file (document 01, the walker file). `payload_of`, of a header and the bytes of its rule records, and
-- `records_of`, of rules, are the definitions to cite.
-- Interface: `records_of`, `payload_of`.
use Rattle.std.specs.Prelude.{ℕ, ◌/◌, ◌%◌, List, [], ◌∷◌, ◌++◌}
use Rattle.blocks.specs.FileOf.{word_bytes}
use Rattle.model.specs.declared.Side.{Side}
use Rattle.model.specs.declared.Place.{Place}
use Rattle.model.specs.declared.Move.{Move}
use Rattle.automaton.specs.declared.Header.{Header}
use Rattle.automaton.specs.declared.Rule.{Rule}
use Rattle.automaton.specs.declared.Scope.{Scope}

-- "Place: 0 root, 1 left part, 2 right part, 3 all three."
abbrev pub place_byte : Scope → ℕ
place_byte (Scope.Only Place.Root) = 0
place_byte (Scope.Only (Place.Child Side.Left)) = 1
place_byte (Scope.Only (Place.Child Side.Right)) = 2
place_byte Scope.Every = 3

-- "Move: 0 stay, 1 up, 2 left, 3 right."
abbrev pub move_byte : Move → ℕ
move_byte Move.Stay = 0
move_byte Move.Up = 1
move_byte (Move.Down Side.Left) = 2
move_byte (Move.Down Side.Right) = 3

-- "five bytes a rule: symbol, state, place, move, next state"
unfoldable pub records_of : List Rule → List ℕ
records_of [] = []
records_of (r ∷ rs) = r.symbol.0 ∷ r.state.0 ∷ place_byte r.scope ∷ move_byte r.step ∷ r.next.0 ∷ records_of rs

-- "Offset 0: kind 87. 1: states n .. 2: symbols m .. 3: zero. 4-5: rules r .. low byte first. 6-7: zero. 8-11, 12-15, 16-19: start states,
-- final states, branch symbols; four bytes each, low first .. From 20, five bytes a rule"
unfoldable pub payload_of : Header → (records : List ℕ) → List ℕ
payload_of h records =
    87 ∷ h.states ∷ h.symbols ∷ 0 ∷ h.rules % 256 ∷ h.rules / 256 ∷ 0 ∷ 0
    ∷ word_bytes h.initial ++ word_bytes h.accepting ++ word_bytes h.branches ++ records
