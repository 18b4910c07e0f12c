-- The rules of an automaton's file: five bytes each, from offset 20 of the joined contents (document 01, the walker file), and lines 8
-- and 9 of the table.
-- Interface: `sort_place`, `sort_move`, `rule_at`, `may_be_root`, `misplaced`, `rule_check`.
use Rattle.std.specs.Prelude.{ℕ, zero, suc, ◌+◌, ◌*◌, Bool, true, false, not, ◌&&◌, List, get_or, ltb, Option, Some, None}
use Rattle.relation.specs.Sets.{member}
use Rattle.model.specs.declared.Side.{Side}
use Rattle.model.specs.declared.Place.{Place}
use Rattle.model.specs.declared.Move.{Move}
use Rattle.refusal.specs.Checks.{refused, refuse_if, Check}
use Rattle.refusal.specs.declared.Fault.{Fault}
use Rattle.automaton.specs.declared.Header.{Header}
use Rattle.automaton.specs.declared.Rule.{Rule}
use Rattle.automaton.specs.declared.Scope.{Scope}

-- place: 0 root, 1 left part, 2 right part, 3 all three
unfoldable pub sort_place : ℕ → Option Scope
sort_place zero = Some (Scope.Only Place.Root)
sort_place (suc zero) = Some (Scope.Only (Place.Child Side.Left))
sort_place (suc (suc zero)) = Some (Scope.Only (Place.Child Side.Right))
sort_place (suc (suc (suc zero))) = Some Scope.Every
sort_place (suc (suc (suc (suc b)))) = None

-- move: 0 stay, 1 up, 2 left, 3 right
unfoldable pub sort_move : ℕ → Option Move
sort_move zero = Some Move.Stay
sort_move (suc zero) = Some Move.Up
sort_move (suc (suc zero)) = Some (Move.Down Side.Left)
sort_move (suc (suc (suc zero))) = Some (Move.Down Side.Right)
sort_move (suc (suc (suc (suc b)))) = None

abbrev pub rule : (symbol state : ℕ) → Scope → Move → (next : ℕ) → Rule
rule symbol state scope step next =
    record { symbol = record { 0 = symbol }; state = record { 0 = state }; scope = scope; step = step; next = record { 0 = next } }

-- the rule of five bytes, where the place and the move are known
abbrev pub sorted : (symbol state : ℕ) → Option Scope → Option Move → (next : ℕ) → Option Rule
sorted symbol state (Some scope) (Some step) next = Some (rule symbol state scope step next)
sorted symbol state (Some scope) None next = None
sorted symbol state None step next = None

abbrev pub known_if : Bool → Option Rule → Option Rule
known_if true bytes = bytes
known_if false bytes = None

-- rule i: symbol, state, place, move, next state; known where each has a value that there is
unfoldable pub rule_at : Header → List ℕ → ℕ → Option Rule
rule_at h p i =
    let at = 20 + 5 * i in
    let symbol = get_or p at 0 in
    let state = get_or p (at + 1) 0 in
    let place = sort_place (get_or p (at + 2) 0) in
    let step = sort_move (get_or p (at + 3) 0) in
    let next = get_or p (at + 4) 0 in
    known_if (ltb symbol h.symbols && ltb state h.states && ltb next h.states) (sorted symbol state place step next)

-- a rule with place 0 or 3
abbrev pub may_be_root : Scope → Bool
may_be_root (Scope.Only Place.Root) = true
may_be_root (Scope.Only (Place.Child s)) = false
may_be_root Scope.Every = true

abbrev pub misplaced_move : (branch : Bool) → Scope → Move → Bool
misplaced_move branch scope Move.Stay = false
misplaced_move branch scope Move.Up = may_be_root scope
misplaced_move branch scope (Move.Down s) = not branch

-- a move down at a leaf, or up with place 0 or 3
unfoldable pub misplaced : (branches : ℕ) → Rule → Bool
misplaced branches r = misplaced_move (member branches r.symbol.0) r.scope r.step

-- 8: a value that there is not; then 9: a misplaced move; at the rule
abbrev pub rule_refusal : (branches i : ℕ) → Option Rule → Check
rule_refusal branches i None = refused Fault.Value 0 i
rule_refusal branches i (Some r) = refuse_if (misplaced branches r) Fault.Move 0 i

unfoldable pub rule_check : Header → List ℕ → ℕ → Check
rule_check h p i = rule_refusal h.branches i (rule_at h p i)
