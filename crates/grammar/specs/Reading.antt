-- What the functions that read a text answer: of a part of it by the pushdown automaton, of a whole text by the grammar; and the nodes that they list.
-- Interface: `Filled`, `ElementRead`, `RunRead`, `TextRead`.
use Rattle.std.specs.Prelude.{ℕ, zero, suc, ◌+◌, ◌-◌, ◌*◌, ◌<◌, ◌≤◌, ◌≡◌, Bool, true, false, List, [], ◌∷◌, ltb, length, get_or, take, drop, Option, Some, None, Result, Ok, Err}
use Rattle.tags.specs.Classes.{class_of, pick, space, slash}
use Rattle.tags.specs.Tags.{nodes_in}
use Rattle.grammar.specs.Grammar.{Elements, Text, WrongAt}
use Rattle.grammar.specs.Pushdown.{Configuration, between, step, dead, Goes, Alive}
use Rattle.grammar.specs.declared.Wrong.{Wrong}
use Rattle.grammar.specs.declared.Unreadable.{Unreadable}
use Rattle.grammar.specs.declared.Step.{Step}

-- the class of the byte at a place; 6 at the end
unfoldable pub class_at : List ℕ → ℕ → ℕ
class_at s at = pick (ltb at (length s)) (class_of (get_or s at 0)) 6

-- whether a byte stands at a place
abbrev pub IsByte : List ℕ → (at b : ℕ) → Bool → Type 0
IsByte s at b true = (at < length s) × (get_or s at 0 ≡ b)
IsByte s at b false = at < length s → get_or s at 0 ≡ b → ⊥

-- from q at a place the automaton reads up to `place`, and there no byte, or none that it takes
pub record Stuck (s : List ℕ) (at : ℕ) (q : Configuration) (place : ℕ) : Type 0 where
  pub from : at ≤ place
  pub to : place ≤ length s
  pub state : Configuration
  pub goes : Goes s at q place state
  pub alive : Alive state
  pub stop : place < length s → step state (get_or s place 0) ≡ dead
  pub early : place ≡ length s → state ≡ between [] → ⊥

-- bytes of the class space, and no tag
pub record Skipped (s : List ℕ) (at r : ℕ) : Type 0 where
  pub from : at ≤ r
  pub to : r ≤ length s
  pub goes : (stack : List ℕ) → Goes s at (between stack) r (between stack)
  pub ends : r < length s → class_of (get_or s r 0) ≡ space → ⊥
  pub blank : (i : ℕ) → at ≤ i → i < r → class_of (get_or s i 0) ≡ space
  pub nodes : nodes_in (drop at s) ≡ nodes_in (drop r s)

-- `</` stands at a place
pub record CloseAt (s : List ℕ) (at : ℕ) : Type 0 where
  pub room : at + 1 < length s
  pub less : get_or s at 0 ≡ 60
  pub slash : get_or s (at + 1) 0 ≡ 47

pub record Passed (s : List ℕ) (at r : ℕ) : Type 0 where
  pub from : at ≤ r
  pub to : r ≤ length s
  pub goes : (stack : List ℕ) → Goes s at (between stack) r (between stack)

pub record RunPassed (s : List ℕ) (at r : ℕ) : Type 0 where
  pub passed : Passed s at r
  pub ends : r < length s → CloseAt s r

-- some elements of a run, up to a byte that is no space, or to the end
pub record PartRead (s : List ℕ) (at r : ℕ) : Type 0 where
  pub passed : Passed s at r
  pub ends : r < length s → class_of (get_or s r 0) ≡ space → ⊥

-- an opening tag may stand at a place: a `<` stands there, and no `/` after it
abbrev pub Opens : List ℕ → ℕ → Type 0
Opens s at = (at < length s) × (get_or s at 0 ≡ 60) × (class_at s (at + 1) ≡ slash → ⊥)

-- a list has the nodes of the tags before a place at its front, `count` of them; each tag took three bytes or more
pub record Filled (s : List ℕ) (at count : ℕ) (nodes : List ℕ) : Type 0 where
  pub few : length s ≤ 32768
  pub long : length nodes ≡ 10924
  pub fits : 3 * count ≤ at
  pub done : take count nodes ≡ take count (nodes_in s)
  pub rest : drop count (nodes_in s) ≡ nodes_in (drop at s)

-- a run: up to the end or to a closing tag
abbrev pub RunRead : List ℕ → (at count : ℕ) → (nodes : List ℕ) → Result ℕ Unreadable → Type 0
RunRead s at count nodes (Ok r) = RunPassed s at r × Filled s r count nodes
RunRead s at count nodes (Err (Unreadable.Wrong wrong)) = (stack : List ℕ) → Stuck s at (between stack) wrong.0
RunRead s at count nodes (Err Unreadable.Deep) = length nodes ≡ 10924

abbrev pub ElementRead : List ℕ → (at count : ℕ) → (nodes : List ℕ) → Result ℕ Unreadable → Type 0
ElementRead s at count nodes (Ok r) = Passed s at r × (at < r) × Filled s r count nodes
ElementRead s at count nodes (Err (Unreadable.Wrong wrong)) = (stack : List ℕ) → Stuck s at (between stack) wrong.0
ElementRead s at count nodes (Err Unreadable.Deep) = length nodes ≡ 10924

-- an opening tag of n, up to r
pub record Named (s : List ℕ) (at n r : ℕ) : Type 0 where
  pub from : at + 3 ≤ r
  pub to : r ≤ length s
  pub small : n < 100
  pub goes : (stack : List ℕ) → Goes s at (between stack) r (between (n ∷ stack))
  pub nodes : nodes_in (drop at s) ≡ n ∷ nodes_in (drop r s)

abbrev pub OpenRead : List ℕ → ℕ → Result (ℕ × ℕ) Wrong → Type 0
OpenRead s at (Ok (n, r)) = Named s at n r
OpenRead s at (Err wrong) = (stack : List ℕ) → Stuck s at (between stack) wrong.0

-- a closing tag of n, up to r
pub record Shut (s : List ℕ) (at n r : ℕ) : Type 0 where
  pub from : at + 3 ≤ r
  pub to : r ≤ length s
  pub goes : (stack : List ℕ) → Goes s at (between (n ∷ stack)) r (between stack)
  pub nodes : nodes_in (drop at s) ≡ 0 ∷ nodes_in (drop r s)

abbrev pub CloseRead : List ℕ → ℕ → ℕ → Result ℕ Wrong → Type 0
CloseRead s at n (Ok r) = Shut s at n r
CloseRead s at n (Err wrong) = (stack : List ℕ) → Stuck s at (between (n ∷ stack)) wrong.0

-- what an element comes to that a closing tag ends
abbrev pub shut_by : Result ℕ Wrong → Result ℕ Unreadable
shut_by (Ok r) = Ok r
shut_by (Err wrong) = Err (Unreadable.Wrong wrong)

-- ---- the same with the numbers of the open elements in a list

-- what a tag is, by its reading
abbrev pub opened_by : Result (ℕ × ℕ) Wrong → Result Step Wrong
opened_by (Ok (n, r)) = Ok (Step.Opens n r)
opened_by (Err wrong) = Err wrong

abbrev pub closed_by : Result ℕ Wrong → Result Step Wrong
closed_by (Ok r) = Ok (Step.Closes r)
closed_by (Err wrong) = Err wrong

-- the numbers of the elements that are open, innermost first, where a list has them from the outermost on
abbrev pub open_in : List ℕ → (depth : ℕ) → List ℕ
open_in l zero = []
open_in l (suc d) = get_or l d 0 ∷ open_in l d

pub record Numbered (l : List ℕ) (depth : ℕ) : Type 0 where
  pub long : length l ≡ 10924
  pub deep : depth ≤ 10923
  pub small : (i : ℕ) → i < depth → get_or l i 0 < 100

-- the closing tag of the innermost one
pub record Closes (s : List ℕ) (at : ℕ) (l : List ℕ) (depth r : ℕ) : Type 0 where
  pub some : depth ≡ 0 → ⊥
  pub shut : Shut s at (get_or l (depth - 1) 0) r

abbrev pub StepRead : List ℕ → (at : ℕ) → (numbers : List ℕ) → (depth : ℕ) → Result Step Wrong → Type 0
StepRead s at l depth (Ok (Step.Opens n r)) = Named s at n r
StepRead s at l depth (Ok (Step.Closes r)) = Closes s at l depth r
StepRead s at l depth (Err wrong) = Stuck s at (between (open_in l depth)) wrong.0

-- how far a text was read: the elements that are open, and the nodes so far
pub record Reached (s : List ℕ) (next : ℕ) (numbers : List ℕ) (depth count : ℕ) (nodes : List ℕ) : Type 0 where
  pub to : next ≤ length s
  pub ends : next < length s → class_of (get_or s next 0) ≡ space → ⊥
  pub goes : Goes s 0 (between []) next (between (open_in numbers depth))
  pub numbered : Numbered numbers depth
  pub few : depth ≤ count
  pub filled : Filled s next count nodes

-- ---- a whole text

-- a text, or where it goes wrong, of the grammar itself
abbrev pub TextRead : List ℕ → Option ℕ → Type 0
TextRead s None = (r : Elements) × Text s r
TextRead s (Some place) = WrongAt s place

-- the same as an answer, with the number of nodes
abbrev pub parse_of : Option ℕ → (nodes : ℕ) → Result ℕ Wrong
parse_of None nodes = Ok nodes
parse_of (Some place) nodes = Err (record { 0 = place })

-- where it is a text, the list has its nodes at its front
abbrev pub Listed : List ℕ → (nodes : List ℕ) → Result ℕ Wrong → Type 0
Listed s nodes (Ok k) = take k nodes ≡ nodes_in s
Listed s nodes (Err wrong) = Unit
