-- Texts, and where each goes wrong, as one table: the examples of the readings of document 02, W6. proofs/Examples computes each.
-- Interface: `Example`, `examples`, `shown`.
use Rattle.std.specs.Prelude.{ℕ, List, [], ◌∷◌, Option, Some, None}

-- a text, or bytes that go wrong at a place
pub data Example : Type 0 where
  reads : List ℕ → Example
  wrong : List ℕ → (place : ℕ) → Example

abbrev pub bytes_of : Example → List ℕ
bytes_of (reads s) = s
bytes_of (wrong s place) = s

abbrev pub shown : Example → Option ℕ
shown (reads s) = None
shown (wrong s place) = Some place

unfoldable pub examples : List Example
examples =
    -- nothing at all
    wrong [] 0 ∷
    -- spaces alone: a space, \n
    wrong (32 ∷ 10 ∷ []) 2 ∷
    -- <0></0>
    reads (60 ∷ 48 ∷ 62 ∷ 60 ∷ 47 ∷ 48 ∷ 62 ∷ []) ∷
    --  <12> <3></3>\t</12>\r\n
    reads (32 ∷ 60 ∷ 49 ∷ 50 ∷ 62 ∷ 32 ∷ 60 ∷ 51 ∷ 62 ∷ 60 ∷ 47 ∷ 51 ∷ 62 ∷ 9 ∷ 60 ∷ 47 ∷ 49 ∷ 50 ∷ 62 ∷ 13 ∷ 10 ∷ []) ∷
    -- <12></1>
    wrong (60 ∷ 49 ∷ 50 ∷ 62 ∷ 60 ∷ 47 ∷ 49 ∷ 62 ∷ []) 7 ∷
    -- <1></12>
    wrong (60 ∷ 49 ∷ 62 ∷ 60 ∷ 47 ∷ 49 ∷ 50 ∷ 62 ∷ []) 6 ∷
    -- <1><2></1>
    wrong (60 ∷ 49 ∷ 62 ∷ 60 ∷ 50 ∷ 62 ∷ 60 ∷ 47 ∷ 49 ∷ 62 ∷ []) 8 ∷
    -- <00></00>
    wrong (60 ∷ 48 ∷ 48 ∷ 62 ∷ 60 ∷ 47 ∷ 48 ∷ 48 ∷ 62 ∷ []) 2 ∷
    -- <01></01>
    wrong (60 ∷ 48 ∷ 49 ∷ 62 ∷ 60 ∷ 47 ∷ 48 ∷ 49 ∷ 62 ∷ []) 2 ∷
    -- <007></007>
    wrong (60 ∷ 48 ∷ 48 ∷ 55 ∷ 62 ∷ 60 ∷ 47 ∷ 48 ∷ 48 ∷ 55 ∷ 62 ∷ []) 2 ∷
    -- <100></100>
    wrong (60 ∷ 49 ∷ 48 ∷ 48 ∷ 62 ∷ 60 ∷ 47 ∷ 49 ∷ 48 ∷ 48 ∷ 62 ∷ []) 3 ∷
    -- </2>
    wrong (60 ∷ 47 ∷ 50 ∷ 62 ∷ []) 1 ∷
    -- <2></2></2>
    wrong (60 ∷ 50 ∷ 62 ∷ 60 ∷ 47 ∷ 50 ∷ 62 ∷ 60 ∷ 47 ∷ 50 ∷ 62 ∷ []) 8 ∷
    -- < 1></1>
    wrong (60 ∷ 32 ∷ 49 ∷ 62 ∷ 60 ∷ 47 ∷ 49 ∷ 62 ∷ []) 1 ∷
    -- <1 ></1>
    wrong (60 ∷ 49 ∷ 32 ∷ 62 ∷ 60 ∷ 47 ∷ 49 ∷ 62 ∷ []) 2 ∷
    -- <1>< /1>
    wrong (60 ∷ 49 ∷ 62 ∷ 60 ∷ 32 ∷ 47 ∷ 49 ∷ 62 ∷ []) 4 ∷
    -- <1></ 1>
    wrong (60 ∷ 49 ∷ 62 ∷ 60 ∷ 47 ∷ 32 ∷ 49 ∷ 62 ∷ []) 5 ∷
    -- <1></1 >
    wrong (60 ∷ 49 ∷ 62 ∷ 60 ∷ 47 ∷ 49 ∷ 32 ∷ 62 ∷ []) 6 ∷
    -- <1>
    wrong (60 ∷ 49 ∷ 62 ∷ []) 3 ∷
    -- <1></1><2></2>
    reads (60 ∷ 49 ∷ 62 ∷ 60 ∷ 47 ∷ 49 ∷ 62 ∷ 60 ∷ 50 ∷ 62 ∷ 60 ∷ 47 ∷ 50 ∷ 62 ∷ []) ∷
    []
