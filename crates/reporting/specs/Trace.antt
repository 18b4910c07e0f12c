-- What was asked of a descriptor and what it gave, and what was handed to standard output. No contract of the C library's `read` and `write` speaks of
-- the input or the output, so that these calls are carried by two relations that are shut: only `read_gave` and `was_handed` make them, and
-- only the proofs of `read_part` and `print` cite those (tools/citations counts). So a piece that was not read, an end of the input that no read
-- told, and a line that was not handed over have no proof.
-- Interface: `Asked`, `Handed`, `PiecesRead`, `InputEnded`, `all_read`.
use Rattle.std.specs.Prelude.{◌≡◌, refl, Bool, List, [], ◌∷◌, ◌++◌, ℕ, ◌≤◌, ◌<◌, length}
use Rattle.reporting.specs.declared.Descriptor.{Descriptor}

-- a read asked a descriptor for so many bytes, and got so many
pub Asked : (descriptor : Descriptor) → (asked got : ℕ) → Type 0
Asked descriptor asked got = got ≤ asked

pub read_gave : (descriptor : Descriptor) (asked got : ℕ) → got ≤ asked → Asked descriptor asked got
unfolding Asked
read_gave descriptor asked got l = l

-- a text was handed to standard output, which took all of it or not
pub Handed : (text : List ℕ) → (took : Bool) → Type 0
Handed text took = text ≡ text

pub was_handed : (text : List ℕ) (took : Bool) → Handed text took
unfolding Handed
was_handed text took = refl

-- pieces of the input, the latest in front: each was asked for
pub data PiecesRead (descriptor : Descriptor) : List (List ℕ) → Type 0 where
  none : PiecesRead descriptor []
  one : {s : List ℕ} {ss : List (List ℕ)} → (asked : ℕ) → Asked descriptor asked (length s) → PiecesRead descriptor ss → PiecesRead descriptor (s ∷ ss)

-- the input has ended: the latest piece came shorter than it was asked for
pub data InputEnded (descriptor : Descriptor) : List (List ℕ) → Type 0 where
  short : {s : List ℕ} {ss : List (List ℕ)} → (asked : ℕ) → Asked descriptor asked (length s) → length s < asked → InputEnded descriptor (s ∷ ss)

-- all that was read, in the order of reading
abbrev pub all_read : List (List ℕ) → List ℕ
all_read [] = []
all_read (s ∷ ss) = all_read ss ++ s
