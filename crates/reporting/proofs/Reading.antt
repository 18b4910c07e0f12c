-- How far the batch of a descriptor is: what was read comes to what the tally and the bytes that are held come to, whatever follows. `begun` is the
-- start, `filled` a piece more, `onward` the whole files of the buffer counted; `stopped`, `full` and `ended` are the ends.
-- Assumes nothing.
use Prim.Native.Nat.{ℕ, ◌+◌, ◌-◌, ◌*◌, ◌≤◌, ◌<◌}
use native.Mathlib.Omega.{arith}
use mathlib.Core.Path.{◌≡◌, refl, sym, ap, subst, ◌∙◌}
use mathlib.Core.Bool.{Bool, true, false}
use mathlib.Core.List.{List, [], ◌∷◌, ◌++◌, append_assoc, append-nil}
use mathlib.Core.Logic.{inl, inr}
use lib.ListN.{length, take, drop, length-drop}
use lib.Seq.{length-take-le, take-add}
use Rattle.algorithms.specs.Automaton.{Automaton}
use Rattle.tally.specs.Tally.{total}
use Rattle.tally.specs.declared.Tally.{Tally}
use Rattle.counting.specs.Counting.{counted_all}
use Rattle.batch.specs.Batch.{rest_counted, first_length, nothing_counted, batch_of}
use Rattle.batch.specs.Answers.{Part, Stopped}
use Rattle.batch.specs.declared.part.Judged.{Judged}
use Rattle.batch.proofs.Counted.{batch-rest, gone_on, part-counted}
use Rattle.batch.proofs.Pieces.{full-stays, most_bytes, tally-grows}
use Rattle.reporting.specs.declared.Descriptor.{Descriptor}
use Rattle.reporting.specs.Trace.{Asked, PiecesRead, none, one, InputEnded, short, all_read}
use Rattle.reporting.specs.Reported.{Tallied}

-- ---- the bounds of a buffer of 65,536 bytes and 128 answers

module _ (s lent : List ℕ) (r : Judged) (room : length lent ≡ 384) (each : 512 * r.files ≤ r.bytes) (within : r.bytes ≤ length s) (stop : Stopped s lent r) where
  -- where the buffer is not full there was room for all answers: what is left is no whole file
  pub left_cut : length s < 65536 → length (drop r.bytes s) < first_length (drop r.bytes s)
  left_cut few = by stop
    where
      by : Stopped s lent r → length (drop r.bytes s) < first_length (drop r.bytes s)
      by (inl l) = l
      by (inr l) = absurd (omega (arith, l, room, each, within, few))

  -- a full buffer has a whole file
  pub some-file : length s ≡ 65536 → r.bytes ≤ 4608 * r.files → 1 ≤ r.files
  some-file full most = by stop
    where
      by : Stopped s lent r → 1 ≤ r.files
      by (inl l) = omega (arith, l, most, full, length-drop r.bytes s, most_bytes (drop r.bytes s))
      by (inr l) = omega (arith, l, room)

-- ---- the batch

module _ (d : Descriptor) (A : Automaton) where
  pub record Reading (t : Tally) (front : List ℕ) : Type 0 where
    pub pieces : List (List ℕ)
    pub read : PiecesRead d pieces
    pub same : (rest : List ℕ) → batch_of A nothing_counted (all_read pieces ++ rest) ≡ batch_of A t (front ++ rest)

  pub begun : Reading nothing_counted []
  begun = record { pieces = []; read = none; same = λ rest. refl }

  -- where the latest piece came short, the input has ended
  pub record Filled (t : Tally) (front : List ℕ) (asked got : ℕ) : Type 0 where
    pub reading : Reading t front
    pub ends : got < asked → InputEnded d reading.pieces

  pub filled : (t : Tally) (b b' : List ℕ) (held asked got : ℕ) → take held b' ≡ take held b → held + got ≤ length b' → Asked d asked got → Reading t (take held b)
      → Filled t (take (held + got) b') asked got
  filled t b b' held asked got kept room a x = record {
    reading = record {
      pieces = piece ∷ x.pieces;
      read = one asked told x.read;
      same = λ rest.
          ap (batch_of A nothing_counted) (append_assoc (all_read x.pieces) piece rest) ∙ x.same (piece ++ rest)
          ∙ ap (batch_of A t) (sym (append_assoc (take held b) piece rest) ∙ ap (λ (l : List ℕ). (l ++ piece) ++ rest) (sym kept) ∙ ap (λ (l : List ℕ). l ++ rest) (sym (take-add held got b')));
    };
    ends = λ l. short {s = piece} asked told (omega (arith, size, l));
  }
    where
      piece : List ℕ
      piece = take got (drop held b')

      size : length piece ≡ got
      size = length-take-le got (drop held b') (simp length-drop (omega (arith, room)))

      told : Asked d asked (length piece)
      told = subst (λ (n : ℕ). Asked d asked n) (sym size) a

  -- the whole files of the buffer are judged, and counted
  module _ (t t' : Tally) (s lent lent' : List ℕ) (r : Judged) (asked got : ℕ) (x : Filled t s asked got) (p : Part A s lent lent' r)
      (is : t' ≡ counted_all t (take (3 * r.files) lent')) where
    judged : (rest : List ℕ) → batch_of A nothing_counted (all_read x.reading.pieces ++ rest) ≡ gone_on A r.more t' (drop r.bytes s ++ rest)
    judged rest =
        x.reading.same rest ∙ part-counted A s lent lent' r p t rest
        ∙ ap (λ (u : Tally). gone_on A r.more u (drop r.bytes s ++ rest)) (sym is)

    -- of all that was read
    of-all : (u : Tally) → batch_of A nothing_counted (all_read x.reading.pieces ++ []) ≡ u → u ≡ batch_of A nothing_counted (all_read x.reading.pieces)
    of-all u e = sym e ∙ ap (batch_of A nothing_counted) (append-nil (all_read x.reading.pieces))

    -- nothing more is counted, whatever follows
    settled : ((rest : List ℕ) → gone_on A r.more t' (drop r.bytes s ++ rest) ≡ t') → Tallied d A t'
    settled f = (x.reading.pieces, x.reading.read, of-all t' (judged [] ∙ f []), inr (λ more. judged more ∙ f more))

    pub stopped : r.more ≡ false → Tallied d A t'
    stopped e = settled (λ rest. rw e refl)

    gone-full : (more : Bool) (l : List ℕ) → 1000000 ≤ total t' → gone_on A more t' l ≡ t'
    gone-full true l h = full-stays A t' l h
    gone-full false l h = refl

    pub full : 1000000 ≤ total t' → Tallied d A t'
    full h = settled (λ rest. gone-full r.more (drop r.bytes s ++ rest) h)

    going_on : r.more ≡ true → (rest : List ℕ) → batch_of A nothing_counted (all_read x.reading.pieces ++ rest) ≡ batch_of A t' (drop r.bytes s ++ rest)
    going_on e rest = judged rest ∙ ap (λ (b : Bool). gone_on A b t' (drop r.bytes s ++ rest)) e

    pub ended : (left : ℕ) (u : Tally) → r.more ≡ true → got < asked → left ≡ length (drop r.bytes s)
        → length (drop r.bytes s) < first_length (drop r.bytes s) → u ≡ rest_counted t' left → Tallied d A u
    ended left u e few size cut k = (
      x.reading.pieces,
      x.reading.read,
      of-all u (going_on e [] ∙ ap (batch_of A t') (append-nil (drop r.bytes s)) ∙ batch-rest A t' (drop r.bytes s) cut ∙ ap (rest_counted t') (sym size) ∙ sym k),
      inl (x.ends few),
    )

    pub onward : (front : List ℕ) → r.more ≡ true → front ≡ drop r.bytes s → Reading t' front
    onward front e f = record {
      pieces = x.reading.pieces;
      read = x.reading.read;
      same = λ rest. going_on e rest ∙ ap (λ (l : List ℕ). batch_of A t' (l ++ rest)) (sym f);
    }

-- ---- it ends

pub nearer : (t t' : Tally) (answers : List ℕ) (files : ℕ) → t' ≡ counted_all t (take (3 * files) answers) → 3 * files ≤ length answers → total t < 1000000 → 1 ≤ files
    → 1000000 - total t' < 1000000 - total t
nearer t t' answers files e room h some =
    rw e (omega (arith, h, tally-grows t (take (3 * files) answers) h (omega (arith, some, length-take-le (3 * files) answers room))))
