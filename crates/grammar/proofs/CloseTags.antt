-- The pushdown automaton over a closing tag, from its `<` on, and the tag's node.
-- Assumes nothing.
use Prim.Native.Nat.{ℕ, ◌+◌, ◌/◌, ◌%◌, ◌<◌, ◌≤◌}
use native.Mathlib.Omega.{arith}
use mathlib.Core.Path.{◌≡◌, refl}
use mathlib.Core.Bool.{Bool, true, false}
use mathlib.Core.List.{List, [], ◌∷◌, ◌++◌}
use lib.ListN.{length, get_or}
use borrow.Author.Tests.{lt-ltb, le-ltb}
use Rattle.tags.proofs.ClassLaws.{class-slash}
use Rattle.tags.specs.Classes.{class_of}
use Rattle.grammar.specs.Grammar.{written}
use Rattle.grammar.specs.Pushdown.{between, tag, closing, closing_on, Goes, here}
use Rattle.grammar.proofs.PushdownLaws.{step_less, step-slash, step-closing}
use Rattle.grammar.specs.Reading.{class_at, IsByte, Stuck, CloseAt, Shut}
use Rattle.tags.proofs.Listed.{short-close-nodes, long-close-nodes}
use Rattle.grammar.proofs.Going.{class-in, trans, stuck-after, stuck-in, go1, root-dead, closing-dead}

pub early-stuck : (s : List ℕ) (at n : ℕ) → at ≡ length s → (stack : List ℕ) → Stuck s at (between (n ∷ stack)) at
early-stuck s at n e stack =
    stuck-in (between (n ∷ stack)) (omega arith) (omega arith) here tt refl
    (λ l. absurd (omega arith))

pub byte-go : (s : List ℕ) (at c : ℕ) (rest stack : List ℕ) → IsByte s at c true → Goes s at (closing (c ∷ rest) stack) (at + 1) (closing_on rest stack)
byte-go s at c rest stack h = go1 s at (closing (c ∷ rest) stack) h.0 (rw h.1 (step-closing c rest stack))

pub byte-stuck : (s : List ℕ) (at c : ℕ) (rest stack : List ℕ) → at ≤ length s → IsByte s at c false → Stuck s at (closing (c ∷ rest) stack) at
byte-stuck s at c rest stack l h =
    stuck-in (closing (c ∷ rest) stack) (omega arith) (l) here tt refl
    (λ k. closing-dead _ c rest stack (h k))

pub close-go : (s : List ℕ) (at n : ℕ) → CloseAt s at → (stack : List ℕ) → Goes s at (between (n ∷ stack)) (at + 2) (closing (written n ++ (62 ∷ [])) stack)
close-go s at n h stack =
    let p : at + 2 ≡ at + 1 + 1 = omega arith in
    rw p
    (trans
    (go1 s at (between (n ∷ stack)) (omega (arith, h.room)) (rw h.less (step_less (n ∷ stack))))
    (go1 s (at + 1) (tag (n ∷ stack)) h.room (rw h.slash (step-slash n stack))))

module _ (s : List ℕ) (at n : ℕ) (h : CloseAt s at) where
  module _ (l : n < 10) where
    short-0 : (stack : List ℕ) → Goes s at (between (n ∷ stack)) (at + 2) (closing ((48 + n) ∷ 62 ∷ []) stack)
    unfolding written
    short-0 stack =
        let e : written n ++ (62 ∷ []) ≡ (48 + n) ∷ 62 ∷ [] = rw (lt-ltb n 10 l) in
        rw e at (close-go s at n h stack)

    pub short-wrong-0 : IsByte s (at + 2) (48 + n) false → (stack : List ℕ) → Stuck s at (between (n ∷ stack)) (at + 2)
    short-wrong-0 k stack = stuck-after (omega arith) (short-0 stack) (byte-stuck s (at + 2) (48 + n) (62 ∷ []) stack (omega (arith, h.room)) k)

    module _ (k : IsByte s (at + 2) (48 + n) true) where
      short-1 : (stack : List ℕ) → Goes s at (between (n ∷ stack)) (at + 3) (closing (62 ∷ []) stack)
      short-1 stack =
          let p : at + 3 ≡ at + 2 + 1 = omega arith in
          rw p (trans (short-0 stack) (byte-go s (at + 2) (48 + n) (62 ∷ []) stack k))

      pub short-wrong-1 : IsByte s (at + 3) 62 false → (stack : List ℕ) → Stuck s at (between (n ∷ stack)) (at + 3)
      short-wrong-1 m stack = stuck-after (omega arith) (short-1 stack) (byte-stuck s (at + 3) 62 [] stack (omega (arith, k.0)) m)

      pub short-shut : IsByte s (at + 3) 62 true → Shut s at n (at + 4)
      short-shut m =
          let p : at + 4 ≡ at + 3 + 1 = omega arith in
          record {
            from = omega arith;
            to = omega (arith, m.0);
            nodes = short-close-nodes s at h.less h.slash n l m.0 k.1 m.1;
            goes = λ stack. rw p (trans (short-1 stack) (byte-go s (at + 3) 62 [] stack m));
          }

  module _ (l : 10 ≤ n) where
    long-0 : (stack : List ℕ) → Goes s at (between (n ∷ stack)) (at + 2) (closing ((48 + n / 10) ∷ (48 + n % 10) ∷ 62 ∷ []) stack)
    unfolding written
    long-0 stack =
        let e : written n ++ (62 ∷ []) ≡ (48 + n / 10) ∷ (48 + n % 10) ∷ 62 ∷ [] = rw (le-ltb n 10 l) in
        rw e at (close-go s at n h stack)

    pub long-wrong-0 : IsByte s (at + 2) (48 + n / 10) false → (stack : List ℕ) → Stuck s at (between (n ∷ stack)) (at + 2)
    long-wrong-0 k stack =
        stuck-after (omega arith) (long-0 stack) (byte-stuck s (at + 2) (48 + n / 10) ((48 + n % 10) ∷ 62 ∷ []) stack (omega (arith, h.room)) k)

    module _ (k : IsByte s (at + 2) (48 + n / 10) true) where
      long-1 : (stack : List ℕ) → Goes s at (between (n ∷ stack)) (at + 3) (closing ((48 + n % 10) ∷ 62 ∷ []) stack)
      long-1 stack =
          let p : at + 3 ≡ at + 2 + 1 = omega arith in
          rw p (trans (long-0 stack) (byte-go s (at + 2) (48 + n / 10) ((48 + n % 10) ∷ 62 ∷ []) stack k))

      pub long-wrong-1 : IsByte s (at + 3) (48 + n % 10) false → (stack : List ℕ) → Stuck s at (between (n ∷ stack)) (at + 3)
      long-wrong-1 m stack = stuck-after (omega arith) (long-1 stack) (byte-stuck s (at + 3) (48 + n % 10) (62 ∷ []) stack (omega (arith, k.0)) m)

      module _ (m : IsByte s (at + 3) (48 + n % 10) true) where
        long-2 : (stack : List ℕ) → Goes s at (between (n ∷ stack)) (at + 4) (closing (62 ∷ []) stack)
        long-2 stack =
            let p : at + 4 ≡ at + 3 + 1 = omega arith in
            rw p (trans (long-1 stack) (byte-go s (at + 3) (48 + n % 10) (62 ∷ []) stack m))

        pub long-wrong-2 : IsByte s (at + 4) 62 false → (stack : List ℕ) → Stuck s at (between (n ∷ stack)) (at + 4)
        long-wrong-2 j stack = stuck-after (omega arith) (long-2 stack) (byte-stuck s (at + 4) 62 [] stack (omega (arith, m.0)) j)

        pub long-shut : n < 100 → IsByte s (at + 4) 62 true → Shut s at n (at + 5)
        long-shut small j =
            let p : at + 5 ≡ at + 4 + 1 = omega arith in
            record {
              from = omega arith;
              to = omega (arith, j.0);
              nodes = long-close-nodes s at h.less h.slash (n / 10) (n % 10) (omega arith) (omega arith) j.0 k.1 m.1 j.1;
              goes = λ stack. rw p (trans (long-2 stack) (byte-go s (at + 4) 62 [] stack j));
            }

pub byte-no : (s : List ℕ) (at b : ℕ) (t : Bool) → t ≡ false → IsByte s at b t → IsByte s at b false
byte-no s at b t e h = rw e at h

pub byte-yes : (s : List ℕ) (at b : ℕ) (t : Bool) → t ≡ true → IsByte s at b t → IsByte s at b true
byte-yes s at b t e h = rw e at h

-- a closing tag where nothing is open
pub root-closed : (s : List ℕ) (at : ℕ) → CloseAt s at → Stuck s at (between []) (at + 1)
unfolding class_of
root-closed s at c =
    stuck-in (tag []) (omega arith) (omega (arith, c.room)) (go1 s at (between []) (omega (arith, c.room)) (rw c.less (step_less []))) tt refl
    (λ j. rw c.slash (root-dead 47 (λ z. omega arith)))

-- `</` stands at a place
pub slash-at : (s : List ℕ) (at : ℕ) → get_or s at 0 ≡ 60 → class_at s (at + 1) ≡ 3 → CloseAt s at
slash-at s at e f = let k = class-in s (at + 1) 3 f (omega arith) in record { room = k.0; less = e; slash = class-slash _ k.1 }
