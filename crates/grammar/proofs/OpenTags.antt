-- The pushdown automaton over an opening tag, from its `<` on, and the tag's node.
-- Assumes nothing.
use Prim.Native.Nat.{ℕ, ◌+◌, ◌-◌, ◌*◌, ◌<◌, ◌≤◌}
use native.Mathlib.Omega.{arith}
use mathlib.Core.Path.{◌≡◌, refl, ap, ◌∙◌}
use mathlib.Core.List.{List}
use lib.ListN.{length, get_or}
use Rattle.grammar.specs.Pushdown.{between, tag, one, two, step, Goes}
use Rattle.grammar.proofs.PushdownLaws.{step_less, step-digit, step-second, step-one-end, step-two-end}
use Rattle.tags.proofs.ClassLaws.{class-digit, class-greater}
use Rattle.grammar.specs.Reading.{class_at, Stuck, Named}
use Rattle.tags.proofs.Listed.{short-nodes, long-nodes}
use Rattle.grammar.proofs.Going.{trans, stuck-in, go1, class-in, class-of-at, tag-dead, one-dead, two-dead}

module _ (s : List ℕ) (at : ℕ) (room : at < length s) (less : get_or s at 0 ≡ 60) where
  less-go : (stack : List ℕ) → Goes s at (between stack) (at + 1) (tag stack)
  less-go stack = go1 s at (between stack) room (rw less (step_less stack))

  pub first-wrong : (class_at s (at + 1) ≡ 1 → ⊥) → (class_at s (at + 1) ≡ 3 → ⊥) → (stack : List ℕ) → Stuck s at (between stack) (at + 1)
  first-wrong hd hf stack =
      stuck-in (tag stack) (omega arith) (omega arith) (less-go stack) tt refl
      (λ l. tag-dead _ stack (λ e. hd (class-of-at s (at + 1) l ∙ e)) (λ e. hf (class-of-at s (at + 1) l ∙ e)))

  module _ (first : class_at s (at + 1) ≡ 1) where
    pub first_byte : (at + 1 < length s) × (48 ≤ get_or s (at + 1) 0) × (get_or s (at + 1) 0 < 58)
    first_byte =
        let k = class-in s (at + 1) 1 first (omega arith) in
        let d = class-digit (get_or s (at + 1) 0) k.1 in
        (k.0, d.0, d.1)

    digit-go : (stack : List ℕ) → Goes s at (between stack) (at + 2) (one (get_or s (at + 1) 0 - 48) stack)
    digit-go stack =
        let k = first_byte in
        let m : get_or s (at + 1) 0 ≡ 48 + (get_or s (at + 1) 0 - 48) = omega arith in
        let e : step (tag stack) (get_or s (at + 1) 0) ≡ one (get_or s (at + 1) 0 - 48) stack =
        ap (step (tag stack)) m ∙ step-digit (get_or s (at + 1) 0 - 48) stack (omega arith) in
        let p : at + 2 ≡ at + 1 + 1 = omega arith in
        rw p (trans (less-go stack) (go1 s (at + 1) (tag stack) k.0 e))

    pub short : class_at s (at + 2) ≡ 4 → Named s at (get_or s (at + 1) 0 - 48) (at + 3)
    short e =
        let k = first_byte in
        let g = class-in s (at + 2) 4 e (omega arith) in
        let p : at + 3 ≡ at + 2 + 1 = omega arith in
        record {
          from = omega arith;
          to = omega arith;
          small = omega arith;
          nodes = short-nodes s at less (get_or s (at + 1) 0 - 48) (omega arith) g.0 (omega arith) (class-greater _ g.1);
          goes =
              λ stack. rw p
              (trans (digit-go stack) (go1 s (at + 2) (one (get_or s (at + 1) 0 - 48) stack) g.0 (rw (class-greater _ g.1) (step-one-end _ stack))));
        }

    pub second-wrong :
        (class_at s (at + 2) ≡ 1 → get_or s (at + 1) 0 - 48 ≡ 0) → (class_at s (at + 2) ≡ 4 → ⊥) →
        (stack : List ℕ) → Stuck s at (between stack) (at + 2)
    second-wrong hd hg stack =
        let k = first_byte in
        stuck-in (one (get_or s (at + 1) 0 - 48) stack) (omega arith) (omega arith) (digit-go stack) tt refl
        (λ l. one-dead _ _ stack (λ e. hd (class-of-at s (at + 2) l ∙ e)) (λ e. hg (class-of-at s (at + 2) l ∙ e)))

    module _ (second : class_at s (at + 2) ≡ 1) (nonzero : get_or s (at + 1) 0 - 48 ≡ 0 → ⊥) where
      pub second-byte : (at + 2 < length s) × (48 ≤ get_or s (at + 2) 0) × (get_or s (at + 2) 0 < 58)
      second-byte =
          let k = class-in s (at + 2) 1 second (omega arith) in
          let d = class-digit (get_or s (at + 2) 0) k.1 in
          (k.0, d.0, d.1)

      digits-go : (stack : List ℕ) → Goes s at (between stack) (at + 3) (two (10 * (get_or s (at + 1) 0 - 48) + (get_or s (at + 2) 0 - 48)) stack)
      digits-go stack =
          let k = second-byte in
          let d = get_or s (at + 1) 0 - 48 in
          let m : get_or s (at + 2) 0 ≡ 48 + (get_or s (at + 2) 0 - 48) = omega arith in
          let e : step (one d stack) (get_or s (at + 2) 0) ≡ two (10 * d + (get_or s (at + 2) 0 - 48)) stack =
          ap (step (one d stack)) m ∙ step-second d (get_or s (at + 2) 0 - 48) stack nonzero (omega arith) in
          let p : at + 3 ≡ at + 2 + 1 = omega arith in
          rw p (trans (digit-go stack) (go1 s (at + 2) (one d stack) k.0 e))

      pub third-wrong : (class_at s (at + 3) ≡ 4 → ⊥) → (stack : List ℕ) → Stuck s at (between stack) (at + 3)
      third-wrong hg stack =
          let k = second-byte in
          stuck-in (two (10 * (get_or s (at + 1) 0 - 48) + (get_or s (at + 2) 0 - 48)) stack) (omega arith) (omega arith) (digits-go stack) tt refl
          (λ l. two-dead _ _ stack (λ e. hg (class-of-at s (at + 3) l ∙ e)))

      pub long : class_at s (at + 3) ≡ 4 → Named s at (10 * (get_or s (at + 1) 0 - 48) + (get_or s (at + 2) 0 - 48)) (at + 4)
      long e =
          let k = first_byte in
          let l = second-byte in
          let g = class-in s (at + 3) 4 e (omega arith) in
          let p : at + 4 ≡ at + 3 + 1 = omega arith in
          record {
            from = omega arith;
            to = omega arith;
            small = omega arith;
            nodes =
                long-nodes s at less (get_or s (at + 1) 0 - 48) (get_or s (at + 2) 0 - 48) (omega arith) (omega arith) g.0 (omega arith) (omega arith)
                (class-greater _ g.1);
            goes =
                λ stack. rw p
                (trans (digits-go stack)
                (go1 s (at + 3) (two (10 * (get_or s (at + 1) 0 - 48) + (get_or s (at + 2) 0 - 48)) stack) g.0 (rw (class-greater _ g.1) (step-two-end _ stack))));
          }
