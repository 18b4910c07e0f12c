-- The rules that remain, and the file that holds them: it reads back, and its spread rules are the rules that it holds. Assumes nothing.
use Rattle.std.proofs.Common.{Option, Some, None, Ok}
use Prim.Native.Nat.{ℕ, zero, suc, ◌*◌, ◌<◌, ◌≤◌}
use mathlib.Core.Path.{◌≡◌, refl, sym, subst, ◌∙◌}
use mathlib.Core.Bool.{Bool, false}
use mathlib.Core.List.Memᴰ
use mathlib.Core.List.{List, [], ◌∷◌, map}
use native.Mathlib.Omega.{arith}
use lib.ListN.{length, get_or, length-append}
use Rattle.relation.specs.Sets.{member}
use Rattle.model.specs.declared.Place.{Place}
use Rattle.model.specs.declared.Move.{Move}
use Rattle.model.specs.Lists.{◌∈◌}
use Rattle.model.proofs.ListLaws.{nth-lt, nth-of-lt, nth-mem, mem-nth, nth-get_d, nth-map}
use Rattle.blocks.specs.Blocks.{content}
use Rattle.refusal.proofs.Passed.{clash, count-passes}
use Rattle.automaton.specs.File.{format, counts_check, sets_check, parsed}
use Rattle.automaton.specs.Rules.{rule_at, misplaced_move, misplaced}
use Rattle.automaton.specs.declared.Header.{Header}
use Rattle.automaton.specs.declared.Rule.{Rule}
use Rattle.automaton.specs.declared.Scope.{Scope}
use Rattle.automaton.proofs.Passed.{counts-passed, rule-in, file-read}
use Rattle.automaton_writer.specs.ReadsBack.{Fits, FitsEach, ReadsBack}
use Rattle.automaton_writer.proofs.Reading.{reads_back}
use Rattle.transitions.specs.Transitions.{Covers}
use Rattle.transitions.specs.Spread.{places_of, at_place, spread, spread_first, spread_rules, SameRules}
use Rattle.transitions.proofs.Spreading.{rule-same, spread-has}
use Rattle.rule_order.proofs.Ordering.{same_back, ordered-rising, ordered_same, ordered-is, ordered-few}
use Rattle.canonical.specs.Canonical.{remaining, canonical_header, canonical_file}

-- ---- how many there are

spread-few : (bytes : Option Rule) → length (spread bytes) ≤ 3
spread-few None = omega arith
spread-few (Some r) = by r.scope
  where
    by : (t : Scope) → length (map (at_place r) (places_of t)) ≤ 3
    by (Scope.Only τ) = omega arith
    by Scope.Every = omega arith

first-few : (h : Header) (contents : List ℕ) (n : ℕ) → length (spread_first h contents n) ≤ 3 * n
unfolding spread_first
first-few h contents zero = omega arith
first-few h contents (suc n) =
    omega (arith, length-append (spread_first h contents n) (spread (rule_at h contents n)), first-few h contents n, spread-few (rule_at h contents n))

-- a file's rules are 512 at the most, and so 1,536 after spreading
pub remaining-few : (h : Header) (contents : List ℕ) → h.rules ≤ 512 → length (remaining h contents) ≤ 1536
remaining-few h contents few = omega (arith, ordered-few (spread_rules h contents), first-few h contents h.rules)

-- ---- each is at one place

pub spread-placed : (h : Header) (contents : List ℕ) (r : Rule) → r ∈ spread_rules h contents → (τ : Place) × (r.scope ≡ Scope.Only τ)
spread-placed h contents r m = let k = (spread-has h contents r h.rules).0 m in (k.0, k.1)

-- ---- each passes lines 8 and 9

-- a rule at one of its places is placed as well as it is
placed_at : (branch : Bool) (t : Scope) (τ : Place) (μ : Move) → Covers t τ → misplaced_move branch t μ ≡ false → misplaced_move branch (Scope.Only τ) μ ≡ false
placed_at branch (Scope.Only π) τ μ c e = subst (λ (x : Place). misplaced_move branch (Scope.Only x) μ ≡ false) c e
placed_at branch Scope.Every τ Move.Stay c e = refl
placed_at branch Scope.Every τ Move.Up c e = clash (cc)
placed_at branch Scope.Every τ (Move.Down s) c e = e

placed_same : (branches σ σ' : ℕ) (t t' : Scope) (μ μ' : Move) → σ ≡ σ' → t ≡ t' → μ ≡ μ'
    → misplaced_move (member branches σ') t' μ' ≡ false → misplaced_move (member branches σ) t μ ≡ false
placed_same branches σ σ' t t' μ μ' e f g p = rw (e, f, g) p

module _ (s : List ℕ) (h : Header) (e : parsed s ≡ Ok h) where
  spread-fits : (r : Rule) → r ∈ spread_rules h (content s) → Fits h r
  unfolding misplaced
  spread-fits r m =
      let k = (spread-has h (content s) r h.rules).0 m in
      let a = k.2 in
      let i = rule-in h (content s) a.i a.rule a.known in
      let f = a.applies in
      let read = (file-read s h e).rules a.i a.below in
      let same : read.rule ≡ a.rule = cc (read.known, a.known) in
      let placed : misplaced_move (member h.branches a.rule.symbol.0) a.rule.scope a.rule.step ≡ false = rw same at read.placed in
      let here = placed_at (member h.branches a.rule.symbol.0) a.rule.scope k.0 a.rule.step f.2 placed in
      record {
        symbol = omega (arith, i.symbol, f.0);
        state = omega (arith, i.state, f.1);
        next = omega (arith, i.next, f.4);
        placed = placed_same h.branches r.symbol.0 a.rule.symbol.0 r.scope (Scope.Only k.0) r.step a.rule.step (sym f.0) k.1 (sym f.3) here;
      }

-- ---- the rules of a file that reads, with the header of those that remain

fits_each : (h : Header) (n : ℕ) (rules : List Rule) → ((r : Rule) → r ∈ rules → Fits h r) → FitsEach (canonical_header h n) rules
unfolding FitsEach
fits_each h n [] each = tt
fits_each h n (r ∷ rules) each =
    let f = each r (Memᴰ.head refl) in
    (record { symbol = f.symbol; state = f.state; next = f.next; placed = f.placed }, fits_each h n rules (λ x m. each x (Memᴰ.tail m)))

counts-pass : (h : Header) (n : ℕ) → counts_check h ≡ Ok tt → n ≤ 512 → counts_check (canonical_header h n) ≡ Ok tt
unfolding counts_check
counts-pass h n e few =
    let c = counts-passed h e in
    rw (c.states, c.symbols, count-passes format n 0 512 4 (omega arith) few)

sets-pass : (h : Header) (n : ℕ) → sets_check h ≡ Ok tt → sets_check (canonical_header h n) ≡ Ok tt
unfolding sets_check
sets-pass h n e = e

-- ---- what the file of rules that are each at one place reads as

-- a rule of the list, by its place in it
mem_index : (rules : List Rule) (r : Rule) → r ∈ rules → (i : ℕ) × (i < length rules) × (get_or (map Some rules) i None ≡ Some r)
mem_index rules r m = let k = mem-nth m in (k.0, nth-lt k.1, nth-get_d None (nth-map Some k.1))

index-mem : (rules : List Rule) (r : Rule) (i : ℕ) → i < length rules → get_or (map Some rules) i None ≡ Some r → r ∈ rules
index-mem rules r i l e =
    let k = nth-of-lt rules i l in
    let known = nth-get_d None (nth-map Some k.1) in
    let same : k.0 ≡ r = cc in
    subst (λ (x : Rule). x ∈ rules) same (nth-mem k.1)

covers-only : (t : Scope) (τ : Place) → t ≡ Scope.Only τ → Covers t τ
covers-only t τ e = subst (λ (x : Scope). Covers x τ) (sym e) refl

only-covers : (t : Scope) (π τ : Place) → t ≡ Scope.Only π → Covers t τ → Scope.Only τ ≡ t
only-covers t π τ e c = let same : π ≡ τ = subst (λ (x : Scope). Covers x τ) e c in rw (e, same)

-- the spread rules of a file of such rules are these
module _ (h : Header) (rules : List Rule) (contents : List ℕ) (number : h.rules ≡ length rules)
    (read : (i : ℕ) → i < length rules → rule_at h contents i ≡ get_or (map Some rules) i None)
    (placed : (r : Rule) → r ∈ rules → (τ : Place) × (r.scope ≡ Scope.Only τ)) where
  to-rules : (r : Rule) → r ∈ spread_rules h contents → r ∈ rules
  to-rules r m =
      let k = (spread-has h contents r h.rules).0 m in
      let a = k.2 in
      let l : a.i < length rules = omega (arith, a.below, number) in
      let q = index-mem rules a.rule a.i l (sym (read a.i l) ∙ a.known) in
      let f = a.applies in
      let p = placed a.rule q in
      let same : r ≡ a.rule = rule-same r a.rule (sym f.0) (sym f.1) (k.1 ∙ only-covers a.rule.scope p.0 k.0 p.1 f.2) (sym f.3) (sym f.4) in
      subst (λ (x : Rule). x ∈ rules) (sym same) q

  of-rules : (r : Rule) → r ∈ rules → r ∈ spread_rules h contents
  of-rules r m =
      let p = placed r m in
      let k = mem_index rules r m in
      (spread-has h contents r h.rules).1 (
        p.0,
        p.1,
        record {
          i = k.0;
          below = omega (arith, k.1, number);
          rule = r;
          known = read k.0 k.1 ∙ k.2;
          applies = (refl, refl, covers-only r.scope p.0 p.1, refl, refl);
        },
      )

  pub spread-is : SameRules (spread_rules h contents) rules
  spread-is r = (to-rules r, of-rules r)

-- ---- the form of a file that reads

module _ (s : List ℕ) (h : Header) (e : parsed s ≡ Ok h) where
  abbrev rules : List Rule
  rules = remaining h (content s)

  abbrev header : Header
  header = canonical_header h (length (remaining h (content s)))

  pub remaining-placed : (r : Rule) → r ∈ remaining h (content s) → (τ : Place) × (r.scope ≡ Scope.Only τ)
  remaining-placed r m = spread-placed h (content s) r ((ordered_same (spread_rules h (content s)) r).0 m)

  module _ (few : length (remaining h (content s)) ≤ 512) where
    pub form-reads : ReadsBack header rules
    form-reads =
        let read = file-read s h e in
        reads_back header rules
        (record {
          number = refl;
          counts = counts-pass h (length rules) read.counts few;
          sets = sets-pass h (length rules) read.sets;
          rules = fits_each h (length rules) rules (λ r m. spread-fits s h e r ((ordered_same (spread_rules h (content s)) r).0 m));
        })

    -- its spread rules are those that it holds
    pub form-spread : SameRules (spread_rules header (content (canonical_file h rules))) rules
    form-spread = spread-is header rules (content (canonical_file h rules)) refl form-reads.rules remaining-placed

    -- and so those that remain of it
    pub form-again : remaining header (content (canonical_file h rules)) ≡ rules
    form-again =
        sym (ordered-is rules (spread_rules header (content (canonical_file h rules))) (ordered-rising (spread_rules h (content s))) (same_back form-spread))
