-- How far a reader has come: its place, and the scan of the nodes before it. `begun` is the start, `onward` a node more, and `ended` says that
-- the scan at the end is that of the whole list.
-- Assumes nothing.
use Rattle.std.proofs.Common.{Some, None}
use mathlib.Core.Path.{◌≡◌, refl, sym, ◌∙◌}
use Prim.Native.Nat.{ℕ, ◌+◌, ◌-◌, ◌≤◌, ◌<◌, ◌^◌}
use native.Mathlib.Numerals.{add-one}
use native.Mathlib.Omega.{arith}
use mathlib.Core.List.{List}
use mathlib.Core.Bool.{Bool, true, false}
use lib.Dec.{ltb}
use lib.ListN.{length, drop, get_or}
use lib.Seq.{drop-cons, drop-length}
use borrow.Author.Tests.{lt-ltb, ltb-true, ltb-false}
use Rattle.model.specs.declared.Signature.{Signature}
use Rattle.model.specs.declared.Symbol.{Symbol}
use Rattle.nodes.specs.declared.Scan.{Scan}
use Rattle.nodes.specs.Reader.{node_at, place_after, pick_here}
use Rattle.nodes.specs.Scan.{nothing_read, Fits, scanned_of, scan_of}
use Rattle.nodes.proofs.Paths.{path-fits}
use Rattle.relation.specs.Sets.{member}
use Rattle.nodes.proofs.Scanning.{parts-bound}

-- what stands at a place says whether the place is in the list
module _ (s : List ℕ) (i : ℕ) where
  symbol-by : (t : Bool) → ltb i (length s) ≡ t → (σ : Symbol) → Some σ ≡ pick_here t (Some (record { 0 = get_or s i 0 })) None →
      (i < length s) × (σ.0 ≡ get_or s i 0)
  symbol-by true e σ h = (ltb-true i (length s) e, cc)
  symbol-by false e σ h = let z : ◌≡◌ {A = ℕ} 0 1 = cc in absurd (omega arith)

  pub symbol-here : (σ : Symbol) → Some σ ≡ node_at s i → (i < length s) × (σ.0 ≡ get_or s i 0)
  unfolding node_at
  symbol-here σ h = symbol-by (ltb i (length s)) refl σ h

  end_by : (t : Bool) → ltb i (length s) ≡ t → None ≡ pick_here t (Some (record { 0 = get_or s i 0 })) None → length s ≤ i
  end_by true e h = let z : ◌≡◌ {A = ℕ} 0 1 = cc in absurd (omega arith)
  end_by false e h = ltb-false i (length s) e

  pub end-here : None ≡ node_at s i → length s ≤ i
  unfolding node_at
  end-here h = end_by (ltb i (length s)) refl h

  pub place-next : i < length s → place_after s i ≡ i + 1
  unfolding place_after
  place-next h = rw (lt-ltb i (length s) h)

pub record Reached (a : Signature) (s : List ℕ) : Type 0 where
  pub place : ℕ
  pub scan : Scan
  pub within : place ≤ length s
  pub counted : scan.nodes ≡ place
  pub bounded : scan.parts ≤ place + 1
  pub fits : Fits scan.path
  pub left : scan_of a nothing_read s ≡ scan_of a scan (drop place s)

module _ (a : Signature) (s : List ℕ) where
  pub begun-counted : nothing_read.nodes ≡ 0
  unfolding nothing_read
  begun-counted = refl

  pub begun-bounded : nothing_read.parts ≤ 0 + 1
  unfolding nothing_read
  begun-bounded = omega arith

  pub begun-fits : Fits nothing_read.path
  unfolding nothing_read
  begun-fits = omega arith

  abbrev pub begun : Reached a s
  begun = record { place = 0; scan = nothing_read; within = omega arith; counted = begun-counted; bounded = begun-bounded; fits = begun-fits; left = refl }

  module _ (p : Reached a s) where
    pub onward-counted : (σ : Symbol) → (scanned_of a p.scan σ.0).nodes ≡ p.place + 1
    unfolding scanned_of
    onward-counted σ = rw p.counted

    pub onward-bounded : (σ : Symbol) → (scanned_of a p.scan σ.0).parts ≤ p.place + 1 + 1
    unfolding scanned_of
    onward-bounded σ = omega (arith, p.bounded, parts-bound p.scan.parts (member a.branches σ.0))

    pub onward-fits : (σ : Symbol) → Fits (scanned_of a p.scan σ.0).path
    unfolding scanned_of
    onward-fits σ = path-fits p.scan.path (member a.branches σ.0) p.fits

    pub onward-left : (σ : Symbol) → Some σ ≡ node_at s p.place →
        scan_of a p.scan (drop p.place s) ≡ scan_of a (scanned_of a p.scan σ.0) (drop (p.place + 1) s)
    unfolding scan_of
    onward-left σ h = rw (drop-cons s p.place 0 (symbol-here s p.place σ h).0, (symbol-here s p.place σ h).1, add-one p.place)

    abbrev pub onward : (σ : Symbol) → Some σ ≡ node_at s p.place → Reached a s
    onward σ h = record {
      place = p.place + 1;
      scan = scanned_of a p.scan σ.0;
      within = omega (arith, (symbol-here s p.place σ h).0);
      counted = onward-counted σ;
      bounded = onward-bounded σ;
      fits = onward-fits σ;
      left = p.left ∙ onward-left σ h;
    }

    pub nearer : (σ : Symbol) → Some σ ≡ node_at s p.place → length s - (p.place + 1) < length s - p.place
    nearer σ h = omega (arith, (symbol-here s p.place σ h).0)

    -- the counts fit, since a slice has fewer than 2 ^ 63 bytes
    pub counts-fit : length s < 2 ^ 63 → (σ : Symbol) → Some σ ≡ node_at s p.place →
        (p.scan.nodes + 1 < 2 ^ 64) × (p.scan.parts + 1 < 2 ^ 64) × Fits p.scan.path
    counts-fit room σ h = (omega (arith, (symbol-here s p.place σ h).0), omega (arith, (symbol-here s p.place σ h).0), p.fits)

    pub ended : None ≡ node_at s p.place → p.scan ≡ scan_of a nothing_read s
    unfolding scan_of
    ended h =
        let last : p.place ≡ length s = omega (arith, end-here s p.place h) in
        sym (p.left ∙ rw (last, drop-length s))
