-- What witnesses build: a longer one builds what its beginning builds, and each builds one tree at most.
use Prim.Native.Nat.{ℕ, ◌≤◌, ◌<◌}
use mathlib.Core.Path.{◌≡◌, ap, subst⁻¹}
use mathlib.Core.List.{List}
use native.Mathlib.Omega.{arith}
use lib.ListN.{length}
use Rattle.model.specs.Lists.{Nth}
use Rattle.model.proofs.ListLaws.{nth-lt, nth-of-lt, nth-unique}
use Rattle.model.specs.Trees.{Tree, leaf}
use Rattle.model.specs.Saturation.{WitnessRow, BuildsAt, leaf-row, node-row, Builds}

-- Extends p q: q has the rows of p where p has them.
abbrev pub Extends : List WitnessRow → List WitnessRow → Type 0
Extends p q = (i : ℕ) (r : WitnessRow) → Nth p i r → Nth q i r

pub extends-lt : {p q : List WitnessRow} → Extends p q → (i : ℕ) → i < length p → i < length q
extends-lt {p} x i h = let a = nth-of-lt p i h in nth-lt (x i a.0 a.1)

pub builds-more : {p q : List WitnessRow} {i : ℕ} {t : Tree} → Extends p q → BuildsAt p i t → BuildsAt q i t
builds-more x (leaf-row a) = leaf-row (x _ _ a)
builds-more x (node-row a l r f g) = node-row (x _ _ a) l r (builds-more x f) (builds-more x g)

-- Up to row 255 no row can be read both as a leaf and as a branch over earlier rows.
at_one : {p : List WitnessRow} {i : ℕ} {t u : Tree} → i ≤ 255 → BuildsAt p i t → BuildsAt p i u → t ≡ u
at_one h (leaf-row a) (leaf-row b) = ap leaf (ap (λ (r : WitnessRow). r.symbol) (nth-unique a b))
at_one h (leaf-row a) (node-row b l r f g) = absurd (omega (arith, ap (λ (s : WitnessRow). s.left) (nth-unique a b)))
at_one h (node-row a l r f g) (leaf-row b) = absurd (omega (arith, ap (λ (s : WitnessRow). s.left) (nth-unique a b)))
at_one {p} h (node-row {σ = σ} {l = t} {r = u} a l r f g) (node-row {σ = τ} {l = t'} {r = u'} b l' r' f' g') =
    let e = nth-unique a b in
    let s : σ ≡ τ = ap (λ (x : WitnessRow). x.symbol) e in
    let x : t ≡ t' = at_one (omega arith) f (subst⁻¹ (λ (j : ℕ). BuildsAt p j t') (ap (λ (x : WitnessRow). x.left) e) f') in
    let y : u ≡ u' = at_one (omega arith) g (subst⁻¹ (λ (j : ℕ). BuildsAt p j u') (ap (λ (x : WitnessRow). x.right) e) g') in
    cc

-- So a witness of at most 256 rows builds one tree at most.
pub builds-unique : {p : List WitnessRow} {t u : Tree} → length p ≤ 256 → Builds p t → Builds p u → t ≡ u
builds-unique {p} {t} {u} h b c =
    let e : b.last ≡ c.last = omega (arith, b.is_last, c.is_last) in
    at_one (omega (arith, b.is_last)) b.tree (subst⁻¹ (λ (j : ℕ). BuildsAt p j u) e c.tree)
