-- `indexing::map_class` meets its contract.
-- Assumes nothing.
use Rattle.class_tables.specs.Cache.{indices}
use Prim.Native.Nat.{◌<◌}
use Rattle.indexing.proofs.Sharing.{index-shared, index-new, index-counted}
use mathlib.Core.Path.{refl}
use Rattle.indexing.proofs.map_class.Goals as goal

pub returns-then-other-lt1024 : goal.returns-then-other-lt1024
returns-then-other-lt1024 c = (refl, refl, λ A cells k h l. let same = c.class_like-other.ensures c.if-other-lt1024.true in (rw (c.index_place-place.ensures.0, c.index_place.ensures.0) (index-shared A _ _ _ cells h c.args.side _ _ _ c.requires.0 l same.0 same.1 (rw (← c.class_rows-part.ensures) (same.2 A k))), refl))

pub returns-then-next-lt65536 : goal.returns-then-next-lt65536
returns-then-next-lt65536 c = (refl, refl, λ A cells k h l. let more = index-counted c.args.cache.now.counts c.args.side h.counts_size in let room : indices c.args.cache.now.counts c.args.side < 65536 = rw (← c.side_number-number.ensures.0) c.if-next-lt65536.true in rw (c.index_place-place.ensures.0, c.side_number-number.ensures.0) (index-new A _ _ _ _ cells h c.args.side _ _ c.requires.0 l room more, more.classes_are))
