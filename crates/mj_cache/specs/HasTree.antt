-- The early table of a cache has its tree, as that of every cache does.
use Rattle.mj_cache.specs.Cached.{CacheValue, early_table, early_tree}
use Rattle.mj_delta.specs.TreeOf.{IsTreeOf}

abbrev pub HasTree : CacheValue → Type 0
HasTree c = IsTreeOf c.rank (early_table c) (early_tree c)
