-- The fields of a cache as the value that its callers see.
use Rattle.std.specs.Prelude.{◌≡◌, None}
use Rattle.std.specs.List.{AllByRecursion}
use Rattle.mj_cells.specs.Cell.{WriteFits, AllFit}
use Rattle.mj_cells.specs.Table.{table_of}
use Rattle.mj_tables.specs.Layered.{all_writes, early_cells}
use Rattle.mj_cache.specs.Cached.{CacheValue}
use Rattle.mj_cache.specs.Ranges.{AllInRange}
use Rattle.mj_judge.specs.Own.{own_damage}
use Rattle.mj_index.specs.Indexed.{IsIndexed}
use Rattle.mj_cache.specs.declared.cache.Cache.TheInside.{Inside}

abbrev pub cache_in : Inside → CacheValue
cache_in a = record { rank = a.rank; safe = a.layers.safe; groups = a.layers.groups }

pub record IsSound (a : Inside) : Type 0 where
  pub undamaged : own_damage a.rank (table_of (early_cells a.layers)) ≡ None
  pub index : IsIndexed a.rank (early_cells a.layers) a.index
  pub range : AllInRange (early_cells a.layers)
  pub safe_fit : AllFit a.layers.safe
  pub writes_fit : AllByRecursion WriteFits (all_writes a.layers.groups)
