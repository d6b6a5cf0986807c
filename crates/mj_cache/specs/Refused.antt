-- Why a table makes no cache.
use Rattle.std.specs.Prelude.{◌≡◌, Option, Some}
use Rattle.mj_base.specs.declared.damage.Damage.{Damage}
use Rattle.mj_cache.specs.declared.refusal.CacheRefusal.{CacheRefusal}
use Rattle.mj_cache.specs.declared.refusal.CacheRefusal.TheVariants.{NotTree, Memory}

-- the damage is that of the table, unless memory ran out
abbrev pub IsRefusal : Option Damage → CacheRefusal → Type 0
IsRefusal damage (NotTree d) = damage ≡ Some d
IsRefusal damage Memory = Unit {0}
