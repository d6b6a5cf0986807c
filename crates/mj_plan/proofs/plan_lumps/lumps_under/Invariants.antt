use Rattle.std.proofs.Common.{◌≡◌, ◌++◌, map}
use Rattle.mj_maps.specs.Map.{entries}
use Rattle.mj_cache.specs.Cached.{early_table}
use Rattle.mj_delta.specs.Plan.{lump_of}
use Rattle.mj_plan.specs.Planning.{dentries_in}
use Rattle.mj_plan.proofs.plan_lumps.lumps_under.Given as goal

abbrev pub invariant-loop-dir : goal.invariant-loop-dir
invariant-loop-dir l = l.lumps.items ++ map (lump_of (early_table l.cache) (entries (dentries_in l.dentries))) l.dir-iterator ≡ map (lump_of (early_table l.cache) (entries (dentries_in l.dentries))) l.heads.entries
