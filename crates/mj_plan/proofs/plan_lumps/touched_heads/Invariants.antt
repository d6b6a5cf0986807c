use Rattle.std.proofs.Common.{◌≡◌, map}
use Rattle.mj_maps.specs.Map.{empty, from_entries}
use Rattle.mj_maps.specs.Orders.{nat_cmp}
use Rattle.mj_cache.specs.Cached.{early_table}
use Rattle.mj_delta.specs.Plan.{touched}
use Rattle.mj_plan.specs.Planning.{planned, onto}
use Rattle.mj_plan.proofs.plan_lumps.touched_heads.Given as goal

abbrev pub invariant-loop-place : goal.invariant-loop-place
invariant-loop-place l = onto (from_entries {R = nat_cmp} l.heads.entries) (map (touched (early_table l.cache)) (map planned l.place-iterator)) ≡ onto empty (map (touched (early_table l.cache)) (map planned l.dentries.entries))
