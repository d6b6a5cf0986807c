use Rattle.std.proofs.Common.{◌≡◌, ◌++◌, map}
use Rattle.std.specs.Prelude.{filter_map}
use Rattle.mj_plan.specs.Planning.{planned, full_bit_at, remote_bit_at, null_bit_at}
use Rattle.mj_plan.proofs.plan_lumps.bits_of.Given as goal

abbrev pub invariant-loop-place : goal.invariant-loop-place
invariant-loop-place l = record {
  full : l.bits.full.items ++ filter_map (full_bit_at l.dir l.version) (map planned l.place-iterator) ≡ filter_map (full_bit_at l.dir l.version) (map planned l.dentries.entries);
  remote : l.bits.remote.items ++ filter_map (remote_bit_at l.dir l.version) (map planned l.place-iterator) ≡ filter_map (remote_bit_at l.dir l.version) (map planned l.dentries.entries);
  null : l.bits.null.items ++ filter_map (null_bit_at l.dir l.version) (map planned l.place-iterator) ≡ filter_map (null_bit_at l.dir l.version) (map planned l.dentries.entries);
}
