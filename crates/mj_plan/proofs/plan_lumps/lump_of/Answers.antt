use Rattle.std.proofs.Common.{refl, sym, ap, ◌∙◌}
use Rattle.std.specs.Prelude.{filter_map}
use Rattle.mj_maps.specs.Map.{entries}
use Rattle.mj_cache.specs.Cached.{early_table}
use Rattle.mj_plan.specs.Planning.{dentries_in, full_bit_at, remote_bit_at, null_bit_at}
use Rattle.mj_plan.proofs.Bits.{entries_planned, lump_alike}
use Rattle.mj_plan.proofs.plan_lumps.lump_of.Goals as goal

pub returns : goal.returns
returns c =
    let d = c.args.dir in
    let v = c.next_version.result in
    let es_are = sym (entries_planned c.args.dentries.now.entries c.bits_of.ensures.ordered) in
    lump_alike (early_table c.args.cache.now) (entries (dentries_in c.args.dentries.now)) d c.args.head v
    (record { dir = d; head = c.args.head; full = c.from_vec.result; remote = c.from_vec-2.result; null = c.from_vec-3.result })
    c.next_version.ensures refl refl
    (c.from_vec.ensures ∙ c.in_ok-bits.ensures.full ∙ ap (filter_map (full_bit_at d v)) es_are)
    (c.from_vec-2.ensures ∙ c.in_ok-bits.ensures.remote ∙ ap (filter_map (remote_bit_at d v)) es_are)
    (c.from_vec-3.ensures ∙ c.in_ok-bits.ensures.null ∙ ap (filter_map (null_bit_at d v)) es_are)
