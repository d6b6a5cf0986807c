use Rattle.std.proofs.Common.{◌≡◌, ℕ, List, sym, ap, ◌∙◌, subst}
use Rattle.std.specs.Prelude.{map, IfOk}
use Rattle.mj_maps.specs.Map.{entries}
use Rattle.mj_maps.specs.Orders.{nat_cmp}
use Rattle.mj_maps.proofs.MapLaws.{exact_nat, entries-from_entries}
use Rattle.mj_meta.specs.declared.HeadBit.{HeadBit}
use Rattle.mj_recovery.proofs.Merges.{sorted_keys}
use Rattle.mj_cache.specs.Cached.{early_table}
use Rattle.mj_delta.specs.Plan.{lump_of}
use Rattle.mj_plan.specs.Planning.{dentries_in}
use Rattle.mj_plan.proofs.plan_lumps.lumps_of.Goals as goal

pub returns : goal.returns
returns c =
    let hs = c.in_ok-heads.heads.entries in
    let are = sym (entries-from_entries exact_nat hs (sorted_keys nat_cmp hs c.lumps_under.ensures.ordered)) ∙ ap (entries {R = nat_cmp}) c.in_ok-heads.ensures in
    subst (λ (xs : List (ℕ × HeadBit)). IfOk c.lumps_under.result (λ lumps. lumps.items ≡ map (lump_of (early_table c.args.cache.now) (entries (dentries_in c.args.plan.now.dentries))) xs)) are c.lumps_under.ensures.lumps
