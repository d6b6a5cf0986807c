use Rattle.std.proofs.Common.{ℕ, Option, sym, ap, ◌∙◌}
use Rattle.std.specs.Prelude.{map}
use Rattle.mj_maps.specs.Map.{Map, entries, insert, from_entries}
use Rattle.mj_maps.specs.Orders.{nat_cmp}
use Rattle.mj_meta.specs.declared.HeadBit.{HeadBit}
use Rattle.mj_meta.specs.declared.HeadBit.TheVariants.{Gone}
use Rattle.mj_cache.specs.Cached.{early_table}
use Rattle.mj_delta.specs.Plan.{touched, without_head}
use Rattle.mj_plan.specs.Planning.{dentries_in}
use Rattle.mj_plan.proofs.Heads.{touched_all}
use Rattle.mj_plan.proofs.Results.{if_ok}
use Rattle.mj_plan.proofs.plan_lumps.heads_of.Goals as goal

pub returns-in-None : goal.returns-in-None
returns-in-None c =
    let t = early_table c.args.cache.now in
    let all = touched_all t c.args.plan.now.dentries.entries _ c.touched_heads.ensures.ordered c.in_ok-heads.ensures.heads in
    all ∙ ap (λ (o : Option ℕ). without_head o (from_entries (map (touched t) (entries (dentries_in c.args.plan.now.dentries))))) (sym c.in-None.is)

pub returns-in-Some : goal.returns-in-Some
returns-in-Some c =
    let t = early_table c.args.cache.now in
    let all = touched_all t c.args.plan.now.dentries.entries _ c.touched_heads.ensures.ordered c.in_ok-heads.ensures.heads in
    if_ok c.without_head.result _ _ (λ heads e. e ∙ ap (λ (m : Map nat_cmp HeadBit). insert m c.in-Some.dir Gone) all ∙ ap (λ (o : Option ℕ). without_head o (from_entries (map (touched t) (entries (dentries_in c.args.plan.now.dentries))))) (sym c.in-Some.is)) c.without_head.ensures
