use Rattle.std.proofs.Common.{◌≡◌, ap, subst}
use Rattle.std.specs.Prelude.{IfOk}
use Rattle.mj_cache.specs.Cached.{early_table, early_tree}
use Rattle.mj_event.specs.declared.Event.{Event}
use Rattle.mj_delta.specs.Plan.{plan_event}
use Rattle.mj_plan.proofs.events.replace_event.Goals as goal

pub returns : goal.returns
returns c =
    let r = c.args.r.now in
    subst (λ (x : Event). IfOk c.plan_event.result (λ e. e ≡ x)) (ap (plan_event (early_table c.args.cache.now) (early_tree c.args.cache.now) r c.args.ino) (c.in_ok-plan.ensures r)) c.plan_event.ensures
