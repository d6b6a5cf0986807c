use Rattle.std.proofs.Common.{inl, inr, refl}
use Rattle.mj_app.proofs.FormatsLemmas.{formats_restarted}
use Rattle.mj_app.proofs.formatting.restart_and_format.Goals as goal

pub returns-in-Err : goal.returns-in-Err
returns-in-Err g c = inr (record { fault = c.in-Err.fault; is = refl; counted = c.in-Err.ensures.cause; stays = c.in-Err.ensures.err })

pub returns-in-Ok : goal.returns-in-Ok
returns-in-Ok g c = inl (formats_restarted g.S.ObjectStore.state g.S.ObjectStore.faults g.S.ObjectStore.unreported c.args.rank c.args.layout _ _ c.format.result _
    (record { told = c.in-Ok.ensures.ok; none = c.in-Ok.ensures.none_listed; later = c.restart.ensures.later })
    c.format.ensures.ok c.format.ensures.none_listed c.format.ensures.absent c.format.ensures.refused c.format.ensures.there c.format.ensures.stops c.format.ensures.waiting c.format.ensures.cause c.format.ensures.later)
