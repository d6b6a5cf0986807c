use Rattle.std.proofs.Common.{◌∙◌}
use Rattle.mj_store.proofs.Paths.{goes_stays, goes_steps}
use Rattle.mj_world.specs.declared.world.Phase.TheVariants.{Stopped, Mounting}
use Rattle.mj_world.proofs.Between.{lives_from, stops_from}
use Rattle.mj_world.proofs.Numbers.{number_same}
use Rattle.mj_world.proofs.Stays.{stopped_stays, stopped_tries, stopped_stops}
use Rattle.mj_world.proofs.world.World.apply.Goals as goal

-- ---- of a stopped store

pub returns-in-Ok-clause-live : goal.returns-in-Ok-clause-live
returns-in-Ok-clause-live g c = λ m.
    lives_from g.S.ObjectStore.state c.args.self.now (Stopped c.in-Stopped.store) c.in-Stopped.is m
    (stopped_tries g.S.ObjectStore.state c.args.self.now.number m c.in-Stopped.store c.step.new.self c.args.name.now c.in-Ok.op c.in-Ok.ensures.ok)

pub returns-in-Ok-clause-stops : goal.returns-in-Ok-clause-stops
returns-in-Ok-clause-stops g c = λ m.
    stops_from g.S.ObjectStore.state c.args.self.now (Stopped c.in-Stopped.store) c.in-Stopped.is m (g.S.ObjectStore.state c.step.new.self)
    (stopped_stops g.S.ObjectStore.state c.args.self.now.number m c.in-Stopped.store c.step.new.self (goes_steps c.args.name.now c.in-Ok.op c.in-Ok.ensures.ok))

pub returns-in-Err-clause-live : goal.returns-in-Err-clause-live
returns-in-Err-clause-live g c = λ m.
    lives_from g.S.ObjectStore.state c.args.self.now (Stopped c.in-Stopped.store) c.in-Stopped.is m
    (stopped_stays g.S.ObjectStore.state c.args.self.now.number m c.in-Stopped.store c.step.new.self c.in-Err.ensures.err)

pub returns-in-Err-clause-stops : goal.returns-in-Err-clause-stops
returns-in-Err-clause-stops g c = λ m.
    stops_from g.S.ObjectStore.state c.args.self.now (Stopped c.in-Stopped.store) c.in-Stopped.is m (g.S.ObjectStore.state c.step.new.self)
    (stopped_stops g.S.ObjectStore.state c.args.self.now.number m c.in-Stopped.store c.step.new.self (goes_stays c.in-Err.ensures.err))

-- ---- of a mount

pub returns-in-Ok-apply-clause-live : goal.returns-in-Ok-apply-clause-live
returns-in-Ok-apply-clause-live g c = λ m.
    lives_from g.S.ObjectStore.state c.args.self.now (Mounting c.in-Mounting.mounting) c.in-Mounting.is m
    (λ t. (number_same c.in-Mounting.mounting c.apply.new.self c.apply.ensures.kept ∙ t.0, c.apply.ensures.live m t.1))

pub returns-in-Err-apply-clause-live : goal.returns-in-Err-apply-clause-live
returns-in-Err-apply-clause-live g c = λ m.
    lives_from g.S.ObjectStore.state c.args.self.now (Mounting c.in-Mounting.mounting) c.in-Mounting.is m
    (λ t. (number_same c.in-Mounting.mounting c.apply.new.self c.apply.ensures.kept ∙ t.0, c.apply.ensures.live m t.1))
