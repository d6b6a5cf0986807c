use Rattle.std.proofs.Common.{sym, subst, ◌∙◌}
use Rattle.mj_store.proofs.Paths.{goes_stays, goes_restarts}
use Rattle.mj_rank.specs.Live.{StopLives}
use Rattle.mj_world.specs.World.{PhaseSince}
use Rattle.mj_world.specs.declared.world.Phase.TheVariants.{Stopped, Mounting, Serving}
use Rattle.mj_world.proofs.Between.{goes_on, stops_in}
use Rattle.mj_world.proofs.Numbers.{number_same, number_value}
use Rattle.mj_world.proofs.Stays.{stopped_stays, stopped_restarts, stopped_stops, mount_goes, rank_goes}
use Rattle.mj_world.proofs.world.World.restart.Goals as goal

pub returns-in-Err-restart-clause-since : goal.returns-in-Err-restart-clause-since
returns-in-Err-restart-clause-since g c = λ base h.
    subst (PhaseSince g.S.ObjectStore.faults g.S.ObjectStore.unreported base) (sym c.put-in-Err-restart.ensures.phase)
    (c.in-Err-restart.ensures.since base (subst (PhaseSince g.S.ObjectStore.faults g.S.ObjectStore.unreported base) (sym c.replace.ensures.value ∙ c.in-Mounting.is) h))

-- ---- of a stopped store

pub returns-in-Ok-clause-live : goal.returns-in-Ok-clause-live
returns-in-Ok-clause-live g c = λ m.
    goes_on g.S.ObjectStore.state c.args.self.now c.put.new.self (Stopped c.in-Stopped.store) (Stopped c.restart-restarted.new.self) (sym c.replace.ensures.value ∙ c.in-Stopped.is) c.put.ensures.phase c.put.ensures.number m m
    (stopped_restarts g.S.ObjectStore.state c.args.self.now.number m c.in-Stopped.store c.restart-restarted.new.self c.in-Ok.ensures.ok)

pub returns-in-Ok-clause-stops : goal.returns-in-Ok-clause-stops
returns-in-Ok-clause-stops g c = λ m.
    stops_in g.S.ObjectStore.state c.args.self.now c.put.new.self (Stopped c.in-Stopped.store) (Stopped c.restart-restarted.new.self) (sym c.replace.ensures.value ∙ c.in-Stopped.is) c.put.ensures.phase c.put.ensures.number m
    (stopped_stops g.S.ObjectStore.state c.args.self.now.number m c.in-Stopped.store c.restart-restarted.new.self (goes_restarts c.in-Ok.ensures.ok))

pub returns-in-Err-clause-live : goal.returns-in-Err-clause-live
returns-in-Err-clause-live g c = λ m.
    goes_on g.S.ObjectStore.state c.args.self.now c.put.new.self (Stopped c.in-Stopped.store) (Stopped c.restart-restarted.new.self) (sym c.replace.ensures.value ∙ c.in-Stopped.is) c.put.ensures.phase c.put.ensures.number m m
    (stopped_stays g.S.ObjectStore.state c.args.self.now.number m c.in-Stopped.store c.restart-restarted.new.self c.in-Err.ensures.err)

pub returns-in-Err-clause-stops : goal.returns-in-Err-clause-stops
returns-in-Err-clause-stops g c = λ m.
    stops_in g.S.ObjectStore.state c.args.self.now c.put.new.self (Stopped c.in-Stopped.store) (Stopped c.restart-restarted.new.self) (sym c.replace.ensures.value ∙ c.in-Stopped.is) c.put.ensures.phase c.put.ensures.number m
    (stopped_stops g.S.ObjectStore.state c.args.self.now.number m c.in-Stopped.store c.restart-restarted.new.self (goes_stays c.in-Err.ensures.err))

-- ---- of a mount

pub returns-in-Ok-restart-clause-live : goal.returns-in-Ok-restart-clause-live
returns-in-Ok-restart-clause-live g c = λ m.
    goes_on g.S.ObjectStore.state c.args.self.now c.put-in-Ok-restart.new.self (Mounting c.in-Mounting.mounting) (Stopped c.in-Ok-restart.store) (sym c.replace.ensures.value ∙ c.in-Mounting.is) c.put-in-Ok-restart.ensures.phase c.put-in-Ok-restart.ensures.number m m
    (λ t. subst (λ number. StopLives g.S.ObjectStore.state c.in-Ok-restart.store number m) t.0 (c.in-Ok-restart.ensures.live m t.1))

pub returns-in-Ok-restart-clause-stops : goal.returns-in-Ok-restart-clause-stops
returns-in-Ok-restart-clause-stops g c = λ m.
    stops_in g.S.ObjectStore.state c.args.self.now c.put-in-Ok-restart.new.self (Mounting c.in-Mounting.mounting) (Stopped c.in-Ok-restart.store) (sym c.replace.ensures.value ∙ c.in-Mounting.is) c.put-in-Ok-restart.ensures.phase c.put-in-Ok-restart.ensures.number m
    (mount_goes g.S.ObjectStore.state c.args.self.now.number m c.in-Mounting.mounting (c.in-Ok-restart.ensures.stops m))

pub returns-in-Err-restart-clause-live : goal.returns-in-Err-restart-clause-live
returns-in-Err-restart-clause-live g c = λ m.
    goes_on g.S.ObjectStore.state c.args.self.now c.put-in-Err-restart.new.self (Mounting c.in-Mounting.mounting) (Mounting c.in-Err-restart.mounting) (sym c.replace.ensures.value ∙ c.in-Mounting.is) c.put-in-Err-restart.ensures.phase c.put-in-Err-restart.ensures.number m m
    (λ t. (number_same c.in-Mounting.mounting c.in-Err-restart.mounting c.in-Err-restart.ensures.kept ∙ t.0, c.in-Err-restart.ensures.live_refused m t.1))

pub returns-in-Err-restart-clause-stops : goal.returns-in-Err-restart-clause-stops
returns-in-Err-restart-clause-stops g c = λ m.
    stops_in g.S.ObjectStore.state c.args.self.now c.put-in-Err-restart.new.self (Mounting c.in-Mounting.mounting) (Mounting c.in-Err-restart.mounting) (sym c.replace.ensures.value ∙ c.in-Mounting.is) c.put-in-Err-restart.ensures.phase c.put-in-Err-restart.ensures.number m
    (mount_goes g.S.ObjectStore.state c.args.self.now.number m c.in-Mounting.mounting (c.in-Err-restart.ensures.stops_refused m))

-- ---- of a rank

pub returns-in-Err-restart-2-clause-since : goal.returns-in-Err-restart-2-clause-since
returns-in-Err-restart-2-clause-since g c = λ base h.
    subst (PhaseSince g.S.ObjectStore.faults g.S.ObjectStore.unreported base) (sym c.put-in-Err-restart-2.ensures.phase)
    (c.in-Err-restart-2.ensures.since base (subst (PhaseSince g.S.ObjectStore.faults g.S.ObjectStore.unreported base) (sym c.replace.ensures.value ∙ c.in-Serving.is) h))

pub returns-in-Err-restart-2-clause-live : goal.returns-in-Err-restart-2-clause-live
returns-in-Err-restart-2-clause-live g c = λ m.
    goes_on g.S.ObjectStore.state c.args.self.now c.put-in-Err-restart-2.new.self (Serving c.in-Serving.rank) (Serving c.in-Err-restart-2.rank) (sym c.replace.ensures.value ∙ c.in-Serving.is) c.put-in-Err-restart-2.ensures.phase c.put-in-Err-restart-2.ensures.number m m
    (λ t. (number_value c.in-Serving.rank c.in-Err-restart-2.rank c.in-Err-restart-2.ensures.kept ∙ t.0, c.in-Err-restart-2.ensures.live_refused m t.1))

pub returns-in-Err-restart-2-clause-stops : goal.returns-in-Err-restart-2-clause-stops
returns-in-Err-restart-2-clause-stops g c = λ m.
    stops_in g.S.ObjectStore.state c.args.self.now c.put-in-Err-restart-2.new.self (Serving c.in-Serving.rank) (Serving c.in-Err-restart-2.rank) (sym c.replace.ensures.value ∙ c.in-Serving.is) c.put-in-Err-restart-2.ensures.phase c.put-in-Err-restart-2.ensures.number m
    (rank_goes g.S.ObjectStore.state c.args.self.now.number m c.in-Serving.rank (c.in-Err-restart-2.ensures.stops_refused m))
