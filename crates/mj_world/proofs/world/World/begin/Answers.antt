use Rattle.std.proofs.Common.{refl, sym, ◌∙◌, subst}
use Rattle.std.specs.Prelude.{Err}
use Rattle.mj_machine.specs.Machine.{stopped}
use Rattle.mj_rank.specs.Live.{MountLives}
use Rattle.mj_world.specs.World.{PhaseSince}
use Rattle.mj_world.specs.Live.{PhaseLives}
use Rattle.mj_world.specs.Phases.{of_stopped, ByPhase}
use Rattle.mj_world.specs.Tells.{WhileStopped}
use Rattle.mj_world.specs.declared.refusal.WorldRefusal.TheVariants as refusal
use Rattle.mj_world.specs.declared.world.Phase.TheVariants.{Stopped, Mounting}
use Rattle.mj_world.proofs.Between.{between, goes_on, stops_in, stops_same}
use Rattle.mj_world.proofs.Refused.{refuses_stopped, stays_stopped}
use Rattle.mj_world.proofs.world.World.begin.Goals as goal

pub returns-in-Ok-clause-live : goal.returns-in-Ok-clause-live
returns-in-Ok-clause-live g c = λ m.
    goes_on g.S.ObjectStore.state c.args.self.now c.put.new.self (Stopped c.in-Stopped.store) (Mounting c.in-Ok.mounting) (sym c.replace.ensures.value ∙ c.in-Stopped.is) c.put.ensures.phase c.put.ensures.number m (stopped m c.tail-tail.result)
    (λ t. (c.in-Ok.ensures.begins.number, subst (λ x. MountLives g.S.ObjectStore.state c.in-Ok.mounting (stopped m x)) (sym c.tail-tail.ensures) (c.in-Ok.ensures.live m t)))

pub returns-in-Ok-clause-stops : goal.returns-in-Ok-clause-stops
returns-in-Ok-clause-stops g c = λ m.
    stops_in g.S.ObjectStore.state c.args.self.now c.put.new.self (Stopped c.in-Stopped.store) (Mounting c.in-Ok.mounting) (sym c.replace.ensures.value ∙ c.in-Stopped.is) c.put.ensures.phase c.put.ensures.number m
    (c.in-Ok.ensures.stops m)

pub returns-in-Err-clause-live : goal.returns-in-Err-clause-live
returns-in-Err-clause-live g c = λ m.
    goes_on g.S.ObjectStore.state c.args.self.now c.put-in-Err.new.self (Stopped c.in-Stopped.store) (Stopped c.in-Err.store) (sym c.replace.ensures.value ∙ c.in-Stopped.is) c.put-in-Err.ensures.phase c.put-in-Err.ensures.number m m
    (c.in-Err.ensures.live_refused m)

pub returns-in-Err-clause-stops : goal.returns-in-Err-clause-stops
returns-in-Err-clause-stops g c = λ m.
    stops_in g.S.ObjectStore.state c.args.self.now c.put-in-Err.new.self (Stopped c.in-Stopped.store) (Stopped c.in-Err.store) (sym c.replace.ensures.value ∙ c.in-Stopped.is) c.put-in-Err.ensures.phase c.put-in-Err.ensures.number m
    (c.in-Err.ensures.stops_refused m)

-- another phase stays
pub returns-in_default : goal.returns-in_default
returns-in_default g c =
    let was = c.replace.ensures.value in
    let is = c.put-in_default.ensures.phase ∙ was in
    record {
      number = c.put-in_default.ensures.number;
      since = λ base h. subst (PhaseSince g.S.ObjectStore.faults g.S.ObjectStore.unreported base) (sym is) h;
      cause = λ base h fault. absurd fault;
      answer = tt;
      leaves = λ base h. tt;
      phase = subst (λ p. ByPhase (of_stopped p) (Err refusal.Mounted)) was (refuses_stopped c.replace.result c.in_default.not-Stopped);
      tells = between (λ x y. WhileStopped g.S.ObjectStore.state c.args.self.now.number x (Err refusal.Mounted) y) (sym was) c.put-in_default.ensures.phase (stays_stopped c.replace.result c.in_default.not-Stopped g.S.ObjectStore.state c.args.self.now.number (Err refusal.Mounted));
      live = λ m. goes_on g.S.ObjectStore.state c.args.self.now c.put-in_default.new.self c.args.self.now.phase c.replace.result refl c.put-in_default.ensures.phase c.put-in_default.ensures.number m m (subst (PhaseLives g.S.ObjectStore.state c.args.self.now.number m) (sym was));
      stops = λ m. stops_same g.S.ObjectStore.state c.args.self.now c.put-in_default.new.self is m;
    }
