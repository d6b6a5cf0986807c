use Rattle.std.proofs.Common.{sym, ◌∙◌, subst}
use Rattle.mj_rank.specs.Live.{StopsSafely}
use Rattle.std.specs.Prelude.{Ok}
use Rattle.mj_texts.specs.declared.steps.MountStep.TheVariants.{Ready}
use Rattle.mj_world.specs.World.{PhaseSince}
use Rattle.mj_world.specs.Tells.{WhileMounting}
use Rattle.mj_texts.specs.declared.steps.Said.TheVariants.{Carried}
use Rattle.mj_world.specs.declared.world.Phase.TheVariants.{Mounting, Serving}
use Rattle.mj_world.proofs.Between.{between, goes_on, stops_in, stops_same}
use Rattle.mj_world.proofs.Numbers.{number_carried}
use Rattle.mj_world.proofs.Carried.{serves}
use Rattle.mj_world.proofs.Stays.{mount_goes}
use Rattle.mj_world.proofs.world.World.carry.Goals as goal

-- ---- a rank serves

pub returns-in-Ok-Ready-clause-since : goal.returns-in-Ok-Ready-clause-since
returns-in-Ok-Ready-clause-since g c = λ base since.
    subst (PhaseSince g.S.ObjectStore.faults g.S.ObjectStore.unreported base) (sym c.put.ensures.phase)
    (c.finish.ensures.since base (c.step.ensures.since base (subst (PhaseSince g.S.ObjectStore.faults g.S.ObjectStore.unreported base) (sym c.replace.ensures.value ∙ c.in-Mounting.is) since)))

pub returns-in-Ok-Ready-clause-live : goal.returns-in-Ok-Ready-clause-live
returns-in-Ok-Ready-clause-live g c = λ m.
    goes_on g.S.ObjectStore.state c.args.self.now c.put.new.self (Mounting c.in-Mounting.mounting) (Serving c.finish.result) (sym c.replace.ensures.value ∙ c.in-Mounting.is) c.put.ensures.phase c.put.ensures.number m m
    (λ t. (number_carried c.in-Mounting.mounting c.step.new.self c.finish.result c.step.ensures.kept c.finish.ensures.value ∙ t.0, c.finish.ensures.live m (c.step.ensures.live m t.1)))

pub returns-in-Ok-Ready-clause-stops : goal.returns-in-Ok-Ready-clause-stops
returns-in-Ok-Ready-clause-stops g c = λ m.
    stops_in g.S.ObjectStore.state c.args.self.now c.put.new.self (Mounting c.in-Mounting.mounting) (Serving c.finish.result) (sym c.replace.ensures.value ∙ c.in-Mounting.is) c.put.ensures.phase c.put.ensures.number m
    (mount_goes g.S.ObjectStore.state c.args.self.now.number m c.in-Mounting.mounting
    (λ t. subst (λ x. StopsSafely c.in-Mounting.mounting.number m (g.S.ObjectStore.state c.in-Mounting.mounting.store) (g.S.ObjectStore.state x)) (sym c.finish.ensures.store) (c.step.ensures.stops m t)))

pub returns-in-Ok-Ready-clause-tells : goal.returns-in-Ok-Ready-clause-tells
returns-in-Ok-Ready-clause-tells g c =
    between (λ x y. WhileMounting g.S.ObjectStore.state x (Ok (Carried Ready)) y) (sym c.replace.ensures.value ∙ c.in-Mounting.is) c.put.ensures.phase
    (serves g.S.ObjectStore.state c.in-Mounting.mounting c.step.new.self c.finish.result c.in-Ok-Ready.field-0 c.in-Ok-Ready.field-0-is (c.in-Ok-Ready.ensures.steps) c.finish.ensures.value c.finish.ensures.store)

-- ---- the mount goes on

pub returns-in-Ok-clause-live : goal.returns-in-Ok-clause-live
returns-in-Ok-clause-live g c = λ m.
    goes_on g.S.ObjectStore.state c.args.self.now c.put-in-Ok.new.self (Mounting c.in-Mounting.mounting) (Mounting c.step.new.self) (sym c.replace.ensures.value ∙ c.in-Mounting.is) c.put-in-Ok.ensures.phase c.put-in-Ok.ensures.number m m
    (λ t. (c.step.ensures.kept.number ∙ t.0, c.step.ensures.live m t.1))

pub returns-in-Ok-clause-stops : goal.returns-in-Ok-clause-stops
returns-in-Ok-clause-stops g c = λ m.
    stops_in g.S.ObjectStore.state c.args.self.now c.put-in-Ok.new.self (Mounting c.in-Mounting.mounting) (Mounting c.step.new.self) (sym c.replace.ensures.value ∙ c.in-Mounting.is) c.put-in-Ok.ensures.phase c.put-in-Ok.ensures.number m
    (mount_goes g.S.ObjectStore.state c.args.self.now.number m c.in-Mounting.mounting (c.step.ensures.stops m))

pub returns-in-Err-clause-live : goal.returns-in-Err-clause-live
returns-in-Err-clause-live g c = λ m.
    goes_on g.S.ObjectStore.state c.args.self.now c.put-in-Err.new.self (Mounting c.in-Mounting.mounting) (Mounting c.step.new.self) (sym c.replace.ensures.value ∙ c.in-Mounting.is) c.put-in-Err.ensures.phase c.put-in-Err.ensures.number m m
    (λ t. (c.step.ensures.kept.number ∙ t.0, c.step.ensures.live m t.1))

pub returns-in-Err-clause-stops : goal.returns-in-Err-clause-stops
returns-in-Err-clause-stops g c = λ m.
    stops_in g.S.ObjectStore.state c.args.self.now c.put-in-Err.new.self (Mounting c.in-Mounting.mounting) (Mounting c.step.new.self) (sym c.replace.ensures.value ∙ c.in-Mounting.is) c.put-in-Err.ensures.phase c.put-in-Err.ensures.number m
    (mount_goes g.S.ObjectStore.state c.args.self.now.number m c.in-Mounting.mounting (c.step.ensures.stops m))

-- ---- another phase stays

pub returns-in-Serving-clause-stops : goal.returns-in-Serving-clause-stops
returns-in-Serving-clause-stops g c = λ m.
    stops_same g.S.ObjectStore.state c.args.self.now c.put-in-Serving.new.self (c.put-in-Serving.ensures.phase ∙ (sym c.in-Serving.is ∙ c.replace.ensures.value)) m

pub returns-in_default-clause-stops : goal.returns-in_default-clause-stops
returns-in_default-clause-stops g c = λ m. stops_same g.S.ObjectStore.state c.args.self.now c.put-in_default.new.self (c.put-in_default.ensures.phase ∙ c.replace.ensures.value) m
