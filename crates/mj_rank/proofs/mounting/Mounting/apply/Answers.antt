use Rattle.mj_rank.proofs.MountLives.{mount_applies, mount_stops, mount_completes}
use Rattle.std.proofs.Common.{refl}
use Rattle.mj_rank.proofs.SinceLemmas.{mount_since_same}
use Rattle.mj_rank.proofs.mounting.Mounting.apply.Goals as goal

pub returns-clause-since : goal.returns-clause-since
returns-clause-since g c = λ base h. mount_since_same base c.args.self.now _ c.step.ensures.later h.out h c.step.ensures.same_list refl refl

pub returns-clause-live : goal.returns-clause-live
returns-clause-live g c = λ m t. mount_applies g.S.ObjectStore.state c.args.self.now m c.args.name.now c.step.result c.step.ensures.ok c.step.ensures.err t

pub returns-clause-stops : goal.returns-clause-stops
returns-clause-stops g c = λ m t. mount_stops g.S.ObjectStore.state c.args.self.now m c.args.name.now c.step.result c.step.ensures.ok c.step.ensures.err t

pub returns-clause-completes : goal.returns-clause-completes
returns-clause-completes g c = λ m op t up oldest. mount_completes g.S.ObjectStore.state c.args.self.now m c.args.name.now op c.step.result _ c.step.ensures.ok t up oldest
