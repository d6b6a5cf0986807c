use Rattle.std.proofs.Common.{rules, ◌≡◌, None, refl}
use Rattle.mj_store.proofs.Paths.{goes_itself}
use Rattle.mj_rank.proofs.StillReads.{stays_itself}
use Rattle.mj_rank.proofs.MountLives.{mount_stops_by}
use Rattle.mj_rank.proofs.MountCalls.{steps_live, steps_stop}
use Rattle.mj_rank.proofs.MountSteps.{steps_move, steps_wait, steps_never_wait, steps_up, steps_keep}
use Rattle.mj_rank.proofs.MountCuts.{refused}
use Rattle.mj_rank.proofs.mounting.Mounting.step.Goals as goal

pub returns-in-Some-clause-steps : goal.returns-in-Some-clause-steps
returns-in-Some-clause-steps g c = refused g.S.ObjectStore.state c.args.self.now c.args.self.now refl (stays_itself _)

pub returns-in-Some-clause-stops : goal.returns-in-Some-clause-stops
returns-in-Some-clause-stops g c = λ m t. mount_stops_by g.S.ObjectStore.state c.args.self.now m (goes_itself _) t

pub returns-clause-moves : goal.returns-clause-moves
returns-clause-moves g c = λ base h. steps_move g.S.ObjectStore.state c.args.self.now _ c.go_on.result c.go_on.ensures.steps (c.go_on.ensures.reaped base h)

pub returns-clause-waits : goal.returns-clause-waits
returns-clause-waits g c = steps_wait g.S.ObjectStore.state c.args.self.now _ c.go_on.result c.go_on.ensures.steps

pub returns-clause-up : goal.returns-clause-up
returns-clause-up g c =
    let up : c.args.self.now.fault ≡ None = search rules in
    steps_up g.S.ObjectStore.state c.args.self.now _ c.go_on.result c.go_on.ensures.steps up

pub returns-clause-kept : goal.returns-clause-kept
returns-clause-kept g c = steps_keep g.S.ObjectStore.state c.args.self.now _ c.go_on.result c.go_on.ensures.steps

pub returns-clause-never_waits : goal.returns-clause-never_waits
returns-clause-never_waits g c = λ t. steps_never_wait g.S.ObjectStore.state c.args.self.now _ c.go_on.result c.go_on.ensures.steps t

pub returns-clause-live : goal.returns-clause-live
returns-clause-live g c = λ m t. steps_live g.S.ObjectStore.state c.args.self.now _ m c.go_on.result c.go_on.ensures.steps t

pub returns-clause-stops : goal.returns-clause-stops
returns-clause-stops g c = λ m t. steps_stop g.S.ObjectStore.state c.args.self.now _ m c.go_on.result c.go_on.ensures.steps t
