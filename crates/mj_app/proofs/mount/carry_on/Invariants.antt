use Rattle.std.proofs.Common.{ℕ, ◌+◌, ◌*◌, Option, None, Some}
use Rattle.mj_world.specs.Steps.{left}
use Rattle.mj_app.proofs.MountActs.{Come, stage_of}
use Rattle.mj_app.proofs.mount.carry_on.Given as goal

abbrev pub invariant-carries : goal.invariant-carries
invariant-carries g l = Come g.S.ObjectStore.state g.S.ObjectStore.faults g.S.ObjectStore.unreported (stage_of l.tail l.tried) l.fn.world l.world

-- whether the store is still to try the oldest operation
abbrev pub to_try : Option ℕ → ℕ
to_try None = 1
to_try (Some op) = 0

abbrev pub decreases-carries : goal.decreases-carries
decreases-carries g l = 2 * left l.world + to_try l.tried
