use Rattle.mj_world.proofs.Waits.{waits_once}
use Rattle.mj_world.proofs.laws.a_mount_waits_once.Goals as goal

pub returns : goal.returns
returns g c = waits_once g.S.ObjectStore.state g.S.ObjectStore.faults g.S.ObjectStore.unreported
