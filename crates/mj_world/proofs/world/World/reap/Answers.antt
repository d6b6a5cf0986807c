use Rattle.mj_world.proofs.Refused.{refuses_serving, stays_serving}
use Rattle.mj_world.proofs.Stays.{stays_safe}
use Rattle.std.proofs.Common.{refl}
use Rattle.mj_world.proofs.world.World.reap.Goals as goal

pub returns-in_default : goal.returns-in_default
returns-in_default g c = record {
  number = refl;
  since = λ base h. h;
  cause = λ base h fault. absurd fault;
  answer = tt;
  leaves = λ base h. tt;
  phase = refuses_serving c.args.self.now.phase c.in_default.not-Serving;
  tells = stays_serving c.args.self.now.phase c.in_default.not-Serving _ _;
  live = λ m h. h;
  stops = λ m h. stays_safe g.S.ObjectStore.state c.args.self.now.number m c.args.self.now.phase h;
}
