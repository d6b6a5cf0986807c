use Rattle.mj_world.proofs.Refused.{refuses_serving, stays_serving}
use Rattle.mj_world.proofs.Stays.{stays_safe, rank_stands}
use Rattle.mj_world.proofs.Between.{lives_from, stops_from}
use Rattle.mj_world.proofs.Numbers.{number_after}
use Rattle.mj_world.specs.declared.world.Phase.TheVariants.{Serving}
use Rattle.std.proofs.Common.{refl, ◌∙◌}
use Rattle.mj_world.proofs.world.World.ask.Goals as goal

pub returns-in-Ok-clause-live : goal.returns-in-Ok-clause-live
returns-in-Ok-clause-live g c = λ m.
    lives_from g.S.ObjectStore.state c.args.self.now (Serving c.in-Serving.rank) c.in-Serving.is m
    (λ t. (number_after c.in-Serving.rank c.request.new.self c.args.r.now c.in-Ok.ensures.after ∙ t.0, c.in-Ok.ensures.live m t.1))

pub returns-in-Ok-clause-stops : goal.returns-in-Ok-clause-stops
returns-in-Ok-clause-stops g c = λ m.
    stops_from g.S.ObjectStore.state c.args.self.now (Serving c.in-Serving.rank) c.in-Serving.is m (g.S.ObjectStore.state c.request.new.self.store)
    (rank_stands g.S.ObjectStore.state c.args.self.now.number m c.in-Serving.rank c.request.new.self c.request.ensures.store)

pub returns-in-Ok-clause-replies : goal.returns-in-Ok-clause-replies
returns-in-Ok-clause-replies g c = λ m.
    lives_from g.S.ObjectStore.state c.args.self.now (Serving c.in-Serving.rank) c.in-Serving.is m
    (λ t. (c.in-Ok.ensures.reply m t.1, c.in-Ok.ensures.ends m t.1))

pub returns-in-Err-clause-stops : goal.returns-in-Err-clause-stops
returns-in-Err-clause-stops g c = λ m.
    stops_from g.S.ObjectStore.state c.args.self.now (Serving c.in-Serving.rank) c.in-Serving.is m (g.S.ObjectStore.state c.request.new.self.store)
    (rank_stands g.S.ObjectStore.state c.args.self.now.number m c.in-Serving.rank c.request.new.self c.request.ensures.store)

pub returns-in_default : goal.returns-in_default
returns-in_default g c = record {
  number = refl;
  since = λ base h. h;
  cause = λ base h fault. absurd fault;
  answer = tt;
  leaves = tt;
  phase = refuses_serving c.args.self.now.phase c.in_default.not-Serving;
  tells = stays_serving c.args.self.now.phase c.in_default.not-Serving _ _;
  live = λ m h. h;
  stops = λ m h. stays_safe g.S.ObjectStore.state c.args.self.now.number m c.args.self.now.phase h;
  replies = λ m h. tt;
}
