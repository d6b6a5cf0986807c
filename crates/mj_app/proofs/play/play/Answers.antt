use Rattle.mj_app.proofs.CallLemmas.{runs}
use Rattle.mj_app.proofs.play.play.Goals as goal

pub returns-in-Ok : goal.returns-in-Ok
returns-in-Ok g c = runs g.S.ObjectStore.state g.S.ObjectStore.faults g.S.ObjectStore.unreported c.args.rank _ _ _ _ _ _ (record {
  store = c.restart.new.self;
  restarted = record { told = c.in-Ok.ensures.ok; none = c.in-Ok.ensures.none_listed; later = c.restart.ensures.later };
  over = c.play_restarted.ensures;
})
