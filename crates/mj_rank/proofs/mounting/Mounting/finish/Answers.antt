use Rattle.std.proofs.Common.{subst, sym, ap}
use Rattle.std.specs.Prelude.{IfSome}
use Rattle.mj_rank.specs.Request.{RankValue}
use Rattle.mj_rank.proofs.MountCalls.{mount_opened}
use Rattle.mj_rank.proofs.Out.{unsent_listed}
use Rattle.mj_base.specs.Counts.{Rose}
use Rattle.mj_store.specs.Causes.{Counted}
use Rattle.mj_rank.proofs.mounting.Mounting.finish.Goals as goal

pub returns-clause-since : goal.returns-clause-since
returns-clause-since g c = λ base h. record {
  counted = subst (λ s. Counted base (g.S.ObjectStore.faults s) (g.S.ObjectStore.unreported s)) (sym c.serving.ensures.store) h.counted;
  down = subst (λ o. IfSome o (λ _. Rose base (g.S.ObjectStore.faults c.serving.result.store))) (sym c.serving.ensures.fault) tt;
  out = λ up. unsent_listed (g.S.ObjectStore.unreported c.serving.result.store) c.args.self.log.journal c.serving.result.log (ap (λ (v : RankValue). v.log) c.serving.ensures.value) c.args.self.log.unsent;
}

pub returns-clause-live : goal.returns-clause-live
returns-clause-live g c = λ m t. mount_opened g.S.ObjectStore.state c.args.self c.serving.result m c.requires c.serving.ensures.store c.serving.ensures.value t
