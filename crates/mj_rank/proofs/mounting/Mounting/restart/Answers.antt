use Rattle.mj_rank.proofs.MountLives.{kept_same, mount_stays, mount_stops_by, mount_stopped, mount_stopped_stops}
use Rattle.mj_store.proofs.Paths.{goes_stays}
use Rattle.std.proofs.Common.{refl, sym, subst}
use Rattle.mj_store.specs.Moves.{Restarts}
use Rattle.mj_rank.proofs.SinceLemmas.{mount_since_same}
use Rattle.mj_rank.proofs.mounting.Mounting.restart.Goals as goal

pub returns-in-Err-clause-since : goal.returns-in-Err-clause-since
returns-in-Err-clause-since g c = λ base h. mount_since_same base c.args.self _ c.restart.ensures.later h.out h c.in-Err.ensures.same_list refl refl

pub returns-in-Err-clause-kept : goal.returns-in-Err-clause-kept
returns-in-Err-clause-kept g c = kept_same c.args.self c.restart.new.self _ _

pub returns-in-Ok-clause-live : goal.returns-in-Ok-clause-live
returns-in-Ok-clause-live g c = λ m t. mount_stopped g.S.ObjectStore.state c.args.self m c.into_store.result c.into_store.ensures c.in-Ok.ensures.ok t

pub returns-in-Err-clause-live_refused : goal.returns-in-Err-clause-live_refused
returns-in-Err-clause-live_refused g c = λ m t. mount_stays g.S.ObjectStore.state c.args.self m c.in-Err.ensures.err t

pub returns-in-Ok-clause-stops : goal.returns-in-Ok-clause-stops
returns-in-Ok-clause-stops g c = λ m t. mount_stopped_stops g.S.ObjectStore.state c.args.self m c.into_store.result c.into_store.ensures c.in-Ok.ensures.ok t

pub returns-in-Err-clause-stops_refused : goal.returns-in-Err-clause-stops_refused
returns-in-Err-clause-stops_refused g c = λ m t. mount_stops_by g.S.ObjectStore.state c.args.self m (goes_stays c.in-Err.ensures.err) t

pub returns-in-Ok-clause-told : goal.returns-in-Ok-clause-told
returns-in-Ok-clause-told g c = subst (λ s. Restarts (g.S.ObjectStore.state c.args.self.store) (g.S.ObjectStore.state s)) (sym c.into_store.ensures) c.in-Ok.ensures.ok
