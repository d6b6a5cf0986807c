use Rattle.mj_store.proofs.Paths.{goes_itself, goes_stays, goes_steps}
use Rattle.mj_rank.proofs.Living.{value_stays, value_steps, rank_down, stops_by, stops_down}
use Rattle.mj_rank.specs.Request.{value_of}
use Rattle.std.proofs.Common.{refl}
use Rattle.mj_rank.proofs.SinceLemmas.{rank_since_same, rank_since_down}
use Rattle.mj_rank.proofs.rank.Rank.apply.Goals as goal

pub returns-in-Ok-clause-since : goal.returns-in-Ok-clause-since
returns-in-Ok-clause-since g c = λ base h. rank_since_same base c.args.self.now _ c.step.ensures.later c.step.ensures.same_list refl refl h

pub returns-in-Err-clause-since : goal.returns-in-Err-clause-since
returns-in-Err-clause-since g c = λ base h.
    rank_since_down base c.args.self.now _ _ _ c.goes_down.ensures.store c.goes_down.ensures.fault c.step.ensures.later h c.in-Err.ensures.cause.rose c.step.ensures.same_list

pub returns-in_err-up-clause-stops : goal.returns-in_err-up-clause-stops
returns-in_err-up-clause-stops g c = λ m t. stops_by g.S.ObjectStore.state c.args.self.now m (goes_itself _) t

pub returns-in-Ok-clause-live : goal.returns-in-Ok-clause-live
returns-in-Ok-clause-live g c = λ m t. value_steps (value_of c.args.self.now) m _ _ c.in-Ok.ensures.ok t

pub returns-in-Ok-clause-stops : goal.returns-in-Ok-clause-stops
returns-in-Ok-clause-stops g c = λ m t. stops_by g.S.ObjectStore.state c.args.self.now m (goes_steps _ _ c.in-Ok.ensures.ok) t

pub returns-in-Err-clause-live : goal.returns-in-Err-clause-live
returns-in-Err-clause-live g c = λ m t.
    rank_down g.S.ObjectStore.state c.args.self.now m c.goes_down.new.self (value_of c.args.self.now) _ c.goes_down.ensures.store c.goes_down.ensures.value (value_stays (value_of c.args.self.now) m c.in-Err.ensures.err t)

pub returns-in-Err-clause-stops : goal.returns-in-Err-clause-stops
returns-in-Err-clause-stops g c = λ m t. stops_down g.S.ObjectStore.state c.args.self.now m c.goes_down.new.self c.goes_down.ensures.store (goes_stays c.in-Err.ensures.err) t
