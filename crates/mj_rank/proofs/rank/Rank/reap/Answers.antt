use Rattle.mj_store.proofs.Paths.{goes_itself, goes_reaps}
use Rattle.mj_rank.specs.Request.{value_of}
use Rattle.mj_rank.proofs.Living.{value_stays, value_reported, rank_down, rank_acked, stops_by, stops_down}
use Rattle.std.proofs.Common.{None, Some, refl, sym, ap, subst, ◌∙◌}
use Rattle.mj_store.specs.Events.{Tells}
use Rattle.mj_cells.specs.Table.{Table}
use Rattle.mj_cache.specs.Cached.{CacheValue}
use Rattle.mj_machine.specs.Machine.{made_safe}
use Rattle.mj_journaler.specs.Journal.{end_of}
use Rattle.mj_rank.specs.Live.{Lives}
use Rattle.mj_rank.proofs.Groups.{fewer_ended}
use Rattle.mj_rank.specs.Log.{log_value}
use Rattle.mj_rank.proofs.Out.{listed_acked}
use Rattle.mj_rank.proofs.SinceLemmas.{rank_since_same, rank_since_down_by, rank_since_reported, reaps_done}
use Rattle.mj_rank.proofs.rank.Rank.reap.Goals as goal

pub returns-then-not-done-clause-since : goal.returns-then-not-done-clause-since
returns-then-not-done-clause-since g c = λ base h.
    rank_since_down_by base c.args.self.now _ _ _ c.goes_down.ensures.store c.goes_down.ensures.fault c.reap.ensures.later h _ c.in-Some.ensures.reported c.if-not-done.true

pub returns-in-None-clause-since : goal.returns-in-None-clause-since
returns-in-None-clause-since g c = λ base h. rank_since_same base c.args.self.now _ c.reap.ensures.later c.in-None.ensures.same_list refl refl h

pub returns-else-not-done-clause-since : goal.returns-else-not-done-clause-since
returns-else-not-done-clause-since g c = λ base h.
    rank_since_reported {faults = g.S.ObjectStore.faults} {unreported = g.S.ObjectStore.unreported} base c.args.self.now _ _ c.reap.ensures.later c.in-Some.ensures.reported refl
    (λ all. listed_acked (g.S.ObjectStore.unreported c.args.self.now.store) (g.S.ObjectStore.unreported c.reap.new.self) _ c.args.self.now.log c.acked-from.new.self c.in-Some.ensures.reported.rest c.acked-from.ensures.is all) h

pub returns-else-not-done-clause-told : goal.returns-else-not-done-clause-told
returns-else-not-done-clause-told g c = reaps_done _ (g.S.ObjectStore.state c.args.self.now.store) (g.S.ObjectStore.state c.reap.new.self) c.if-not-done.false c.in-Some.ensures.told

pub returns-in_err-up-clause-stops : goal.returns-in_err-up-clause-stops
returns-in_err-up-clause-stops g c = λ m t. stops_by g.S.ObjectStore.state c.args.self.now m (goes_itself _) t

pub returns-then-not-done-clause-live_refused : goal.returns-then-not-done-clause-live_refused
returns-then-not-done-clause-live_refused g c = λ m t.
    rank_down g.S.ObjectStore.state c.args.self.now m c.goes_down.new.self (value_of c.args.self.now) _ c.goes_down.ensures.store c.goes_down.ensures.value (value_reported (value_of c.args.self.now) m _ c.in-Some.ensures.told t)

pub returns-then-not-done-clause-stops : goal.returns-then-not-done-clause-stops
returns-then-not-done-clause-stops g c = λ m t. stops_down g.S.ObjectStore.state c.args.self.now m c.goes_down.new.self c.goes_down.ensures.store (goes_reaps (Some _) c.in-Some.ensures.told) t

pub returns-in-None-clause-live : goal.returns-in-None-clause-live
returns-in-None-clause-live g c = λ m t. value_stays (value_of c.args.self.now) m c.in-None.ensures.told t

pub returns-in-None-clause-stops : goal.returns-in-None-clause-stops
returns-in-None-clause-stops g c = λ m t. stops_by g.S.ObjectStore.state c.args.self.now m (goes_reaps None c.in-None.ensures.told) t

pub returns-else-not-done-clause-live : goal.returns-else-not-done-clause-live
returns-else-not-done-clause-live g c = λ m t.
    subst (λ (cells : Table). Tells (g.S.ObjectStore.state c.reap.new.self) (Lives c.args.self.now.number (log_value c.acked-from.new.self) cells (made_safe m c.acked-from.result.to))) (sym c.make_safe.ensures.early)
    (rank_acked g.S.ObjectStore.state c.args.self.now m _ _ _ (ap log_value c.acked-from.ensures.is) c.acked-from.ensures.to (reaps_done _ (g.S.ObjectStore.state c.args.self.now.store) (g.S.ObjectStore.state c.reap.new.self) c.if-not-done.false c.in-Some.ensures.told) t)

pub returns-else-not-done-clause-stops : goal.returns-else-not-done-clause-stops
returns-else-not-done-clause-stops g c = λ m t. stops_by g.S.ObjectStore.state c.args.self.now m (goes_reaps (Some _) c.in-Some.ensures.told) t

pub invariant_of-self-in-Some : goal.invariant_of-self-in-Some
invariant_of-self-in-Some g c = record {
  cells = ap (λ (v : CacheValue). v.rank) c.make_safe.ensures.safe ∙ c.args.self.now.cells;
  ended = fewer_ended c.args.self.now.log c.acked-from.new.self c.acked-from.result.to c.args.self.now.cache c.make_safe.new.self (ap end_of c.acked-from.ensures.is) c.make_safe.ensures.safe c.args.self.now.ended;
}
