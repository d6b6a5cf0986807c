use Rattle.std.proofs.Common.{◌∙◌, sym, ap, refl}
use Rattle.mj_store.proofs.Paths.{goes_itself, goes_stays}
use Rattle.mj_journaler.specs.Calls.{taken}
use Rattle.mj_journaler.specs.declared.sent.Offer.TheVariants.{Flush}
use Rattle.mj_rank.specs.Log.{log_value}
use Rattle.mj_rank.specs.Request.{RankValue, value_of}
use Rattle.mj_rank.specs.Sending.{with_log}
use Rattle.mj_rank.proofs.Living.{value_stays, value_log, rank_down, rank_is, rank_wrote, rank_numbers, stops_by, stops_down, stops_is, stops_sending}
use Rattle.mj_rank.proofs.Flushing.{given, sent_value}
use Rattle.mj_rank.proofs.Out.{listed_flushed, flushed_new, new_same}
use Rattle.mj_rank.proofs.SinceLemmas.{rank_since_same, rank_since_down, rank_since_sent}
use Rattle.mj_rank.proofs.rank.Rank.flush.Goals as goal

pub returns-in-Ok-clause-since : goal.returns-in-Ok-clause-since
returns-in-Ok-clause-since g c = λ base h.
    let old = c.args.self.now in
    let sent = c.in_ok-is_sent-in-Ok.ensures.sent in
    rank_since_sent {faults = g.S.ObjectStore.faults} {unreported = g.S.ObjectStore.unreported} base old c.is_sent.new.self c.submit.new.self c.in-Ok.number c.is_sent.ensures.store c.submit.ensures.later c.in-Ok.ensures.listed
    (ap (λ (v : RankValue). v.fault) sent)
    (λ all. listed_flushed (g.S.ObjectStore.unreported old.store) (g.S.ObjectStore.unreported c.submit.new.self) c.in-Ok.number _ old.log c.next_flush.new.self c.is_sent.new.self.log c.in_ok-op.ensures.offer c.in-Ok.ensures.listed
    (ap (λ (v : RankValue). v.log) sent) all) h

pub returns-in_err-is_sent-in-Ok-clause-since : goal.returns-in_err-is_sent-in-Ok-clause-since
returns-in_err-is_sent-in-Ok-clause-since g c = λ base h.
    let old = c.args.self.now in
    absurd (c.in_err-is_sent-in-Ok.ensures.refused (flushed_new (g.S.ObjectStore.unreported old.store) c.in-Ok.number old.log c.next_flush.new.self c.in_ok-op.ensures.offer c.in-Ok.ensures.newest (h.out c.in_ok-up.ensures.up)))

pub returns-in-Err-Failed-clause-since : goal.returns-in-Err-Failed-clause-since
returns-in-Err-Failed-clause-since g c = λ base h.
    let counted = rw c.in-Err-Failed.field-0-is at c.in-Err-Failed.ensures.cause in
    rank_since_down base c.args.self.now _ _ _ c.goes_down.ensures.store c.goes_down.ensures.fault c.submit.ensures.later h counted.rose c.in-Err-Failed.ensures.same_list

pub returns-clause-since : goal.returns-clause-since
returns-clause-since g c = λ base h. rank_since_same base c.args.self.now _ c.submit.ensures.later c.in-Err-Memory.ensures.same_list refl (ap log_value c.in_ok-op.ensures.offer) h

pub returns-in_err-up-clause-stops : goal.returns-in_err-up-clause-stops
returns-in_err-up-clause-stops g c = λ m t. stops_by g.S.ObjectStore.state c.args.self.now m (goes_itself _) t

pub returns-in_default-clause-stops : goal.returns-in_default-clause-stops
returns-in_default-clause-stops g c = λ m t. stops_by g.S.ObjectStore.state c.args.self.now m (goes_itself _) t

pub returns-in_err-op-clause-stops : goal.returns-in_err-op-clause-stops
returns-in_err-op-clause-stops g c = λ m t. stops_by g.S.ObjectStore.state c.args.self.now m (goes_itself _) t

pub returns-in-Ok-clause-live : goal.returns-in-Ok-clause-live
returns-in-Ok-clause-live g c = λ m t.
    let old = c.args.self.now in
    let write = given old.log _ (sym c.in-Some.is ∙ c.in_ok-op.ensures.given) c.next_flush.ensures.span in
    rank_is g.S.ObjectStore.state old m c.is_sent.new.self (with_log (value_of old) (taken c.in-Ok.number (Flush write.to) (log_value old.log))) c.is_sent.ensures.store
    (c.in_ok-is_sent-in-Ok.ensures.sent ∙ ap (with_log (value_of old)) (sent_value c.in-Ok.number write.to old.log c.next_flush.new.self c.in_ok-op.ensures.offer write.offer))
    (rank_wrote g.S.ObjectStore.state old m c.in-Ok.number write.to _ _ write.may write.op refl c.in-Ok.ensures.ok t)

pub returns-in-Ok-clause-stops : goal.returns-in-Ok-clause-stops
returns-in-Ok-clause-stops g c = λ m t.
    let old = c.args.self.now in
    let write = given old.log _ (sym c.in-Some.is ∙ c.in_ok-op.ensures.given) c.next_flush.ensures.span in
    stops_is g.S.ObjectStore.state old m c.is_sent.new.self c.is_sent.ensures.store (stops_sending g.S.ObjectStore.state old m c.in-Ok.number write.to _ write.may write.op c.in-Ok.ensures.ok t)

pub returns-in_err-is_sent-in-Ok-clause-live : goal.returns-in_err-is_sent-in-Ok-clause-live
returns-in_err-is_sent-in-Ok-clause-live g c = λ m t.
    let old = c.args.self.now in
    absurd (c.in_err-is_sent-in-Ok.ensures.refused (new_same c.in-Ok.number old.log c.next_flush.new.self (ap log_value c.in_ok-op.ensures.offer) (rank_numbers g.S.ObjectStore.state old m c.in-Ok.number _ c.in-Ok.ensures.ok t)))

pub returns-in_err-is_sent-in-Ok-clause-stops : goal.returns-in_err-is_sent-in-Ok-clause-stops
returns-in_err-is_sent-in-Ok-clause-stops g c = λ m t.
    let old = c.args.self.now in
    absurd (c.in_err-is_sent-in-Ok.ensures.refused (new_same c.in-Ok.number old.log c.next_flush.new.self (ap log_value c.in_ok-op.ensures.offer) (rank_numbers g.S.ObjectStore.state old m c.in-Ok.number _ c.in-Ok.ensures.ok t)))

pub returns-in-Err-Failed-clause-live : goal.returns-in-Err-Failed-clause-live
returns-in-Err-Failed-clause-live g c = λ m t.
    let v = value_of c.args.self.now in
    let l = log_value c.next_flush.new.self in
    rank_down g.S.ObjectStore.state c.args.self.now m c.goes_down.new.self (record v { log = l }) _ c.goes_down.ensures.store c.goes_down.ensures.value
    (value_log v m l (ap log_value c.in_ok-op.ensures.offer) (value_stays v m c.in-Err-Failed.ensures.err t))

pub returns-in-Err-Failed-clause-stops : goal.returns-in-Err-Failed-clause-stops
returns-in-Err-Failed-clause-stops g c = λ m t. stops_down g.S.ObjectStore.state c.args.self.now m c.goes_down.new.self c.goes_down.ensures.store (goes_stays c.in-Err-Failed.ensures.err) t

pub returns-clause-live : goal.returns-clause-live
returns-clause-live g c = λ m t.
    let v = value_of c.args.self.now in
    value_log v m (log_value c.next_flush.new.self) (ap log_value c.in_ok-op.ensures.offer) (value_stays v m c.in-Err-Memory.ensures.err t)

pub returns-clause-stops : goal.returns-clause-stops
returns-clause-stops g c = λ m t. stops_by g.S.ObjectStore.state c.args.self.now m (goes_stays c.in-Err-Memory.ensures.err) t
