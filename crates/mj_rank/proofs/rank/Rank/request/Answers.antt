use Rattle.std.proofs.Common.{Some, None, sym, ap, subst, ◌∙◌}
use Rattle.mj_journaler.specs.Journal.{Journal}
use Rattle.mj_rank.specs.Since.{AllListed}
use Rattle.mj_rank.specs.Request.{Cause, value_of}
use Rattle.mj_rank.proofs.Out.{accepted_listed, accepted_fault, answered_fault}
use Rattle.mj_rank.proofs.Living.{refused_lives}
use Rattle.mj_rank.proofs.Replying.{no_change, has_change, replies, answered_ends, answered_live, accepted_ends, accepted_live}
use Rattle.mj_rank.proofs.Requests.{early_is, after_is, ok_along, on_ok, on_ok_along, cause_spent, cause_up, admitted_as, refused_as, memory_says}
use Rattle.mj_rank.proofs.SinceLemmas.{rank_since_kept}
use Rattle.mj_rank.proofs.rank.Rank.request.Goals as goal

-- ---- no room in the chronicle

pub returns-then-not-has_room-clause-refused : goal.returns-then-not-has_room-clause-refused
returns-then-not-has_room-clause-refused g c =
    cause_spent (value_of c.args.self.now) c.args.r.now c.in_ok-reply.field-0.reply c.in_ok-up.ensures.up c.in_ok-reply.ensures.reply (sym c.has_room.ensures ∙ c.if-not-has_room.true)
    ∙ ap (λ n. Some (Cause.IsSpent n)) (sym c.len-answered.ensures)

-- ---- a request that changes nothing

pub returns-in-None-clause-early : goal.returns-in-None-clause-early
returns-in-None-clause-early g c =
    ok_along c.answered.result _ _ (early_is (value_of c.args.self.now) c.args.r.now c.in_ok-reply.field-0.reply None c.in_ok-reply.ensures.reply (sym c.in-None.is ∙ c.in_ok-reply.ensures.planned)) c.answered.ensures.early

pub returns-in-None-clause-after : goal.returns-in-None-clause-after
returns-in-None-clause-after g c =
    on_ok_along c.answered.result _ _ _ (after_is (value_of c.args.self.now) c.args.r.now c.in_ok-reply.field-0.reply None c.in_ok-reply.ensures.reply (sym c.in-None.is ∙ c.in_ok-reply.ensures.planned)) c.answered.ensures.after

pub returns-in-None-clause-admitted : goal.returns-in-None-clause-admitted
returns-in-None-clause-admitted g c =
    on_ok c.answered.result
    (cause_up (value_of c.args.self.now) c.args.r.now c.in_ok-reply.field-0.reply c.in_ok-up.ensures.up c.in_ok-reply.ensures.reply None (sym c.has_room.ensures ∙ c.if-not-has_room.false) (sym c.in-None.is ∙ c.in_ok-reply.ensures.planned))

pub returns-in-None-clause-refused : goal.returns-in-None-clause-refused
returns-in-None-clause-refused g c = memory_says c.answered.result _ c.answered.ensures.memory

pub returns-in-None-clause-since : goal.returns-in-None-clause-since
returns-in-None-clause-since g c = λ base h. rank_since_kept base c.args.self.now c.answered.new.self c.answered.ensures.store
    (answered_fault c.answered.result c.args.self.now c.answered.new.self c.args.r.now c.in_ok-reply.field-0.reply _ c.answered.ensures.after c.answered.ensures.kept)
    (λ list all. subst (λ (j : Journal). AllListed list j) (sym c.answered.ensures.log) all) h

pub returns-in-None-clause-live : goal.returns-in-None-clause-live
returns-in-None-clause-live g c =
    answered_live g.S.ObjectStore.state c.args.self.now c.answered.new.self c.args.r.now c.answered.result c.args.self.now.cells (no_change c.in_ok-reply.field-0.event _ c.in-None.is c.in_ok-reply.ensures.there)
    c.in_ok-reply.field-0.reply _ c.answered.ensures.store c.answered.ensures.after

pub returns-in-None-clause-live_refused : goal.returns-in-None-clause-live_refused
returns-in-None-clause-live_refused g c = refused_lives g.S.ObjectStore.state c.args.self.now c.answered.new.self c.answered.result c.answered.ensures.kept c.answered.ensures.store

pub returns-in-None-clause-reply : goal.returns-in-None-clause-reply
returns-in-None-clause-reply g c = replies g.S.ObjectStore.state c.args.self.now c.args.r.now c.in_ok-reply.field-0.reply _ _ c.answered.result c.answered.ensures.early c.args.self.now.cells c.in_ok-reply.ensures.reply

pub returns-in-None-clause-ends : goal.returns-in-None-clause-ends
returns-in-None-clause-ends g c =
    answered_ends g.S.ObjectStore.state c.args.self.now c.answered.new.self c.args.r.now c.answered.result c.args.self.now.cells (no_change c.in_ok-reply.field-0.event _ c.in-None.is c.in_ok-reply.ensures.there)

-- ---- and one with an event

pub accepted-requires-clause-gives : goal.accepted-requires-clause-gives
accepted-requires-clause-gives g c = c.in_ok-reply.ensures.event _ c.in-Some.is

pub accepted-requires-clause-fits : goal.accepted-requires-clause-fits
accepted-requires-clause-fits g c = c.in_ok-reply.ensures.fits _ c.in-Some.is

pub returns-in-Some-clause-early : goal.returns-in-Some-clause-early
returns-in-Some-clause-early g c =
    ok_along c.accepted.result _ _ (early_is (value_of c.args.self.now) c.args.r.now c.in_ok-reply.field-0.reply (Some c.in-Some.event) c.in_ok-reply.ensures.reply (sym c.in-Some.is ∙ c.in_ok-reply.ensures.planned)) c.accepted.ensures.early

pub returns-in-Some-clause-after : goal.returns-in-Some-clause-after
returns-in-Some-clause-after g c =
    on_ok_along c.accepted.result _ _ _ (after_is (value_of c.args.self.now) c.args.r.now c.in_ok-reply.field-0.reply (Some c.in-Some.event) c.in_ok-reply.ensures.reply (sym c.in-Some.is ∙ c.in_ok-reply.ensures.planned)) c.accepted.ensures.after

pub returns-in-Some-clause-admitted : goal.returns-in-Some-clause-admitted
returns-in-Some-clause-admitted g c =
    admitted_as c.accepted.result _ _
    (cause_up (value_of c.args.self.now) c.args.r.now c.in_ok-reply.field-0.reply c.in_ok-up.ensures.up c.in_ok-reply.ensures.reply (Some c.in-Some.event) (sym c.has_room.ensures ∙ c.if-not-has_room.false) (sym c.in-Some.is ∙ c.in_ok-reply.ensures.planned))
    c.accepted.ensures.admitted

pub returns-in-Some-clause-refused : goal.returns-in-Some-clause-refused
returns-in-Some-clause-refused g c =
    refused_as c.accepted.result _ _
    (cause_up (value_of c.args.self.now) c.args.r.now c.in_ok-reply.field-0.reply c.in_ok-up.ensures.up c.in_ok-reply.ensures.reply (Some c.in-Some.event) (sym c.has_room.ensures ∙ c.if-not-has_room.false) (sym c.in-Some.is ∙ c.in_ok-reply.ensures.planned))
    c.accepted.ensures.refused

pub returns-in-Some-clause-since : goal.returns-in-Some-clause-since
returns-in-Some-clause-since g c = λ base h. rank_since_kept base c.args.self.now c.accepted.new.self c.accepted.ensures.store
    (accepted_fault c.accepted.result c.args.self.now c.accepted.new.self c.in-Some.event c.args.r.now c.in_ok-reply.field-0.reply _ c.accepted.ensures.after c.accepted.ensures.kept)
    (accepted_listed c.accepted.result c.args.self.now c.accepted.new.self c.in-Some.event c.args.r.now c.in_ok-reply.field-0.reply _ c.accepted.ensures.after c.accepted.ensures.kept) h

pub returns-in-Some-clause-live : goal.returns-in-Some-clause-live
returns-in-Some-clause-live g c =
    accepted_live g.S.ObjectStore.state c.args.self.now c.accepted.new.self c.args.r.now c.in_ok-reply.field-0.reply _ c.in-Some.event c.accepted.result c.accepted.ensures.store c.args.self.now.cells
    (has_change c.in_ok-reply.field-0.event c.in-Some.event _ c.in-Some.is c.in_ok-reply.ensures.there) (c.in_ok-reply.ensures.event _ c.in-Some.is) (c.in_ok-reply.ensures.fits _ c.in-Some.is)
    c.accepted.ensures.admitted c.accepted.ensures.after c.accepted.ensures.early

pub returns-in-Some-clause-live_refused : goal.returns-in-Some-clause-live_refused
returns-in-Some-clause-live_refused g c = refused_lives g.S.ObjectStore.state c.args.self.now c.accepted.new.self c.accepted.result c.accepted.ensures.kept c.accepted.ensures.store

pub returns-in-Some-clause-reply : goal.returns-in-Some-clause-reply
returns-in-Some-clause-reply g c = replies g.S.ObjectStore.state c.args.self.now c.args.r.now c.in_ok-reply.field-0.reply _ _ c.accepted.result c.accepted.ensures.early c.args.self.now.cells c.in_ok-reply.ensures.reply

pub returns-in-Some-clause-ends : goal.returns-in-Some-clause-ends
returns-in-Some-clause-ends g c = accepted_ends g.S.ObjectStore.state c.args.self.now c.args.r.now c.in_ok-reply.field-0.reply _ _ c.accepted.result c.accepted.ensures.early
