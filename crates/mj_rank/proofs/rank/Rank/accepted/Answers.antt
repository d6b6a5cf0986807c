use Rattle.std.proofs.Common.{◌≡◌, Some, None, ap, ◌∙◌, rules}
use Rattle.mj_journaler.specs.Journal.{Journal}
use Rattle.mj_rank.specs.Entries.{map_of}
use Rattle.mj_rank.specs.Log.{log_value}
use Rattle.mj_rank.specs.Segment.{event_refusal}
use Rattle.mj_rank.specs.Request.{value_of, answered}
use Rattle.mj_rank.proofs.Requests.{journals, journalled_end, journalled_after}
use Rattle.mj_rank.proofs.rank.Rank.accepted.Goals as goal

pub journal-requires : goal.journal-requires
journal-requires g c =
    let old = c.args.self.now in
    let entries = c.in_ok-entries.entries in
    let ends = c.end_behind-ends.result in
    let fits : event_refusal (map_of entries.map) old.log entries.event.items ≡ None = search rules in
    journals old c.record.new.self entries c.args.event.now c.args.r.now c.args.reply (Some ends) c.bytes.result ends
    (c.in_ok-record.ensures.after ∙ ap (λ (j : Journal). answered (record (value_of old) { log = log_value j }) c.args.r.now c.args.reply (Some ends)) c.in_ok-reserve.ensures.ok)
    (c.record.ensures.log ∙ c.in_ok-reserve.ensures.ok) c.in_ok-entries.ensures.map c.in_ok-entries.ensures.event
    fits c.bytes.ensures c.end_behind-ends.ensures c.requires.gives.grammar (c.a_plan_is_projected.ensures.undamaged old.cache c.args.r.now c.args.event.now c.requires.gives)

pub returns-in-Ok-clause-after : goal.returns-in-Ok-clause-after
returns-in-Ok-clause-after g c =
    let old = c.args.self.now in
    let entries = c.in_ok-entries.entries in
    let ends = c.end_behind-ends.result in
    journalled_after (value_of old) (value_of c.record.new.self) (value_of c.journal.new.self) c.args.r.now c.args.reply c.args.event.now ends
    (c.in_ok-record.ensures.after ∙ ap (λ (j : Journal). answered (record (value_of old) { log = log_value j }) c.args.r.now c.args.reply (Some ends)) c.in_ok-reserve.ensures.ok)
    c.in-Ok.ensures.after
    (journalled_end old entries c.args.event.now ends c.in_ok-entries.ensures.map c.in_ok-entries.ensures.event c.end_behind-ends.ensures)
