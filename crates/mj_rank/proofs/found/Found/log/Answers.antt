use Rattle.std.proofs.Common.{rules, ◌≡◌, true, false, ◌∙◌, sym, ap}
use Rattle.std.specs.Prelude.{is_some}
use Rattle.mj_layout.specs.declared.Header.{Header}
use Rattle.mj_event.specs.Event.{event_bytes}
use Rattle.mj_journaler.specs.Journal.{Journal}
use Rattle.mj_journaler.specs.Calls.{begun}
use Rattle.mj_rank.specs.Log.{log_value, with_entry}
use Rattle.mj_rank.specs.Mount.{subtree_map}
use Rattle.mj_rank.proofs.Appending.{appended_ok, appended_value}
use Rattle.mj_rank.proofs.FirstLogs.{fits, fits_not, log_mapped, log_empty, segment_begun, segment_none}
use Rattle.mj_rank.proofs.found.Found.log.Goals as goal

pub returns-then-is_some-clause-journal : goal.returns-then-is_some-clause-journal
returns-then-is_some-clause-journal c =
    let begins = c.in_ok-journal.ensures ∙ ap (λ (h : Header). begun h c.args.number c.args.self.now.tail) c.serving_header.ensures.is in
    let refused : is_some c.refusal.result ≡ true = search rules in
    let not = fits_not c.args.self.now.header c.args.number c.args.self.now.tail c.in_ok-journal.journal c.deref.result.now begins (c.deref.ensures.value ∙ c.in_ok-payload.ensures) c.refusal.result c.refusal.ensures refused in
    ap log_value begins ∙ sym (log_empty c.args.self.now.header c.args.number c.args.self.now.tail not)

pub returns-then-is_some-clause-segment : goal.returns-then-is_some-clause-segment
returns-then-is_some-clause-segment c =
    let begins = c.in_ok-journal.ensures ∙ ap (λ (h : Header). begun h c.args.number c.args.self.now.tail) c.serving_header.ensures.is in
    let refused : is_some c.refusal.result ≡ true = search rules in
    let not = fits_not c.args.self.now.header c.args.number c.args.self.now.tail c.in_ok-journal.journal c.deref.result.now begins (c.deref.ensures.value ∙ c.in_ok-payload.ensures) c.refusal.result c.refusal.ensures refused in
    sym (segment_none c.args.self.now.header c.args.number c.args.self.now.tail not)

pub returns-clause-journal : goal.returns-clause-journal
returns-clause-journal c =
    let h = c.args.self.now.header in
    let number = c.args.number in
    let tail = c.args.self.now.tail in
    let bytes = event_bytes (subtree_map number) in
    let begins = c.in_ok-journal.ensures ∙ ap (λ (h : Header). begun h number tail) c.serving_header.ensures.is in
    let admitted : is_some c.refusal.result ≡ false = search rules in
    let fit = fits h number tail c.in_ok-journal.journal c.deref.result.now begins (c.deref.ensures.value ∙ c.in_ok-payload.ensures) c.refusal.result c.refusal.ensures admitted in
    let made = c.reserve.new.self in
    let new = appended_ok c.append.result c.unwrap.result made c.append.new.self c.deref-2.result.now c.unwrap.ensures c.append.ensures.refused c.append.ensures.taken in
    appended_value c.in_ok-journal.journal made c.append.new.self _ c.deref-2.result.now bytes c.in_ok-reserve.ensures.ok new (c.deref-2.ensures.value ∙ c.in_ok-payload.ensures)
    ∙ (ap (λ (j : Journal). with_entry j bytes) begins ∙ sym (log_mapped h number tail fit))

pub returns-clause-segment : goal.returns-clause-segment
returns-clause-segment c =
    let h = c.args.self.now.header in
    let number = c.args.number in
    let tail = c.args.self.now.tail in
    let begins = c.in_ok-journal.ensures ∙ ap (λ (h : Header). begun h number tail) c.serving_header.ensures.is in
    let admitted : is_some c.refusal.result ≡ false = search rules in
    let fit = fits h number tail c.in_ok-journal.journal c.deref.result.now begins (c.deref.ensures.value ∙ c.in_ok-payload.ensures) c.refusal.result c.refusal.ensures admitted in
    sym (segment_begun h number tail fit)
