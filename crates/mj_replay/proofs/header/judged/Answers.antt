use Rattle.std.proofs.Common.{◌≡◌, ◌≢◌, Err, sym, ap, subst, ◌∙◌, arith}
use Rattle.mj_layout.specs.Header.{header_of}
use Rattle.mj_layout.specs.declared.HeaderRefusal.TheVariants.{HeaderBad, HeaderOrder}
use Rattle.mj_layout.proofs.HeaderLaw.{header_takes, is_header}
use Rattle.mj_recovery.specs.Journal.{of_format}
use Rattle.mj_replay.specs.Replays.{Fails}
use Rattle.mj_replay.specs.declared.refusal.JournalRefusal.{JournalRefusal}
use Rattle.mj_replay.proofs.Headers.{header_by_front, order_by_front, bad_by_front, long_by_front, legacy, resilient}
use Rattle.mj_replay.proofs.header.judged.Goals as goal

pub returns-in-Ok-clause-told : goal.returns-in-Ok-clause-told
returns-in-Ok-clause-told c = λ all f.
    let h = c.in-Ok.header in
    subst (λ (w : JournalRefusal). Fails w (of_format (header_of all))) (sym c.refused.ensures)
    (legacy (header_of all) h (header_by_front all c.args.bytes.now c.args.size h f (sym c.in-Ok.ensures)) c.if-header-eq0.true)

pub returns-in-Ok-2-clause-told : goal.returns-in-Ok-2-clause-told
returns-in-Ok-2-clause-told c = λ all f.
    let h = c.in-Ok.header in
    resilient (header_of all) h (header_by_front all c.args.bytes.now c.args.size h f (sym c.in-Ok.ensures)) c.if-header-eq0.false

pub returns-in-Err-HeaderBad-clause-told : goal.returns-in-Err-HeaderBad-clause-told
returns-in-Err-HeaderBad-clause-told c = λ all f.
    let at = c.in-Err-HeaderBad.at in
    let at_end : c.in-Err-HeaderBad.at ≡ 70 = omega (arith, c.if-at.true) in
    let found : header_of c.args.bytes.now ≡ Err (HeaderBad c.in-Err-HeaderBad.at) = sym c.in-Err-HeaderBad.ensures ∙ ap Err c.in-Err-HeaderBad.field-0-is in
    subst (λ (w : JournalRefusal). Fails w (of_format (header_of all))) (sym c.refused-in-Err-HeaderBad.ensures)
    (ap of_format (long_by_front all c.args.bytes.now c.args.size at f at_end found))

pub returns-in-Err-HeaderBad-2-clause-told : goal.returns-in-Err-HeaderBad-2-clause-told
returns-in-Err-HeaderBad-2-clause-told c = λ all f.
    let at = c.in-Err-HeaderBad.at in
    let before : c.in-Err-HeaderBad.at ≢ 70 = λ e. c.if-at.false e in
    let found : header_of c.args.bytes.now ≡ Err (HeaderBad c.in-Err-HeaderBad.at) = sym c.in-Err-HeaderBad.ensures ∙ ap Err c.in-Err-HeaderBad.field-0-is in
    subst (λ (w : JournalRefusal). Fails w (of_format (header_of all))) (sym c.refused-in-Err-HeaderBad-2.ensures)
    (ap of_format (bad_by_front all c.args.bytes.now c.args.size at f before found))

pub returns-in-Err-HeaderOrder-clause-told : goal.returns-in-Err-HeaderOrder-clause-told
returns-in-Err-HeaderOrder-clause-told c = λ all f.
    let found : header_of c.args.bytes.now ≡ Err HeaderOrder = sym c.in-Err-HeaderOrder.ensures ∙ ap Err c.in-Err-HeaderOrder.field-0-is in
    subst (λ (w : JournalRefusal). Fails w (of_format (header_of all))) (sym c.refused-in-Err-HeaderOrder.ensures)
    (ap of_format (order_by_front all c.args.bytes.now c.args.size f found))

pub returns-in-Ok-2-clause-header : goal.returns-in-Ok-2-clause-header
returns-in-Ok-2-clause-header c =
    let h = c.in-Ok.header in
    let t = header_takes c.args.bytes.now h (λ i. let byte = c.type_inv.bytes i in omega (arith, byte)) (sym c.in-Ok.ensures) in
    is_header h t.1 t.2
