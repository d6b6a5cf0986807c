use Rattle.std.proofs.Common.{ℕ, ◌≤◌, refl, sym, ap, subst, ◌∙◌}
use Rattle.mj_cells.specs.Table.{table_of, overlay}
use Rattle.mj_recovery.specs.Journal.{journal_writes}
use Rattle.mj_delta.specs.Fresh.{fresh_table}
use Rattle.mj_judge.specs.Own.{own_damage}
use Rattle.mj_cache.specs.Refused.{IsRefusal}
use Rattle.mj_replay.specs.Lumps.{lumps_known}
use Rattle.mj_replay.specs.Replayed.{IsDamageOf, replayed_of}
use Rattle.mj_replay.specs.declared.refusal.JournalRefusal.{JournalRefusal}
use Rattle.mj_replay.proofs.Rebuilt.{not_served, has_strange, known_is, cached, uncached}
use Rattle.mj_replay.proofs.replaying.replay_journal.Goals as goal

pub returns-then-not-is_served-clause-told : goal.returns-then-not-is_served-clause-told
returns-then-not-is_served-clause-told c =
    subst (λ (w : JournalRefusal). IsDamageOf w (replayed_of c.args.rank c.args.journal)) (sym c.refused.ensures) (not_served c.args.rank c.args.journal (sym c.is_served.ensures ∙ c.if-not-is_served.true))

pub returns-then-not-are_known-clause-told : goal.returns-then-not-are_known-clause-told
returns-then-not-are_known-clause-told c =
    let small = subst (λ (n : ℕ). n ≤ 15) c.number-number.ensures.value c.number-number.ensures.range in
    let served = sym c.is_served.ensures ∙ c.if-not-is_served.false in
    let cells = c.in_ok-found.found.cells in
    let writes = ap journal_writes c.into_vec.ensures in
    let table = c.in_ok-found.ensures.cells ∙ ap (overlay (fresh_table c.args.rank)) writes in
    let lumps = λ (n : ℕ). c.in_ok-found.ensures.lumps n ∙ ap (lumps_known c.args.rank n) writes in
    let known = known_is c.args.rank small c.args.journal c.requires.header.layout served c.are_known.result c.next_ino.result (table_of cells) c.in_ok-found.found.lumps c.are_known.ensures lumps c.next_ino.ensures table in
    subst (λ (w : JournalRefusal). IsDamageOf w (replayed_of c.args.rank c.args.journal)) (sym c.refused-then-not-are_known.ensures)
    (has_strange c.args.rank small c.args.journal c.requires.header.layout served (sym known ∙ c.if-not-are_known.true))

pub returns-in-Ok-clause-told : goal.returns-in-Ok-clause-told
returns-in-Ok-clause-told c =
    let small = subst (λ (n : ℕ). n ≤ 15) c.number-number.ensures.value c.number-number.ensures.range in
    let served = sym c.is_served.ensures ∙ c.if-not-is_served.false in
    let cells = c.in_ok-found.found.cells in
    let writes = ap journal_writes c.into_vec.ensures in
    let table = c.in_ok-found.ensures.cells ∙ ap (overlay (fresh_table c.args.rank)) writes in
    let lumps = λ (n : ℕ). c.in_ok-found.ensures.lumps n ∙ ap (lumps_known c.args.rank n) writes in
    let known = known_is c.args.rank small c.args.journal c.requires.header.layout served c.are_known.result c.next_ino.result (table_of cells) c.in_ok-found.found.lumps c.are_known.ensures lumps c.next_ino.ensures table in
    cached c.args.rank small c.args.journal c.requires.header.layout served _ cells refl refl c.in-Ok.ensures.holds table c.in-Ok.ensures.cache (sym known ∙ c.if-not-are_known.false)

pub returns-in-Err-NotTree-clause-told : goal.returns-in-Err-NotTree-clause-told
returns-in-Err-NotTree-clause-told c =
    let small = subst (λ (n : ℕ). n ≤ 15) c.number-number.ensures.value c.number-number.ensures.range in
    let served = sym c.is_served.ensures ∙ c.if-not-is_served.false in
    let cells = c.in_ok-found.found.cells in
    let writes = ap journal_writes c.into_vec.ensures in
    let table = c.in_ok-found.ensures.cells ∙ ap (overlay (fresh_table c.args.rank)) writes in
    let lumps = λ (n : ℕ). c.in_ok-found.ensures.lumps n ∙ ap (lumps_known c.args.rank n) writes in
    let known = known_is c.args.rank small c.args.journal c.requires.header.layout served c.are_known.result c.next_ino.result (table_of cells) c.in_ok-found.found.lumps c.are_known.ensures lumps c.next_ino.ensures table in
    let damage = subst (IsRefusal (own_damage c.args.rank (table_of c.in_ok-found.found.cells))) c.in-Err-NotTree.field-0-is c.in-Err-NotTree.ensures.refused in
    subst (λ (w : JournalRefusal). IsDamageOf w (replayed_of c.args.rank c.args.journal)) (sym c.refused-in-Err-NotTree.ensures)
    (uncached c.args.rank small c.args.journal c.requires.header.layout served c.in-Err-NotTree.field-0-0 cells table damage (sym known ∙ c.if-not-are_known.false))
