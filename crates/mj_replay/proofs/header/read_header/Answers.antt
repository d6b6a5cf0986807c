use Rattle.std.proofs.Common.{◌≡◌, ℕ, List, length, Option, None, Some, Result, refl, ap, sym, subst, ◌∙◌}
use Rattle.std.specs.Prelude.{option_map}
use Rattle.mj_base.specs.declared.object.ObjectName.{ObjectName}
use Rattle.mj_store.specs.Object.{Content}
use Rattle.mj_store.specs.State.{contents}
use Rattle.mj_store.specs.Moves.{HasBytes, HasSize, bytes_from}
use Rattle.mj_layout.specs.Header.{header_of}
use Rattle.mj_layout.specs.declared.Header.{Header}
use Rattle.mj_recovery.specs.Journal.{header_in, live_header, of_format}
use Rattle.mj_recovery.specs.Stream.{journal_object}
use Rattle.mj_replay.specs.Fronts.{IsFrontOf}
use Rattle.mj_replay.specs.Replays.{Gives, Fails}
use Rattle.mj_replay.specs.declared.refusal.JournalRefusal.{JournalRefusal}
use Rattle.mj_probe.proofs.Looking.{found_still, still_after, stays_of, looks_then}
use Rattle.mj_replay.proofs.header.read_header.Goals as goal

absent : (o : Option Content) → None ≡ option_map (λ (c : Content). length c.bytes) o → o ≡ None
absent None e = refl
absent (Some c) e = absurd cc

present : (r : Result Header JournalRefusal) (o : Option Content) (size : ℕ) (bytes : List ℕ) → Some size ≡ option_map (λ (c : Content). length c.bytes) o → bytes ≡ bytes_from 0 70 o
    → ((all : List ℕ) → IsFrontOf all bytes size → Gives r (of_format (header_of all))) → Gives r (header_in o)
present r None size bytes e f g = absurd cc
present r (Some c) size bytes e f g = g c.bytes (record { front = f; size_is = cc })

pub returns-in_default-clause-told : goal.returns-in_default-clause-told
returns-in_default-clause-told g c = λ s is still.
    let told = g.S.ObjectStore.state in
    let name = c.journal_object-name.result in
    let sized = found_still (HasSize c.journal_object-name.result c.in_ok-size.field-0) s (told c.args.store.now) (told c.size.new.self) is still c.in_ok-size.ensures.ok in
    let none = absent (contents s (journal_object c.args.rank 0)) (sym c.in_default.is ∙ (sized ∙ ap (λ (q : ObjectName). option_map (λ (c : Content). length c.bytes) (contents s q)) c.journal_object-name.ensures)) in
    subst (λ (w : JournalRefusal). Fails w (live_header (contents s) c.args.rank)) (sym c.refused.ensures) (ap header_in none)

pub returns-clause-told : goal.returns-clause-told
returns-clause-told g c = λ s is still.
    let told = g.S.ObjectStore.state in
    let sized = found_still (HasSize c.journal_object-name.result c.in_ok-size.field-0) s (told c.args.store.now) (told c.size.new.self) is still c.in_ok-size.ensures.ok in
    let now = still_after s (told c.args.store.now) (told c.size.new.self) is still (stays_of (HasSize c.journal_object-name.result c.in_ok-size.field-0) (told c.args.store.now) (told c.size.new.self) c.in_ok-size.ensures.ok) in
    let read = found_still (HasBytes c.journal_object-name.result 0 70 c.in_ok-bytes.bytes.items) s (told c.size.new.self) (told c.read.new.self) now still c.in_ok-bytes.ensures.ok in
    present c.judged.result (contents s (journal_object c.args.rank 0)) c.in-Some.size c.deref.result.now
    (sym c.in-Some.is ∙ (sized ∙ ap (λ (q : ObjectName). option_map (λ (c : Content). length c.bytes) (contents s q)) c.journal_object-name.ensures))
    (c.deref.ensures.value ∙ (read ∙ ap (λ (q : ObjectName). bytes_from 0 70 (contents s q)) c.journal_object-name.ensures))
    c.judged.ensures.told

pub returns-in_default-clause-looks : goal.returns-in_default-clause-looks
returns-in_default-clause-looks g c =
    let told = g.S.ObjectStore.state in
    record { stays = stays_of (HasSize c.journal_object-name.result c.in_ok-size.field-0) (told c.args.store.now) (told c.size.new.self) c.in_ok-size.ensures.ok; same_list = c.in_ok-size.ensures.same_list; later = c.in_ok-size.ensures.later }

pub returns-in_err-bytes-clause-looks : goal.returns-in_err-bytes-clause-looks
returns-in_err-bytes-clause-looks g c =
    let told = g.S.ObjectStore.state in
    looks_then (record { stays = stays_of (HasSize c.journal_object-name.result c.in_ok-size.field-0) (told c.args.store.now) (told c.size.new.self) c.in_ok-size.ensures.ok; same_list = c.in_ok-size.ensures.same_list; later = c.in_ok-size.ensures.later })
    (record { stays = c.in_err-bytes.ensures.err; same_list = c.in_err-bytes.ensures.same_list; later = c.in_err-bytes.ensures.later })

pub returns-clause-looks : goal.returns-clause-looks
returns-clause-looks g c =
    let told = g.S.ObjectStore.state in
    looks_then (record { stays = stays_of (HasSize c.journal_object-name.result c.in_ok-size.field-0) (told c.args.store.now) (told c.size.new.self) c.in_ok-size.ensures.ok; same_list = c.in_ok-size.ensures.same_list; later = c.in_ok-size.ensures.later })
    (record { stays = stays_of (HasBytes c.journal_object-name.result 0 70 c.in_ok-bytes.bytes.items) (told c.size.new.self) (told c.read.new.self) c.in_ok-bytes.ensures.ok; same_list = c.in_ok-bytes.ensures.same_list; later = c.in_ok-bytes.ensures.later })

pub returns-clause-cause : goal.returns-clause-cause
returns-clause-cause g c = c.judged.ensures.cause _ _
