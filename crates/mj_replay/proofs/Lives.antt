-- The journal by its parts.
use Rattle.std.proofs.Common.{◌≡◌, ℕ, ◌+◌, ◌≤◌, List, length, Result, Ok, Err, ap, ◌∙◌}
use Rattle.std.specs.Prelude.{nat_lt}
use Rattle.std.proofs.lemmas.Bool.{cond-false, le-ltb}
use Rattle.mj_base.specs.Reading.{◌>>=◌}
use Rattle.mj_base.specs.declared.damage.Damage.{Damage}
use Rattle.mj_base.specs.declared.damage.Damage.TheVariants as damage
use Rattle.mj_store.specs.Object.{Contents}
use Rattle.mj_layout.specs.declared.Header.{Header}
use Rattle.mj_recovery.specs.Stream.{stream}
use Rattle.mj_recovery.specs.declared.journal.Entries.{Entries}
use Rattle.mj_recovery.specs.Journal.{beginning, live_header, live_entries, journal_from, live_journal}
use Rattle.mj_replay.specs.Pieces.{entries_from}
use Rattle.mj_replay.specs.Replays.{Fails}
use Rattle.mj_replay.specs.declared.refusal.JournalRefusal.{JournalRefusal}
use Rattle.mj_replay.specs.declared.refusal.JournalRefusal.TheVariants as refusal

live_is : (bytes : List ℕ) (expire write : ℕ) → write ≤ expire + length bytes → live_entries bytes expire write ≡ (entries_from bytes expire write >>= beginning)
live_is bytes expire write h = cond-false (nat_lt (expire + length bytes) write) (Err (damage.Hole (expire + length bytes))) (entries_from bytes expire write >>= beginning) (le-ltb (expire + length bytes) write h)

pub live_ok : (bytes : List ℕ) (expire write : ℕ) (found : Entries) → write ≤ expire + length bytes → entries_from bytes expire write ≡ Ok found → live_entries bytes expire write ≡ beginning found
live_ok bytes expire write found h e = live_is bytes expire write h ∙ ap (λ (r : Result Entries Damage). r >>= beginning) e

pub live_fails : (why : JournalRefusal) (bytes : List ℕ) (expire write : ℕ) → write ≤ expire + length bytes → Fails why (entries_from bytes expire write) → Fails why (live_entries bytes expire write)
live_fails (refusal.Damage d) bytes expire write h e = live_is bytes expire write h ∙ ap (λ (r : Result Entries Damage). r >>= beginning) e
live_fails (refusal.Store fault) bytes expire write h e = tt
live_fails refusal.Memory bytes expire write h e = tt

pub journal_fails : (why : JournalRefusal) (image : Contents) (rank : ℕ) (h : Header) → live_header image rank ≡ Ok h → Fails why (live_entries (stream image rank h.layout h.expire) h.expire h.write) → Fails why (live_journal image rank)
unfolding journal_from
journal_fails (refusal.Damage d) image rank h e f =
    ap (λ (r : Result Header Damage). r >>= λ x. journal_from image rank x) e
    ∙ ap (λ (r : Result Entries Damage). r >>= λ x. Ok (record { header = h; events = x.events; tail = x.tail })) f
journal_fails (refusal.Store fault) image rank h e f = tt
journal_fails refusal.Memory image rank h e f = tt
