-- A header's expire is a position, the entries of a whole stream are those of one piece, and the journal by its parts.
use Rattle.std.specs.Prelude.{if◌then◌else◌}
use Rattle.std.proofs.lemmas.Bool.{ltb-true, leb-true}
use Rattle.std.proofs.lemmas.List.{append-nil}
use Rattle.std.proofs.Common.{◌<◌, ◌≡◌, ℕ, ◌+◌, ◌≤◌, ◌^◌, true, false, length, arith, subst, List, [], ◌++◌, Result, Ok, Err, refl, ap, sym, ◌∙◌, inr}
use Rattle.mj_base.specs.Reading.{◌>>=◌}
use Rattle.mj_base.specs.declared.damage.Damage.{Damage}
use Rattle.mj_store.specs.Object.{Contents}
use Rattle.mj_layout.specs.declared.Header.{Header}
use Rattle.mj_layout.specs.declared.HeaderRefusal.{HeaderRefusal}
use Rattle.mj_layout.specs.declared.HeaderRefusal.TheVariants.{HeaderOrder}
use Rattle.mj_layout.specs.Header.{is_ordered, in_its_order, header_of, fields_at}
use Rattle.mj_recovery.specs.declared.journal.Entries.{Entries}
use Rattle.mj_recovery.specs.declared.journal.LiveEvent.{LiveEvent}
use Rattle.mj_recovery.specs.Journal.{live_header, live_entries, journal_from, live_journal}
use Rattle.mj_recovery.specs.Stream.{stream}
use Rattle.mj_recovery.proofs.Bools.{first, second}
use Rattle.mj_recovery.proofs.Probing.{end_at_most}
use Rattle.mj_recovery.proofs.Steps.{journal_ok}
use Rattle.mj_replay.specs.Pieces.{entries_from, behind, Reads, Refuses, EndsIn}
use Rattle.mj_replay.specs.Replays.{Fails}
use Rattle.mj_replay.specs.declared.piece.Piece.{Piece}
use Rattle.mj_replay.specs.declared.piece.Piece.TheVariants.{More, Tail}
use Rattle.mj_replay.specs.declared.refusal.JournalRefusal.{JournalRefusal}
use Rattle.mj_replay.specs.declared.refusal.JournalRefusal.TheVariants as refusal
use Rattle.mj_replay.proofs.Lives.{journal_fails}
use Rattle.mj_recovery_tests.specs.Places.{place_of}

within : (a b c : ℕ) → a ≤ b → b < c → a ≤ c
within a b c le lt = omega arith

ordered_expire : (h : Header) → is_ordered h ≡ true → h.expire ≤ 2 ^ 62
ordered_expire h o = within h.expire h.write (2 ^ 62) (leb-true h.expire h.write (second _ _ (first _ _ o))) (ltb-true h.write (2 ^ 62) (second _ _ o))

in_order_expire : (len : ℕ) (r : Result Header ℕ) (h : Header) → in_its_order len r ≡ Ok h → h.expire ≤ 2 ^ 62
in_order_expire len (Err left) h e = absurd cc
in_order_expire len (Ok k) h e = elim (is_ordered k) as (λ b. is_ordered k ≡ b → (if b then Ok k else Err HeaderOrder) ≡ Ok h → h.expire ≤ 2 ^ 62) [
  | true ↦ λ o g. subst (λ (x : Header). x.expire ≤ 2 ^ 62) (same_header k h g) (ordered_expire k o)
  | false ↦ λ o g. absurd cc
] refl e
  where
    same_header : (a b : Header) → ◌≡◌ {A = Result Header HeaderRefusal} (Ok a) (Ok b) → a ≡ b
    same_header a b e = cc

pub header_expire : (bytes : List ℕ) (h : Header) → header_of bytes ≡ Ok h → h.expire ≤ 2 ^ 62
header_expire bytes h e = in_order_expire (length bytes) (fields_at bytes) h e

-- ---- one piece

behind_nothing : (r : Result Entries Damage) → behind [] r ≡ r
behind_nothing (Ok x) = refl
behind_nothing (Err d) = refl

whole : (bytes : List ℕ) (at write : ℕ) → behind [] (entries_from (bytes ++ []) at write) ≡ entries_from bytes at write
whole bytes at write = behind_nothing (entries_from (bytes ++ []) at write) ∙ ap (λ (bs : List ℕ). entries_from bs at write) (append-nil bytes)

pub piece_whole : (bytes : List ℕ) (at write : ℕ) (old new : List LiveEvent) (p : Piece) → old ≡ [] → EndsIn 0 bytes at write p → Reads 0 bytes at write old new p → entries_from bytes at write ≡ Ok (record { events = new; tail = place_of p })
piece_whole bytes at write old new (Tail tail) none ends reads =
    sym (whole bytes at write) ∙ ap (λ (es : List LiveEvent). behind es (entries_from (bytes ++ []) at write)) (sym none) ∙ reads [] (inr refl)
piece_whole bytes at write old new (More next) none ends reads = absurd (omega (arith, ends.1, ends.2))

pub piece_refused : (bytes : List ℕ) (at write : ℕ) (old : List LiveEvent) (why : JournalRefusal) → old ≡ [] → Refuses 0 bytes at write old why → Fails why (entries_from bytes at write)
piece_refused bytes at write old why none refuses =
    subst (Fails why) (whole bytes at write) (subst (λ (es : List LiveEvent). Fails why (behind es (entries_from (bytes ++ []) at write))) none (refuses [] (inr refl)))

-- ---- the journal

pub header_fails : (why : JournalRefusal) (image : Contents) (rank : ℕ) → Fails why (live_header image rank) → Fails why (live_journal image rank)
header_fails (refusal.Damage d) image rank e = ap (λ (r : Result Header Damage). r >>= λ h. journal_from image rank h) e
header_fails (refusal.Store fault) image rank e = tt
header_fails refusal.Memory image rank e = tt

module _ (image : Contents) (rank : ℕ) (h : Header) (bytes : List ℕ) (header : live_header image rank ≡ Ok h) (same : bytes ≡ stream image rank h.layout h.expire) where
  pub live_fails : (why : JournalRefusal) → Fails why (live_entries bytes h.expire h.write) → Fails why (live_journal image rank)
  live_fails why e = journal_fails why image rank h header (subst (λ (bs : List ℕ). Fails why (live_entries bs h.expire h.write)) same e)

  pub live_found : (found : Entries) → live_entries bytes h.expire h.write ≡ Ok found → live_journal image rank ≡ Ok (record { header = h; events = found.events; tail = found.tail })
  live_found found e = journal_ok image rank h bytes found header same e

  pub live_fits : h.expire ≤ 2 ^ 62 → h.expire + length bytes ≤ 2 ^ 62
  live_fits le = subst (λ (bs : List ℕ). h.expire + length bs ≤ 2 ^ 62) (sym same) (end_at_most image rank h.layout h.expire le)
