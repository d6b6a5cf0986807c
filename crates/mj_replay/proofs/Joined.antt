-- A piece, and the stream behind it.
use Rattle.std.proofs.Common.{◌≡◌, inl, inr, ℕ, ◌-◌, ◌^◌, ◌<◌, ◌≤◌, List, ◌++◌, drop, length, Result, sym, ap, ◌∙◌, arith}
use Rattle.std.proofs.lemmas.Bool.{cases_lt}
use Rattle.mj_base.specs.declared.damage.Damage.{Damage}
use Rattle.mj_store.specs.Object.{Contents}
use Rattle.mj_layout.specs.Striping.{Striping}
use Rattle.mj_recovery.specs.Stream.{stream_of, stream, probed_end}
use Rattle.mj_recovery.specs.declared.journal.Entries.{Entries}
use Rattle.mj_recovery.specs.declared.journal.LiveEvent.{LiveEvent}
use Rattle.mj_replay.specs.Pieces.{MayFollow, behind, entries_from}
use Rattle.mj_replay.specs.Replays.{Fails, IsNoDamage}
use Rattle.mj_replay.specs.declared.refusal.JournalRefusal.{JournalRefusal}
use Rattle.mj_replay.specs.declared.refusal.JournalRefusal.TheVariants as refusal
use Rattle.mj_replay.proofs.Streams.{stream_joined, stream_later, none_behind}

pub no_damage : (X : Type 0) (why : JournalRefusal) (r : Result X Damage) → IsNoDamage why → Fails why r
no_damage X (refusal.Damage d) r h = absurd h
no_damage X (refusal.Store fault) r h = tt
no_damage X refusal.Memory r h = tt

module _ (image : Contents) (rank : ℕ) (layout : Striping) where
  pub follows : (keep to end : ℕ) → (to < end → keep ≡ 65536) → (end ≤ to → keep ≡ 0) → to ≤ end → end ≡ probed_end image rank layout to → MayFollow keep (stream image rank layout to)
  follows keep to end some none h e = elim (cases_lt to end) [
    | inl lt ↦ inl (omega (arith, some lt))
    | inr le ↦ inr (none_behind image rank layout to (omega (arith, e, le, h)))
  ]

  -- the entries from a piece on are those of the piece and what is behind it
  pub piece_first : (es : List LiveEvent) (bytes : List ℕ) (here to write : ℕ) (all : Result Entries Damage) → here ≤ to → to ≤ 2 ^ 62 → bytes ≡ stream_of image rank layout (to - here) here → length bytes ≡ to - here
      → behind es (entries_from (stream image rank layout here) here write) ≡ all → behind es (entries_from (bytes ++ stream image rank layout to) here write) ≡ all
  piece_first es bytes here to write all a b e len found = ap (λ (bs : List ℕ). behind es (entries_from bs here write)) (sym (stream_joined image rank layout bytes here to a b e len)) ∙ found

  pub piece_then : (es new : List LiveEvent) (bytes : List ℕ) (here next to write : ℕ) (all : Result Entries Damage) → here ≤ to → to ≤ 2 ^ 62 → bytes ≡ stream_of image rank layout (to - here) here → length bytes ≡ to - here
      → here ≤ next → next ≤ 2 ^ 62 → next ≤ probed_end image rank layout here
      → behind es (entries_from (bytes ++ stream image rank layout to) here write) ≡ behind new (entries_from (drop (next - here) (bytes ++ stream image rank layout to)) next write)
      → behind es (entries_from (stream image rank layout here) here write) ≡ all → behind new (entries_from (stream image rank layout next) next write) ≡ all
  piece_then es new bytes here next to write all a b e len c d f read found =
      ap (λ (bs : List ℕ). behind new (entries_from bs next write)) (sym (ap (drop (next - here)) (sym (stream_joined image rank layout bytes here to a b e len)) ∙ stream_later image rank layout here next c d f))
      ∙ (sym read ∙ piece_first es bytes here to write all a b e len found)
