-- What a rank's journal comes to over the cells of a formatted store.
--     replayed_in   of a store's contents
--     Replays       what a replay is answered, against that
use Rattle.std.specs.Prelude.{◌≡◌, ℕ, Bool, ◌==◌, if◌then◌else◌, Result, Ok, Err}
use Rattle.mj_base.specs.Reading.{◌>>=◌}
use Rattle.mj_base.specs.declared.damage.Damage.{Damage}
use Rattle.mj_base.specs.declared.damage.Damage.TheVariants.{Unbuilt}
use Rattle.mj_store.specs.Object.{Contents}
use Rattle.mj_layout.specs.Striping.{period}
use Rattle.mj_recovery.specs.Formatted.{formatted_objects}
use Rattle.mj_recovery.specs.Journal.{live_journal}
use Rattle.mj_recovery.specs.Objects.{objects_of}
use Rattle.mj_recovery.specs.Recovered.{Recovery, rebuilt}
use Rattle.mj_recovery.specs.declared.journal.LiveJournal.{LiveJournal}
use Rattle.mj_cache.specs.Cached.{early_table, early_tree}
use Rattle.mj_replay.specs.declared.replaying.Replayed.{Replayed}
use Rattle.mj_replay.specs.declared.refusal.JournalRefusal.{JournalRefusal}
use Rattle.mj_replay.specs.declared.refusal.JournalRefusal.TheVariants as refusal

-- ---- what a journal comes to

-- nothing was expired
abbrev pub is_served : LiveJournal → Bool
is_served j = j.header.expire == period j.header.layout

-- the table and its tree, where it has one
abbrev pub or_unbuilt : Result Recovery Damage → Result Recovery Damage
or_unbuilt (Ok r) = Ok r
or_unbuilt (Err d) = Err Unbuilt

-- over the cells of a formatted store
abbrev pub replayed_of : ℕ → LiveJournal → Result Recovery Damage
replayed_of rank j = if is_served j then or_unbuilt (rebuilt rank (objects_of (formatted_objects rank j.header.layout)) j) else Err Unbuilt

-- The first damage of the header and the events, or what the journal comes to.
unfoldable pub replayed_in : ℕ → Contents → Result Recovery Damage
replayed_in rank image = live_journal image rank >>= replayed_of rank

-- ---- what a replay is answered

-- the header, where the journal ends, and the table with its tree as the cache of a rank
pub record IsReplay (rank : ℕ) (x : Replayed) (r : Recovery) : Type 0 where
  pub of_rank : x.cache.rank ≡ rank
  pub header : x.header ≡ r.journal.header
  pub tail : x.tail ≡ r.journal.tail
  pub table : early_table x.cache ≡ r.table
  pub tree : early_tree x.cache ≡ r.tree

abbrev pub IsReplayOf : ℕ → Replayed → Result Recovery Damage → Type 0
IsReplayOf rank x (Ok r) = IsReplay rank x r
IsReplayOf rank x (Err d) = ⊥

-- The damage is that one. A fault and want of memory are free.
abbrev pub IsDamageOf : JournalRefusal → Result Recovery Damage → Type 0
IsDamageOf (refusal.Damage d) r = r ≡ Err d
IsDamageOf _ r = Unit {0}

abbrev pub Replays : ℕ → Result Replayed JournalRefusal → Result Recovery Damage → Type 0
Replays rank (Ok x) r = IsReplayOf rank x r
Replays rank (Err why) r = IsDamageOf why r
