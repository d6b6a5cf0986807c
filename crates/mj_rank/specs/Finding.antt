-- What a mount finds in a store: the live journal, and the cells that its events make of a formatted store's.
--     found_in    of a store's contents
--     Finds       what a mount is answered, against that
use Rattle.std.specs.Prelude.{◌≡◌, ℕ, ◌^◌, nat_lt, if◌then◌else◌, Result, Ok, Err}
use Rattle.mj_base.specs.Reading.{◌>>=◌}
use Rattle.mj_base.specs.declared.damage.Damage.{Damage}
use Rattle.mj_base.specs.declared.damage.Damage.TheVariants.{Unbuilt}
use Rattle.mj_store.specs.Object.{Contents}
use Rattle.mj_cache.specs.Cached.{early_table, early_tree}
use Rattle.mj_recovery.specs.Recovered.{Recovery}
use Rattle.mj_replay.specs.Replayed.{replayed_in}
use Rattle.mj_rank.specs.declared.found.Found.{Found}
use Rattle.mj_rank.specs.declared.refusal.MountRefusal.{MountRefusal}
use Rattle.mj_rank.specs.declared.refusal.MountRefusal.TheVariants as refusal

-- A header can say where the journal ends. (It ends at the last position of all only where every position has a byte.)
abbrev pub below_end : Recovery → Result Recovery Damage
below_end r = if nat_lt r.journal.tail (2 ^ 62) then Ok r else Err Unbuilt

-- The first damage of the header and the events, or what they come to over a formatted store's cells.
abbrev pub found_in : ℕ → Contents → Result Recovery Damage
found_in rank image = replayed_in rank image >>= below_end

-- ---- what a mount takes of it

pub record IsFoundIn (found : Found) (r : Recovery) : Type 0 where
  pub header : found.header ≡ r.journal.header
  pub tail : found.tail ≡ r.journal.tail
  pub table : early_table found.cache ≡ r.table
  pub tree : early_tree found.cache ≡ r.tree

abbrev pub IsFound : Found → Result Recovery Damage → Type 0
IsFound found (Ok r) = IsFoundIn found r
IsFound found (Err d) = ⊥

-- The damage is that one. Want of memory is free.
abbrev pub IsRefused : MountRefusal → Result Recovery Damage → Type 0
IsRefused (refusal.Damage d) r = r ≡ Err d
IsRefused _ r = Unit {0}

abbrev pub Finds : Result Found MountRefusal → Result Recovery Damage → Type 0
Finds (Ok found) r = IsFound found r
Finds (Err e) r = IsRefused e r
