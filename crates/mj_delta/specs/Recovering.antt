-- Images whose journal carries a history.
use Rattle.std.specs.Prelude.{◌≡◌, ℕ, List, [], ◌++◌, map, Option, None, Ok}
use Rattle.mj_maps.specs.Map.{get}
use Rattle.mj_event.specs.declared.Event.{Event}
use Rattle.mj_cells.specs.Table.{Table, overlay}
use Rattle.mj_recovery.specs.declared.journal.LiveEvent.{LiveEvent}
use Rattle.mj_recovery.specs.declared.journal.LiveJournal.{LiveJournal}
use Rattle.mj_recovery.specs.Objects.{Objects, objects_of}
use Rattle.mj_recovery.specs.Journal.{live_journal}
use Rattle.mj_recovery.specs.Recovered.{merged_table, bad_table, bad_key_of}
use Rattle.mj_recovery.specs.Orderly.{IsOfRank}
use Rattle.mj_recovery.specs.Formatted.{formatted_objects}
use Rattle.mj_layout.specs.Striping.{Striping}
use Rattle.mj_store.specs.Object.{Content}
use Rattle.mj_base.specs.declared.object.ObjectName.TheVariants.{File, InoTable, SessionMap}
use Rattle.std.specs.Option.{option_map}
use Rattle.mj_delta.specs.Histories.{Turn, events, all_writes}

-- the events of a live journal
abbrev pub live_events : LiveJournal → List Event
live_events j = map (λ (e : LiveEvent). e.event) j.events

-- No object is outside the format, the live journal has the last of these turns, and with it the merged table is what all of them make of a table.
pub record HoldsHistory (rank : ℕ) (m : Objects) (j : LiveJournal) (t : Table) (older live : List Turn) : Type 0 where
  pub tables : bad_table (get m) rank ≡ None
  pub dirfrags : (d : ℕ) → IsOfRank rank d → bad_key_of (get m) d ≡ None
  pub journal : live_journal (get m) rank ≡ Ok j
  pub events_are : live_events j ≡ events live
  pub merged : merged_table rank m j.events ≡ overlay t (all_writes (older ++ live))

-- what an object holds beside its bytes
abbrev pub bare : Option Content → Option Content
bare o = option_map (λ (c : Content). record c { bytes = [] }) o

-- The objects of directories and the tables are as in a formatted store, and the live journal has these turns.
pub record HoldsFirst (rank : ℕ) (layout : Striping) (m : Objects) (j : LiveJournal) (live : List Turn) : Type 0 where
  pub dirfrags : (d : ℕ) → bare (get m (File d 0)) ≡ bare (get (objects_of (formatted_objects rank layout)) (File d 0))
  pub inodes : bare (get m (InoTable rank)) ≡ bare (get (objects_of (formatted_objects rank layout)) (InoTable rank))
  pub sessions : bare (get m (SessionMap rank)) ≡ bare (get (objects_of (formatted_objects rank layout)) (SessionMap rank))
  pub journal : live_journal (get m) rank ≡ Ok j
  pub events_are : live_events j ≡ events live
