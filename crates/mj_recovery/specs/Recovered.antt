-- What an image recovers to.
use Rattle.std.specs.Prelude.{◌≡◌, ℕ, Bool, true, false, ◌||◌, List, [], ◌∷◌, filter, is_none, is_some, if◌then◌else◌, Option, None, Some, option_map, option_and_then, Result, Ok, Err, ◌==◌}
use Rattle.std.specs.List.{flat_map}
use Rattle.mj_maps.specs.Map.{entries, get}
use Rattle.mj_base.specs.Reading.{◌>>=◌}
use Rattle.mj_base.specs.declared.object.ObjectName.{ObjectName}
use Rattle.mj_base.specs.declared.object.ObjectName.TheVariants.{File, InoTable, SessionMap}
use Rattle.mj_base.specs.declared.damage.Damage.{Damage}
use Rattle.mj_base.specs.declared.damage.Damage.TheVariants as damage
use Rattle.mj_store.specs.Object.{Content, Contents}
use Rattle.mj_tree.specs.State.{PlainState}
use Rattle.mj_cells.specs.declared.cell.CellWrite.{CellWrite}
use Rattle.mj_cells.specs.Table.{Table, no_cells, overlay}
use Rattle.mj_recovery.specs.declared.journal.LiveEvent.{LiveEvent}
use Rattle.mj_recovery.specs.declared.journal.LiveJournal.{LiveJournal}
use Rattle.mj_recovery.specs.Objects.{Objects, Holds}
use Rattle.mj_recovery.specs.Stored.{object_cells, bad_key}
use Rattle.mj_recovery.specs.Journal.{live_journal, journal_writes}
use Rattle.mj_recovery.specs.Tree.{holding, tree_of}
use Rattle.mj_recovery.specs.Damage.{first_some, least, tree_damage, lump_dirs}

-- ---- the merged table

-- the tables of other ranks are not this one's
abbrev pub is_of_rank : ℕ → ObjectName → Bool
is_of_rank rank (File ino index) = true
is_of_rank rank (InoTable r) = r == rank
is_of_rank rank (SessionMap r) = r == rank

abbrev pub rank_cells : ℕ → ObjectName × Content → List CellWrite
rank_cells rank e = if is_of_rank rank e.0 then object_cells e.0 e.1 else []

-- the cells that objects store
unfoldable pub stored_table : ℕ → Objects → Table
stored_table rank m = overlay no_cells (flat_map (rank_cells rank) (entries m))

-- For each key the last write in the journal, and else what is stored.
abbrev pub merged_table : ℕ → Objects → List LiveEvent → Table
merged_table rank m events = overlay (stored_table rank m) (journal_writes events)

-- ---- objects outside the format

abbrev pub is_bad : ObjectName → Option Content → Bool
is_bad name None = false
is_bad name (Some o) = is_some (bad_key name o)

abbrev pub lacks_head : Option Content → Bool
lacks_head None = true
lacks_head (Some o) = is_none o.head

-- A table that is there has to be inside the format. That of inodes has to be there, with its head; no session table is an empty one.
abbrev pub bad_table : Contents → ℕ → Option Damage
bad_table image rank =
    if lacks_head (image (InoTable rank)) || is_bad (InoTable rank) (image (InoTable rank)) then Some (damage.TableBad (InoTable rank))
    else if is_bad (SessionMap rank) (image (SessionMap rank)) then Some (damage.TableBad (SessionMap rank)) else None

-- the first wrong key of a directory's object
abbrev pub bad_key_of : Contents → ℕ → Option (List ℕ)
bad_key_of image d = option_and_then (bad_key (File d 0)) (image (File d 0))

-- the least of these directories whose object is outside the format
abbrev pub bad_dirfrag : Contents → List ℕ → Option Damage
bad_dirfrag image dirs = option_and_then named (least (filter (λ d. is_some (bad_key_of image d)) dirs))
  where
    named : ℕ → Option Damage
    named d = option_map (damage.DirfragBad d) (bad_key_of image d)

-- ---- recovery

-- the header and the events, the merged table, and its tree
pub record Recovery : Type 0 where
  pub journal : LiveJournal
  pub table : Table
  pub tree : PlainState

abbrev pub or_damage : {A : Type 0} → Option Damage → A → Result A Damage
or_damage None x = Ok x
or_damage (Some d) x = Err d

-- the damage of the merged table and of the objects that it is from
abbrev pub merged_damage : ℕ → Objects → LiveJournal → Table → Option Damage
merged_damage rank m j t = first_some (
    bad_table (get m) rank
    ∷ bad_dirfrag (get m) (holding rank t)
    ∷ tree_damage rank t (lump_dirs (journal_writes j.events))
    ∷ [])

-- what stands before it is judged
abbrev pub merged_with : ℕ → Objects → LiveJournal → Recovery
merged_with rank m j = let t = merged_table rank m j.events in record { journal = j; table = t; tree = tree_of rank t }

-- the live journal with the merged table and its tree, or the first damage of the journal
abbrev pub gathered : ℕ → Objects → Result Recovery Damage
gathered rank m = live_journal (get m) rank >>= λ j. Ok (merged_with rank m j)

-- what a journal recovers to over the cells that objects store
abbrev pub rebuilt : ℕ → Objects → LiveJournal → Result Recovery Damage
rebuilt rank m j = or_damage (merged_damage rank m j (merged_table rank m j.events)) (merged_with rank m j)

-- The first damage, or the tree of the merged table.
unfoldable pub recovered : ℕ → Objects → Result Recovery Damage
recovered rank m = gathered rank m >>= λ r. or_damage (merged_damage rank m r.journal r.table) r

-- An image recovers to this.
pub record RecoversTo (rank : ℕ) (image : Contents) (r : Recovery) : Type 0 where
  pub objects : Objects
  pub holds : Holds image objects
  pub recovers : recovered rank objects ≡ Ok r
