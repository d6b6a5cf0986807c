-- Images that a script may begin with, and that every stop leaves.
use Rattle.std.specs.Prelude.{◌≡◌, ◌≢◌, ℕ, ◌+◌, ◌-◌, ◌*◌, ◌/◌, ◌^◌, ◌<◌, ◌≤◌, ◌⊎◌, min, List, [], ◌∷◌, Some, None, Contains}
use Rattle.std.specs.List.{AllByRecursion}
use Rattle.mj_base.specs.ObjectName.{hex, stray_ino, first_ino}
use Rattle.mj_base.specs.declared.object.ObjectName.{ObjectName}
use Rattle.mj_base.specs.declared.object.ObjectName.TheVariants.{File}
use Rattle.mj_store.specs.Object.{Content, Contents}
use Rattle.mj_layout.specs.Striping.{Striping, period}
use Rattle.mj_tree.specs.State.{root}
use Rattle.mj_cells.specs.declared.cell.CellKey.{CellKey}
use Rattle.mj_cells.specs.declared.cell.CellKey.TheVariants as key
use Rattle.mj_cells.specs.declared.cell.CellValue.{CellValue}
use Rattle.mj_cells.specs.declared.cell.CellValue.TheVariants as value
use Rattle.mj_cells.specs.declared.cell.CellWrite.{CellWrite}
use Rattle.mj_event.specs.Writes.{write, writes_of}
use Rattle.mj_recovery.specs.declared.journal.LiveEvent.{LiveEvent}
use Rattle.mj_recovery.specs.Stream.{journal_object}
use Rattle.mj_recovery.specs.Stored.{object_cells, bad_key}
use Rattle.mj_recovery.specs.Journal.{journal_writes}
use Rattle.mj_recovery.specs.Damage.{lump_dirs}
use Rattle.mj_recovery.specs.Recovered.{Recovery, RecoversTo}

-- the root, stray, or an inode of the rank
abbrev pub IsOfRank : ℕ → ℕ → Type 0
IsOfRank rank d = (d ≡ root) ⊎ ((d ≡ stray_ino rank) ⊎ (first_ino rank ≤ d))

-- the root, stray, or an inode that the rank has given
abbrev pub IsOwn : ℕ → ℕ → ℕ → Type 0
IsOwn rank next d = (d ≡ root) ⊎ ((d ≡ stray_ino rank) ⊎ ((first_ino rank ≤ d) × (d < next)))

-- a full dentry carries an inode of the rank
abbrev pub HasHighInode : ℕ → CellWrite → Type 0
HasHighInode rank w = by_value w.value
  where
    by_value : CellValue → Type 0
    by_value (value.Full version r) = first_ino rank ≤ r.ino
    by_value _ = Unit {0}

-- a dentry of stray is named by its inode
abbrev pub HasStrayName : ℕ → CellWrite → Type 0
HasStrayName rank w = by_parts w.key w.value
  where
    named : ℕ → List ℕ → ℕ → Type 0
    named d name i = d ≡ stray_ino rank → name ≡ hex i

    by_parts : CellKey → CellValue → Type 0
    by_parts (key.Dentry d name) (value.Full version r) = named d name r.ino
    by_parts (key.Dentry d name) (value.Remote version i kind) = named d name i
    by_parts _ _ = Unit {0}

-- a head is not 0
abbrev pub HasNoZeroHead : CellWrite → Type 0
HasNoZeroHead w = by_parts w.key w.value
  where
    by_parts : CellKey → CellValue → Type 0
    by_parts (key.DirHead d) (value.Number n) = n ≢ 0
    by_parts _ _ = Unit {0}

abbrev pub EachStored : Contents → (CellWrite → Type 0) → Type 0
EachStored image P = (name : ObjectName) (o : Content) → image name ≡ Some o → AllByRecursion P (object_cells name o)

abbrev pub Writes : List CellWrite → CellKey → Type 0
Writes ws k = (v : CellValue) × Contains ws (write k v)

-- Where an event gives a directory the head version 1, each key that its object holds is written by that event or a later one.
abbrev pub AreMadeWhole : Contents → List LiveEvent → Type 0
AreMadeWhole image [] = Unit {0}
AreMadeWhole image (e ∷ es) =
    ((d : ℕ) (o : Content) → Contains (writes_of e.event) (write (key.DirHead d) (value.Number 1)) → image (File d 0) ≡ Some o
    → AllByRecursion (λ (c : CellWrite). Writes (journal_writes (e ∷ es)) c.key) (object_cells (File d 0) o))
    × AreMadeWhole image es

-- No cell that may yet come to light is one that the rank would not write.
pub record IsOrderly (rank : ℕ) (image : Contents) (events : List LiveEvent) (next : ℕ) : Type 0 where
  pub lumps : AllByRecursion (IsOwn rank next) (lump_dirs (journal_writes events))
  pub live_inodes : AllByRecursion (HasHighInode rank) (journal_writes events)
  pub stored_inodes : EachStored image (HasHighInode rank)
  pub inside : (d : ℕ) (o : Content) → IsOfRank rank d → image (File d 0) ≡ Some o → bad_key (File d 0) o ≡ None
  pub given : (d : ℕ) (o : Content) → first_ino rank ≤ d → image (File d 0) ≡ Some o → d < next
  pub stray_names : AllByRecursion (HasStrayName rank) (journal_writes events)
  pub live_heads : AllByRecursion HasNoZeroHead (journal_writes events)
  pub stored_heads : EachStored image HasNoZeroHead
  pub made : AreMadeWhole image events

-- ---- what the window above a tail reaches

-- the greatest index of the set of a position
abbrev pub last_index : Striping → ℕ → ℕ
last_index layout x = x / period layout * layout.sc + layout.sc - 1

abbrev pub window_end : Striping → ℕ → ℕ
window_end layout tail = min (tail + 4 * period layout - 1) (2 ^ 62 - 1)

-- no journal object of a later set has bytes
abbrev pub IsClearBeyond : ℕ → Striping → ℕ → Contents → Type 0
IsClearBeyond rank layout tail image = (index : ℕ) (o : Content) → last_index layout (window_end layout tail) < index → image (journal_object rank index) ≡ Some o → o.bytes ≡ []

-- ---- the image has this recovered tree

pub record HasRecoveredTree (rank : ℕ) (image : Contents) (r : Recovery) : Type 0 where
  pub recovers : RecoversTo rank image r
  pub tail : r.journal.tail < 2 ^ 62
  pub clear : IsClearBeyond rank r.journal.header.layout r.journal.tail image
  pub next : first_ino rank ≤ r.tree.next
  pub orderly : IsOrderly rank image r.journal.events r.tree.next
