-- What a request changes in directories, as a whole, and the lumps that say it.
use Rattle.std.specs.Prelude.{ℕ, ◌-◌, Bool, ◌==◌, ◌&&◌, List, map, filter_map, Option, Some, None, if◌then◌else◌}
use Rattle.mj_base.specs.InOrder.{same_bytes}
use Rattle.mj_base.specs.ObjectName.{hex, stray_ino}
use Rattle.mj_base.specs.declared.record.Kind.{Kind}
use Rattle.mj_base.specs.declared.record.InodeRecord.{InodeRecord}
use Rattle.mj_maps.specs.Map.{Map, entries, get, insert, remove, empty, from_entries}
use Rattle.mj_maps.specs.Orders.{nat_cmp, place_cmp}
use Rattle.mj_tree.specs.declared.change.Attributes.{Attributes}
use Rattle.mj_tree.specs.State.{PlainState, is_dir, is_kept, link_count, record_of}
use Rattle.mj_tree.specs.declared.request.ClientRequest.{ClientRequest}
use Rattle.mj_cells.specs.Table.{Dentry, Table}
use Rattle.mj_cells.specs.Table.Dentry.{Full as FullAt, Remote as RemoteAt}
use Rattle.mj_meta.specs.declared.HeadBit.{HeadBit}
use Rattle.mj_meta.specs.declared.HeadBit.TheVariants as head
use Rattle.mj_meta.specs.declared.FullBit.{FullBit}
use Rattle.mj_meta.specs.declared.RemoteBit.{RemoteBit}
use Rattle.mj_meta.specs.declared.NullBit.{NullBit}
use Rattle.mj_meta.specs.declared.DirLump.{DirLump}
use Rattle.mj_event.specs.declared.Event.{Event}
use Rattle.mj_event.specs.declared.Event.TheVariants as event
use Rattle.mj_delta.specs.Events.{next_version, update_of, full_place}

-- what a dentry says, versions aside: the record of its inode, or the inode and its kind
pub data Naming : Type 0 where
  Full : InodeRecord → Naming
  Remote : ℕ → Kind → Naming

abbrev pub naming : Option Dentry → Option Naming
naming None = None
naming (Some (FullAt version r)) = Some (Full r)
naming (Some (RemoteAt version i kind)) = Some (Remote i kind)

-- What each dentry that changes says afterwards, and nothing where it goes; and the directory that goes.
pub record Plan : Type 0 where
  pub dentries : Map place_cmp (Option Naming)
  pub removed : Option ℕ

-- ---- the lumps of a plan

abbrev pub Planned : Type 0
Planned = (ℕ × List ℕ) × Option Naming

-- the heads that are written: of each directory of a dentry that changes its next version, and of the directory that goes none
abbrev pub touched : Table → Planned → ℕ × HeadBit
touched t e = (e.0.0, head.At (next_version t e.0.0))

abbrev pub without_head : Option ℕ → Map nat_cmp HeadBit → Map nat_cmp HeadBit
without_head None heads = heads
without_head (Some d) heads = insert heads d head.Gone

abbrev pub heads_of : Table → Plan → Map nat_cmp HeadBit
heads_of t plan = without_head plan.removed (from_entries (map (touched t) (entries plan.dentries)))

-- what a directory's lump says of a planned dentry
abbrev pub full_bit : Table → ℕ → Planned → Option FullBit
full_bit t d e = if e.0.0 == d then by_naming e.1 else None
  where
    by_naming : Option Naming → Option FullBit
    by_naming (Some (Full r)) = Some (record { name = e.0.1; version = next_version t d; inode = r })
    by_naming _ = None

abbrev pub remote_bit_of : Table → ℕ → Planned → Option RemoteBit
remote_bit_of t d e = if e.0.0 == d then by_naming e.1 else None
  where
    by_naming : Option Naming → Option RemoteBit
    by_naming (Some (Remote i kind)) = Some (record { name = e.0.1; version = next_version t d; ino = i; kind = kind })
    by_naming _ = None

abbrev pub null_bit : Table → ℕ → Planned → Option NullBit
null_bit t d e = if e.0.0 == d then by_naming e.1 else None
  where
    by_naming : Option Naming → Option NullBit
    by_naming None = Some (record { name = e.0.1; version = next_version t d })
    by_naming _ = None

abbrev pub lump_of : Table → List Planned → ℕ × HeadBit → DirLump
lump_of t es h = record {
  dir = h.0;
  head = h.1;
  full = filter_map (full_bit t h.0) es;
  remote = filter_map (remote_bit_of t h.0) es;
  null = filter_map (null_bit t h.0) es;
}

-- a lump for each head that is written
abbrev pub lumps_of : Table → Plan → List DirLump
lumps_of t plan = map (lump_of t (entries plan.dentries)) (entries (heads_of t plan))

-- ---- a link that ends

abbrev pub is_place : ℕ × List ℕ → ℕ × List ℕ → Bool
is_place p q = (p.0 == q.0) && same_bytes p.1 q.1

-- where the full dentry of an inode that is kept stands once the link at q is gone: where it stood, or in stray
abbrev pub left_place : ℕ → ℕ × List ℕ → ℕ → ℕ × List ℕ → ℕ × List ℕ
left_place rank q i p = if is_place p q then (stray_ino rank, hex i) else p

-- The link at q of the inode i goes, whose full dentry stands at p: so does the full dentry where nothing keeps the inode, and
-- else it counts one link less.
abbrev pub left_dentries : ℕ → PlainState → ℕ × List ℕ → ℕ → ℕ × List ℕ → Option Attributes → Map place_cmp (Option Naming)
left_dentries rank s q i p None = empty
left_dentries rank s q i p (Some a) =
    if is_kept (record s { links = remove s.links q }) i then insert (insert empty (left_place rank q i p) (Some (Full (record_of i (link_count s i - 1) a)))) q None
    else insert (insert empty p None) q None

abbrev pub where_dir : PlainState → ℕ → Option ℕ
where_dir s i = if is_dir s i then Some i else None

abbrev pub unlink_plan : ℕ → PlainState → ℕ × List ℕ → ℕ → ℕ × List ℕ → Plan
unlink_plan rank s q i p = record { dentries = left_dentries rank s q i p (get s.records i); removed = where_dir s i }

-- ---- a name that moves

-- what stands at q goes to r
abbrev pub with_dentry : Table → ℕ × List ℕ → ℕ × List ℕ → Map place_cmp (Option Naming) → Map place_cmp (Option Naming)
with_dentry t q r m = insert (insert m r (naming (get t.dentries q))) q None

abbrev pub move_plan : Table → ℕ × List ℕ → ℕ × List ℕ → Plan
move_plan t q r = record { dentries = with_dentry t q r empty; removed = None }

-- the link at r of the inode j goes before, whose full dentry stands at p
abbrev pub replace_plan : ℕ → Table → PlainState → ℕ × List ℕ → ℕ × List ℕ → ℕ → ℕ × List ℕ → Plan
replace_plan rank t s q r j p = record { dentries = with_dentry t q r (left_dentries rank s r j p (get s.records j)); removed = where_dir s j }

-- ---- their events

-- an accepted request on an inode, with what it changes in directories
abbrev pub plan_event : Table → PlainState → ClientRequest → ℕ → Plan → Event
plan_event t s r i plan = event.Update (update_of s r i None None None (lumps_of t plan))

abbrev pub unlink_event : ℕ → Table → PlainState → ClientRequest → ℕ × List ℕ → ℕ → Event
unlink_event rank t s r q i = plan_event t s r i (unlink_plan rank s q i (full_place rank t r i))

abbrev pub move_event : Table → PlainState → ClientRequest → ℕ × List ℕ → ℕ × List ℕ → ℕ → Event
move_event t s r from to i = plan_event t s r i (move_plan t from to)

abbrev pub replace_event : ℕ → Table → PlainState → ClientRequest → ℕ × List ℕ → ℕ × List ℕ → ℕ → ℕ → Event
replace_event rank t s r from to i j = plan_event t s r i (replace_plan rank t s from to j (full_place rank t r j))
