-- The event of an accepted request, over a table and its tree.
use Rattle.std.specs.Prelude.{ℕ, Bool, ◌+◌, max, nat_lt, List, [], ◌∷◌, map, Option, Some, None, if◌then◌else◌, unwrap_or, ◌==◌, ◌&&◌}
use Rattle.mj_base.specs.ObjectName.{hex, stray_ino}
use Rattle.mj_base.specs.Record.{same_kind}
use Rattle.mj_base.specs.declared.record.Kind.{Kind}
use Rattle.mj_base.specs.declared.record.Kind.TheVariants as kind
use Rattle.mj_base.specs.declared.record.InodeRecord.{InodeRecord}
use Rattle.mj_maps.specs.Map.{Map, entries, get, remove, retain}
use Rattle.mj_maps.specs.Orders.{nat_cmp}
use Rattle.mj_tree.specs.declared.change.Attributes.{Attributes}
use Rattle.mj_tree.specs.declared.request.ClientRequest.{ClientRequest}
use Rattle.mj_tree.specs.State.{PlainState, Session, root, link_count, is_kept, record_of}
use Rattle.mj_tree.specs.Sessions.{session_at}
use Rattle.mj_tree.specs.Change.{set_in}
use Rattle.mj_tree.specs.declared.change.Settings.{Settings}
use Rattle.mj_tree.specs.Row.{is_open}
use Rattle.mj_cells.specs.Table.{Table}
use Rattle.mj_meta.specs.declared.HeadBit.TheVariants as head
use Rattle.mj_meta.specs.declared.RemoteBit.{RemoteBit}
use Rattle.mj_meta.specs.declared.DirLump.{DirLump}
use Rattle.mj_event.specs.declared.SessionKind.TheVariants.{Open, Close}
use Rattle.mj_event.specs.declared.UpdateEvent.{UpdateEvent}
use Rattle.mj_event.specs.declared.Event.{Event}
use Rattle.mj_event.specs.declared.Event.TheVariants as event
use Rattle.mj_machine.specs.Delta.{op_number, raised, primary}

-- ---- sessions

-- the numbers of kept replies, ascending
abbrev pub tids : Map nat_cmp ℕ → List ℕ
tids m = map (λ (e : ℕ × ℕ). e.0) (entries m)

-- the session of a request's client; where it has none, one that keeps nothing
abbrev pub own_session : PlainState → ClientRequest → Session
own_session s r = session_at s r.client

-- a session begins
abbrev pub open_event : ClientRequest → Event
open_event r = event.Session (record { client = r.client; kind = Open; oldest = r.oldest; tid = r.tid; dropped = [] })

-- a session ends, with its kept replies
abbrev pub close_event : PlainState → ClientRequest → Event
close_event s r = event.Session (record { client = r.client; kind = Close; oldest = r.oldest; tid = r.tid; dropped = tids (own_session s r).kept })

-- the oldest of the session, where the request raises it
abbrev pub raised_oldest : ClientRequest → Session → Option ℕ
raised_oldest r c = if nat_lt c.oldest r.oldest then Some r.oldest else None

-- the replies below the oldest are no more kept
abbrev pub dropped_replies : ClientRequest → Session → List ℕ
dropped_replies r c = tids (retain (λ tid _. nat_lt tid (max c.oldest r.oldest)) c.kept)

-- a request on an inode is accepted, with the next inode where it rises, the file that is opened or released, and the lumps
abbrev pub update_of : PlainState → ClientRequest → ℕ → Option ℕ → Option ℕ → Option ℕ → List DirLump → UpdateEvent
update_of s r i next opened released lumps = record {
  op = op_number r.op;
  client = r.client;
  tid = r.tid;
  ino = i;
  oldest = raised_oldest r (own_session s r);
  dropped = dropped_replies r (own_session s r);
  next = next;
  opened = opened;
  released = released;
  blob = record { lumps = lumps };
}

-- ---- lumps

-- a directory's next version
abbrev pub next_version : Table → ℕ → ℕ
next_version t d = raised (unwrap_or (get t.heads d) 0)

abbrev pub full_lump : ℕ → ℕ → List ℕ → InodeRecord → DirLump
full_lump dir version name inode = record { dir = dir; head = head.At version; full = record { name = name; version = version; inode = inode } ∷ []; remote = []; null = [] }

abbrev pub empty_lump : ℕ → DirLump
empty_lump dir = record { dir = dir; head = head.At 1; full = []; remote = []; null = [] }

-- ---- a new inode

-- the parent with the full dentry, and a new directory by itself
abbrev pub begin_lumps : Table → ℕ → ℕ × List ℕ → Attributes → List DirLump
begin_lumps t i q a = full_lump q.0 (next_version t q.0) q.1 (record_of i 1 a) ∷ (if same_kind a.kind kind.Dir then empty_lump i ∷ [] else [])

abbrev pub begin_event : Table → PlainState → ClientRequest → ℕ × List ℕ → Attributes → Event
begin_event t s r q a = event.Update (update_of s r s.next (Some (s.next + 1)) None None (begin_lumps t s.next q a))

-- ---- a name that is renamed to another of its inode, and a file that is opened

abbrev pub nothing_event : PlainState → ClientRequest → ℕ → Event
nothing_event s r i = event.Update (update_of s r i None None None [])

-- a file that is open already is not opened again
abbrev pub hold_event : PlainState → ClientRequest → ℕ → Event
hold_event s r i = event.Update (update_of s r i None (if is_open s r.client i then None else Some i) None [])

-- ---- attributes that are set

-- where the full dentry of an inode stands
abbrev pub full_place : ℕ → Table → ClientRequest → ℕ → ℕ × List ℕ
full_place rank t r i = unwrap_or (primary rank t r i) (root, [])

abbrev pub says : Settings → Attributes → Bool
says x a = (x.mode == a.mode) && (x.uid == a.uid) && (x.gid == a.gid) && (x.size == a.size) && (x.mtime == a.mtime)

-- what the record says already is not written
abbrev pub set_lumps : Table → PlainState → ℕ × List ℕ → ℕ → Settings → Option Attributes → List DirLump
set_lumps t s p i x None = []
set_lumps t s p i x (Some a) = if says x a then [] else full_lump p.0 (next_version t p.0) p.1 (record_of i (link_count s i) (set_in x a)) ∷ []

abbrev pub set_event : ℕ → Table → PlainState → ClientRequest → ℕ → Settings → Event
set_event rank t s r i x = event.Update (update_of s r i None None None (set_lumps t s (full_place rank t r i) i x (get s.records i)))

-- ---- a second link

abbrev pub remote_bit : List ℕ → ℕ → ℕ → Kind → RemoteBit
remote_bit name version i kind = record { name = name; version = version; ino = i; kind = kind }

abbrev pub remote_lump : ℕ → ℕ → List ℕ → ℕ → Kind → DirLump
remote_lump dir version name i kind = record { dir = dir; head = head.At version; full = []; remote = remote_bit name version i kind ∷ []; null = [] }

abbrev pub both_lump : ℕ → ℕ → List ℕ → InodeRecord → List ℕ → DirLump
both_lump dir version full inode name = record { dir = dir; head = head.At version; full = record { name = full; version = version; inode = inode } ∷ []; remote = remote_bit name version inode.ino inode.kind ∷ []; null = [] }

-- the full dentry at p counts one link more, and a remote one begins at q; lumps go up by directory
abbrev pub second_lumps : Table → ℕ × List ℕ → ℕ × List ℕ → InodeRecord → List DirLump
second_lumps t p q y =
    if p.0 == q.0 then both_lump q.0 (next_version t q.0) p.1 y q.1 ∷ []
    else if nat_lt p.0 q.0 then full_lump p.0 (next_version t p.0) p.1 y ∷ remote_lump q.0 (next_version t q.0) q.1 y.ino y.kind ∷ []
    else remote_lump q.0 (next_version t q.0) q.1 y.ino y.kind ∷ full_lump p.0 (next_version t p.0) p.1 y ∷ []

abbrev pub link_lumps : Table → PlainState → ℕ × List ℕ → ℕ × List ℕ → ℕ → Option Attributes → List DirLump
link_lumps t s p q i None = []
link_lumps t s p q i (Some a) = second_lumps t p q (record_of i (link_count s i + 1) a)

abbrev pub link_event : ℕ → Table → PlainState → ClientRequest → ℕ × List ℕ → ℕ → Event
link_event rank t s r q i = event.Update (update_of s r i None None None (link_lumps t s (full_place rank t r i) q i (get s.records i)))

-- ---- a file is let go

abbrev pub null_lump : ℕ → ℕ → List ℕ → DirLump
null_lump dir version name = record { dir = dir; head = head.At version; full = []; remote = []; null = record { name = name; version = version } ∷ [] }

-- a record that nothing keeps any more goes from stray
abbrev pub release_lumps : ℕ → Table → PlainState → ℕ → ℕ → List DirLump
release_lumps rank t s client i =
    if is_kept (record s { opens = remove s.opens (client, i) }) i then []
    else null_lump (stray_ino rank) (next_version t (stray_ino rank)) (hex i) ∷ []

abbrev pub release_event : ℕ → Table → PlainState → ClientRequest → ℕ → Event
release_event rank t s r i = event.Update (update_of s r i None None (Some i) (release_lumps rank t s r.client i))
