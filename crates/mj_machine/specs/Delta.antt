-- Which cells the event of a request writes: exactly those that change, by their keys.
use Rattle.std.specs.Prelude.{◌≡◌, ℕ, ◌+◌, ◌-◌, ◌^◌, ◌⊎◌, min, Bool, true, false, not, ◌&&◌, ◌==◌, List, [], ◌∷◌, find, is_some, is_none, if◌then◌else◌, Option, None, Some, option_map, unwrap_or, IsTrue, Contains}
use Rattle.std.specs.Result.{result_ok}
use Rattle.mj_maps.specs.Map.{entries, get}
use Rattle.mj_base.specs.InOrder.{same_bytes}
use Rattle.mj_base.specs.ObjectName.{hex, stray_ino}
use Rattle.mj_base.specs.Record.{record_bytes, same_kind}
use Rattle.mj_base.specs.declared.record.Kind.TheVariants as kind
use Rattle.mj_tree.specs.State as state
use Rattle.mj_tree.specs.State.{PlainState, is_kept, is_kind, link_count, record_of}
use Rattle.mj_tree.specs.Walk.{place}
use Rattle.mj_tree.specs.Answer.{answer, after, changes, kept_reply}
use Rattle.mj_tree.specs.declared.change.Attributes.{Attributes}
use Rattle.mj_tree.specs.declared.request.ClientRequest.{ClientRequest}
use Rattle.mj_tree.specs.declared.request.Op.{Op}
use Rattle.mj_tree.specs.declared.request.Op.TheVariants.{SessionOpen, SessionClose, Mkdir, Create, Symlink, Link, Unlink, Rmdir, Rename, SetAttr, OpenFile, Release}
use Rattle.mj_tree.specs.declared.request.Reply.{Reply}
use Rattle.mj_tree.specs.declared.request.Reply.TheVariants as reply
use Rattle.mj_event.specs.declared.Event.{Event}
use Rattle.mj_event.specs.declared.Event.TheVariants as event
use Rattle.mj_event.specs.declared.SessionKind.{SessionKind}
use Rattle.mj_event.specs.declared.SessionKind.TheVariants.{Open, Close}
use Rattle.mj_event.specs.Event.{IsEvent}
use Rattle.mj_event.specs.Writes.{write, writes_of}
use Rattle.mj_cells.specs.declared.cell.CellKey.{CellKey}
use Rattle.mj_cells.specs.declared.cell.CellKey.TheVariants.{Dentry, DirHead, NextIno, Session, Done, OpenOf}
use Rattle.mj_cells.specs.declared.cell.CellValue.{CellValue}
use Rattle.mj_cells.specs.declared.cell.CellValue.TheVariants.{Full, Remote, Null, Number, Present, Gone}
use Rattle.mj_cells.specs.declared.cell.CellWrite.{CellWrite}
use Rattle.mj_cells.specs.Table.{Table, value_of, dentry_value, overlay}
use Rattle.mj_cells.specs.Table as table
use Rattle.mj_recovery.specs.Tree.{Entry, is_among, reachable, holding, tree_of}

-- two values that say the same, versions aside: null and gone are one
abbrev pub same_content : CellValue → CellValue → Bool
same_content (Full v r) (Full w q) = same_bytes (record_bytes r) (record_bytes q)
same_content (Remote v i k) (Remote w j l) = (i == j) && same_kind k l
same_content (Number n) (Number m) = n == m
same_content Present Present = true
same_content a b = is_nothing a && is_nothing b
  where
    is_nothing : CellValue → Bool
    is_nothing (Null v) = true
    is_nothing Gone = true
    is_nothing _ = false

-- a version rises by one, and the greatest stays
abbrev pub raised : ℕ → ℕ
raised v = min (v + 1) (2 ^ 64 - 1)

module _ (rank : ℕ) (t : Table) (r : ClientRequest) where
  abbrev pub old : PlainState
  old = tree_of rank t

  abbrev pub new : PlainState
  new = after old r

  -- ---- where the full dentry of an inode stands

  abbrev pub is_full_at : List ℕ → ℕ → Entry → Bool
  is_full_at dirs i e = is_among dirs e.0.0 && by_dentry e.1
    where
      by_dentry : table.Dentry → Bool
      by_dentry (table.Dentry.Full v q) = q.ino == i
      by_dentry (table.Dentry.Remote v j k) = false

  abbrev pub primary : ℕ → Option (ℕ × List ℕ)
  primary i = option_map (λ (e : Entry). e.0) (find (is_full_at (holding rank t) i) (entries t.dentries))

  abbrev pub stray_place : ℕ → ℕ × List ℕ
  stray_place i = (stray_ino rank, hex i)

  abbrev pub names : ℕ → Option ℕ → Bool
  names i None = false
  names i (Some j) = i == j

  -- the name that a rename gives
  abbrev pub new_place : Op → Option (ℕ × List ℕ)
  new_place (Rename from to) = result_ok (place old to 22)
  new_place _ = None

  -- A full dentry stays while its name does, goes along with a rename, and else to stray while anything keeps its inode, where
  -- it stays.
  abbrev pub one_of : ℕ → List (Option (ℕ × List ℕ)) → Option (ℕ × List ℕ)
  one_of i [] = if is_kept new i then Some (stray_place i) else None
  one_of i (None ∷ places) = one_of i places
  one_of i (Some q ∷ places) = if names i (get new.links q) then Some q else one_of i places

  -- the link of a new inode
  abbrev pub first_link : ℕ → Option (ℕ × List ℕ)
  first_link i = option_map (λ (e : (ℕ × List ℕ) × ℕ). e.0) (find (λ (e : (ℕ × List ℕ) × ℕ). e.1 == i) (entries new.links))

  abbrev pub primary_from : ℕ → Option (ℕ × List ℕ) → Option (ℕ × List ℕ)
  primary_from i None = first_link i
  primary_from i (Some q) = one_of i (if q.0 == stray_ino rank then [] else Some q ∷ new_place r.op ∷ [])

  abbrev pub new_primary : ℕ → Option (ℕ × List ℕ)
  new_primary i = primary_from i (primary i)

  abbrev pub same_place : ℕ × List ℕ → Option (ℕ × List ℕ) → Bool
  same_place q None = false
  same_place q (Some p) = (q.0 == p.0) && same_bytes q.1 p.1

  -- ---- what a dentry says afterwards, with this version

  abbrev pub full_after : ℕ → ℕ → Option Attributes → CellValue
  full_after version i None = Gone
  full_after version i (Some a) = Full version (record_of i (link_count new i) a)

  abbrev pub remote_after : ℕ → ℕ → Option Attributes → CellValue
  remote_after version i None = Gone
  remote_after version i (Some a) = Remote version i a.kind

  abbrev pub dentry_at : ℕ × List ℕ → ℕ → Option ℕ → CellValue
  dentry_at q version None = Null version
  dentry_at q version (Some i) = if same_place q (new_primary i) then full_after version i (get new.records i) else remote_after version i (get new.records i)

  -- the inode whose full dentry stands in stray under this name
  abbrev pub stray_at : List ℕ → Option ℕ
  stray_at name = option_map (λ (e : ℕ × Attributes). e.0) (find (λ (e : ℕ × Attributes). same_place (stray_ino rank, name) (new_primary e.0)) (entries new.records))

  abbrev pub inode_at : ℕ × List ℕ → Option ℕ
  inode_at q = if q.0 == stray_ino rank then stray_at q.1 else get new.links q

  abbrev pub dentry_after : ℕ × List ℕ → ℕ → CellValue
  dentry_after q version = dentry_at q version (inode_at q)

  -- a record of the old tree
  abbrev pub is_recorded : table.Dentry → Bool
  is_recorded (table.Dentry.Full v q) = is_some (get old.records q.ino)
  is_recorded (table.Dentry.Remote v j k) = false

  -- A dentry is of the old tree where its directory is reachable; in stray, where it is full and its inode has a record.
  abbrev pub is_of_tree : ℕ × List ℕ → table.Dentry → Bool
  is_of_tree q d = if q.0 == stray_ino rank then is_recorded d else is_among (reachable t) q.0

  -- what the old tree knows of a dentry
  abbrev pub known : ℕ × List ℕ → Option table.Dentry → CellValue
  known q None = Gone
  known q (Some d) = if is_of_tree q d then dentry_value (Some d) else Gone

  abbrev pub dentry_before : ℕ × List ℕ → CellValue
  dentry_before q = known q (get t.dentries q)

  abbrev pub is_changed : ℕ × List ℕ → Bool
  is_changed q = not (same_content (dentry_before q) (dentry_after q 0))

  -- ---- heads

  -- a directory is touched where one of its dentries changes
  abbrev pub IsTouched : ℕ → Type 0
  IsTouched d = (name : List ℕ) × IsTrue (is_changed (d, name))

  abbrev pub is_dir_in : PlainState → ℕ → Bool
  is_dir_in s d = is_kind kind.Dir (get s.records d)

  abbrev pub is_made : ℕ → Bool
  is_made d = is_none (get old.records d) && is_dir_in new d

  abbrev pub is_removed : ℕ → Bool
  is_removed d = is_none (get new.records d) && is_dir_in old d

  -- a new directory has version 1, and each other rises by one
  abbrev pub head_version : ℕ → ℕ
  head_version d = if is_made d then 1 else raised (unwrap_or (get t.heads d) 0)

  -- ---- all cells

  abbrev pub number_or_gone : Option ℕ → CellValue
  number_or_gone None = Gone
  number_or_gone (Some n) = Number n

  abbrev pub value_after : CellKey → CellValue
  value_after (Dentry d name) = dentry_after (d, name) (head_version d)
  value_after (DirHead d) = if is_removed d then Gone else Number (head_version d)
  value_after NextIno = Number new.next
  value_after (Session client) = number_or_gone (option_map (λ (c : state.Session). c.oldest) (get new.sessions client))
  value_after (Done client tid) = number_or_gone (kept_reply new client tid)
  value_after (OpenOf client i) = if is_some (get new.opens (client, i)) then Present else Gone

  -- Which keys are written: those whose value changes, and the head of each touched directory.
  abbrev pub IsWritten : CellKey → Type 0
  IsWritten (Dentry d name) = IsTrue (is_changed (d, name))
  IsWritten (DirHead d) = IsTouched d ⊎ (IsTrue (is_made d) ⊎ IsTrue (is_removed d))
  IsWritten k = IsTrue (not (same_content (value_of t k) (value_after k)))

-- ---- the event says whose request it is

abbrev pub op_number : Op → ℕ
op_number (Mkdir path mode) = 3
op_number (Create path mode) = 4
op_number (Symlink path target) = 5
op_number (Link from to) = 6
op_number (Unlink path) = 7
op_number (Rmdir path) = 8
op_number (Rename from to) = 9
op_number (SetAttr path mode uid gid size mtime) = 10
op_number (OpenFile path) = 11
op_number (Release i) = 12
op_number _ = 0

abbrev pub IsSessionOf : ClientRequest → SessionKind → Event → Type 0
IsSessionOf r k (event.Session e) = (e.client ≡ r.client) × (e.kind ≡ k) × (e.oldest ≡ r.oldest) × (e.tid ≡ r.tid)
IsSessionOf r k _ = ⊥

abbrev pub IsUpdateOf : ClientRequest → Reply → Event → Type 0
IsUpdateOf r x (event.Update e) = (e.op ≡ op_number r.op) × (e.client ≡ r.client) × (e.tid ≡ r.tid) × (x ≡ reply.Done e.ino)
IsUpdateOf r x _ = ⊥

abbrev pub IsEventOf : ClientRequest → Op → Reply → Event → Type 0
IsEventOf r SessionOpen x e = IsSessionOf r Open e
IsEventOf r SessionClose x e = IsSessionOf r Close e
IsEventOf r _ x e = IsUpdateOf r x e

-- The event is of this request, which changes the tree. It writes just the keys that change, with their values, and the tree
-- of the table with its writes is the tree after the request.
pub record IsExactDelta (rank : ℕ) (t : Table) (r : ClientRequest) (e : Event) : Type 0 where
  pub changes : IsTrue (changes (tree_of rank t) r)
  pub grammar : IsEvent e
  pub of_request : IsEventOf r r.op (answer (tree_of rank t) r) e
  pub all : (k : CellKey) → IsWritten rank t r k → Contains (writes_of e) (write k (value_after rank t r k))
  pub only : (w : CellWrite) → Contains (writes_of e) w → IsWritten rank t r w.key × (w.value ≡ value_after rank t r w.key)
  pub tree : tree_of rank (overlay t (writes_of e)) ≡ after (tree_of rank t) r
