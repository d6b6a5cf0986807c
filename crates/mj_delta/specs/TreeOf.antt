-- The plain tree that a table stands for.
--     IsTreeOf rank t s      the table has this tree, nothing of it is damaged, and each cell is one that the rank would write
--     HasDentries            what dentries, heads, opens and the next inode say
--     HasSessions            what sessions and kept replies say
--     IsReached              a directory has a way down from the root, by the state's links
use Rattle.std.specs.Prelude.{◌≡◌, ℕ, ◌<◌, ◌≤◌, ◌^◌, true, false, cond, List, Option, Some, None, IsSome, IsTrue}
use Rattle.mj_base.specs.Name.{is_name}
use Rattle.mj_base.specs.ObjectName.{hex, stray_ino, first_ino}
use Rattle.mj_base.specs.Record.{IsRecord, same_kind}
use Rattle.mj_base.specs.declared.record.Kind.{Kind}
use Rattle.mj_base.specs.declared.record.Kind.TheVariants.{Dir}
use Rattle.mj_base.specs.declared.record.InodeRecord.{InodeRecord}
use Rattle.mj_maps.specs.Map.{get, len}
use Rattle.mj_tree.specs.State.{PlainState, Session, root, is_dir, is_file, is_kept, link_count, entry_count}
use Rattle.mj_tree.specs.Sessions.{oldest_of}
use Rattle.mj_tree.specs.Row.{most_entries, most_inodes, most_opens}
use Rattle.mj_tree.specs.Answer.{most_sessions, most_kept, kept_reply}
use Rattle.mj_cells.specs.Table.{Table}
use Rattle.mj_cells.specs.Table.Dentry.{Full}
use Rattle.mj_recovery.specs.Orderly.{IsOwn}
use Rattle.mj_delta.specs.Reads.{Places, names, full_of, said_by, stored_links, remote_of, cell_of, kind_of, is_held}

-- A directory is reached where it is the root, or a link of a directory that is reached names it.
pub data IsReached (s : PlainState) : ℕ → Type 0 where
  at_root : IsReached s root
  below : (d : ℕ) (name : List ℕ) (i : ℕ) → IsReached s d → get s.links (d, name) ≡ Some i → is_dir s i ≡ true → IsReached s i

-- The dentries, heads, opens and the next inode are the state's, where `primary` has the place of each inode's full dentry.
pub record HasDentries (rank : ℕ) (t : Table) (s : PlainState) (primary : Places) : Type 0 where
  -- the links are the dentries of the directories
  pub links : (q : ℕ × List ℕ) → get s.links q ≡ cond (is_dir s q.0) (names (get t.dentries q)) None
  -- the records are what the full dentries say of inodes that are kept
  pub records : (i : ℕ) → get s.records i ≡ cond (is_kept s i) (said_by (cell_of t primary i)) None
  -- no two full dentries of directories and of stray carry one inode
  pub primary_held : (i : ℕ) (q : ℕ × List ℕ) → get primary i ≡ Some q → is_held rank s q.0 ≡ true
  pub primary_full : (i : ℕ) (q : ℕ × List ℕ) → get primary i ≡ Some q → full_of (get t.dentries q) ≡ Some i
  pub each_primary : (i : ℕ) (q : ℕ × List ℕ) → is_held rank s q.0 ≡ true → full_of (get t.dentries q) ≡ Some i → get primary i ≡ Some q
  -- a remote dentry has a full one of its inode and kind, and is of no directory
  pub remote_kind : (q : ℕ × List ℕ) (i : ℕ) (k : Kind) → is_dir s q.0 ≡ true → remote_of (get t.dentries q) ≡ Some (i, k) → kind_of (said_by (cell_of t primary i)) ≡ Some k
  pub remote_no_dir : (q : ℕ × List ℕ) (i : ℕ) (k : Kind) → is_dir s q.0 ≡ true → remote_of (get t.dentries q) ≡ Some (i, k) → same_kind k Dir ≡ false
  -- the stored count is the number of links
  pub counts : (i : ℕ) (q : ℕ × List ℕ) → get primary i ≡ Some q → stored_links (get t.dentries q) ≡ link_count s i
  -- inodes are given by the rank, and directories with cells are its own
  pub next : t.next ≡ Some s.next
  pub first_next : first_ino rank ≤ s.next
  pub next_fits : s.next < 2 ^ 64
  pub above : (i : ℕ) (q : ℕ × List ℕ) → get primary i ≡ Some q → first_ino rank ≤ i
  pub beneath : (i : ℕ) (q : ℕ × List ℕ) → get primary i ≡ Some q → i < s.next
  pub own_cells : (q : ℕ × List ℕ) → IsSome (get t.dentries q) → IsOwn rank s.next q.0
  -- a dentry of stray is named by its inode
  pub stray_names : (name : List ℕ) (i : ℕ) → names (get t.dentries (stray_ino rank, name)) ≡ Some i → name ≡ hex i
  -- each directory and stray have a head
  pub heads : (d : ℕ) → is_held rank s d ≡ true → IsSome (get t.heads d)
  pub own_heads : (d version : ℕ) → get t.heads d ≡ Some version → IsOwn rank s.next d
  -- opens are of files
  pub opens : t.opens ≡ s.opens
  pub open_files : (client i : ℕ) → IsSome (get s.opens (client, i)) → is_file s i ≡ true
  -- the limits are kept
  pub few_entries : (d : ℕ) → entry_count s d ≤ most_entries
  pub few_inodes : len s.records ≤ most_inodes
  pub few_opens : len s.opens ≤ most_opens
  -- each dentry has a spelling
  pub names_fit : (q : ℕ × List ℕ) → IsSome (get t.dentries q) → IsTrue (is_name q.1)
  pub records_fit : (q : ℕ × List ℕ) (version : ℕ) (r : InodeRecord) → get t.dentries q ≡ Some (Full version r) → IsRecord r

-- The sessions and kept replies are the state's.
pub record HasSessions (t : Table) (s : PlainState) : Type 0 where
  pub sessions : (client : ℕ) → get t.sessions client ≡ oldest_of (get s.sessions client)
  pub replies : (client tid : ℕ) → get t.done (client, tid) ≡ kept_reply s client tid
  -- no reply below the session's oldest is kept, no more than the limit are, and each has a spelling
  pub not_below : (client : ℕ) (c : Session) (tid i : ℕ) → get s.sessions client ≡ Some c → get c.kept tid ≡ Some i → c.oldest ≤ tid
  pub few_replies : (client : ℕ) (c : Session) → get s.sessions client ≡ Some c → len c.kept ≤ most_kept
  pub tids_fit : (client : ℕ) (c : Session) (tid i : ℕ) → get s.sessions client ≡ Some c → get c.kept tid ≡ Some i → tid < 2 ^ 64
  pub few_sessions : len s.sessions ≤ most_sessions
  -- who has a file open has a session
  pub open_sessions : (client i : ℕ) → IsSome (get s.opens (client, i)) → IsSome (get s.sessions client)

-- The table has this tree: each directory of the state that its cells say is reached.
pub record IsTreeOf (rank : ℕ) (t : Table) (s : PlainState) : Type 0 where
  pub primary : Places
  pub dentries : HasDentries rank t s primary
  pub sessions : HasSessions t s
  pub reached : (d : ℕ) → is_dir s d ≡ true → IsReached s d
