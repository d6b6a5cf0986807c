-- The operations, each as its refusals in order and then its effect: the inode of the reply and the change.
use Rattle.std.specs.Prelude.{ℕ, ◌-◌, ◌^◌, Bool, not, ◌&&◌, ◌||◌, ◌==◌, nat_lt, nat_le, List, [], map, filter, is_some, Option, Some, None, Ok, Err, if◌then◌else◌}
use Rattle.mj_base.specs.Reading.{◌>>=◌}
use Rattle.mj_base.specs.declared.record.Kind.{Kind}
use Rattle.mj_base.specs.declared.record.Kind.TheVariants as kind
use Rattle.mj_maps.specs.Map.{get, len, entries}
use Rattle.mj_tree.specs.declared.change.Attributes.{Attributes}
use Rattle.mj_tree.specs.declared.change.Settings.{Settings}
use Rattle.mj_tree.specs.declared.change.Change.{Change}
use Rattle.mj_tree.specs.declared.change.Change.TheVariants as change
use Rattle.mj_tree.specs.declared.request.ClientRequest.{ClientRequest}
use Rattle.mj_tree.specs.declared.request.Op.{Op}
use Rattle.mj_tree.specs.declared.request.Op.TheVariants.{Mkdir, Create, Symlink, Link, Unlink, Rmdir, Rename, SetAttr, OpenFile, Release}
use Rattle.mj_tree.specs.declared.request.Reply.{Reply}
use Rattle.mj_tree.specs.declared.request.Reply.TheVariants as reply
use Rattle.mj_tree.specs.State.{PlainState, attributes, is_dir, is_file, is_symlink, is_kind, link_count, entry_count, record_of}
use Rattle.mj_tree.specs.Walk.{Answer, Path, refuse, ◌>>◌, found, is_root, walk, place, begins}

-- limits

abbrev pub most_entries : ℕ
most_entries = 100000

abbrev pub most_inodes : ℕ
most_inodes = 1048576

abbrev pub most_links : ℕ
most_links = 1024

abbrev pub most_opens : ℕ
most_opens = 65536

abbrev pub is_full : PlainState → ℕ → Bool
is_full s dir = nat_le most_entries (entry_count s dir)

abbrev pub has_all_inodes : PlainState → Bool
has_all_inodes s = nat_le most_inodes (len s.records) || (s.next == 2 ^ 64 - 1)

-- the inode of the reply, and the change
abbrev pub Effect : Type 0
Effect = Answer (ℕ × Change)

-- a link may stand here
unfoldable pub at_new : PlainState → ℕ × List ℕ → Answer (Unit {0})
at_new s q = do
  refuse (is_some (get s.links q)) 17
  refuse (is_full s q.0) 28

-- mkdir, create, symlink

abbrev pub new_attributes : Kind → ℕ → ℕ → List ℕ → Attributes
new_attributes kind mode now target = record { kind = kind; mode = mode; uid = 0; gid = 0; size = 0; mtime = now; target = target }

unfoldable pub make : PlainState → Path → Attributes → Effect
make s path a = do
  q ← place s path 17
  at_new s q
  refuse (has_all_inodes s) 28
  Ok (s.next, change.Begin q a)

unfoldable pub link : PlainState → Path → Path → Effect
link s from to = do
  i ← walk s from
  refuse (is_dir s i) 21
  q ← place s to 17
  at_new s q
  refuse (nat_le most_links (link_count s i)) 31
  Ok (i, change.Link q i)

unfoldable pub unlink : PlainState → Path → Effect
unlink s path = do
  q ← place s path 21
  i ← found (get s.links q)
  refuse (is_dir s i) 21
  Ok (i, change.Unlink q i)

unfoldable pub rmdir : PlainState → Path → Effect
rmdir s path = do
  q ← place s path 22
  i ← found (get s.links q)
  refuse (not (is_dir s i)) 20
  refuse (nat_lt 0 (entry_count s i)) 39
  Ok (i, change.Unlink q i)

-- the inode i moves from q to r, where another may stand
unfoldable pub rename_over : PlainState → ℕ × List ℕ → ℕ → ℕ × List ℕ → Option ℕ → Effect
rename_over s q i r None = do
  refuse (not (q.0 == r.0) && is_full s r.0) 28
  Ok (i, change.Move q r i)
rename_over s q i r (Some j) = if i == j then Ok (i, change.Nothing) else do
  refuse (is_dir s j && not (is_dir s i)) 21
  refuse (is_dir s i && not (is_dir s j)) 20
  refuse (nat_lt 0 (entry_count s j)) 39
  Ok (i, change.Replace q r i j)

unfoldable pub rename : PlainState → Path → Path → Effect
rename s from to = do
  refuse (is_root from || is_root to) 22
  q ← place s from 22
  i ← found (get s.links q)
  refuse (is_dir s i && begins from to) 22
  r ← place s to 22
  rename_over s q i r (get s.links r)

unfoldable pub set_attr : PlainState → Path → Settings → Effect
set_attr s path x = do
  refuse (is_root path) 22
  i ← walk s path
  refuse (not (x.size == 0) && not (is_file s i)) 22
  Ok (i, change.Set i x)

abbrev pub is_open : PlainState → ℕ → ℕ → Bool
is_open s client i = is_some (get s.opens (client, i))

unfoldable pub open_file : PlainState → ℕ → Path → Effect
open_file s client path = do
  i ← walk s path
  refuse (is_dir s i) 21
  refuse (is_symlink s i) 22
  refuse (not (is_open s client i) && nat_le most_opens (len s.opens)) 28
  Ok (i, change.Hold client i)

unfoldable pub release : PlainState → ℕ → ℕ → Effect
release s client i = do
  refuse (not (is_open s client i)) 2
  Ok (i, change.Release client i)

-- the operations that change the tree; of the others it speaks for none
unfoldable pub effect : PlainState → ClientRequest → Op → Effect
effect s r (Mkdir path mode) = make s path (new_attributes kind.Dir mode r.now [])
effect s r (Create path mode) = make s path (new_attributes kind.File mode r.now [])
effect s r (Symlink path target) = make s path (new_attributes kind.Symlink 0o777 r.now target)
effect s r (Link from to) = link s from to
effect s r (Unlink path) = unlink s path
effect s r (Rmdir path) = rmdir s path
effect s r (Rename from to) = rename s from to
effect s r (SetAttr path mode uid gid size mtime) = set_attr s path (record { mode = mode; uid = uid; gid = gid; size = size; mtime = mtime })
effect s r (OpenFile path) = open_file s r.client path
effect s r (Release i) = release s r.client i
effect s r _ = Err 22

-- the operations that only look

unfoldable pub lookup : PlainState → Path → Answer Reply
lookup s path = do
  i ← walk s path
  a ← found (attributes s i)
  Ok (reply.Found (record_of i (link_count s i) a))

-- the names of a directory, ascending by bytes
abbrev pub names_in : PlainState → ℕ → List (List ℕ)
names_in s dir = map (λ (e : (ℕ × List ℕ) × ℕ). e.0.1) (filter (λ (e : (ℕ × List ℕ) × ℕ). e.0.0 == dir) (entries s.links))

unfoldable pub readdir : PlainState → Path → Answer Reply
readdir s path = do
  i ← walk s path
  refuse (not (is_dir s i)) 20
  Ok (reply.Names (names_in s i))

unfoldable pub readlink : PlainState → Path → Answer Reply
readlink s path = do
  i ← walk s path
  a ← found (attributes s i)
  refuse (not (is_kind kind.Symlink (Some a))) 22
  Ok (reply.Link a.target)
