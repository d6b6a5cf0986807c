-- The plain state of a tree: finite maps, and what is counted in them.
use Rattle.std.specs.Prelude.{ℕ, ◌+◌, Bool, false, ◌||◌, ◌==◌, if◌then◌else◌, nat_lt, List, [], Option, Some, None, refl}
use Rattle.std.specs.Coded.{Coded, code_by, coded×, coded_ℕ, coded_list}
use Rattle.mj_base.specs.Record.{same_kind}
use Rattle.mj_base.specs.ObjectName.{first_ino}
use Rattle.mj_base.specs.declared.record.Kind.{Kind}
use Rattle.mj_base.specs.declared.record.Kind.TheVariants.{Dir, File, Symlink}
use Rattle.mj_base.specs.declared.record.InodeRecord.{InodeRecord}
use Rattle.mj_maps.specs.Orders.{nat_cmp, place_cmp, pair_cmp}
use Rattle.mj_maps.specs.Map.{Map, Set, get, empty, count, code, set_code}
use Rattle.mj_tree.specs.declared.change.Attributes.{Attributes}
use Rattle.mj_tree.specs.contracts.change.Attributes as attributes_row

-- A client's session: the least number whose reply may still be asked for, and the inodes of the replies that are kept, by the requests' numbers.
pub record Session : Type 0 where
  pub oldest : ℕ
  pub kept : Map nat_cmp ℕ

-- The next inode; what the records say of each inode, but for the root's; the inode at each directory and name;
-- which client has which inode open; and the clients' sessions. No record has a link count: links are counted.
pub record PlainState : Type 0 where
  pub next : ℕ
  pub records : Map nat_cmp Attributes
  pub links : Map place_cmp ℕ
  pub opens : Set pair_cmp
  pub sessions : Map nat_cmp Session

-- the state of a new rank
abbrev pub new_state : ℕ → PlainState
new_state rank = record { next = first_ino rank; records = empty; links = empty; opens = empty; sessions = empty }

abbrev pub root : ℕ
root = 1

abbrev pub root_attributes : Attributes
root_attributes = record { kind = Dir; mode = 0o755; uid = 0; gid = 0; size = 0; mtime = 0; target = [] }

-- what the record of an inode says, the root's too
abbrev pub attributes : PlainState → ℕ → Option Attributes
attributes s i = if i == root then Some root_attributes else get s.records i

abbrev pub is_kind : Kind → Option Attributes → Bool
is_kind kind None = false
is_kind kind (Some a) = same_kind a.kind kind

abbrev pub is_dir : PlainState → ℕ → Bool
is_dir s i = (i == root) || is_kind Dir (get s.records i)

abbrev pub is_file : PlainState → ℕ → Bool
is_file s i = is_kind File (get s.records i)

abbrev pub is_symlink : PlainState → ℕ → Bool
is_symlink s i = is_kind Symlink (get s.records i)

-- how many links name an inode, how many clients have it open, and how many entries a directory has
abbrev pub link_count : PlainState → ℕ → ℕ
link_count s i = count (λ (e : (ℕ × List ℕ) × ℕ). e.1 == i) s.links

abbrev pub open_count : PlainState → ℕ → ℕ
open_count s i = count (λ (e : (ℕ × ℕ) × Unit {0}). e.0.1 == i) s.opens

abbrev pub entry_count : PlainState → ℕ → ℕ
entry_count s dir = count (λ (e : (ℕ × List ℕ) × ℕ). e.0.0 == dir) s.links

-- how many files a client has open
abbrev pub opens_of : PlainState → ℕ → ℕ
opens_of s client = count (λ (e : (ℕ × ℕ) × Unit {0}). e.0.0 == client) s.opens

-- a link or an open names the inode
abbrev pub is_kept : PlainState → ℕ → Bool
is_kept s i = nat_lt 0 (link_count s i + open_count s i)

-- the record of an inode with this many links, and what a record says without them
abbrev pub record_of : ℕ → ℕ → Attributes → InodeRecord
record_of i links a = record { ino = i; kind = a.kind; mode = a.mode; uid = a.uid; gid = a.gid; size = a.size; mtime = a.mtime; links = links; target = a.target }

abbrev pub attributes_of : InodeRecord → Attributes
attributes_of r = record { kind = r.kind; mode = r.mode; uid = r.uid; gid = r.gid; size = r.size; mtime = r.mtime; target = r.target }

-- the codes of sessions and of states
abbrev pub session_code : Coded Session
session_code = code_by (ℕ × Map nat_cmp ℕ) (coded× coded_ℕ (code coded_ℕ coded_ℕ)) (λ c. (c.oldest, c.kept)) (λ p. record { oldest = p.0; kept = p.1 }) (λ _. refl)

abbrev pub state_code : Coded PlainState
state_code = code_by
    (ℕ × (Map nat_cmp Attributes × (Map place_cmp ℕ × (Set pair_cmp × Map nat_cmp Session))))
    (coded× coded_ℕ (coded× (code coded_ℕ (attributes_row.the_row).coded) (coded× (code (coded× coded_ℕ (coded_list coded_ℕ)) coded_ℕ) (coded× (set_code (coded× coded_ℕ coded_ℕ)) (code coded_ℕ session_code)))))
    (λ s. (s.next, (s.records, (s.links, (s.opens, s.sessions)))))
    (λ p. record { next = p.0; records = p.1.0; links = p.1.1.0; opens = p.1.1.1.0; sessions = p.1.1.1.1 })
    (λ _. refl)
