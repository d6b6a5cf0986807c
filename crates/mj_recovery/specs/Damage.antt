-- What is wrong with a table: the rows of damage in their order, each of which names the least inode or client.
use Rattle.std.specs.Prelude.{ℕ, ◌+◌, Bool, true, not, ◌&&◌, ◌||◌, ◌==◌, nat_lt, nat_le, min, List, [], ◌∷◌, ◌++◌, map, filter, filter_map, is_none, if◌then◌else◌, Option, None, Some, option_map, option_and_then, unwrap_or}
use Rattle.std.specs.List.{list_any}
use Rattle.mj_maps.specs.Map.{entries, get, len, passing}
use Rattle.mj_base.specs.InOrder.{same_bytes}
use Rattle.mj_base.specs.ObjectName.{hex, stray_ino, first_ino}
use Rattle.mj_base.specs.Record.{same_kind}
use Rattle.mj_base.specs.declared.record.Kind.{Kind}
use Rattle.mj_base.specs.declared.record.InodeRecord.{InodeRecord}
use Rattle.mj_base.specs.declared.damage.Damage.{Damage}
use Rattle.mj_base.specs.declared.damage.Damage.TheVariants as damage
use Rattle.mj_tree.specs.State.{PlainState, root, link_count, entry_count, is_file}
use Rattle.mj_tree.specs.Row.{most_entries, most_inodes, most_opens}
use Rattle.mj_tree.specs.Answer.{most_sessions, most_kept}
use Rattle.mj_cells.specs.declared.cell.CellKey.{CellKey}
use Rattle.mj_cells.specs.declared.cell.CellKey.TheVariants as key
use Rattle.mj_cells.specs.declared.cell.CellWrite.{CellWrite}
use Rattle.mj_cells.specs.Table.{Dentry, Table}
use Rattle.mj_cells.specs.Table.Dentry.{Full, Remote}
use Rattle.mj_recovery.specs.Tree.{Entry, ino_of, is_among, full_records, reachable, holding, tree_of}

abbrev pub first_some : {A : Type 0} → List (Option A) → Option A
first_some [] = None
first_some (None ∷ os) = first_some os
first_some (Some x ∷ os) = Some x

-- the least of some numbers
abbrev pub or_less : ℕ → Option ℕ → ℕ
or_less n None = n
or_less n (Some m) = min n m

abbrev pub least : List ℕ → Option ℕ
least [] = None
least (n ∷ ns) = Some (or_less n (least ns))

-- how often a number stands there
abbrev pub times : ℕ → List ℕ → ℕ
times n [] = 0
times n (m ∷ ms) = if n == m then times n ms + 1 else times n ms

abbrev pub inos : List InodeRecord → List ℕ
inos rs = map (λ (r : InodeRecord). r.ino) rs

-- the directories that have no head
abbrev pub headless : (ℕ → Option ℕ) → List ℕ → List ℕ
headless head dirs = filter (λ d. is_none (head d)) dirs

-- two full dentries carry one inode, or one the root's
abbrev pub twice : List ℕ → List ℕ
twice is = filter (λ i. (i == root) || nat_lt 1 (times i is)) is

-- a reachable remote dentry has no full one of its inode and kind
abbrev pub is_full_of : ℕ → Kind → List InodeRecord → Bool
is_full_of i kind rs = list_any (λ (r : InodeRecord). (r.ino == i) && same_kind r.kind kind) rs

abbrev pub lone_remote : List ℕ → List InodeRecord → Entry → Option ℕ
lone_remote dirs rs e = if is_among dirs e.0.0 then by_dentry e.1 else None
  where
    by_dentry : Dentry → Option ℕ
    by_dentry (Full version r) = None
    by_dentry (Remote version i kind) = if is_full_of i kind rs then None else Some i

-- the stored count differs from the number of links
abbrev pub miscounted : (ℕ → ℕ) → List InodeRecord → List ℕ
miscounted links rs = inos (filter (λ (r : InodeRecord). not (r.links == links r.ino)) rs)

-- an inode that the rank has given
abbrev pub is_given : ℕ → ℕ → ℕ → Bool
is_given rank next i = nat_le (first_ino rank) i && nat_lt i next

-- a dentry of stray whose name is not its inode's
abbrev pub misnamed : ℕ → Entry → Option ℕ
misnamed rank e = if (e.0.0 == stray_ino rank) && not (same_bytes e.0.1 (hex (ino_of e.1))) then Some (ino_of e.1) else None

abbrev pub is_known : ℕ → ℕ → ℕ → Bool
is_known rank next d = (d == root) || (d == stray_ino rank) || is_given rank next d

-- the next inode, where it is below all that the rank gives
abbrev pub low_next : ℕ → ℕ → List ℕ
low_next rank next = if nat_lt next (first_ino rank) then next ∷ [] else []

abbrev pub out_of_range : ℕ → ℕ → List ℕ → List ℕ → List Entry → List ℕ
out_of_range rank next is dirs es =
    low_next rank next
    ++ filter (λ i. not (is_given rank next i)) is
    ++ filter (λ d. not (is_known rank next d)) dirs
    ++ filter_map (misnamed rank) es

-- an open without a session or without a file's record: the least inode, and its least client
abbrev pub is_bad_open : (ℕ → Option ℕ) → (ℕ → Bool) → ℕ × ℕ → Bool
is_bad_open oldest is_file o = is_none (oldest o.0) || not (is_file o.1)

abbrev pub bad_opens : (ℕ → Option ℕ) → (ℕ → Bool) → List (ℕ × ℕ) → List (ℕ × ℕ)
bad_opens oldest is_file os = filter (is_bad_open oldest is_file) os

abbrev pub client_of : ℕ → ℕ × ℕ → Option ℕ
client_of i o = if o.1 == i then Some o.0 else None

abbrev pub opened_by : List (ℕ × ℕ) → ℕ → Option Damage
opened_by os i = option_map (λ client. damage.BadOpen client i) (least (filter_map (client_of i) os))

abbrev pub first_open : List (ℕ × ℕ) → Option Damage
first_open os = option_and_then (opened_by os) (least (map (λ (o : ℕ × ℕ). o.1) os))

-- a kept reply without a session or below its oldest, or one of more than 64
abbrev pub replies : List ((ℕ × ℕ) × ℕ) → ℕ → ℕ
replies done client = passing (λ (e : (ℕ × ℕ) × ℕ). e.0.0 == client) done

abbrev pub is_bad_reply : (ℕ → Option ℕ) → List ((ℕ × ℕ) × ℕ) → (ℕ × ℕ) × ℕ → Bool
is_bad_reply oldest done e = by_session (oldest e.0.0)
  where
    by_session : Option ℕ → Bool
    by_session None = true
    by_session (Some first) = nat_lt e.0.1 first || nat_lt most_kept (replies done e.0.0)

abbrev pub bad_replies : (ℕ → Option ℕ) → List ((ℕ × ℕ) × ℕ) → List ℕ
bad_replies oldest done = map (λ (e : (ℕ × ℕ) × ℕ). e.0.0) (filter (is_bad_reply oldest done) done)

-- more than the limit
abbrev pub over : ℕ → ℕ → Option ℕ
over limit n = if nat_lt limit n then Some n else None

-- the entries of the least directory that has too many
abbrev pub over_entries : (ℕ → ℕ) → List ℕ → Option ℕ
over_entries count dirs = option_map count (least (filter (λ d. nat_lt most_entries (count d)) dirs))

abbrev pub over_limit : PlainState → List ℕ → Option ℕ
over_limit s dirs = first_some (over_entries (entry_count s) dirs ∷ over most_inodes (len s.records) ∷ over most_sessions (len s.sessions) ∷ over most_opens (len s.opens) ∷ [])

-- The first that holds of a table, where these are the directories of live lumps.
unfoldable pub tree_damage : ℕ → Table → List ℕ → Option Damage
tree_damage rank t lump_dirs =
    let dirs = reachable t in
    let fulls = full_records (holding rank t) (entries t.dentries) in
    let s = tree_of rank t in
    first_some (
    option_map damage.DirfragMissing (least (headless (get t.heads) (holding rank t)))
    ∷ option_map damage.TwoPrimaries (least (twice (inos fulls)))
    ∷ option_map damage.NoPrimary (least (filter_map (lone_remote dirs fulls) (entries t.dentries)))
    ∷ option_map damage.BadLinks (least (miscounted (link_count s) fulls))
    ∷ option_map damage.BadNext (least (out_of_range rank (unwrap_or t.next 0) (inos fulls) lump_dirs (entries t.dentries)))
    ∷ first_open (bad_opens (get t.sessions) (is_file s) (map (λ (o : (ℕ × ℕ) × Unit {0}). o.0) (entries t.opens)))
    ∷ option_map damage.BadSession (least (bad_replies (get t.sessions) (entries t.done)))
    ∷ option_map damage.OverLimit (over_limit s dirs)
    ∷ [])

-- ---- the directories that count as those of live lumps

-- of some writes: each lump writes a head
abbrev pub head_written : CellWrite → Option ℕ
head_written w = by_key w.key
  where
    by_key : CellKey → Option ℕ
    by_key (key.DirHead d) = Some d
    by_key _ = None

abbrev pub lump_dirs : List CellWrite → List ℕ
lump_dirs ws = filter_map head_written ws

-- of a table by itself: each directory that has a cell
abbrev pub cell_dirs : Table → List ℕ
cell_dirs t = map (λ (e : Entry). e.0.0) (entries t.dentries) ++ map (λ (e : ℕ × ℕ). e.0) (entries t.heads)
