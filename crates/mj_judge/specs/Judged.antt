-- The rows of damage of cells, where these are the reachable directories and those of live lumps, by look-ups and counts.
use Rattle.std.specs.Prelude.{ℕ, Bool, nat_lt, not, List, [], ◌∷◌, ◌++◌, length, map, filter, filter_map, Option, option_map, unwrap_or}
use Rattle.mj_maps.specs.Map.{Map}
use Rattle.mj_base.specs.ObjectName.{stray_ino}
use Rattle.mj_base.specs.declared.record.Kind.{Kind}
use Rattle.mj_base.specs.declared.record.Kind.TheVariants.{File}
use Rattle.mj_base.specs.declared.damage.Damage.{Damage}
use Rattle.mj_base.specs.declared.damage.Damage.TheVariants as damage
use Rattle.mj_tree.specs.Row.{most_inodes, most_opens}
use Rattle.mj_tree.specs.Answer.{most_sessions}
use Rattle.mj_cells.specs.declared.cell.CellKey.TheVariants as key
use Rattle.mj_cells.specs.declared.cell.CellValue.{CellValue}
use Rattle.mj_cells.specs.Cell.{key_cmp}
use Rattle.mj_recovery.specs.Damage.{first_some, least, times, headless, twice, is_given, is_known, low_next, bad_opens, first_open, over, over_entries}
use Rattle.mj_judge.specs.Parts.{Cell, number_at, head_dir, session_entry, done_entry, open_place}
use Rattle.mj_judge.specs.Rows.{full_ino, kind_ino, miscounted_ino, link_ino, link_dir, dentry_dir, misnamed_ino, remote_in, if_lone, replies_badly, oldest_at, version_at, kept_of}

abbrev pub held : ℕ → List ℕ → List ℕ
held rank dirs = stray_ino rank ∷ dirs

abbrev pub fulls : ℕ → List Cell → List ℕ → List ℕ
fulls rank cs dirs = filter_map (full_ino (held rank dirs)) cs

-- whether there is a full dentry of an inode and a kind
abbrev pub has_kind : ℕ → List Cell → List ℕ → ℕ → Kind → Bool
has_kind rank cs dirs i kind = nat_lt 0 (times i (filter_map (kind_ino (held rank dirs) kind) cs))

abbrev pub is_file : ℕ → List Cell → List ℕ → ℕ → Bool
is_file rank cs dirs i = has_kind rank cs dirs i File

abbrev pub link_times : List Cell → List ℕ → ℕ → ℕ
link_times cs dirs i = times i (filter_map (link_ino dirs) cs)

abbrev pub entry_times : List Cell → List ℕ → ℕ → ℕ
entry_times cs dirs d = times d (filter_map (link_dir dirs) cs)

abbrev pub opens : List Cell → List (ℕ × ℕ)
opens cs = filter_map open_place cs

-- how often the inode of each of these opens stands there
abbrev pub place_times : List (ℕ × ℕ) → ℕ → ℕ
place_times os i = times i (map (λ (o : ℕ × ℕ). o.1) os)

abbrev pub open_times : List Cell → ℕ → ℕ
open_times cs = place_times (opens cs)

abbrev pub replies : List Cell → List ((ℕ × ℕ) × ℕ)
replies cs = filter_map done_entry cs

abbrev pub reply_times : List Cell → ℕ → ℕ
reply_times cs client = times client (map (λ (e : (ℕ × ℕ) × ℕ). e.0.0) (replies cs))

abbrev pub lone : ℕ → List Cell → List ℕ → List ℕ
lone rank cs dirs = filter_map (if_lone (has_kind rank cs dirs)) (filter_map (remote_in dirs) cs)

abbrev pub wrong_counts : ℕ → List Cell → List ℕ → List ℕ
wrong_counts rank cs dirs = filter_map (miscounted_ino (held rank dirs) (link_times cs dirs)) cs

-- the directories that have a cell
abbrev pub all_dirs : List Cell → List ℕ
all_dirs cs = filter_map dentry_dir cs ++ filter_map head_dir cs

-- what shows that the next inode is too low, where these are the inodes of full dentries and the directories of live lumps
abbrev pub beyond : ℕ → ℕ → List ℕ → List ℕ → List Cell → List ℕ
beyond rank next is lumps cs =
    low_next rank next
    ++ filter (λ i. not (is_given rank next i)) is
    ++ filter (λ d. not (is_known rank next d)) lumps
    ++ filter_map (misnamed_ino rank) cs

abbrev pub next_of : Map key_cmp CellValue → ℕ
next_of m = unwrap_or (number_at m key.NextIno) 0

abbrev pub wrong_opens : ℕ → Map key_cmp CellValue → List Cell → List ℕ → List (ℕ × ℕ)
wrong_opens rank m cs dirs = bad_opens (oldest_at m) (is_file rank cs dirs) (opens cs)

abbrev pub wrong_replies : Map key_cmp CellValue → List Cell → List ℕ
wrong_replies m cs = map (λ (e : (ℕ × ℕ) × ℕ). e.0.0) (filter (replies_badly (oldest_at m) (reply_times cs)) (replies cs))

-- the inodes that a link or an open keeps
abbrev pub kept_inodes : ℕ → List Cell → List ℕ → List ℕ
kept_inodes rank cs dirs = kept_of (link_times cs dirs) (open_times cs) (fulls rank cs dirs)

-- the first number past its limit, by how many links name each inode and the inodes of full dentries
abbrev pub too_much : (ℕ → ℕ) → List ℕ → List Cell → List ℕ → Option ℕ
too_much links is cs dirs = first_some (over_entries (entry_times cs dirs) dirs ∷ over most_inodes (length (kept_of links (open_times cs) is)) ∷ over most_sessions (length (filter_map session_entry cs)) ∷ over most_opens (length (opens cs)) ∷ [])

abbrev pub found_damage : ℕ → Map key_cmp CellValue → List Cell → List ℕ → List ℕ → Option Damage
found_damage rank m cs dirs lumps = first_some (
    option_map damage.DirfragMissing (least (headless (version_at m) (held rank dirs)))
    ∷ option_map damage.TwoPrimaries (least (twice (fulls rank cs dirs)))
    ∷ option_map damage.NoPrimary (least (lone rank cs dirs))
    ∷ option_map damage.BadLinks (least (wrong_counts rank cs dirs))
    ∷ option_map damage.BadNext (least (beyond rank (next_of m) (fulls rank cs dirs) lumps cs))
    ∷ first_open (wrong_opens rank m cs dirs)
    ∷ option_map damage.BadSession (least (wrong_replies m cs))
    ∷ option_map damage.OverLimit (too_much (link_times cs dirs) (fulls rank cs dirs) cs dirs)
    ∷ [])
