-- What an index knows of inodes, and how it changes.
use Rattle.std.specs.Prelude.{◌≡◌, nat_eq, ℕ, ◌+◌, ◌-◌, ◌^◌, Bool, false, not, ◌&&◌, ◌||◌, ◌==◌, nat_lt, min, Option, None, Some, is_none, unwrap_or, if◌then◌else◌}
use Rattle.mj_maps.specs.Map.{Map, get, insert, contains_key}
use Rattle.mj_maps.specs.Orders.{nat_cmp}
use Rattle.mj_base.specs.ObjectName.{stray_ino}
use Rattle.mj_cells.specs.declared.cell.CellKey.{CellKey}
use Rattle.mj_cells.specs.Cell.{same_key}
use Rattle.mj_index.specs.declared.known.FullPlace.{FullPlace}
use Rattle.mj_index.specs.declared.known.Known.{Known}

abbrev pub Inodes : Type 0
Inodes = Map nat_cmp Known

abbrev pub nothing : Known
nothing = record { full = None; is_dir = false; dentries = 0; opens = 0 }

abbrev pub known_at : Inodes → ℕ → Known
known_at m i = unwrap_or (get m i) nothing

-- the same is known, whatever room there is
abbrev pub SameKnown : Inodes → Inodes → Type 0
SameKnown m n = (i : ℕ) → known_at n i ≡ known_at m i

-- a full dentry is there, and a link or an open keeps the inode
abbrev pub keeps_at : ℕ → Option FullPlace → Bool
keeps_at opens None = false
keeps_at opens (Some p) = nat_lt 0 p.links || nat_lt 0 opens

abbrev pub keeps : Known → Bool
keeps k = keeps_at k.opens k.full

-- nothing is known
abbrev pub is_nothing : Known → Bool
is_nothing k = is_none k.full && not k.is_dir && (k.dentries == 0) && (k.opens == 0)

abbrev pub keeps_entry : ℕ × Known → Bool
keeps_entry e = keeps e.1

abbrev pub is_dir_at : Inodes → ℕ → Bool
is_dir_at m i = (known_at m i).is_dir

-- whether a directory is reachable or stray
abbrev pub held_by : ℕ → (ℕ → Bool) → ℕ → Bool
held_by rank dirs d = nat_eq (stray_ino rank) d || dirs d

-- ---- changes at one inode that has room

abbrev pub with_room : Inodes → ℕ → Inodes
with_room m i = if contains_key m i then m else insert m i nothing

abbrev pub altered_at : Inodes → ℕ → (Known → Known) → Option Known → Inodes
altered_at m i f None = m
altered_at m i f (Some k) = insert m i (f k)

abbrev pub altered : Inodes → ℕ → (Known → Known) → Inodes
altered m i f = altered_at m i f (get m i)

-- n is m after a change at an inode that has room, where C k l says that the change may make l of k
abbrev pub AltersBy_at : (Known → Known → Type 0) → Inodes → ℕ → Inodes → Option Known → Type 0
AltersBy_at C m i n None = n ≡ m
AltersBy_at C m i n (Some k) = (l : Known) × C k l × (n ≡ insert m i l)

abbrev pub AltersBy : (Known → Known → Type 0) → Inodes → ℕ → Inodes → Type 0
AltersBy C m i n = AltersBy_at C m i n (get m i)

-- the largest count
abbrev pub most : ℕ
most = 2 ^ 64 - 1

abbrev pub less_dentry : Known → Known
less_dentry k = record k { dentries = k.dentries - 1 }

abbrev pub more_dentry : Known → Known
more_dentry k = record k { dentries = min (k.dentries + 1) most }

abbrev pub less_open : Known → Known
less_open k = record k { opens = k.opens - 1 }

abbrev pub more_open : Known → Known
more_open k = record k { opens = min (k.opens + 1) most }

abbrev pub as_dir : Bool → Known → Known
as_dir b k = record k { is_dir = b }

-- a full dentry at this key is gone
abbrev pub unless_at : CellKey → Option FullPlace → Option FullPlace
unless_at q None = None
unless_at q (Some p) = if same_key q p.key then None else Some p

abbrev pub without_full : CellKey → Known → Known
without_full q k = record k { full = unless_at q k.full }

abbrev pub with_full : CellKey → ℕ → Known → Known
with_full q links k = record k { full = Some (record { key = q; links = links }) }
