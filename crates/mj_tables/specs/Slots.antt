-- What the slots of keys hold, as maps.
use Rattle.std.specs.Prelude.{◌≡◌, ℕ, Bool, true, false, not, nat_le, List, [], ◌∷◌, Option, Some, None, option_map, option_and_then, if◌then◌else◌}
use Rattle.std.specs.Option.{option_or}
use Rattle.std.specs.HashMap.{HashMap}
use Rattle.mj_maps.specs.Map.{Map, Set, get, insert, remove, contains_key, collect, from_entries}
use Rattle.mj_cells.specs.declared.cell.CellKey.{CellKey}
use Rattle.mj_cells.specs.declared.cell.CellKey.TheVariants.{Dentry, DirHead}
use Rattle.mj_cells.specs.declared.cell.CellValue.{CellValue}
use Rattle.mj_cells.specs.declared.cell.CellWrite.{CellWrite}
use Rattle.mj_cells.specs.Cell.{key_cmp, same_key}
use Rattle.mj_cells.specs.Next.{next_cell}
use Rattle.mj_tables.specs.declared.group.Group.{Group}
use Rattle.mj_tables.specs.declared.slot.Ahead.{Ahead}
use Rattle.mj_tables.specs.declared.slot.Slot.{Slot}
use Rattle.mj_tables.specs.Layered.{is_there, EndsRise}

abbrev pub Slots : Type 0
Slots = Map key_cmp Slot

abbrev pub slots_of : {S : Type 0} → HashMap CellKey Slot S → Slots
slots_of m = from_entries m.entries

-- ---- what a slot holds

abbrev pub value_ahead : Option Ahead → Option CellValue
value_ahead o = option_map (λ (a : Ahead). a.value) o

abbrev pub early_in : Slot → Option CellValue
early_in s = option_or (value_ahead s.ahead) s.safe

abbrev pub if_there : CellValue → Option CellValue
if_there v = if is_there v then Some v else None

abbrev pub there_in : Slot → Option CellValue
there_in s = option_and_then if_there (early_in s)

abbrev pub safe_cells : Slots → Map key_cmp CellValue
safe_cells m = collect (λ k (s : Slot). s.safe) m

abbrev pub early_slots : Slots → Map key_cmp CellValue
early_slots m = collect (λ k s. early_in s) m

-- a slot's early cell
abbrev pub early_entry : CellKey → Slot → Option CellValue
early_entry k s = early_in s

-- whether a key is a dentry's or a head's
abbrev pub is_of_dir : CellKey → Bool
is_of_dir (Dentry dir name) = true
is_of_dir (DirHead dir) = true
is_of_dir _ = false

-- whether it is one, or is none
abbrev pub is_of : Bool → CellKey → Bool
is_of dirs k = if is_of_dir k then dirs else not dirs

abbrev pub rooms : Slots → Set key_cmp
rooms m = collect (λ k (s : Slot). Some tt) m

abbrev pub ahead_at : Slots → CellKey → Option Ahead
ahead_at m k = option_and_then (λ (s : Slot). s.ahead) (get m k)

-- ---- changes

abbrev pub empty_slot : Slot
empty_slot = record { safe = None; ahead = None }

abbrev pub with_room : Slots → CellKey → Slots
with_room m k = if contains_key m k then m else insert m k empty_slot

abbrev pub altered_at : Slots → CellKey → (Slot → Slot) → Option Slot → Slots
altered_at m k f None = m
altered_at m k f (Some s) = insert m k (f s)

-- the slot of a key, where it has one, is changed
abbrev pub altered : Slots → CellKey → (Slot → Slot) → Slots
altered m k f = altered_at m k f (get m k)

abbrev pub projecting : CellValue → ℕ → Slot → Slot
projecting v ends s = record s { ahead = Some (record { value = v; last = ends }) }

-- what a later group writes
abbrev pub ahead_after : ℕ → Option Ahead → Option Ahead
ahead_after ends None = None
ahead_after ends (Some a) = if nat_le a.last ends then None else Some a

abbrev pub settling : CellValue → ℕ → Slot → Slot
settling v ends s = record { safe = Some v; ahead = ahead_after ends s.ahead }

abbrev pub is_last : ℕ → Option Ahead → Bool
is_last ends None = true
is_last ends (Some a) = nat_le a.last ends

-- the writes of a group, one after another

abbrev pub all_room : Slots → List CellWrite → Slots
all_room m [] = m
all_room m (w ∷ ws) = all_room (with_room m w.key) ws

abbrev pub all_projected : ℕ → Slots → List CellWrite → Slots
all_projected ends m [] = m
all_projected ends m (w ∷ ws) = all_projected ends (altered m w.key (projecting w.value ends)) ws

abbrev pub all_settled : ℕ → Slots → List CellWrite → Slots
all_settled ends m [] = m
all_settled ends m (w ∷ ws) = all_settled ends (altered m w.key (settling w.value ends)) ws

-- ---- slots and groups

-- the last value that these write to the key
abbrev pub last_write : CellKey → List CellWrite → Option CellValue
last_write k [] = None
last_write k (w ∷ ws) = option_or (last_write k ws) (if same_key k w.key then Some w.value else None)

abbrev pub ahead_by : ℕ → Option CellValue → Option Ahead
ahead_by ends o = option_map (λ v. record { value = v; last = ends }) o

-- what groups leave over the safe value of a key
abbrev pub ahead_of : CellKey → List Group → Option Ahead
ahead_of k [] = None
ahead_of k (g ∷ gs) = option_or (ahead_of k gs) (ahead_by g.ends (last_write k g.writes))

pub record AreLaid (m : Slots) (gs : List Group) : Type 0 where
  pub ahead : (k : CellKey) → ahead_at m k ≡ ahead_of k gs
  pub rise : EndsRise gs

-- whatever stands over keys is the same
abbrev pub SameAhead : Slots → Slots → Type 0
SameAhead m n = (k : CellKey) → ahead_at n k ≡ ahead_at m k

-- ---- the cells of a table

abbrev pub safe_slot : CellValue → Slot
safe_slot v = record { safe = Some v; ahead = None }

-- all of them are safe
abbrev pub safe_slots : Map key_cmp CellValue → Slots
safe_slots t = collect (λ k v. Some (safe_slot v)) t

-- the least cell of a table moves to slots, where there is one
abbrev pub Moved : Map key_cmp CellValue → Slots → Map key_cmp CellValue → Slots → Option (CellKey × CellValue) → Bool → Type 0
Moved t m u n None more = (more ≡ false) × (u ≡ t) × (n ≡ m)
Moved t m u n (Some e) more = (more ≡ true) × (u ≡ remove t e.0) × (n ≡ insert m e.0 (safe_slot e.1))

abbrev pub Moves : Map key_cmp CellValue → Slots → Map key_cmp CellValue → Slots → Bool → Type 0
Moves t m u n more = Moved t m u n (next_cell t None) more
