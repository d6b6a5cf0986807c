-- Which directories a group of writes leaves and leads to, and what tells that it is gentle.
use Rattle.std.specs.Prelude.{◌≡◌, ℕ, Bool, true, false, not, ◌&&◌, ◌||◌, ◌==◌, List, [], ◌∷◌, Some}
use Rattle.std.specs.List.{AllByRecursion, list_any}
use Rattle.std.specs.BTreeSet.{BTreeSet}
use Rattle.mj_cells.specs.declared.cell.CellKey.{CellKey}
use Rattle.mj_cells.specs.declared.cell.CellWrite.{CellWrite}
use Rattle.mj_cells.specs.Cell.{same_key}
use Rattle.mj_cells.specs.Table.{Table, table_of}
use Rattle.mj_recovery.specs.Tree.{is_among}
use Rattle.mj_judge.specs.Parts.{dir_at}
use Rattle.mj_tables.specs.Layered.{Layered, early_cells, writes_key}
use Rattle.mj_index.specs.Places.{dentry_key}
use Rattle.mj_index.specs.Known.{Inodes, known_at, is_dir_at}
use Rattle.mj_index.specs.Said.{dir_named, cell_after, left_dirs, led_dirs, written_dirs}
use Rattle.mj_index.specs.Following.{early_value, all_dirs_set}
use Rattle.mj_index.specs.Changes.{Change, all_changed}
use Rattle.mj_index.specs.declared.index.Index.{Index}
use Rattle.mj_index.specs.declared.turn.Keys.{Keys}
use Rattle.mj_index.specs.declared.turn.Keys.TheVariants.{Few, Many}
use Rattle.mj_index.specs.Course.{AreOnce}
use Rattle.mj_index.specs.Gentle.{HasKeptWay, LeadsTo}

abbrev pub is_written : List CellWrite → ℕ × List ℕ → Bool
is_written ws q = writes_key (dentry_key q) ws

abbrev pub has_key : BTreeSet CellKey → CellKey → Bool
has_key s k = list_any (λ x. same_key k x) s.keys

-- the set has the keys that are written, each of them once
pub record AreKeysOf (s : BTreeSet CellKey) (ws : List CellWrite) : Type 0 where
  pub once : AreOnce ws
  pub are : (k : CellKey) → has_key s k ≡ writes_key k ws

-- the keys that are written, few or many
abbrev pub keys_have : Keys → CellKey → Bool
keys_have (Few ws) k = writes_key k ws.now
keys_have (Many s) k = has_key s k

pub record AreTheKeys (keys : Keys) (ws : List CellWrite) : Type 0 where
  pub once : AreOnce ws
  pub are : (k : CellKey) → keys_have keys k ≡ writes_key k ws

-- a dentry that is not written leads from this directory to that one
pub record HasPlaceKept (t : Table) (is_written : ℕ × List ℕ → Bool) (i d : ℕ) : Type 0 where
  pub name : List ℕ
  pub unwritten : is_written (d, name) ≡ false
  pub leads : LeadsTo t (d, name) i

abbrev pub all_pass : (ℕ → Bool) → List ℕ → Bool
all_pass p [] = true
all_pass p (x ∷ xs) = p x && all_pass p xs

-- no dentry is in the directory, and none of it is written
abbrev pub is_bare : Inodes → (ℕ → Bool) → ℕ → Bool
is_bare m written i = ((known_at m i).dentries == 0) && not (written i)

-- one that is left is led to, or is bare
abbrev pub leaves_well : Inodes → (ℕ → Bool) → (ℕ → Bool) → ℕ → Bool
leaves_well m written led i = led i || is_bare m written i

-- one that a write leads to was left and keeps its way, or is bare
pub record LeadsWell (m : Inodes) (t : Table) (is_written : ℕ × List ℕ → Bool) (written left : ℕ → Bool) (w : CellWrite) : Type 0 where
  pub moves : (d i : ℕ) → dir_at w.key ≡ Some d → dir_named (is_dir_at m) (cell_after w) ≡ Some i → left i ≡ true → HasKeptWay t is_written d
  pub begins : (i : ℕ) → dir_named (is_dir_at m) (cell_after w) ≡ Some i → left i ≡ false → is_bare m written i ≡ true

pub record IsGentleTurn (m : Inodes) (l : Layered) (ws : List CellWrite) (left led : List ℕ) : Type 0 where
  pub once : AreOnce ws
  pub left_is : left ≡ left_dirs (is_dir_at m) (early_value l) ws
  pub led_is : led ≡ led_dirs (is_dir_at m) ws
  pub leaves : all_pass (leaves_well m (is_among (written_dirs ws)) (is_among led)) left ≡ true
  pub leads : AllByRecursion (LeadsWell m (table_of (early_cells l)) (is_written ws) (is_among (written_dirs ws)) (is_among left)) ws

-- the index that follows changes, with the directories that they leave and lead to
abbrev pub turned : ℕ → List Change → List ℕ → List ℕ → Index → Index
turned rank cs left led x = all_dirs_set true led (all_dirs_set false left (all_changed rank cs x))
