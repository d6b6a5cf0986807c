-- Gentle groups of writes: no directory that has dentries begins to be reachable or ceases to be. Which directories are reachable
-- afterwards is then told by the written dentries alone (`dirs_after` in proofs/Gentle.antt).
use Rattle.std.specs.Prelude.{◌≡◌, ℕ, Bool, true, false, not, List, None, Some, option_and_then}
use Rattle.mj_maps.specs.Map.{get}
use Rattle.mj_tree.specs.State.{root}
use Rattle.mj_cells.specs.Table.{Table}
use Rattle.mj_recovery.specs.Tree.{subdir, IsReachable}
use Rattle.mj_judge.specs.Own.{own_damage}

-- the dentry at this place is the full one of a directory
abbrev pub LeadsTo : Table → ℕ × List ℕ → ℕ → Type 0
LeadsTo t q i = option_and_then subdir (get t.dentries q) ≡ Some i

-- a written dentry of a directory that is reachable in `t` leads to this one in `table`, which is the table before the writes or after
pub record IsNamed (t : Table) (is_written : ℕ × List ℕ → Bool) (table : Table) (i : ℕ) : Type 0 where
  pub place : ℕ × List ℕ
  pub written : is_written place ≡ true
  pub reached : IsReachable t place.0
  pub leads : LeadsTo table place i

-- nothing is in the directory, and nothing in it is written
pub record IsBare (t : Table) (is_written : ℕ × List ℕ → Bool) (i : ℕ) : Type 0 where
  pub empty : (name : List ℕ) → get t.dentries (i, name) ≡ None
  pub unwritten : (name : List ℕ) → is_written (i, name) ≡ false

-- dentries that are not written lead from the root to the directory
pub data HasKeptWay (t : Table) (is_written : ℕ × List ℕ → Bool) : ℕ → Type 0 where
  starts : HasKeptWay t is_written root
  goes_down : (q : ℕ × List ℕ) (i : ℕ) → HasKeptWay t is_written q.0 → is_written q ≡ false → LeadsTo t q i → HasKeptWay t is_written i

-- a dentry leads to the directory after the writes, and the way to the dentry is kept
pub record IsMoved (t : Table) (is_written : ℕ × List ℕ → Bool) (after : Table) (i : ℕ) : Type 0 where
  pub place : ℕ × List ℕ
  pub way : HasKeptWay t is_written place.0
  pub leads : LeadsTo after place i

-- The writes make `after` of `t`. `left` are the directories that a written dentry of a reachable directory led to before, and `led`
-- those that one leads to now. What is just one of the two is bare, and what is both is moved.
pub record IsGentle (rank : ℕ) (t after : Table) (is_written : ℕ × List ℕ → Bool) (left led : ℕ → Bool) : Type 0 where
  pub undamaged : own_damage rank t ≡ None
  pub others : (q : ℕ × List ℕ) → is_written q ≡ false → get after.dentries q ≡ get t.dentries q
  pub left_all : (q : ℕ × List ℕ) (i : ℕ) → is_written q ≡ true → IsReachable t q.0 → LeadsTo t q i → left i ≡ true
  pub led_all : (q : ℕ × List ℕ) (i : ℕ) → is_written q ≡ true → IsReachable t q.0 → LeadsTo after q i → led i ≡ true
  pub left_from : (i : ℕ) → left i ≡ true → IsNamed t is_written t i
  pub led_from : (i : ℕ) → led i ≡ true → IsNamed t is_written after i
  pub bare : (i : ℕ) → left i ≡ not (led i) → IsBare t is_written i
  pub moved : (i : ℕ) → left i ≡ true → led i ≡ true → IsMoved t is_written after i
