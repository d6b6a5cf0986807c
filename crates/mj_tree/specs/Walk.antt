-- Walking a path: 20 where a name is looked for in what is no directory, 2 where it is missing. Symlinks are not followed.
use Rattle.std.specs.Prelude.{ℕ, Bool, true, false, ◌&&◌, List, [], ◌∷◌, Option, Some, None, Result, Ok, Err, if◌then◌else◌}
use Rattle.mj_base.specs.InOrder.{same_bytes}
use Rattle.mj_base.specs.Reading.{◌>>=◌}
use Rattle.mj_maps.specs.Map.{get}
use Rattle.mj_tree.specs.State.{PlainState, root, is_dir}

-- What may be refused, with the number of an error.
abbrev pub Answer : Type 0 → Type 0
Answer A = Result A ℕ

-- a refusal, where the test holds
abbrev pub refuse : Bool → ℕ → Answer (Unit {0})
refuse false code = Ok tt
refuse true code = Err code

-- what follows where nothing is refused
infixl 10 ◌>>◌
abbrev pub ◌>>◌ : {B : Type 0} → Answer (Unit {0}) → Answer B → Answer B
(Ok x) >> rest = rest
(Err code) >> rest = Err code

abbrev pub found : {A : Type 0} → Option A → Answer A
found None = Err 2
found (Some x) = Ok x

abbrev pub Path : Type 0
Path = List (List ℕ)

abbrev pub is_root : Path → Bool
is_root [] = true
is_root (name ∷ names) = false

-- one name further
abbrev pub step : PlainState → ℕ → List ℕ → Answer ℕ
step s i name = if is_dir s i then found (get s.links (i, name)) else Err 20

-- the inode to which the names lead from another
abbrev pub walk_from : PlainState → ℕ → Path → Answer ℕ
walk_from s i [] = Ok i
walk_from s i (name ∷ names) = step s i name >>= λ j. walk_from s j names

abbrev pub walk : PlainState → Path → Answer ℕ
walk s path = walk_from s root path

-- the directory to which all names but the last lead
abbrev pub parent_from : PlainState → ℕ → Path → Answer ℕ
parent_from s i [] = Ok i
parent_from s i (name ∷ []) = if is_dir s i then Ok i else Err 20
parent_from s i (name ∷ next ∷ names) = step s i name >>= λ j. parent_from s j (next ∷ names)

abbrev pub last_name : Path → List ℕ
last_name [] = []
last_name (name ∷ []) = name
last_name (name ∷ next ∷ names) = last_name (next ∷ names)

-- the directory and the name that a path names; the root has none, and gives the refusal for it
abbrev pub place : PlainState → Path → ℕ → Answer (ℕ × List ℕ)
place s [] code = Err code
place s (name ∷ names) code = parent_from s root (name ∷ names) >>= λ dir. Ok (dir, last_name (name ∷ names))

-- the first is a proper beginning of the second
abbrev pub begins : Path → Path → Bool
begins [] [] = false
begins [] (y ∷ ys) = true
begins (x ∷ xs) [] = false
begins (x ∷ xs) (y ∷ ys) = same_bytes x y && begins xs ys
