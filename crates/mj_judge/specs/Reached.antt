-- The directories that edges lead to from the root, pass by pass.
use Rattle.std.specs.Prelude.{◌≡◌, ◌⊎◌, ℕ, Bool, true, List, [], ◌∷◌, ◌++◌, Option, option_map, option_and_then, if◌then◌else◌}
use Rattle.std.specs.BTreeSet.{insert_key}
use Rattle.mj_maps.specs.Orders.{nat_cmp}
use Rattle.mj_cells.specs.Table.{Table}
use Rattle.mj_recovery.specs.Tree.{Entry, subdir, is_among, reachable}
use Rattle.mj_judge.specs.Parts.{Cell, dentry_entry}

-- from a directory to one that a full dentry in it names
abbrev pub Edge : Type 0
Edge = ℕ × ℕ

abbrev pub edge_to : Entry → Option Edge
edge_to e = option_map (λ i. (e.0.0, i)) (subdir e.1)

abbrev pub edge_of : Cell → Option Edge
edge_of c = option_and_then edge_to (dentry_entry c)

-- the directories with where an edge from one of them leads, and an edge that is from none of them
abbrev pub with_edge : List ℕ → Edge → List ℕ
with_edge dirs e = if is_among dirs e.0 then insert_key nat_cmp dirs e.1 else dirs

abbrev pub unled : List ℕ → Edge → List Edge
unled dirs e = if is_among dirs e.0 then [] else e ∷ []

-- the directories once a pass over edges is made, each of which counts at once
abbrev pub pass_dirs : List ℕ → List Edge → List ℕ
pass_dirs dirs [] = dirs
pass_dirs dirs (e ∷ es) = pass_dirs (with_edge dirs e) es

-- the edges whose directory was not known when it was their turn
abbrev pub pass_left : List ℕ → List Edge → List Edge
pass_left dirs [] = []
pass_left dirs (e ∷ es) = unled dirs e ++ pass_left (with_edge dirs e) es

-- an edge is one of these
abbrev pub Leads : Edge → List Edge → Type 0
Leads e [] = ⊥
Leads e (x ∷ xs) = (x ≡ e) ⊎ Leads e xs

-- what is true of the root and goes along each edge is true of each of these, the root is one of them, and so is where an edge
-- from one of them leads
pub record AreReached (edges : List Edge) (dirs : List ℕ) : Type 0 where
  pub root_there : is_among dirs 1 ≡ true
  pub only : (p : ℕ → Bool) → p 1 ≡ true → ((e : Edge) → Leads e edges → p e.0 ≡ true → p e.1 ≡ true) → (d : ℕ) → is_among dirs d ≡ true → p d ≡ true
  pub closed : (e : Edge) → Leads e edges → is_among dirs e.0 ≡ true → is_among dirs e.1 ≡ true

-- these are the reachable directories of a table, in some order
abbrev pub AreDirs : Table → List ℕ → Type 0
AreDirs t dirs = (d : ℕ) → is_among dirs d ≡ is_among (reachable t) d
