-- The keys of directories and the others, in two sets that are seen as one.
use Rattle.std.specs.Prelude.{◌≡◌, Bool, true, false, List, ◌++◌, Option, Some, None, refl}
use Rattle.std.specs.Coded.{Coded, code_by, coded_list}
use Rattle.std.specs.List.Sorted.{IsStrictlySortedBy}
use Rattle.std.specs.BTreeSet.{BTreeSet}
use Rattle.mj_cells.specs.declared.cell.CellKey.{CellKey}
use Rattle.mj_cells.specs.Cell.{key_cmp}
use Rattle.mj_cells.specs.contracts.cell.CellKey as cell_key
use Rattle.mj_tables.specs.Slots.{is_of_dir}
use Rattle.mj_tables.specs.Listed.{has_key}
use Rattle.mj_tables.specs.declared.there.There.TheInside.{Inside}

-- whether a directory's key can be above
abbrev pub dirs_above : Option CellKey → Bool
dirs_above None = true
dirs_above (Some k) = is_of_dir k

-- each key is a directory's, or none is
abbrev pub HasKind : Bool → BTreeSet CellKey → Type 0
HasKind dirs s = (k : CellKey) → has_key s k ≡ true → is_of_dir k ≡ dirs

-- the keys rise
abbrev pub Rises : BTreeSet CellKey → Type 0
Rises s = IsStrictlySortedBy key_cmp s.keys

-- each set rises, and has keys of its own kind alone
pub record AreApart (dirs others : BTreeSet CellKey) : Type 0 where
  pub dirs_rise : Rises dirs
  pub others_rise : Rises others
  pub are_of_dirs : HasKind true dirs
  pub are_others : HasKind false others

-- a directory's key is below each other key, so these come first
abbrev pub both_sets : BTreeSet CellKey → BTreeSet CellKey → BTreeSet CellKey
both_sets dirs others = record { keys = dirs.keys ++ others.keys }

abbrev pub keys_code : Coded (BTreeSet CellKey)
keys_code = code_by (List CellKey) (coded_list (cell_key.the_row).coded) (λ s. s.keys) (λ ks. record { keys = ks }) (λ _. refl)

abbrev pub keys_in : Inside → BTreeSet CellKey
keys_in a = both_sets a.dirs a.others

abbrev pub KeysApart : Inside → Type 0
KeysApart a = AreApart a.dirs a.others
