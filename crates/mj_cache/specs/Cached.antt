-- What a cache holds: a rank, its safe cells, and over them the groups of writes that are not safe yet. The early table has all
-- of them, and it always has a tree.
use Rattle.std.specs.Prelude.{ℕ, List, [], ◌∷◌, ◌++◌, refl, Option, option_map}
use Rattle.std.specs.Coded.{Coded, code_by, coded×, coded_ℕ, coded_list}
use Rattle.mj_maps.specs.Map.{Map, code}
use Rattle.mj_cells.specs.declared.cell.CellKey.{CellKey}
use Rattle.mj_cells.specs.declared.cell.CellValue.{CellValue}
use Rattle.mj_cells.specs.declared.cell.CellWrite.{CellWrite}
use Rattle.mj_cells.specs.Cell.{key_cmp}
use Rattle.mj_cells.specs.Table.{Table, table_of, put_all}
use Rattle.mj_tree.specs.State.{PlainState}
use Rattle.mj_recovery.specs.Tree.{tree_of}
use Rattle.mj_tables.specs.declared.group.Group.{Group}
use Rattle.mj_cells.specs.contracts.cell.CellKey as cell_key
use Rattle.mj_cells.specs.contracts.cell.CellValue as cell_value
use Rattle.mj_tables.specs.Layered.{group_code, early_of, ended, unended, all_writes}
use Rattle.mj_index.specs.Places.{full_place, dentry_key}

pub record CacheValue : Type 0 where
  pub rank : ℕ
  pub safe : Map key_cmp CellValue
  pub groups : List Group

abbrev pub cache_code : Coded CacheValue
cache_code = code_by
    (ℕ × (Map key_cmp CellValue × List Group))
    (coded× coded_ℕ (coded× (code (cell_key.the_row).coded (cell_value.the_row).coded) (coded_list group_code)))
    (λ v. (v.rank, (v.safe, v.groups)))
    (λ p. record { rank = p.0; safe = p.1.0; groups = p.1.1 })
    (λ _. refl)

-- a cache of safe cells alone
abbrev pub begun : ℕ → Map key_cmp CellValue → CacheValue
begun rank m = record { rank = rank; safe = m; groups = [] }

-- one group more
abbrev pub projected : List CellWrite → ℕ → CacheValue → CacheValue
projected ws ends v = record v { groups = v.groups ++ record { ends = ends; writes = ws } ∷ [] }

-- the groups that end at or below the position are safe
abbrev pub made_safe : ℕ → CacheValue → CacheValue
made_safe upto v = record v { safe = put_all v.safe (all_writes (ended upto v.groups)); groups = unended upto v.groups }

-- ---- the early table

abbrev pub early_cells : CacheValue → Map key_cmp CellValue
early_cells v = early_of v.safe v.groups

abbrev pub early_table : CacheValue → Table
early_table v = table_of (early_cells v)

-- the tree of the early table
abbrev pub early_tree : CacheValue → PlainState
early_tree v = tree_of v.rank (early_table v)

-- ---- where full dentries stand

-- the key of an inode's full dentry, in a reachable directory or in stray
abbrev pub primary_of : CacheValue → ℕ → Option CellKey
primary_of v i = option_map dentry_key (full_place v.rank (early_table v) i)
