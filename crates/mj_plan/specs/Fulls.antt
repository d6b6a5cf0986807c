-- The full dentry of an inode that a link or an open names.
use Rattle.std.specs.Prelude.{◌≡◌, ℕ, Option, Some, None}
use Rattle.mj_maps.specs.Map.{get}
use Rattle.mj_tree.specs.State.{attributes_of, link_count}
use Rattle.mj_cache.specs.Cached.{CacheValue, early_table, early_tree}
use Rattle.mj_index.specs.Places.{full_place}
use Rattle.mj_plan.specs.declared.fulls.FullDentry.{FullDentry}

-- it stands where the inode's full dentry does, and its record says what the tree does of the inode, and how many links it has
pub record IsFullOf (c : CacheValue) (i : ℕ) (f : FullDentry) : Type 0 where
  pub place : full_place c.rank (early_table c) i ≡ Some (f.dir, f.name.now)
  pub attributes : get (early_tree c).records i ≡ Some (attributes_of f.inode.now)
  pub links : f.inode.now.links ≡ link_count (early_tree c) i

-- there is none just where nothing names the inode
abbrev pub FullOf : CacheValue → ℕ → Option FullDentry → Type 0
FullOf c i None = get (early_tree c).records i ≡ None
FullOf c i (Some f) = IsFullOf c i f
