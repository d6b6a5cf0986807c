use Rattle.std.proofs.Common.{◌≡◌, ◌++◌, length}
use Rattle.std.specs.Prelude.{filter}
use Rattle.mj_tree.specs.Row.{names_in}
use Rattle.mj_cells.specs.declared.cell.CellKey.TheVariants as key
use Rattle.mj_cache.specs.Cached.{early_tree}
use Rattle.mj_cache.specs.Reads.{name_below, name_of}
use Rattle.mj_cache.proofs.over_keys.push_names.Given as goal

abbrev pub invariant-loop-key : goal.invariant-loop-key
invariant-loop-key l = record {
  here : l.after ≡ key.Dentry l.dir (name_of l.after);
  so_far : l.names.items ++ filter (name_below (name_of l.after)) (names_in (early_tree l.cache) l.dir) ≡ l.initial.names.items ++ filter (name_below (name_of l.first)) (names_in (early_tree l.cache) l.dir);
}

abbrev pub decreases-loop-key : goal.decreases-loop-key
decreases-loop-key l = length (filter (name_below (name_of l.after)) (names_in (early_tree l.cache) l.dir))
