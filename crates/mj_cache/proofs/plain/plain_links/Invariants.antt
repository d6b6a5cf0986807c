use Rattle.std.proofs.Common.{◌≡◌, ◌++◌, drop, map}
use Rattle.std.specs.Prelude.{filter_map}
use Rattle.mj_tree.specs.Lists.{link_entries}
use Rattle.mj_cells.specs.Next.{cell_of}
use Rattle.mj_cache.specs.PlainLists.{link_of}
use Rattle.mj_cache.proofs.plain.plain_links.Given as goal

abbrev pub invariant-loop-cell : goal.invariant-loop-cell
invariant-loop-cell l = link_entries l.found.items ++ filter_map (link_of l.dirs.keys) (map cell_of (drop l.cell-index l.cells)) ≡ filter_map (link_of l.dirs.keys) (map cell_of l.cells)
