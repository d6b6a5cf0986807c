use Rattle.std.proofs.Common.{◌≡◌, ◌++◌, map}
use Rattle.mj_maps.specs.Map.{picked}
use Rattle.mj_cells.specs.Next.{cell_of}
use Rattle.mj_tables.specs.Slots.{early_entry}
use Rattle.mj_tables.proofs.EarlyViews.{of_kind}
use Rattle.mj_tables.proofs.layers.push_views.Given as goal

abbrev pub invariant-loop-key : goal.invariant-loop-key
invariant-loop-key l = map cell_of l.found.items ++ of_kind l.dirs (picked early_entry l.key-iterator) ≡ map cell_of l.initial.found.items ++ of_kind l.dirs (picked early_entry l.initial.key-iterator)
