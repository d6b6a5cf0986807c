-- What is wrong with a table by itself.
use Rattle.std.specs.Prelude.{ℕ, Option}
use Rattle.mj_base.specs.declared.damage.Damage.{Damage}
use Rattle.mj_cells.specs.Table.{Table}
use Rattle.mj_recovery.specs.Damage.{tree_damage, cell_dirs}

-- The first damage of a table by itself: each directory that has a cell counts as one of a live lump.
abbrev pub own_damage : ℕ → Table → Option Damage
own_damage rank t = tree_damage rank t (cell_dirs t)
