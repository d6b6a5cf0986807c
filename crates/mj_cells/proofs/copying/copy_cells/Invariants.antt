use Rattle.std.proofs.Common.{◌≡◌, map}
use Rattle.mj_cells.specs.Table.{as_write, put_all}
use Rattle.mj_cells.specs.Table.{cells}
use Rattle.mj_cells.proofs.copying.copy_cells.Given as goal

abbrev pub invariant-loop-key : goal.invariant-loop-key
invariant-loop-key l = put_all (cells l.to) (map as_write l.key-iterator) ≡ put_all (cells l.initial.to) (map as_write l.initial.key-iterator)
