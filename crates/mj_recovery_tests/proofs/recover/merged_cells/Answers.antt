use Rattle.std.proofs.Common.{◌≡◌, [], ap, ◌∙◌}
use Rattle.mj_cells.specs.Table.{table_of}
use Rattle.mj_cells.proofs.CellMaps.{table_of-empty}
use Rattle.mj_tables.specs.Layered.{early_of}
use Rattle.mj_recovery_tests.specs.View.{table_in}
use Rattle.mj_recovery_tests.proofs.Whole.{merged_is}
use Rattle.mj_recovery_tests.proofs.recover.merged_cells.Goals as goal

pub returns : goal.returns
returns c =
    let last : table_in c.in_ok-layers.layers ≡ table_of (early_of c.put_events.new.cells []) = λ i. table_of (early_of (c.in_ok-layers.ensures.safe i) (c.in_ok-layers.ensures.groups i)) in
    last ∙ merged_is c.args.rank c.args.objects.now c.args.events.now (table_of c.in_ok-cells.cells) (table_of c.put_objects.new.cells) (table_of c.put_events.new.cells) c.requires.held
    (ap table_of (c.in_ok-cells.ensures ∙ c.new.ensures) ∙ table_of-empty) c.in_ok-put_objects.ensures c.in_ok-put_events.ensures
