use Rattle.std.proofs.Common.{sym, ◌∙◌}
use Rattle.mj_tables.specs.Layered.{early_cells}
use Rattle.mj_index.specs.Turning.{keys_have}
use Rattle.mj_index.proofs.Turning.{place_kept}
use Rattle.mj_index.proofs.turn.above.Goals as goal

pub returns-then-names : goal.returns-then-names
returns-then-names c =
    place_kept (early_cells c.args.layers.now) (keys_have c.args.keys.now) c.in_ok-key.key.now c.in_ok-value.value.now c.in_ok-parent.parent c.args.dir
    (sym c.have.ensures ∙ c.if-have.false) (sym c.in_ok-value.ensures) (sym c.in_ok-parent.ensures) (c.names.ensures c.if-names.true)
