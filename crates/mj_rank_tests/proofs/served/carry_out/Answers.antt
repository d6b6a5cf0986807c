use Rattle.std.proofs.Common.{List, ap, ◌∙◌}
use Rattle.mj_cells.specs.declared.cell.CellWrite.{CellWrite}
use Rattle.mj_cells.specs.Table.{overlay}
use Rattle.mj_judge.specs.Own.{own_damage}
use Rattle.mj_cache.specs.Cached.{early_table}
use Rattle.mj_plan.proofs.Projecting.{undamaged}
use Rattle.mj_rank_tests.proofs.served.carry_out.Goals as goal

pub project-requires-clause-tree : goal.project-requires-clause-tree
project-requires-clause-tree c =
    ap (λ (ws : List CellWrite). own_damage c.args.cache.now.rank (overlay (early_table c.args.cache.now) ws)) c.in_ok-ws.ensures.writes
    ∙ undamaged c.args.cache.now c.args.r.now c.args.event.now c.requires.gives
