use Rattle.std.proofs.Common.{ap, ◌∙◌}
use Rattle.std.specs.Option.{option_and_then}
use Rattle.mj_cells.specs.declared.cell.CellKey.{CellKey}
use Rattle.mj_cells.specs.declared.cell.CellValue.{CellValue}
use Rattle.mj_cache.specs.Reads.{tid_in}
use Rattle.mj_cache.proofs.Replies.{next_tid_is}
use Rattle.mj_cache.proofs.over_keys.next_tid.Goals as goal

pub returns-in-Some : goal.returns-in-Some
returns-in-Some c =
    c.tid_in.ensures ∙ ap (option_and_then (λ (e : CellKey × CellValue). tid_in c.args.client e.0)) c.in-Some.ensures
    ∙ next_tid_is c.args.cache.now c.requires.tree c.args.client c.all_fit.ensures.early c.args.after

pub returns : goal.returns
returns c =
    ap (option_and_then (λ (e : CellKey × CellValue). tid_in c.args.client e.0)) c.in-None.ensures
    ∙ next_tid_is c.args.cache.now c.requires.tree c.args.client c.all_fit.ensures.early c.args.after
