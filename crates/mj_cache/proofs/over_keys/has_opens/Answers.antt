use Rattle.std.proofs.Common.{Option, false, ap, ◌∙◌}
use Rattle.std.specs.Option.{option_map_or}
use Rattle.mj_cells.specs.declared.cell.CellKey.{CellKey}
use Rattle.mj_cells.specs.declared.cell.CellValue.{CellValue}
use Rattle.mj_cache.specs.Reads.{is_open_by}
use Rattle.mj_cache.proofs.Opens.{has_opens_is}
use Rattle.mj_cache.proofs.over_keys.has_opens.Goals as goal

pub returns-in-Some : goal.returns-in-Some
returns-in-Some c =
    c.is_open_by.ensures ∙ ap (λ (o : Option (CellKey × CellValue)). option_map_or (λ (e : CellKey × CellValue). is_open_by c.args.client e.0) o false) c.in-Some.ensures
    ∙ has_opens_is c.args.cache.now c.requires.tree c.all_fit.ensures.early c.args.client

pub returns : goal.returns
returns c =
    ap (λ (o : Option (CellKey × CellValue)). option_map_or (λ (e : CellKey × CellValue). is_open_by c.args.client e.0) o false) c.in-None.ensures
    ∙ has_opens_is c.args.cache.now c.requires.tree c.all_fit.ensures.early c.args.client
