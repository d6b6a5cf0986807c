use Rattle.std.proofs.Common.{Option, sym, ap, ◌∙◌}
use Rattle.std.specs.Prelude.{is_some}
use Rattle.std.specs.Option.{option_and_then}
use Rattle.mj_maps.specs.Map.{Set, get}
use Rattle.mj_maps.specs.Orders.{pair_cmp}
use Rattle.mj_cells.specs.declared.cell.CellValue.{CellValue}
use Rattle.mj_cells.specs.Table.{presence_of}
use Rattle.mj_cache.specs.Cached.{early_cells, early_table}
use Rattle.mj_judge.proofs.PartMaps.{get-opens}
use Rattle.mj_cache.proofs.Placed.{opens_same}
use Rattle.mj_cache.proofs.view.CacheTreeView.is_open.Goals as goal

pub returns-in-Some : goal.returns-in-Some
returns-in-Some c =
    c.is_present.ensures ∙ ap (λ (o : Option CellValue). is_some (option_and_then presence_of o)) c.in-Some.ensures
    ∙ ap is_some (sym (get-opens (early_cells c.args.self.now) (c.args.client, c.args.ino)))
    ∙ ap (λ (s : Set pair_cmp). is_some (get s (c.args.client, c.args.ino))) (sym (opens_same c.args.self.now.rank (early_table c.args.self.now)))

pub returns : goal.returns
returns c =
    ap (λ (o : Option CellValue). is_some (option_and_then presence_of o)) c.in-None.ensures
    ∙ ap is_some (sym (get-opens (early_cells c.args.self.now) (c.args.client, c.args.ino)))
    ∙ ap (λ (s : Set pair_cmp). is_some (get s (c.args.client, c.args.ino))) (sym (opens_same c.args.self.now.rank (early_table c.args.self.now)))
