use Rattle.std.proofs.Common.{Some, ap, ◌∙◌}
use Rattle.std.specs.Option.{option_and_then}
use Rattle.mj_cells.specs.declared.cell.CellKey.{CellKey}
use Rattle.mj_cells.specs.declared.cell.CellValue.{CellValue}
use Rattle.mj_tables.specs.Layered.{next_there}
use Rattle.mj_cache.specs.Cached.{early_cells}
use Rattle.mj_cache.specs.Reads.{name_in, name_of}
use Rattle.mj_cache.proofs.Names.{next_name_is}
use Rattle.mj_cache.proofs.over_keys.next_name.Goals as goal

pub returns-in-Some-name_in-clause-name : goal.returns-in-Some-name_in-clause-name
returns-in-Some-name_in-clause-name c =
    c.in-Some-name_in.ensures.name
    ∙ ap (option_and_then (λ (e : CellKey × CellValue). name_in c.args.dir e.0)) (c.in-Some.ensures ∙ ap (λ k. next_there (early_cells c.args.cache.now) (Some k)) c.requires.here)
    ∙ next_name_is c.args.cache.now c.requires.tree c.args.dir c.requires.dir c.all_fit.ensures.early (name_of c.args.after.now)

pub returns-in-None-name_in-clause-name : goal.returns-in-None-name_in-clause-name
returns-in-None-name_in-clause-name c =
    c.in-None-name_in.ensures.name
    ∙ ap (option_and_then (λ (e : CellKey × CellValue). name_in c.args.dir e.0)) (c.in-Some.ensures ∙ ap (λ k. next_there (early_cells c.args.cache.now) (Some k)) c.requires.here)
    ∙ next_name_is c.args.cache.now c.requires.tree c.args.dir c.requires.dir c.all_fit.ensures.early (name_of c.args.after.now)

pub returns-in-None-clause-name : goal.returns-in-None-clause-name
returns-in-None-clause-name c =
    ap (option_and_then (λ (e : CellKey × CellValue). name_in c.args.dir e.0)) (c.in-None.ensures ∙ ap (λ k. next_there (early_cells c.args.cache.now) (Some k)) c.requires.here)
    ∙ next_name_is c.args.cache.now c.requires.tree c.args.dir c.requires.dir c.all_fit.ensures.early (name_of c.args.after.now)
