use Rattle.std.proofs.Common.{ℕ, List, sym, ap, ◌∙◌}
use Rattle.std.specs.Option.{option_and_then}
use Rattle.mj_maps.specs.Map.{get}
use Rattle.mj_cells.specs.declared.cell.CellKey.TheVariants as key
use Rattle.mj_cells.specs.Table.{dentry_of}
use Rattle.mj_cache.specs.Cached.{early_cells}
use Rattle.mj_judge.proofs.PartMaps.{get-dentries}
use Rattle.mj_cache.proofs.reads.dentry_at.Goals as goal

pub returns : goal.returns
returns c =
    ap (option_and_then dentry_of) (c.early.ensures ∙ ap (λ (n : List ℕ). get (early_cells c.args.cache.now) (key.Dentry c.args.dir n)) c.in_ok-copy.ensures.same)
    ∙ sym (get-dentries (early_cells c.args.cache.now) (c.args.dir, c.args.name.now))
