use Rattle.std.proofs.Common.{sym, ◌∙◌}
use Rattle.mj_cache.specs.Cached.{early_cells}
use Rattle.mj_judge.proofs.PartMaps.{get-heads}
use Rattle.mj_cache.proofs.reads.head_of.Goals as goal

pub returns : goal.returns
returns c = c.number.ensures ∙ sym (get-heads (early_cells c.args.cache.now) c.args.dir)
