use Rattle.std.proofs.Common.{ℕ, Option, sym, ap, ◌∙◌}
use Rattle.std.specs.Prelude.{unwrap_or}
use Rattle.mj_cache.specs.Cached.{early_cells}
use Rattle.mj_judge.proofs.PartMaps.{next_is}
use Rattle.mj_cache.proofs.view.CacheTreeView.next_ino.Goals as goal

pub returns-in-Some : goal.returns-in-Some
returns-in-Some c = ap (λ (o : Option ℕ). unwrap_or o 0) (c.in-Some.ensures ∙ sym (next_is (early_cells c.args.self.now)) ∙ c.has_tree.ensures.dentries.next)

pub returns-in-None : goal.returns-in-None
returns-in-None c = ap (λ (o : Option ℕ). unwrap_or o 0) (c.in-None.ensures ∙ sym (next_is (early_cells c.args.self.now)) ∙ c.has_tree.ensures.dentries.next)
