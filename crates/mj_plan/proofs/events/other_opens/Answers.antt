use Rattle.std.proofs.Common.{◌-◌, sym, ap, ◌∙◌}
use Rattle.mj_cache.specs.Cached.{early_tree}
use Rattle.mj_plan.proofs.Left.{open_gone, not_open}
use Rattle.mj_plan.proofs.events.other_opens.Goals as goal

pub returns-then-is_open : goal.returns-then-is_open
returns-then-is_open c = c.saturating_sub.ensures ∙ ap (λ n. n - 1) c.opens_of-opens.ensures ∙ open_gone (early_tree c.args.cache.now) c.args.client c.args.ino (sym c.is_open.ensures ∙ c.if-is_open.true)

pub returns-else-is_open : goal.returns-else-is_open
returns-else-is_open c = c.opens_of-opens.ensures ∙ not_open (early_tree c.args.cache.now) c.args.client c.args.ino (sym c.is_open.ensures ∙ c.if-is_open.false)
