use Rattle.std.proofs.Common.{◌≡◌, ◌≤◌, ◌<◌, ◌^◌, not, sym, ap, ◌∙◌, arith}
use Rattle.mj_cache.specs.Cached.{early_tree}
use Rattle.mj_cache.proofs.Replies.{few_from, none_is}
use Rattle.mj_cache.proofs.over_keys.lie_close.Goals as goal

pub returns-then-most-gt1 : goal.returns-then-most-gt1
returns-then-most-gt1 c told =
    let own : c.oldest.inside.0 ≡ c.args.oldest = c.oldest.view_is in
    let fits : c.oldest.inside.0 < 2 ^ 64 = c.oldest.invariant in
    let from : c.args.oldest ≤ c.saturating_add.result = omega arith in
    let none = none_is c.next_tid.result (c.is_none.ensures ∙ ap not told) in
    let few = few_from (early_tree c.args.cache.now) c.args.client c.args.oldest c.saturating_add.result from (sym c.next_tid.ensures ∙ none) in
    omega (arith, few)
