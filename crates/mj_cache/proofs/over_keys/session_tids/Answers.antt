use Rattle.std.proofs.Common.{ℕ, List, ◌++◌, sym, ap, ◌∙◌, arith}
use Rattle.std.specs.Prelude.{filter, nat_lt}
use Rattle.mj_cache.specs.Cached.{early_tree}
use Rattle.mj_delta.specs.Events.{tids}
use Rattle.mj_tree.specs.Sessions.{kept_of}
use Rattle.mj_cache.proofs.Replies.{from_own, tids_push, tids_fewer}
use Rattle.mj_cache.proofs.over_keys.session_tids.Goals as goal

pub loop-tid-init : goal.loop-tid-init
loop-tid-init c =
    ap (λ (xs : List ℕ). xs ++ filter (nat_lt c.args.oldest) (tids (kept_of (early_tree c.args.cache.now) c.args.client))) c.in_ok-found.ensures
    ∙ from_own c.args.cache.now c.requires.tree c.args.client c.args.oldest c.requires.oldest

pub loop-tid-smaller : goal.loop-tid-smaller
loop-tid-smaller c =
    let fewer = tids_fewer (early_tree c.args.cache.now) c.args.client c.loop-tid.after c.in-Some.tid (sym c.in-Some.ensures) in
    omega (arith, fewer)

pub loop-tid-preserved : goal.loop-tid-preserved
loop-tid-preserved c =
    ap (λ (xs : List ℕ). xs ++ filter (nat_lt c.in-Some.tid) (tids (kept_of (early_tree c.args.cache.now) c.args.client))) c.in_ok-push.ensures.items
    ∙ tids_push (early_tree c.args.cache.now) c.args.client c.loop-tid.after c.in-Some.tid c.loop-tid.found.items (sym c.in-Some.ensures) c.loop-tid.invariant
