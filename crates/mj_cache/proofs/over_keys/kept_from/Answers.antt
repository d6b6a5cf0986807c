use Rattle.std.proofs.Common.{◌+◌, ℕ, length, sym, ap, ◌∙◌, arith}
use Rattle.std.specs.Prelude.{filter, nat_lt, nat_le}
use Rattle.mj_cache.specs.Cached.{early_tree}
use Rattle.mj_delta.specs.Events.{tids}
use Rattle.mj_tree.specs.Sessions.{kept_of}
use Rattle.mj_cache.proofs.Replies.{tids_fewer, tids_end, counted_from, few_kept}
use Rattle.mj_cache.proofs.over_keys.kept_from.Goals as goal

pub loop-tid-init : goal.loop-tid-init
loop-tid-init c =
    ap (λ (n : ℕ). n + length (filter (nat_lt c.args.oldest) (tids (kept_of (early_tree c.args.cache.now) c.args.client)))) c.kept_at-kept.ensures
    ∙ counted_from (early_tree c.args.cache.now) c.args.client c.args.oldest

pub overflow_add-kept : goal.overflow_add-kept
overflow_add-kept c =
    let few = few_kept c.args.cache.now c.requires.tree c.args.client (λ (e : ℕ × ℕ). nat_le c.args.oldest e.0) in
    omega (arith, few, c.loop-tid.invariant)

pub loop-tid-smaller : goal.loop-tid-smaller
loop-tid-smaller c =
    let fewer = tids_fewer (early_tree c.args.cache.now) c.args.client c.loop-tid.after c.in-Some.tid (sym c.in-Some.ensures) in
    omega (arith, fewer)

pub loop-tid-preserved : goal.loop-tid-preserved
loop-tid-preserved c =
    let fewer = tids_fewer (early_tree c.args.cache.now) c.args.client c.loop-tid.after c.in-Some.tid (sym c.in-Some.ensures) in
    omega (arith, fewer, c.loop-tid.invariant)

pub returns : goal.returns
returns c =
    let none = ap length (tids_end (early_tree c.args.cache.now) c.args.client c.loop-tid.after (sym c.in_default.ensures)) in
    omega (arith, none, c.loop-tid.invariant)
