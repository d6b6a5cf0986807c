use Rattle.std.proofs.Common.{ℕ, List, [], ◌∷◌, ◌++◌, ◌+◌, true, false, filter, nat_lt, sym, ap, ◌∙◌, append_assoc, arith}
use Rattle.std.proofs.lemmas.Bool.{leb-true}
use Rattle.std.proofs.lemmas.List.{append-nil}
use Rattle.mj_cache.specs.Cached.{early_tree}
use Rattle.mj_delta.specs.Events.{tids}
use Rattle.mj_tree.specs.Sessions.{kept_of}
use Rattle.mj_cache.proofs.Replies.{at_least, own_below, own_alone, no_own_below, next_below, next_not_below, tids_fewer}
use Rattle.mj_cache.proofs.over_keys.kept_tids_below.Goals as goal

pub returns-then-ge : goal.returns-then-ge
returns-then-ge c =
    c.new.ensures.items
    ∙ no_own_below c.args.cache.now c.requires.tree c.args.client c.args.oldest c.requires.oldest c.args.bound (at_least c.args.oldest c.args.bound true c.if-ge.ensures)

pub returns-then-no_more_below : goal.returns-then-no_more_below
returns-then-no_more_below c =
    let under = at_least c.args.oldest c.args.bound false c.if-ge.ensures in
    let near = leb-true c.args.bound (c.args.oldest + 1) (sym c.no_more_below.ensures ∙ c.if-no_more_below.true) in
    c.in_ok-found.ensures ∙ own_alone c.args.cache.now c.requires.tree c.args.client c.args.oldest c.requires.oldest c.args.bound under near

pub loop-tid-init : goal.loop-tid-init
loop-tid-init c =
    ap (λ (xs : List ℕ). xs ++ filter (λ tid. nat_lt tid c.args.bound) (filter (nat_lt c.args.oldest) (tids (kept_of (early_tree c.args.cache.now) c.args.client)))) c.in_ok-found.ensures
    ∙ own_below c.args.cache.now c.requires.tree c.args.client c.args.oldest c.requires.oldest c.args.bound (at_least c.args.oldest c.args.bound false c.if-ge.ensures)

pub returns-then-ge-2 : goal.returns-then-ge-2
returns-then-ge-2 c =
    let over = at_least c.in-Some.tid c.args.bound true c.if-ge-2.ensures in
    sym (append-nil c.loop-tid.found.items)
    ∙ ap (λ (xs : List ℕ). c.loop-tid.found.items ++ xs) (sym (next_not_below (early_tree c.args.cache.now) c.args.client c.loop-tid.after c.in-Some.tid c.args.bound (sym c.in-Some.ensures) over))
    ∙ c.loop-tid.invariant

pub loop-tid-smaller : goal.loop-tid-smaller
loop-tid-smaller c =
    let fewer = tids_fewer (early_tree c.args.cache.now) c.args.client c.loop-tid.after c.in-Some.tid (sym c.in-Some.ensures) in
    omega (arith, fewer)

pub loop-tid-preserved : goal.loop-tid-preserved
loop-tid-preserved c =
    let under = at_least c.in-Some.tid c.args.bound false c.if-ge-2.ensures in
    let rest = filter (λ tid. nat_lt tid c.args.bound) (filter (nat_lt c.in-Some.tid) (tids (kept_of (early_tree c.args.cache.now) c.args.client))) in
    ap (λ (xs : List ℕ). xs ++ rest) c.in_ok-push.ensures.items
    ∙ append_assoc c.loop-tid.found.items (c.in-Some.tid ∷ []) rest
    ∙ ap (λ (xs : List ℕ). c.loop-tid.found.items ++ xs) (sym (next_below (early_tree c.args.cache.now) c.args.client c.loop-tid.after c.in-Some.tid c.args.bound (sym c.in-Some.ensures) under))
    ∙ c.loop-tid.invariant
