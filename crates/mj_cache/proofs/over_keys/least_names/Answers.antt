use Rattle.std.proofs.Common.{ℕ, List, [], ◌∷◌, ◌++◌, sym, ap, ◌∙◌}
use Rattle.std.specs.Prelude.{filter, is_some}
use Rattle.mj_maps.specs.Map.{get}
use Rattle.mj_tree.specs.Row.{names_in}
use Rattle.mj_cache.specs.Cached.{early_tree}
use Rattle.mj_delta.proofs.Facts.{some_is}
use Rattle.mj_cache.specs.Reads.{name_below}
use Rattle.mj_cache.proofs.Replies.{none_is}
use Rattle.mj_cache.proofs.Names.{least_first, no_least}
use Rattle.mj_cache.proofs.over_keys.least_names.Goals as goal

pub returns-in_ok-push : goal.returns-in_ok-push
returns-in_ok-push c =
    let links = (early_tree c.args.cache.now).links in
    let link = some_is (get links (c.args.dir, 1 ∷ [])) (ap (λ (n : List ℕ). is_some (get links (c.args.dir, n))) (sym c.requires.least) ∙ ap is_some (sym c.in_ok-link_at.ensures) ∙ sym c.is_some.ensures ∙ c.if-is_some.true) in
    ap (λ (xs : List (List ℕ)). xs ++ filter (name_below c.args.least.now) (names_in (early_tree c.args.cache.now) c.args.dir))
    (c.in_ok-push.ensures.items ∙ (λ z. c.new-names.ensures.items z ++ c.in_ok-copy.ensures.same z ∷ []))
    ∙ ap (λ (n : List ℕ). (n ∷ []) ++ filter (name_below n) (names_in (early_tree c.args.cache.now) c.args.dir)) c.requires.least
    ∙ least_first c.args.cache.now c.requires.tree c.args.dir c.requires.dir link.0 link.1

pub returns-else-is_some : goal.returns-else-is_some
returns-else-is_some c =
    let links = (early_tree c.args.cache.now).links in
    let none = none_is (get links (c.args.dir, 1 ∷ [])) (ap (λ (n : List ℕ). is_some (get links (c.args.dir, n))) (sym c.requires.least) ∙ ap is_some (sym c.in_ok-link_at.ensures) ∙ sym c.is_some.ensures ∙ c.if-is_some.false) in
    ap (λ (xs : List (List ℕ)). xs ++ filter (name_below c.args.least.now) (names_in (early_tree c.args.cache.now) c.args.dir)) c.new-names.ensures.items
    ∙ ap (λ (n : List ℕ). filter (name_below n) (names_in (early_tree c.args.cache.now) c.args.dir)) c.requires.least
    ∙ no_least c.args.cache.now c.requires.tree c.args.dir c.requires.dir none
