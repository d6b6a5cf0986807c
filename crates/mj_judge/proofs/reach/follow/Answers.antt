use Rattle.std.proofs.Common.{◌++◌, ◌∷◌, [], cond, sym, ap, ◌∙◌, append-nil}
use Rattle.std.specs.BTreeSet.{insert_key}
use Rattle.mj_maps.specs.Orders.{nat_cmp}
use Rattle.mj_judge.proofs.Passes.{contains_is}
use Rattle.mj_judge.proofs.reach.follow.Goals as goal

pub returns-in_ok-insert-clause-dirs : goal.returns-in_ok-insert-clause-dirs
returns-in_ok-insert-clause-dirs c =
    c.in_ok-insert.ensures.keys
    ∙ sym (ap (λ b. cond b (insert_key nat_cmp c.args.dirs.now.keys c.args.edge.1) c.args.dirs.now.keys) (contains_is c.args.dirs.now.keys c.args.edge.0 ∙ sym c.contains.ensures ∙ c.if-contains.true))

pub returns-in_ok-insert-clause-left : goal.returns-in_ok-insert-clause-left
returns-in_ok-insert-clause-left c =
    sym (ap (λ b. c.args.left.now.items ++ cond b [] (c.args.edge ∷ [])) (contains_is c.args.dirs.now.keys c.args.edge.0 ∙ sym c.contains.ensures ∙ c.if-contains.true) ∙ append-nil c.args.left.now.items)

pub returns-in_ok-push-clause-dirs : goal.returns-in_ok-push-clause-dirs
returns-in_ok-push-clause-dirs c =
    sym (ap (λ b. cond b (insert_key nat_cmp c.args.dirs.now.keys c.args.edge.1) c.args.dirs.now.keys) (contains_is c.args.dirs.now.keys c.args.edge.0 ∙ sym c.contains.ensures ∙ c.if-contains.false))

pub returns-in_ok-push-clause-left : goal.returns-in_ok-push-clause-left
returns-in_ok-push-clause-left c =
    c.in_ok-push.ensures.items
    ∙ sym (ap (λ b. c.args.left.now.items ++ cond b [] (c.args.edge ∷ [])) (contains_is c.args.dirs.now.keys c.args.edge.0 ∙ sym c.contains.ensures ∙ c.if-contains.false))
