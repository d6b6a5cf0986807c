use Rattle.std.proofs.Common.{rules, ap, ◌∙◌, not, filter, ◌==◌}
use borrow.Author.Tests.{tests}
use Rattle.std.proofs.lemmas.Fn.{filter_same}
use Rattle.mj_tree.specs.declared.session.PlainSession.{PlainSession}
use Rattle.mj_tree.proofs.keyed.drop_session.Goals as goal

pub returns : goal.returns
returns c =
    let test = λ (x : PlainSession). not (x.client == c.args.client) in
    c.from_vec.ensures ∙ filter_same _ test _ (λ x b q k. search (rules, tests)) _ _ c.retain.ensures.filtered ∙ ap (filter test) c.vec_of-all.ensures
