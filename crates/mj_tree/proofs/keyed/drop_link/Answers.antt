use Rattle.std.proofs.Common.{rules, ap, ◌∙◌, not, filter, ◌==◌, ◌&&◌}
use borrow.Author.Tests.{tests}
use Rattle.std.proofs.lemmas.Fn.{filter_same}
use Rattle.mj_base.specs.InOrder.{same_bytes}
use Rattle.mj_tree.specs.declared.plain.PlainLink.{PlainLink}
use Rattle.mj_tree.proofs.keyed.drop_link.Goals as goal

pub returns : goal.returns
returns c =
    let test = λ (x : PlainLink). not ((x.parent == c.args.place.now.0) && same_bytes x.name c.args.place.now.1) in
    c.from_vec.ensures ∙ filter_same _ test _ (λ x b q k. search (rules, tests)) _ _ c.retain.ensures.filtered ∙ ap (filter test) c.vec_of-all.ensures
