use Rattle.std.proofs.Common.{rules, ap, ◌∙◌, not, filter, ◌==◌}
use borrow.Author.Tests.{tests}
use Rattle.std.proofs.lemmas.Fn.{filter_same}
use Rattle.mj_base.specs.declared.record.InodeRecord.{InodeRecord}
use Rattle.mj_tree.proofs.keyed.drop_record.Goals as goal

pub returns : goal.returns
returns c =
    let test = λ (x : InodeRecord). not (x.ino == c.args.ino) in
    c.from_vec.ensures ∙ filter_same _ test _ (λ x b q k. search (rules, tests)) _ _ c.retain.ensures.filtered ∙ ap (filter test) c.vec_of-all.ensures
