use Rattle.std.proofs.Common.{[], ◌∷◌, ap, ◌∙◌}
use Rattle.mj_base.specs.Reading.{eight}
use Rattle.mj_base.specs.declared.object.ObjectName.TheVariants.{File, InoTable}
use Rattle.mj_store.specs.declared.act.HeadAct.TheVariants.{Put}
use Rattle.mj_format.specs.Sending.{head_op}
use Rattle.mj_format.proofs.made.table_ops.Goals as goal

pub returns : goal.returns
returns c =
    let stray = c.in_ok-directory-2.ensures ∙ ap (λ n. head_op (File n 0) (Put (eight 1))) (c.directory-2.view_is ∙ c.stray_ino.ensures) in
    let next = c.in_ok-number_bytes.ensures ∙ ap eight (c.number_bytes.view_is ∙ c.first_ino.ensures) in
    let inodes = c.with_head.ensures ∙ ap (λ bytes. head_op (InoTable c.args.rank) (Put bytes)) next in
    c.in_ok-ops.ensures.items ∙ (λ i. c.in_ok-directory.ensures i ∷ stray i ∷ inodes i ∷ c.with_head-2.ensures i ∷ [])
