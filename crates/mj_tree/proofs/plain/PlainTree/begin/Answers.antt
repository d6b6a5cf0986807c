use Rattle.std.proofs.Common.{ap, ◌∙◌}
use Rattle.mj_maps.specs.Map.{insert, remove}
use Rattle.mj_tree.specs.State.{PlainState}
use Rattle.mj_tree.specs.Meaning.{state_of}
use Rattle.mj_tree.proofs.Made.{link_undone}
use Rattle.mj_tree.proofs.plain.PlainTree.begin.Goals as goal

pub returns-clause-err : goal.returns-clause-err
returns-clause-err c =
    let s = state_of c.args.self.now in
    let q = c.args.place in
    c.drop_link.ensures ∙ ap (λ (z : PlainState). record z { links = remove z.links q }) (c.in-Err.ensures.err ∙ c.in_ok-put_link.ensures.ok)
    ∙ ap (λ n. record s { links = remove (insert s.links (q.0, n) s.next) q }) c.in_ok-name.ensures.same
    ∙ link_undone s q s.next c.requires.free
