use Rattle.std.proofs.Common.{ap, ◌∙◌}
use Rattle.mj_maps.specs.Map.{remove}
use Rattle.mj_tree.specs.State.{PlainState}
use Rattle.mj_tree.specs.Meaning.{state_of}
use Rattle.mj_tree.proofs.Made.{moved_is}
use Rattle.mj_tree.proofs.plain.PlainTree.move_link.Goals as goal

pub returns-clause-ok : goal.returns-clause-ok
returns-clause-ok c =
    let q = c.args.from.now in
    c.drop_link.ensures ∙ ap (λ (z : PlainState). record z { links = remove z.links q }) c.in_ok-put_link.ensures.ok
    ∙ moved_is (state_of c.args.self.now) q c.args.to c.args.ino c.requires.from c.requires.to
