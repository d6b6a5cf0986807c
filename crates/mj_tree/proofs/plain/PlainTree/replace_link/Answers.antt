use Rattle.std.proofs.Common.{ap, ◌∙◌}
use Rattle.mj_maps.specs.Map.{remove}
use Rattle.mj_tree.specs.State.{PlainState}
use Rattle.mj_tree.specs.Change.{settled}
use Rattle.mj_tree.specs.Meaning.{state_of}
use Rattle.mj_tree.proofs.Made.{replaced_is}
use Rattle.mj_tree.proofs.plain.PlainTree.replace_link.Goals as goal

pub returns-clause-ok : goal.returns-clause-ok
returns-clause-ok c =
    let q = c.args.from.now in
    c.settle.ensures
    ∙ ap (λ z. settled z c.args.other) (c.drop_link.ensures ∙ ap (λ (z : PlainState). record z { links = remove z.links q }) c.in_ok-put_link.ensures.ok)
    ∙ replaced_is (state_of c.args.self.now) q c.args.to c.args.ino c.args.other c.requires.from c.requires.to c.requires.apart
