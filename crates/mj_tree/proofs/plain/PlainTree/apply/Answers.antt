use Rattle.std.proofs.Common.{sym, subst, ◌∙◌}
use Rattle.mj_tree.specs.Possible.{CanBeDecided}
use Rattle.mj_tree.specs.Meaning.{state_of}
use Rattle.mj_tree.proofs.Possible.{decided}
use Rattle.mj_tree.proofs.plain.PlainTree.apply.Goals as goal

pub accept-requires : goal.accept-requires
accept-requires c =
    let s = state_of c.args.self.now in
    subst (CanBeDecided s) (sym c.in_ok-reply.ensures ∙ c.in-Accepted.is) (decided s c.args.r.now)
