use Rattle.std.proofs.Common.{ap, ◌∙◌}
use Rattle.mj_chronicle.specs.Ends.{last_end}
use Rattle.mj_chronicle.proofs.chronicle.Chronicle.end_of.Goals as goal

pub returns : goal.returns
returns c = c.copied.ensures ∙ c.get.ensures.value ∙ c.self.invariant.ends (c.args.client, c.args.tid) ∙ ap (last_end c.args.client c.args.tid) c.self.view_is
