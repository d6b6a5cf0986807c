use Rattle.mj_store.specs.State.{contents}
use Rattle.mj_probe.proofs.Least.{in_object}
use Rattle.mj_probe.proofs.probe.least_in_object.Goals as goal

pub returns-clause-told : goal.returns-clause-told
returns-clause-told g c = λ s is still.
    in_object (contents s) c.args.rank c.args.layout.now c.args.index c.in_ok-size.size c.args.from c.least_behind.result (c.in_ok-size.ensures.told s is still) c.least_behind.ensures
