use Rattle.mj_maps.proofs.MapLaws.{exact_nat}
use Rattle.mj_maps.proofs.Kept.{one_given}
use Rattle.mj_plan.proofs.plan_lumps.put_head.Goals as goal

pub returns : goal.returns
returns c = one_given exact_nat c.args.heads.now.entries c.insert.new.self.entries c.args.dir c.args.head c.in_ok-insert.ensures.updates.0
