use Rattle.std.proofs.Common.{arith}
use Rattle.mj_plan.proofs.SentRequests.{is_sent}
use Rattle.mj_plan.proofs.sending.request_fits.Goals as goal

pub returns : goal.returns
returns c = is_sent c.args.r.now c.requires (omega arith) (omega arith) (omega arith) (omega arith) c.op_fits.ensures
