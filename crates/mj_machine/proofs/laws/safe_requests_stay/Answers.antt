use Rattle.mj_machine.proofs.Runs.{run_stays}
use Rattle.mj_machine.proofs.laws.safe_requests_stay.Goals as goal

pub returns : goal.returns
returns c = run_stays
