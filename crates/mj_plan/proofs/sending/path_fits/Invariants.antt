use Rattle.std.proofs.Common.{take}
use Rattle.std.specs.Prelude.{IsTrue}
use Rattle.mj_delta.specs.Fits.{are_names}
use Rattle.mj_plan.proofs.sending.path_fits.Given as goal

abbrev pub invariant-loop-name : goal.invariant-loop-name
invariant-loop-name l = IsTrue (are_names (take l.name-index l.name-items))
