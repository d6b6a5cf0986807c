use Rattle.std.proofs.Common.{arith}
use Rattle.mj_facts.proofs.Entries.{place_below}
use Rattle.mj_facts.proofs.Recovers.{rests_read}
use Rattle.mj_facts.proofs.Laws.{rests_clear}
use Rattle.mj_facts.proofs.stops.what_rests_is_read.Goals as goal

pub returns-clause-read : goal.returns-clause-read
returns-clause-read c = rests_read

pub returns-clause-below : goal.returns-clause-below
returns-clause-below c j count ok = omega (arith, place_below j count, ok.below)

pub returns-clause-clear : goal.returns-clause-clear
returns-clause-clear c = rests_clear
