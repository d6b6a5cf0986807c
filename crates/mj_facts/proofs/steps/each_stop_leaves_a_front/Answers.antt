use Rattle.mj_facts.proofs.Stepping.{leaves, steps_hold, steps_keep}
use Rattle.mj_facts.proofs.steps.each_stop_leaves_a_front.Goals as goal

pub returns-clause-holds : goal.returns-clause-holds
returns-clause-holds c = steps_hold

pub returns-clause-leaves : goal.returns-clause-leaves
returns-clause-leaves c w s v t image steps h im = leaves v t image (steps_hold w s v t steps h) im

pub returns-clause-keeps : goal.returns-clause-keeps
returns-clause-keeps c = steps_keep
