use Rattle.mj_image.proofs.Naming.{named_again, named_takes}
use Rattle.mj_image.proofs.law.names_are_read_again.Goals as goal

pub returns-clause-again : goal.returns-clause-again
returns-clause-again c = named_again

pub returns-clause-takes : goal.returns-clause-takes
returns-clause-takes c = named_takes
