use Rattle.mj_base.proofs.NameLemmas.{name_refusal-none, target_refusal-none}
use Rattle.mj_base.proofs.law.names_are_read.Goals as goal

pub returns : goal.returns
returns c = record { names = name_refusal-none; targets = target_refusal-none }
