use Rattle.mj_meta.proofs.Refused.{refused_no_name}
use Rattle.mj_meta.proofs.naming.name_of.Goals as goal

pub returns-in_ok-unless_memory-in-Err-clause-name : goal.returns-in_ok-unless_memory-in-Err-clause-name
returns-in_ok-unless_memory-in-Err-clause-name c = refused_no_name _ _ c.in_ok-unless_memory-in-Err.ensures c.in-Err.ensures.refused

pub returns-in_ok-unless_memory-in-Err-clause-is_one : goal.returns-in_ok-unless_memory-in-Err-clause-is_one
returns-in_ok-unless_memory-in-Err-clause-is_one c = refused_no_name _ _ c.in_ok-unless_memory-in-Err.ensures c.in-Err.ensures.refused
