use Rattle.mj_base.proofs.ObjectLemmas.{found-is, table-found}
use Rattle.mj_base.proofs.object.ObjectName.read.Goals as goal

pub returns-in-Some-clause-found : goal.returns-in-Some-clause-found
returns-in-Some-clause-found c = λ name fits same. found-is c.args.text.now c.in-Some.name name c.in-Some.ensures.named c.in-Some.ensures.in_range fits same

pub returns-in-None-clause-found : goal.returns-in-None-clause-found
returns-in-None-clause-found c =
    let found = c.in-None.ensures.found in
    table-found c.args.text.now c.table_named.result c.table_named.ensures.named c.table_named.ensures.in_range c.table_named.ensures.none (λ ino index a b same. let some = found ino index a b same in absurd cc)
