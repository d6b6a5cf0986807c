use Rattle.std.proofs.Common.{ap}
use Rattle.mj_memstore.specs.Memory.{list_of}
use Rattle.mj_memstore.proofs.MemoryLemmas.{memory_counted}
use Rattle.mj_memstore.proofs.RestLemmas.{memory_rest, rest_state, restarts_now}
use Rattle.mj_memstore.proofs.store.MemStoreObjectStore.restart.Goals as goal

pub invariant_of-self : goal.invariant_of-self
invariant_of-self c = record { sound = memory_counted _ _ _ _ _ _ _ c.next_fails.ensures.later c.args.self.now.sound }

pub invariant_of-self-2 : goal.invariant_of-self-2
invariant_of-self-2 c = record { sound = memory_rest _ _ _ _ _ _ _ _ _ _ c.settle_all.ensures c.clear.ensures.items (ap list_of c.clear-2.ensures.empty) c.args.self.now.sound _ }

pub returns-clause-exact : goal.returns-clause-exact
returns-clause-exact c = rest_state _ _ c.args.self.now.completed.items _ _ c.settle_all.ensures c.clear.ensures.items

pub returns-clause-ok : goal.returns-clause-ok
returns-clause-ok c = restarts_now _ _ (rest_state _ _ c.args.self.now.completed.items _ _ c.settle_all.ensures c.clear.ensures.items)
