use Rattle.mj_memstore.proofs.MemoryLemmas.{memory_counted}
use Rattle.mj_memstore.proofs.store.MemStoreObjectStore.read.Goals as goal

pub invariant_of-self : goal.invariant_of-self
invariant_of-self c = record { sound = memory_counted _ _ _ _ _ _ _ c.next_fails.ensures.later c.args.self.now.sound }
