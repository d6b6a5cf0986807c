use Rattle.mj_memstore.proofs.HoldingLemmas.{all_there}
use Rattle.mj_memstore.proofs.memory.MemStore.all_objects.Goals as goal

pub returns-clause-all : goal.returns-clause-all
returns-clause-all c = all_there c.args.self.now.objects.entries c.args.self.now.completed.items c.args.self.now.last c.objects_there.ensures.ordered c.args.self.now.sound.named
