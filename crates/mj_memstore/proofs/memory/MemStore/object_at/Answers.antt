use Rattle.mj_memstore.proofs.HoldingLemmas.{all_there}
use Rattle.mj_memstore.proofs.memory.MemStore.object_at.Goals as goal

pub returns-clause-all : goal.returns-clause-all
returns-clause-all c = all_there c.args.self.now.objects.entries c.args.self.now.completed.items c.args.self.now.last c.nth_object.ensures.ordered c.args.self.now.sound.named
