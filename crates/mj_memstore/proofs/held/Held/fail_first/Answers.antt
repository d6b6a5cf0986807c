use Rattle.std.proofs.Common.{arith}
use Rattle.mj_memstore.specs.Content.{pair_count}
use Rattle.mj_memstore.proofs.HeldLemmas.{provided_rest, count_rest}
use Rattle.mj_memstore.proofs.held.Held.fail_first.Goals as goal

pub invariant_of-self : goal.invariant_of-self
invariant_of-self c =
    let inv = c.self.invariant in
    let fewer = count_rest c.self.inside.waiting.items c.pop_front.new.self.items c.pop_front.ensures.rest in
    record {
      sound = inv.sound;
      provided = provided_rest (pair_count c.self.inside.object) c.self.inside.waiting.items c.pop_front.new.self.items c.pop_front.ensures.rest inv.provided;
      most = omega (arith, inv.most, fewer);
    }
