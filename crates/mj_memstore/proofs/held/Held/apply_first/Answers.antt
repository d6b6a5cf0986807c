use Rattle.std.proofs.Common.{ap, arith, subst, ◌≤◌, ◌+◌, Option}
use Rattle.mj_store.specs.declared.held.HeldObject.{HeldObject}
use Rattle.mj_memstore.specs.Content.{pair_count, set_count}
use Rattle.mj_memstore.specs.HeldView.{all_set_count}
use Rattle.mj_memstore.proofs.HeldLemmas.{provided_applied}
use Rattle.mj_memstore.proofs.held.Held.apply_first.Goals as goal

pub invariant_of-self-in-Some-2 : goal.invariant_of-self-in-Some-2
invariant_of-self-in-Some-2 c =
    let inv = c.self.invariant in
    let q = c.in-Some.field-0 in
    let items = c.in-Some.ensures.items in
    let count : pair_count c.apply.result ≤ pair_count c.self.inside.object + set_count q.act = subst (λ (o : Option HeldObject). pair_count c.apply.result ≤ pair_count o + set_count q.act) c.take.ensures.value c.apply.ensures.count in
    let all = ap all_set_count items in
    record {
      sound = c.apply.ensures.sound;
      provided = provided_applied (pair_count c.self.inside.object) (pair_count c.apply.result) q c.self.inside.waiting.items c.pop_front.new.self.items items count inv.provided;
      most = omega (arith, inv.most, all, count);
    }
