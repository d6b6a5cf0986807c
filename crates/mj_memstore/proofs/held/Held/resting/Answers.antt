use Rattle.std.proofs.Common.{Some, ap, sym, subst, arith}
use Rattle.mj_base.specs.declared.object.ObjectName.{ObjectName}
use Rattle.mj_memstore.specs.Content.{IsHeldAs, pair_count}
use Rattle.mj_memstore.specs.HeldView.{AreProvided, all_set_count}
use Rattle.mj_memstore.proofs.RiseLemmas.{sound_from_rise}
use Rattle.mj_memstore.proofs.held.Held.resting.Goals as goal

pub invariant_of-result : goal.invariant_of-result
invariant_of-result c =
    let none = c.new.ensures.items in
    let count = ap all_set_count none in
    record {
      sound = subst (λ (name : ObjectName). IsHeldAs name c.args.object) (sym c.name_of-name.ensures) (sound_from_rise c.args.object c.requires);
      provided = subst (AreProvided (pair_count (Some c.args.object))) (sym none) tt;
      most = omega (arith, count, c.len-most.ensures);
    }
