use Rattle.std.proofs.Common.{ap, sym, subst, arith}
use Rattle.mj_memstore.specs.declared.queued.Queued.{Queued}
use Rattle.mj_memstore.specs.Content.{pair_count}
use Rattle.mj_memstore.specs.HeldView.{AreProvided, all_set_count}
use Rattle.mj_memstore.proofs.HeldLemmas.{provided_more, provided_less, all_set_count-more}
use Rattle.mj_memstore.proofs.held.Held.add.Goals as goal

pub invariant_of-self : goal.invariant_of-self
invariant_of-self c =
    let inv = c.self.invariant in
    let qs = c.self.inside.waiting.items in
    let n = pair_count c.self.inside.object in
    let q : Queued = record { op = c.args.op; act = c.args.act; room = c.in-Ok.room } in
    let items = c.in-Ok-push_back.ensures.items in
    let more = all_set_count-more qs q in
    record {
      sound = inv.sound;
      provided = subst (AreProvided n) (sym items) (provided_more n qs q inv.provided
          (provided_less c.bound_of-most.result _ q c.bound_of-most.ensures (record { empty = c.in-Ok.ensures.empty; keys = c.requires; room = c.in-Ok.ensures.room })));
      most = let e = ap all_set_count items in omega (arith, e, more, c.bound_of-most.ensures, c.pairs_set.ensures);
    }
