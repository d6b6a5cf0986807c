use Rattle.std.proofs.Common.{sym, subst, ◌∙◌}
use Rattle.mj_memstore.specs.HeldView.{HeldView, IsFirst}
use Rattle.mj_memstore.proofs.HeldLemmas.{first_of, first_pending, no_failed}
use Rattle.mj_memstore.proofs.held.Held.first.Goals as goal

pub returns-in-Some-clause-some : goal.returns-in-Some-clause-some
returns-in-Some-clause-some c =
    let q = c.in-Some.first.now in
    let qs = c.self.inside.waiting.items in
    subst (λ (v : HeldView). IsFirst v q.op) c.self.view_is (record {
      free = no_failed c.self.inside.failed (sym c.is_some.ensures ∙ c.if-is_some.false);
      act = q.act;
      first = first_pending qs q (first_of qs q c.in-Some.ensures.item.3.0 c.in-Some.ensures.lookup);
    })
