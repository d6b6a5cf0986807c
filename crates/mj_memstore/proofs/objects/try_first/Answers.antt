use Rattle.std.proofs.Common.{sym, ◌∙◌}
use Rattle.mj_memstore.proofs.ObjectsLemmas.{if_none_then, written_back}
use Rattle.mj_memstore.proofs.objects.try_first.Goals as goal

pub returns-in-Some-clause-same : goal.returns-in-Some-clause-same
returns-in-Some-clause-same c =
    if_none_then c.try_first.result _ _
    (λ e. (c.get_mut.follows.holds c.try_first.new.self).0 ∙ written_back c.args.name.now c.args.objects.now.entries c.in-Some.held.now c.try_first.new.self (sym c.in-Some.ensures.value) e) c.try_first.ensures.same
