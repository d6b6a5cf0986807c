use Rattle.std.proofs.Common.{sym, ◌∙◌}
use Rattle.mj_memstore.proofs.ObjectsLemmas.{on_err_then, written_back}
use Rattle.mj_memstore.proofs.objects.add_op.Goals as goal

pub returns-clause-err : goal.returns-clause-err
returns-clause-err c =
    on_err_then c.add.result _ _
    (λ e. (c.get_mut.follows.holds c.add.new.self).0 ∙ written_back c.args.name.now c.args.objects.now.entries c.in-Some.held.now c.add.new.self (sym c.in-Some.ensures.value) e) c.add.ensures.err
