use Rattle.std.proofs.Common.{◌≡◌, sym, ap, subst, ◌∙◌}
use Rattle.mj_cells.specs.Table.{put_all}
use Rattle.mj_tables.specs.declared.group.Group.{Group}
use Rattle.mj_tables.specs.Layered.{early_cells, early_of}
use Rattle.mj_index.specs.Indexed.{IsIndexed}
use Rattle.mj_index.proofs.GroupFits.{early_more}
use Rattle.mj_index.proofs.group.project.Goals as goal

pub returns-clause-known : goal.returns-clause-known
returns-clause-known c =
    let group : Group = record { ends = c.args.ends; writes = c.args.ws.items } in
    let cells : early_cells c.project.new.self ≡ put_all (early_cells c.reserve.new.self) c.args.ws.items =
    (λ i. early_of (c.project.ensures.safe i) (c.project.ensures.groups i)) ∙ early_more c.reserve.new.self.safe c.reserve.new.self.groups group in
    subst (λ m. IsIndexed c.args.rank m c.bring_along.new.index) (ap (put_all (early_cells c.reserve.new.self)) c.as_slice-writes.ensures.value ∙ sym cells) c.in_ok-bring_along.ensures.ok
