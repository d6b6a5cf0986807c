use Rattle.std.proofs.Common.{◌≡◌, List, sym, ap, subst, ◌∙◌}
use Rattle.mj_cells.specs.declared.cell.CellWrite.{CellWrite}
use Rattle.mj_tables.specs.declared.group.Group.{Group}
use Rattle.mj_tables.specs.Slots.{Slots, slots_of, all_settled, AreLaid}
use Rattle.mj_tables.proofs.Laid.{AreSettling, settling_start, settling_step, settling_end}
use Rattle.mj_tables.proofs.settling.settle_ended.Goals as goal

pub loop-group-init : goal.loop-group-init
loop-group-init c = settling_start c.args.upto (slots_of c.args.slots.now) c.args.groups.now.items c.requires

pub loop-group-preserved : goal.loop-group-preserved
loop-group-preserved c =
    let start = slots_of c.args.slots.now in
    let is : slots_of c.settle_all.new.slots ≡ all_settled c.in-Some.group.ends (slots_of c.loop-group.slots) c.in-Some.group.writes =
    c.settle_all.ensures ∙ ap (λ (ws : List CellWrite). all_settled c.in-Some.group.ends (slots_of c.loop-group.slots) ws) c.into_vec.ensures in
    subst (λ (m : Slots). AreSettling c.args.upto start c.args.groups.now.items m c.pop_ended.new.groups.items) (sym is)
    (settling_step c.args.upto start c.args.groups.now.items (slots_of c.loop-group.slots) c.in-Some.group c.pop_ended.new.groups.items c.in-Some.ensures.1
    (subst (λ (gs : List Group). AreSettling c.args.upto start c.args.groups.now.items (slots_of c.loop-group.slots) gs) c.in-Some.ensures.0 c.loop-group.invariant))

pub returns-clause-groups : goal.returns-clause-groups
returns-clause-groups c = c.in_default.ensures.0 ∙ (settling_end c.args.upto (slots_of c.args.slots.now) c.args.groups.now.items (slots_of c.loop-group.slots) c.loop-group.groups.items c.loop-group.invariant c.in_default.ensures.1).0

pub returns-clause-safe : goal.returns-clause-safe
returns-clause-safe c = (settling_end c.args.upto (slots_of c.args.slots.now) c.args.groups.now.items (slots_of c.loop-group.slots) c.loop-group.groups.items c.loop-group.invariant c.in_default.ensures.1).1

pub returns-clause-rooms : goal.returns-clause-rooms
returns-clause-rooms c = c.loop-group.invariant.rooms_are

pub returns-clause-laid : goal.returns-clause-laid
returns-clause-laid c = subst (λ (gs : List Group). AreLaid (slots_of c.loop-group.slots) gs) (sym c.in_default.ensures.0) c.loop-group.invariant.laid
