use Rattle.std.proofs.Common.{◌≡◌, ap, subst, ◌∙◌}
use Rattle.mj_maps.specs.Map.{get, empty, from_entries}
use Rattle.mj_maps.proofs.MapLaws.{get_empty}
use Rattle.mj_cells.specs.Cell.{key_cmp}
use Rattle.mj_tables.specs.Slots.{Slots, slots_of, Moves}
use Rattle.mj_tables.proofs.Moved.{joined_at, joined_start, moves_join, moves_apart, moves_less, all_moved}
use Rattle.mj_tables.proofs.moving.slots_from.Goals as goal

pub loop-slots-init : goal.loop-slots-init
loop-slots-init c =
    let none : slots_of c.new-slots.result ≡ empty = ap (from_entries {R = key_cmp}) c.new-slots.ensures.empty in (
      λ q. ap (λ (m : Slots). joined_at c.args.table m q) none ∙ joined_start c.args.table q,
      λ q v is. ap (λ (m : Slots). get m q) none ∙ get_empty key_cmp q,
    )

pub loop-slots-smaller : goal.loop-slots-smaller
loop-slots-smaller c =
    moves_less c.loop-slots.table (slots_of c.loop-slots.slots) c.move_cell.new.table (slots_of c.move_cell.new.slots)
    (subst (Moves c.loop-slots.table (slots_of c.loop-slots.slots) c.move_cell.new.table (slots_of c.move_cell.new.slots)) c.if-branch.true c.in_ok-move_cell.ensures)

pub loop-slots-preserved : goal.loop-slots-preserved
loop-slots-preserved c = (
  λ q. moves_join c.loop-slots.table (slots_of c.loop-slots.slots) c.move_cell.new.table (slots_of c.move_cell.new.slots) c.in_ok-move_cell.field-0 c.in_ok-move_cell.ensures c.loop-slots.invariant.1 q ∙ c.loop-slots.invariant.0 q,
  moves_apart c.loop-slots.table (slots_of c.loop-slots.slots) c.move_cell.new.table (slots_of c.move_cell.new.slots) c.in_ok-move_cell.field-0 c.in_ok-move_cell.ensures c.loop-slots.invariant.1,
)

pub returns : goal.returns
returns c =
    all_moved c.loop-slots.table (slots_of c.loop-slots.slots) c.move_cell.new.table (slots_of c.move_cell.new.slots) c.args.table c.loop-slots.invariant.0
    (subst (Moves c.loop-slots.table (slots_of c.loop-slots.slots) c.move_cell.new.table (slots_of c.move_cell.new.slots)) c.if-branch.false c.in_ok-move_cell.ensures)
