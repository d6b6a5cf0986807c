use Rattle.std.proofs.Common.{ap, ◌∙◌}
use Rattle.mj_cells.specs.declared.cell.CellKey.{CellKey}
use Rattle.mj_index.specs.Following.{put_in}
use Rattle.mj_index.proofs.whole.put_new.Goals as goal

pub returns : goal.returns
returns c = record {
  with_rooms = c.make_room_for.new.self;
  same = c.make_room_for.ensures.same;
  room = c.in_ok-make_room_for.ensures.room;
  put = c.put_cell.ensures ∙ ap (λ (k : CellKey). put_in c.args.rank (k, c.args.cell.now.value.now) c.make_room_for.new.self) c.in_ok-key.ensures;
}
