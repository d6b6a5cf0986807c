use Rattle.std.proofs.Common.{[], sym, ap, map, ◌∙◌}
use Rattle.mj_tables.specs.Layered.{early_cells}
use Rattle.mj_index.specs.Following.{early_value}
use Rattle.mj_index.specs.Changes.{change_of, where_said}
use Rattle.mj_base.proofs.Pieces.{on_err}
use Rattle.mj_index.proofs.Course.{same_midway}
use Rattle.mj_index.proofs.Turning.{keys_changes, group_done}
use Rattle.mj_index.proofs.group.follow_gently.Goals as goal

pub returns-in_err-keys-in-Some-clause-err : goal.returns-in_err-keys-in-Some-clause-err
returns-in_err-keys-in-Some-clause-err c = on_err c.from_residual-in_err-keys-in-Some.result _ (same_midway c.args.rank _ (early_cells c.args.layers.now) [] c.args.index.now c.reserve_rooms.new.index c.reserve_rooms.ensures.same c.requires.known)

pub follow_turn-requires : goal.follow_turn-requires
follow_turn-requires c =
    c.in_ok-keys-in-Some.ensures.keys
    ∙ sym (keys_changes (where_said (early_value c.args.layers.now)) c.args.ws.now (map change_of c.deref-in-Some.result.now) (ap (map change_of) c.deref-in-Some.ensures.value ∙ c.in_ok-changes.ensures))

pub returns-in-Some-clause-ok : goal.returns-in-Some-clause-ok
returns-in-Some-clause-ok c =
    group_done c.args.rank c.args.layers.now c.args.ws.now (map change_of c.deref-in-Some.result.now) c.args.index.now c.reserve_rooms.new.index c.follow_turn.new.index c.in-Some.turn.left.items c.in-Some.turn.led.items
    (rw c.in-Some.is at c.in_ok-turn.ensures) c.requires.known c.requires.sound c.requires.tree c.reserve_rooms.ensures.same c.in_ok-keys-in-Some.ensures.room (c.has_spare.ensures c.if-has_spare.true)
    (ap (map change_of) c.deref-in-Some.ensures.value ∙ c.in_ok-changes.ensures) c.follow_turn.ensures
