use Rattle.std.proofs.Common.{map, ◌∙◌}
use Rattle.mj_index.specs.Known.{is_dir_at}
use Rattle.mj_index.specs.Following.{early_value}
use Rattle.mj_index.specs.Changes.{change_of}
use Rattle.mj_index.proofs.Turning.{left_changes}
use Rattle.mj_index.proofs.turn.gentle_turn.Goals as goal

pub turns_well-requires-clause-left : goal.turns_well-requires-clause-left
turns_well-requires-clause-left c = c.in_ok-left_dirs.ensures ∙ left_changes (is_dir_at c.args.known.now) (early_value c.args.layers.now) c.args.ws.now (map change_of c.args.changes.now) c.requires
