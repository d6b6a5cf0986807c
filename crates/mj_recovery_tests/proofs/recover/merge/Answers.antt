use Rattle.std.proofs.Common.{ap, ◌∙◌}
use Rattle.mj_tree.specs.Meaning.{state_of}
use Rattle.mj_recovery.specs.Objects.{objects_of}
use Rattle.mj_recovery.specs.Recovered.{merged_table}
use Rattle.mj_recovery_tests.specs.View.{table_in}
use Rattle.mj_recovery_tests.proofs.Whole.{merged_with_is}
use Rattle.mj_recovery_tests.proofs.recover.merge.Goals as goal

pub returns : goal.returns
returns c = merged_with_is c.args.rank (objects_of c.args.objects.now) c.args.journal (table_in c.in_ok-layers.layers) (state_of c.in_ok-tree.tree)
    (c.in_ok-layers.ensures ∙ ap (merged_table c.args.rank (objects_of c.args.objects.now)) c.as_slice.ensures) c.in_ok-tree.ensures
