use Rattle.std.proofs.Common.{map, ap, ◌∙◌}
use Rattle.mj_cells.specs.Next.{cell_of}
use Rattle.mj_tables.specs.Layered.{early_cells}
use Rattle.mj_recovery.specs.Journal.{journal_writes}
use Rattle.mj_recovery.specs.Damage.{lump_dirs, tree_damage}
use Rattle.mj_recovery.specs.ListedObjects.{listed_bad_dirfrag}
use Rattle.mj_recovery_tests.specs.View.{table_in}
use Rattle.mj_recovery_tests.proofs.Whole.{verdict_is}
use Rattle.mj_recovery_tests.proofs.recover.judge.Goals as goal

pub returns : goal.returns
returns c =
    let found = c.args.found.now in
    let dirs = c.in_ok-dirs.ensures (early_cells found.layers) (ap (map cell_of) c.deref.ensures.value ∙ c.in_ok-cells.ensures) in
    c.first_damage.ensures ∙ verdict_is c.args.rank c.args.objects.now found.journal (table_in found.layers) c.in_ok-dirs.dirs.keys c.in_ok-held.held.items c.in_ok-lumps.lumps.items
    c.in_ok-table.table c.in_ok-dirfrag.dirfrag c.in_ok-rest.rest c.requires dirs c.in_ok-held.ensures
    (c.in_ok-lumps.ensures ∙ ap (λ es. lump_dirs (journal_writes es)) c.as_slice.ensures)
    c.in_ok-table.ensures
    (c.in_ok-dirfrag.ensures ∙ ap (listed_bad_dirfrag c.args.objects.now) c.deref-2.ensures.value)
    (c.in_ok-rest.ensures ∙ ap (tree_damage c.args.rank (table_in found.layers)) c.deref-4.ensures.value)
