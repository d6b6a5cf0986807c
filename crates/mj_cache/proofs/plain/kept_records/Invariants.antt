use Rattle.std.proofs.Common.{◌≡◌, ◌++◌}
use Rattle.mj_maps.specs.Map.{picked}
use Rattle.mj_tree.specs.Lists.{record_entries}
use Rattle.mj_judge.specs.Rows.{count_in}
use Rattle.mj_cache.specs.PlainLists.{record_kept}
use Rattle.mj_cache.proofs.plain.kept_records.Given as goal

abbrev pub invariant-loop-ino : goal.invariant-loop-ino
invariant-loop-ino l = record_entries l.found.items ++ picked (record_kept (count_in l.links) (count_in l.opens)) l.ino-iterator ≡ picked (record_kept (count_in l.links) (count_in l.opens)) l.fn.inodes.entries
