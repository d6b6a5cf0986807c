use Rattle.std.proofs.Common.{◌≡◌, drop}
use Rattle.mj_index.specs.Following.{all_dirs_set}
use Rattle.mj_index.proofs.index.Index.set_dirs.Given as goal

abbrev pub invariant-loop-dir : goal.invariant-loop-dir
invariant-loop-dir l = all_dirs_set l.is_dir (drop l.dir-index l.dirs) l.self ≡ all_dirs_set l.is_dir l.dirs l.initial.self
