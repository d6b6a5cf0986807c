use Rattle.std.proofs.Common.{◌≡◌, ◌++◌, drop}
use Rattle.mj_maps.specs.Map.{picked}
use Rattle.mj_tree.specs.Lists.{session_entries}
use Rattle.mj_recovery.specs.Tree.{session_in}
use Rattle.mj_cache.proofs.plain_parts.plain_sessions.Given as goal

abbrev pub invariant-loop-held : goal.invariant-loop-held
invariant-loop-held l = session_entries l.found.items ++ picked (session_in l.replies) (drop l.held-index l.oldest) ≡ picked (session_in l.replies) l.oldest
