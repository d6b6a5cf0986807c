use Rattle.std.proofs.Common.{◌≡◌, take}
use Rattle.mj_tree.specs.Lists.{session_entries}
use Rattle.mj_tree.proofs.copying.copy_sessions.Given as goal

abbrev pub invariant-loop-session : goal.invariant-loop-session
invariant-loop-session l = session_entries l.all.items ≡ session_entries (take l.session-index l.session-items)
