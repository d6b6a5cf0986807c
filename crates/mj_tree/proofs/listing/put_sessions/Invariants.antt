use Rattle.std.proofs.Common.{◌≡◌, ◌++◌, take}
use Rattle.std.specs.List.{flat_map}
use Rattle.mj_tree.specs.declared.session.PlainSession.{PlainSession}
use Rattle.mj_tree.specs.Lists.{session_of}
use Rattle.mj_tree.specs.Listing.{session_lines}
use Rattle.mj_tree.proofs.listing.put_sessions.Given as goal

abbrev pub invariant-loop-session : goal.invariant-loop-session
invariant-loop-session l = l.out.items ≡ l.initial.out.items ++ flat_map (λ (x : PlainSession). session_lines (x.client, session_of x)) (take l.session-index l.session-items)
