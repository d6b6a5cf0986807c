-- The event of what a request comes to, over a table and its tree.
use Rattle.std.specs.Prelude.{ℕ, Option, Some, None}
use Rattle.mj_tree.specs.declared.change.Change.{Change}
use Rattle.mj_tree.specs.declared.change.Change.TheVariants.{Nothing, Begin, Link, Unlink, Move, Replace, Set, Hold, Release}
use Rattle.mj_tree.specs.declared.change.Decision.{Decision}
use Rattle.mj_tree.specs.declared.change.Decision.TheVariants.{Answered, SessionBegins, SessionEnds, Accepted}
use Rattle.mj_tree.specs.declared.request.ClientRequest.{ClientRequest}
use Rattle.mj_tree.specs.State.{PlainState}
use Rattle.mj_cells.specs.Table.{Table}
use Rattle.mj_event.specs.declared.Event.{Event}
use Rattle.mj_delta.specs.Events.{open_event, close_event, nothing_event, begin_event, link_event, set_event, hold_event, release_event}
use Rattle.mj_delta.specs.Plan.{unlink_event, move_event, replace_event}

-- of an accepted request on this inode
abbrev pub change_event : ℕ → Table → PlainState → ClientRequest → ℕ → Change → Event
change_event rank t s r i Nothing = nothing_event s r i
change_event rank t s r i (Begin q a) = begin_event t s r q a
change_event rank t s r i (Link q j) = link_event rank t s r q i
change_event rank t s r i (Unlink q j) = unlink_event rank t s r q i
change_event rank t s r i (Move from to j) = move_event t s r from to i
change_event rank t s r i (Replace from to j other) = replace_event rank t s r from to i other
change_event rank t s r i (Set j x) = set_event rank t s r i x
change_event rank t s r i (Hold client j) = hold_event s r i
change_event rank t s r i (Release client j) = release_event rank t s r i

-- a request that is only answered has none
abbrev pub event_for : ℕ → Table → PlainState → ClientRequest → Decision → Option Event
event_for rank t s r (Answered x) = None
event_for rank t s r SessionBegins = Some (open_event r)
event_for rank t s r SessionEnds = Some (close_event s r)
event_for rank t s r (Accepted i change) = Some (change_event rank t s r i change)
