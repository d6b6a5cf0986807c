-- The event of what a request comes to, whatever that is.
use Rattle.std.proofs.Common.{◌≡◌, ℕ, Some, refl, sym, subst, ◌∙◌}
use Rattle.std.specs.Prelude.{is_some}
use Rattle.mj_maps.proofs.MapLaws.{none_some, some_same}
use Rattle.mj_tree.specs.declared.change.Change.{Change}
use Rattle.mj_tree.specs.declared.change.Change.TheVariants.{Nothing, Begin, Link, Unlink, Move, Replace, Set, Hold, Release}
use Rattle.mj_tree.specs.declared.change.Decision.{Decision}
use Rattle.mj_tree.specs.declared.change.Decision.TheVariants.{Answered, SessionBegins, SessionEnds, Accepted}
use Rattle.mj_tree.specs.declared.request.ClientRequest.{ClientRequest}
use Rattle.mj_tree.specs.State.{PlainState}
use Rattle.mj_tree.specs.Answer.{decision, changes, is_change}
use Rattle.mj_cells.specs.Table.{Table}
use Rattle.mj_event.specs.declared.Event.{Event}
use Rattle.mj_machine.specs.Delta.{IsExactDelta}
use Rattle.mj_delta.specs.TreeOf.{IsTreeOf}
use Rattle.mj_delta.specs.Fits.{IsSent}
use Rattle.mj_delta.specs.EventFor.{change_event, event_for}
use Rattle.mj_delta.specs.Steps.{GivesTree}
use Rattle.mj_delta.proofs.Begun.{session_begins_gives, inode_begins_gives}
use Rattle.mj_delta.proofs.Ended.{session_ends_gives}
use Rattle.mj_delta.proofs.Held.{nothing_gives, hold_gives}
use Rattle.mj_delta.proofs.SetIn.{set_gives}
use Rattle.mj_delta.proofs.Linked.{link_gives}
use Rattle.mj_delta.proofs.Released.{release_gives}
use Rattle.mj_delta.proofs.Unlinked.{unlink_gives}
use Rattle.mj_delta.proofs.Renamed.{move_gives}
use Rattle.mj_delta.proofs.Replaced.{replace_gives}
use Rattle.mj_delta.proofs.ExactUpdates.{changes_are}
use Rattle.mj_delta.proofs.ExactSessions.{open_exact, close_exact}
use Rattle.mj_delta.proofs.ExactBegun.{begin_exact}
use Rattle.mj_delta.proofs.ExactSteps.{nothing_exact, hold_exact, set_exact}
use Rattle.mj_delta.proofs.ExactLinked.{link_exact}
use Rattle.mj_delta.proofs.ExactReleased.{release_exact}
use Rattle.mj_delta.proofs.ExactEnded.{unlink_exact}
use Rattle.mj_delta.proofs.ExactMoved.{move_exact}
use Rattle.mj_delta.proofs.ExactReplaced.{replace_exact}

some_event : (rank : ℕ) (t : Table) (s : PlainState) (r : ClientRequest) (d : Decision) → is_some (event_for rank t s r d) ≡ is_change d
some_event rank t s r (Answered x) = refl
some_event rank t s r SessionBegins = refl
some_event rank t s r SessionEnds = refl
some_event rank t s r (Accepted i change) = refl

pub event_there : (rank : ℕ) (t : Table) (s : PlainState) (r : ClientRequest) → is_some (event_for rank t s r (decision s r)) ≡ changes s r
event_there rank t s r = some_event rank t s r (decision s r) ∙ sym (changes_are s r (decision s r) refl)

change_gives : (rank : ℕ) (t : Table) (s : PlainState) (r : ClientRequest) (i : ℕ) (change : Change) → IsTreeOf rank t s → IsSent r → decision s r ≡ Accepted i change → GivesTree rank t s r (change_event rank t s r i change)
change_gives rank t s r i Nothing is sent d = nothing_gives rank t s r i is sent d
change_gives rank t s r i (Begin q a) is sent d = inode_begins_gives rank t s r i q a is sent d
change_gives rank t s r i (Link q j) is sent d = link_gives rank t s r i j q is sent d
change_gives rank t s r i (Unlink q j) is sent d = unlink_gives rank t s r i j q is sent d
change_gives rank t s r i (Move from to j) is sent d = move_gives rank t s r i j from to is sent d
change_gives rank t s r i (Replace from to j other) is sent d = replace_gives rank t s r i j other from to is sent d
change_gives rank t s r i (Set j x) is sent d = set_gives rank t s r i j x is sent d
change_gives rank t s r i (Hold client j) is sent d = hold_gives rank t s r i client j is sent d
change_gives rank t s r i (Release client j) is sent d = release_gives rank t s r i client j is sent d

change_is_exact : (rank : ℕ) (t : Table) (s : PlainState) (r : ClientRequest) (i : ℕ) (change : Change) → IsTreeOf rank t s → IsSent r → decision s r ≡ Accepted i change → IsExactDelta rank t r (change_event rank t s r i change)
change_is_exact rank t s r i Nothing is sent d = nothing_exact rank t s r i is sent d
change_is_exact rank t s r i (Begin q a) is sent d = begin_exact rank t s r i q a is sent d
change_is_exact rank t s r i (Link q j) is sent d = link_exact rank t s r i j q is sent d
change_is_exact rank t s r i (Unlink q j) is sent d = unlink_exact rank t s r i j q is sent d
change_is_exact rank t s r i (Move from to j) is sent d = move_exact rank t s r i j from to is sent d
change_is_exact rank t s r i (Replace from to j other) is sent d = replace_exact rank t s r i j other from to is sent d
change_is_exact rank t s r i (Set j x) is sent d = set_exact rank t s r i j x is sent d
change_is_exact rank t s r i (Hold client j) is sent d = hold_exact rank t s r i client j is sent d
change_is_exact rank t s r i (Release client j) is sent d = release_exact rank t s r i client j is sent d

gives_by : (rank : ℕ) (t : Table) (s : PlainState) (r : ClientRequest) (e : Event) (d : Decision) → IsTreeOf rank t s → IsSent r → decision s r ≡ d → event_for rank t s r d ≡ Some e → GivesTree rank t s r e
gives_by rank t s r e (Answered x) is sent d h = absurd (none_some e h)
gives_by rank t s r e SessionBegins is sent d h = subst (GivesTree rank t s r) (some_same _ e h) (session_begins_gives rank t s r is sent d)
gives_by rank t s r e SessionEnds is sent d h = subst (GivesTree rank t s r) (some_same _ e h) (session_ends_gives rank t s r is sent d)
gives_by rank t s r e (Accepted i change) is sent d h = subst (GivesTree rank t s r) (some_same _ e h) (change_gives rank t s r i change is sent d)

exact_by : (rank : ℕ) (t : Table) (s : PlainState) (r : ClientRequest) (e : Event) (d : Decision) → IsTreeOf rank t s → IsSent r → decision s r ≡ d → event_for rank t s r d ≡ Some e → IsExactDelta rank t r e
exact_by rank t s r e (Answered x) is sent d h = absurd (none_some e h)
exact_by rank t s r e SessionBegins is sent d h = subst (IsExactDelta rank t r) (some_same _ e h) (open_exact rank t s r is sent d)
exact_by rank t s r e SessionEnds is sent d h = subst (IsExactDelta rank t r) (some_same _ e h) (close_exact rank t s r is sent d)
exact_by rank t s r e (Accepted i change) is sent d h = subst (IsExactDelta rank t r) (some_same _ e h) (change_is_exact rank t s r i change is sent d)

pub event_gives : (rank : ℕ) (t : Table) (s : PlainState) (r : ClientRequest) (e : Event) → IsTreeOf rank t s → IsSent r → event_for rank t s r (decision s r) ≡ Some e → GivesTree rank t s r e
event_gives rank t s r e is sent h = gives_by rank t s r e (decision s r) is sent refl h

pub event_exact : (rank : ℕ) (t : Table) (s : PlainState) (r : ClientRequest) (e : Event) → IsTreeOf rank t s → IsSent r → event_for rank t s r (decision s r) ≡ Some e → IsExactDelta rank t r e
event_exact rank t s r e is sent h = exact_by rank t s r e (decision s r) is sent refl h
