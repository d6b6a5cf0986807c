-- What each request comes to: the common order, the answer, and the state after.
use Rattle.std.specs.Prelude.{ℕ, Bool, true, false, nat_lt, nat_le, List, [], ◌∷◌, Option, Some, None, Ok, Err, if◌then◌else◌}
use Rattle.std.specs.Option.{option_and_then}
use Rattle.mj_maps.specs.Map.{get, len, count}
use Rattle.mj_tree.specs.declared.change.Decision.{Decision}
use Rattle.mj_tree.specs.declared.change.Decision.TheVariants.{Answered, SessionBegins, SessionEnds, Accepted}
use Rattle.mj_tree.specs.declared.request.ClientRequest.{ClientRequest}
use Rattle.mj_tree.specs.declared.request.Op.{Op}
use Rattle.mj_tree.specs.declared.request.Op.TheVariants.{SessionOpen, SessionClose, Lookup, Readdir, Readlink}
use Rattle.mj_tree.specs.declared.request.Reply.{Reply}
use Rattle.mj_tree.specs.declared.request.Reply.TheVariants.{Done, Error}
use Rattle.mj_tree.specs.State.{PlainState, Session, opens_of}
use Rattle.mj_tree.specs.Walk.{Answer}
use Rattle.mj_tree.specs.Change.{changed, with_session, without_session, with_reply}
use Rattle.mj_tree.specs.Row.{Effect, effect, lookup, readdir, readlink}

-- limits

abbrev pub most_sessions : ℕ
most_sessions = 4096

abbrev pub most_kept : ℕ
most_kept = 64

abbrev pub refused : ℕ → Decision
refused code = Answered (Error code)

abbrev pub looked : Answer Reply → Decision
looked (Ok x) = Answered x
looked (Err code) = refused code

abbrev pub by_effect : Effect → Decision
by_effect (Ok x) = Accepted x.0 x.1
by_effect (Err code) = refused code

-- how many kept replies the request leaves kept
abbrev pub still_kept : ClientRequest → Session → ℕ
still_kept r c = count (λ (e : ℕ × ℕ). nat_le r.oldest e.0) c.kept

-- a request that changes the tree, in the client's session
unfoldable pub changing : PlainState → ClientRequest → Session → Decision
changing s r c = if nat_le most_kept (still_kept r c) then refused 28 else by_effect (effect s r r.op)

unfoldable pub closing : PlainState → ℕ → Decision
closing s client = if nat_lt 0 (opens_of s client) then refused 22 else SessionEnds

-- in the client's session
unfoldable pub in_session : PlainState → ClientRequest → Session → Op → Decision
in_session s r c (Lookup path) = looked (lookup s path)
in_session s r c (Readdir path) = looked (readdir s path)
in_session s r c (Readlink path) = looked (readlink s path)
in_session s r c SessionClose = closing s r.client
in_session s r c _ = changing s r c

abbrev pub is_session_open : Op → Bool
is_session_open SessionOpen = true
is_session_open _ = false

unfoldable pub opening : PlainState → Option Session → Decision
opening s (Some c) = refused 17
opening s None = if nat_le most_sessions (len s.sessions) then refused 28 else SessionBegins

unfoldable pub by_session : PlainState → ClientRequest → Option Session → Decision
by_session s r None = refused 116
by_session s r (Some c) = if nat_lt r.tid c.oldest then refused 116 else in_session s r c r.op

abbrev pub by_kept : PlainState → ClientRequest → Option ℕ → Decision
by_kept s r (Some i) = Answered (Done i)
by_kept s r None = let c = get s.sessions r.client in if is_session_open r.op then opening s c else by_session s r c

-- the inode of the reply that is kept for this client and number
abbrev pub kept_reply : PlainState → ℕ → ℕ → Option ℕ
kept_reply s client tid = option_and_then (λ (c : Session). get c.kept tid) (get s.sessions client)

-- what the request comes to
unfoldable pub decision : PlainState → ClientRequest → Decision
decision s r = if nat_lt r.tid r.oldest then refused 22 else by_kept s r (kept_reply s r.client r.tid)

abbrev pub reply_of : Decision → Reply
reply_of (Answered x) = x
reply_of SessionBegins = Done 0
reply_of SessionEnds = Done 0
reply_of (Accepted i change) = Done i

abbrev pub state_after : PlainState → ClientRequest → Decision → PlainState
state_after s r (Answered x) = s
state_after s r SessionBegins = with_session s r
state_after s r SessionEnds = without_session s r.client
state_after s r (Accepted i change) = with_reply (changed s change) r i

abbrev pub is_change : Decision → Bool
is_change (Answered x) = false
is_change _ = true

-- the answer to a request, the state after it, and whether it changes the state
unfoldable pub answer : PlainState → ClientRequest → Reply
answer s r = reply_of (decision s r)

unfoldable pub after : PlainState → ClientRequest → PlainState
after s r = state_after s r (decision s r)

unfoldable pub changes : PlainState → ClientRequest → Bool
changes s r = is_change (decision s r)

-- the state after all of them in order
abbrev pub after_all : PlainState → List ClientRequest → PlainState
after_all s [] = s
after_all s (r ∷ rs) = after_all (after s r) rs
