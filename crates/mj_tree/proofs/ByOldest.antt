-- What a request comes to by the oldest number of its client's session.
use Rattle.std.proofs.Common.{◌≡◌, ℕ, Option, Some, None, refl, sym, ap}
use Rattle.std.specs.Prelude.{nat_le, nat_lt, if◌then◌else◌, unwrap_or}
use Rattle.mj_maps.specs.Map.{get, empty, len}
use Rattle.mj_maps.proofs.MapLaws.{none_some, some_same}
use Rattle.mj_tree.specs.State.{PlainState, Session}
use Rattle.mj_tree.specs.Sessions.{oldest_of, session_at}
use Rattle.mj_tree.specs.declared.change.Decision.TheVariants.{SessionBegins}
use Rattle.mj_tree.specs.declared.request.ClientRequest.{ClientRequest}
use Rattle.mj_tree.specs.Answer.{refused, most_sessions, opening, by_session, in_session, decision, reply_of, answer}

pub opening_some : (s : PlainState) (o : Option Session) (n : ℕ) → oldest_of o ≡ Some n → opening s o ≡ refused 17
unfolding opening
opening_some s None n e = absurd (none_some n e)
opening_some s (Some c) n e = refl

pub opening_none : (s : PlainState) (o : Option Session) → oldest_of o ≡ None → opening s o ≡ (if nat_le most_sessions (len s.sessions) then refused 28 else SessionBegins)
unfolding opening
opening_none s None e = refl
opening_none s (Some c) e = absurd (none_some c.oldest (sym e))

pub stale_none : (s : PlainState) (r : ClientRequest) (o : Option Session) → oldest_of o ≡ None → by_session s r o ≡ refused 116
unfolding by_session
stale_none s r None e = refl
stale_none s r (Some c) e = absurd (none_some c.oldest (sym e))

-- in a session, whose oldest number is n
by_oldest : (s : PlainState) (r : ClientRequest) (c : Session) (n : ℕ) → get s.sessions r.client ≡ Some c → c.oldest ≡ n → by_session s r (Some c) ≡ (if nat_lt r.tid n then refused 116 else in_session s r (session_at s r.client) r.op)
unfolding by_session
by_oldest s r c n e same = λ i. if nat_lt r.tid (same i) then refused 116 else in_session s r (sym (ap (λ (o : Option Session). unwrap_or o (record { oldest = 0; kept = empty })) e) i) r.op

by_session_of : (s : PlainState) (r : ClientRequest) (n : ℕ) (o : Option Session) → get s.sessions r.client ≡ o → oldest_of o ≡ Some n → by_session s r o ≡ (if nat_lt r.tid n then refused 116 else in_session s r (session_at s r.client) r.op)
by_session_of s r n None is e = absurd (none_some n e)
by_session_of s r n (Some c) is e = by_oldest s r c n is (some_same c.oldest n e)

pub by_session_some : (s : PlainState) (r : ClientRequest) (n : ℕ) → oldest_of (get s.sessions r.client) ≡ Some n → by_session s r (get s.sessions r.client) ≡ (if nat_lt r.tid n then refused 116 else in_session s r (session_at s r.client) r.op)
by_session_some s r n e = by_session_of s r n (get s.sessions r.client) refl e

pub answer_is : (s : PlainState) (r : ClientRequest) → answer s r ≡ reply_of (decision s r)
unfolding answer
answer_is s r = refl
