-- A request changes the state exactly where it is not only answered: it then has a session, and its reply was not kept.
use Rattle.std.proofs.Common.{◌≡◌, ℕ, Bool, true, false, Option, Some, None, Ok, Err, nat_lt, nat_le, if◌then◌else◌, refl, sym, ap, ◌∙◌}
use Rattle.std.specs.Option.{option_and_then}
use Rattle.mj_maps.specs.Map.{get, len, insert, remove, retain}
use Rattle.mj_maps.proofs.MapLaws.{exact_nat, insert_same, remove_same, some_same, none_some}
use Rattle.mj_tree.specs.declared.change.Change.{Change}
use Rattle.mj_tree.specs.declared.change.Change.TheVariants as change
use Rattle.mj_tree.specs.declared.change.Decision.{Decision}
use Rattle.mj_tree.specs.declared.change.Decision.TheVariants.{Answered, SessionBegins, SessionEnds, Accepted}
use Rattle.mj_tree.specs.declared.change.Settings.{Settings}
use Rattle.mj_tree.specs.declared.change.Attributes.{Attributes}
use Rattle.mj_tree.specs.declared.request.ClientRequest.{ClientRequest}
use Rattle.mj_tree.specs.declared.request.Reply.{Reply}
use Rattle.mj_tree.specs.declared.request.Op.{Op}
use Rattle.mj_tree.specs.declared.request.Op.TheVariants.{SessionClose, Lookup, Readdir, Readlink}
use Rattle.mj_tree.specs.State.{PlainState, Session, is_kept, opens_of}
use Rattle.mj_tree.specs.Walk.{Answer}
use Rattle.mj_tree.specs.Row.{Effect, effect, lookup, readdir, readlink}
use Rattle.mj_tree.specs.Change.{settled, with_set, changed, keeping, kept_in, with_reply}
use Rattle.mj_tree.specs.Answer.{refused, looked, by_effect, most_kept, still_kept, changing, closing, in_session, is_session_open, most_sessions, opening, by_session, by_kept, kept_reply, decision, is_change, state_after, after, changes}

-- what is known of the client's session where something changes
abbrev Stands : PlainState → ClientRequest → Decision → Type 0
Stands s r (Answered x) = Unit {0}
Stands s r SessionBegins = get s.sessions r.client ≡ None
Stands s r SessionEnds = (c : Session) × (get s.sessions r.client ≡ Some c)
Stands s r (Accepted i ch) = (c : Session) × (get s.sessions r.client ≡ Some c) × (get c.kept r.tid ≡ None)

choice : (s : PlainState) (r : ClientRequest) (b : Bool) (x y : Decision) → Stands s r x → Stands s r y → Stands s r (if b then x else y)
choice s r true x y h k = h
choice s r false x y h k = k

looked_stands : (s : PlainState) (r : ClientRequest) (a : Answer Reply) → Stands s r (looked a)
looked_stands s r (Ok x) = tt
looked_stands s r (Err code) = tt

by_effect_stands : (s : PlainState) (r : ClientRequest) (c : Session) → get s.sessions r.client ≡ Some c → get c.kept r.tid ≡ None → (e : Effect) → Stands s r (by_effect e)
by_effect_stands s r c h k (Ok x) = (c, h, k)
by_effect_stands s r c h k (Err code) = tt

changing_stands : (s : PlainState) (r : ClientRequest) (c : Session) → get s.sessions r.client ≡ Some c → get c.kept r.tid ≡ None → Stands s r (changing s r c)
unfolding changing
changing_stands s r c h k = choice s r (nat_le most_kept (still_kept r c)) (refused 28) (by_effect (effect s r r.op)) tt (by_effect_stands s r c h k (effect s r r.op))

closing_stands : (s : PlainState) (r : ClientRequest) (c : Session) → get s.sessions r.client ≡ Some c → Stands s r (closing s r.client)
unfolding closing
closing_stands s r c h = choice s r (nat_lt 0 (opens_of s r.client)) (refused 22) SessionEnds tt (c, h)

in_session_stands : (s : PlainState) (r : ClientRequest) (c : Session) → get s.sessions r.client ≡ Some c → get c.kept r.tid ≡ None → (op : Op) → Stands s r (in_session s r c op)
unfolding in_session
in_session_stands s r c h k (Lookup path) = looked_stands s r (lookup s path)
in_session_stands s r c h k (Readdir path) = looked_stands s r (readdir s path)
in_session_stands s r c h k (Readlink path) = looked_stands s r (readlink s path)
in_session_stands s r c h k SessionClose = closing_stands s r c h
in_session_stands s r c h k _ = changing_stands s r c h k

opening_stands : (s : PlainState) (r : ClientRequest) (o : Option Session) → get s.sessions r.client ≡ o → Stands s r (opening s o)
unfolding opening
opening_stands s r (Some c) h = tt
opening_stands s r None h = choice s r (nat_le most_sessions (len s.sessions)) (refused 28) SessionBegins tt h

by_session_stands : (s : PlainState) (r : ClientRequest) (o : Option Session) → get s.sessions r.client ≡ o → option_and_then (λ (c : Session). get c.kept r.tid) o ≡ None → Stands s r (by_session s r o)
unfolding by_session
by_session_stands s r None h k = tt
by_session_stands s r (Some c) h k = choice s r (nat_lt r.tid c.oldest) (refused 116) (in_session s r c r.op) tt (in_session_stands s r c h k r.op)

by_kept_stands : (s : PlainState) (r : ClientRequest) (o : Option ℕ) → kept_reply s r.client r.tid ≡ o → Stands s r (by_kept s r o)
by_kept_stands s r (Some i) h = tt
by_kept_stands s r None h = choice s r (is_session_open r.op) (opening s (get s.sessions r.client)) (by_session s r (get s.sessions r.client)) (opening_stands s r (get s.sessions r.client) refl) (by_session_stands s r (get s.sessions r.client) refl h)

stands : (s : PlainState) (r : ClientRequest) → Stands s r (decision s r)
unfolding decision
stands s r = choice s r (nat_lt r.tid r.oldest) (refused 22) (by_kept s r (kept_reply s r.client r.tid)) tt (by_kept_stands s r (kept_reply s r.client r.tid) refl)

settled_sessions : (s : PlainState) (i : ℕ) → (settled s i).sessions ≡ s.sessions
settled_sessions s i = elim (is_kept s i) as (λ b. (if b then s else record s { records = remove s.records i }).sessions ≡ s.sessions) [ true ↦ refl | false ↦ refl ]

set_sessions : (s : PlainState) (i : ℕ) (x : Settings) (o : Option Attributes) → (with_set s i x o).sessions ≡ s.sessions
set_sessions s i x None = refl
set_sessions s i x (Some a) = refl

-- no change of the tree touches a session
pub changed_sessions : (s : PlainState) (ch : Change) → (changed s ch).sessions ≡ s.sessions
changed_sessions s change.Nothing = refl
changed_sessions s (change.Begin q a) = refl
changed_sessions s (change.Link q i) = refl
changed_sessions s (change.Unlink q i) = settled_sessions (record s { links = remove s.links q }) i
changed_sessions s (change.Move q r i) = refl
changed_sessions s (change.Replace q r i j) = settled_sessions (record s { links = remove s.links r }) j
changed_sessions s (change.Set i x) = set_sessions s i x (get s.records i)
changed_sessions s (change.Hold client i) = refl
changed_sessions s (change.Release client i) = settled_sessions (record s { opens = remove s.opens (client, i) }) i

-- the session once the reply is kept
kept_session : (t : PlainState) (r : ClientRequest) (i : ℕ) (c : Session) → get t.sessions r.client ≡ Some c → get (with_reply t r i).sessions r.client ≡ Some (keeping r i c)
kept_session t r i c h = ap (λ o. get (kept_in t r i o).sessions r.client) h ∙ insert_same exact_nat t.sessions r.client (keeping r i c)

differs : (s : PlainState) (r : ClientRequest) (d : Decision) → Stands s r d → is_change d ≡ true → state_after s r d ≡ s → ⊥
differs s r (Answered x) h t e = cc
differs s r SessionBegins h t e = none_some _ (sym h ∙ ap (λ (z : PlainState). get z.sessions r.client) (sym e) ∙ insert_same exact_nat s.sessions r.client _)
differs s r SessionEnds h t e = none_some h.0 (sym (remove_same exact_nat s.sessions r.client) ∙ ap (λ (z : PlainState). get z.sessions r.client) e ∙ h.1)
differs s r (Accepted i ch) h t e =
    let c = h.0 in
    let now = kept_session (changed s ch) r i c (ap (λ m. get m r.client) (changed_sessions s ch) ∙ h.1) in
    let same : c ≡ keeping r i c = some_same c (keeping r i c) (sym h.1 ∙ ap (λ (z : PlainState). get z.sessions r.client) (sym e) ∙ now) in
    let kept = (keeping r i c).kept in
    none_some i (sym h.2 ∙ ap (λ (z : Session). get z.kept r.tid) same ∙ insert_same exact_nat (retain (λ tid _. nat_le (keeping r i c).oldest tid) c.kept) r.tid i)

same : (s : PlainState) (r : ClientRequest) (d : Decision) → is_change d ≡ false → state_after s r d ≡ s
same s r (Answered x) e = refl
same s r SessionBegins e = cc
same s r SessionEnds e = cc
same s r (Accepted i ch) e = cc

-- where nothing is to change, nothing does
pub unchanged : (s : PlainState) (r : ClientRequest) → changes s r ≡ false → after s r ≡ s
unfolding changes after
unchanged s r e = same s r (decision s r) e

-- where something is to change, the state after is another
pub changes_state : (s : PlainState) (r : ClientRequest) → changes s r ≡ true → after s r ≡ s → ⊥
unfolding changes after
changes_state s r t e = differs s r (decision s r) (stands s r) t e
