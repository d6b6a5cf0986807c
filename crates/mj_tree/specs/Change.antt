-- The changes of a plain state.
use Rattle.std.specs.Prelude.{ℕ, ◌+◌, max, nat_le, List, Option, Some, None, if◌then◌else◌}
use Rattle.mj_maps.specs.Map.{get, insert, remove, empty, retain}
use Rattle.mj_tree.specs.declared.change.Attributes.{Attributes}
use Rattle.mj_tree.specs.declared.change.Settings.{Settings}
use Rattle.mj_tree.specs.declared.change.Change.{Change}
use Rattle.mj_tree.specs.declared.change.Change.TheVariants.{Nothing, Begin, Link, Unlink, Move, Replace, Set, Hold, Release}
use Rattle.mj_tree.specs.declared.request.ClientRequest.{ClientRequest}
use Rattle.mj_tree.specs.State.{PlainState, Session, is_kept}

-- a record goes when no link and no open is left
abbrev pub settled : PlainState → ℕ → PlainState
settled s i = if is_kept s i then s else record s { records = remove s.records i }

-- the next inode begins, with a link at the place
abbrev pub with_new : PlainState → ℕ × List ℕ → Attributes → PlainState
with_new s q a = record s { next = s.next + 1; records = insert s.records s.next a; links = insert s.links q s.next }

abbrev pub with_link : PlainState → ℕ × List ℕ → ℕ → PlainState
with_link s q i = record s { links = insert s.links q i }

abbrev pub without_link : PlainState → ℕ × List ℕ → ℕ → PlainState
without_link s q i = settled (record s { links = remove s.links q }) i

-- the link at q is now at r
abbrev pub with_moved : PlainState → ℕ × List ℕ → ℕ × List ℕ → ℕ → PlainState
with_moved s q r i = record s { links = insert (remove s.links q) r i }

abbrev pub set_in : Settings → Attributes → Attributes
set_in x a = record a { mode = x.mode; uid = x.uid; gid = x.gid; size = x.size; mtime = x.mtime }

abbrev pub with_set : PlainState → ℕ → Settings → Option Attributes → PlainState
with_set s i x None = s
with_set s i x (Some a) = record s { records = insert s.records i (set_in x a) }

abbrev pub with_open : PlainState → ℕ → ℕ → PlainState
with_open s client i = record s { opens = insert s.opens (client, i) tt }

abbrev pub without_open : PlainState → ℕ → ℕ → PlainState
without_open s client i = settled (record s { opens = remove s.opens (client, i) }) i

abbrev pub changed : PlainState → Change → PlainState
changed s Nothing = s
changed s (Begin q a) = with_new s q a
changed s (Link q i) = with_link s q i
changed s (Unlink q i) = without_link s q i
changed s (Move q r i) = with_moved s q r i
changed s (Replace q r i j) = with_moved (without_link s r j) q r i
changed s (Set i x) = with_set s i x (get s.records i)
changed s (Hold client i) = with_open s client i
changed s (Release client i) = without_open s client i

-- sessions

abbrev pub new_session : ClientRequest → Session
new_session r = record { oldest = r.oldest; kept = insert empty r.tid 0 }

abbrev pub with_session : PlainState → ClientRequest → PlainState
with_session s r = record s { sessions = insert s.sessions r.client (new_session r) }

abbrev pub without_session : PlainState → ℕ → PlainState
without_session s client = record s { sessions = remove s.sessions client }

-- The session's oldest rises to the request's, kept replies below it are dropped, and this one is kept.
abbrev pub keeping : ClientRequest → ℕ → Session → Session
keeping r i c = let oldest = max c.oldest r.oldest in record { oldest = oldest; kept = insert (retain (λ tid _. nat_le oldest tid) c.kept) r.tid i }

abbrev pub kept_in : PlainState → ClientRequest → ℕ → Option Session → PlainState
kept_in s r i None = s
kept_in s r i (Some c) = record s { sessions = insert s.sessions r.client (keeping r i c) }

abbrev pub with_reply : PlainState → ClientRequest → ℕ → PlainState
with_reply s r i = kept_in s r i (get s.sessions r.client)
