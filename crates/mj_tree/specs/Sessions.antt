-- The sessions of clients and what is kept for them.
use Rattle.std.specs.Prelude.{ℕ, Option, option_map, unwrap_or}
use Rattle.mj_maps.specs.Map.{Map, get, empty}
use Rattle.mj_maps.specs.Orders.{nat_cmp}
use Rattle.mj_tree.specs.State.{PlainState, Session}

-- the oldest number of a session, where there is one
abbrev pub oldest_of : Option Session → Option ℕ
oldest_of o = option_map (λ (c : Session). c.oldest) o

-- a client's session; where it has none, one that keeps nothing
abbrev pub session_at : PlainState → ℕ → Session
session_at s client = unwrap_or (get s.sessions client) (record { oldest = 0; kept = empty })

-- the replies that are kept for a client
abbrev pub kept_of : PlainState → ℕ → Map nat_cmp ℕ
kept_of s client = (session_at s client).kept
