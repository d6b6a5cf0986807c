-- Where the events of requests end.
use Rattle.std.specs.Prelude.{ℕ, ◌≡◌, ◌==◌, ◌&&◌, Bool, List, [], ◌∷◌, Option, None, if◌then◌else◌}
use Rattle.std.specs.Option.{option_or}
use Rattle.std.specs.BTreeMap.{BTreeMap, get}
use Rattle.mj_maps.specs.Orders.{pair_cmp}
use Rattle.mj_machine.specs.declared.kept.ChronicleEntry.{ChronicleEntry}

-- an entry of a request of this client with this number
abbrev pub is_of : ℕ → ℕ → ChronicleEntry → Bool
is_of client tid e = (e.request.client == client) && (e.request.tid == tid)

-- its end, where it is of this client and number and has one
abbrev pub own_end : ℕ → ℕ → ChronicleEntry → Option ℕ
own_end client tid e = if is_of client tid e then e.ends_at else None

-- the end of the last entry of a client's requests of this number that has one
abbrev pub last_end : ℕ → ℕ → List ChronicleEntry → Option ℕ
last_end client tid [] = None
last_end client tid (e ∷ es) = option_or (last_end client tid es) (own_end client tid e)

-- an index that answers it for each client and number
abbrev pub IsIndexOf : List ChronicleEntry → BTreeMap (ℕ × ℕ) ℕ → Type 0
IsIndexOf es ends = (pair : ℕ × ℕ) → get pair_cmp ends pair ≡ last_end pair.0 pair.1 es
