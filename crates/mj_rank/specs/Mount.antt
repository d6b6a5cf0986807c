-- With what a mount and its rank begin.
use Rattle.std.specs.Prelude.{ℕ, ◌+◌, ◌-◌, ◌^◌, min, Bool, is_none, [], ◌∷◌, if◌then◌else◌, Option, None, Some}
use Rattle.mj_layout.specs.declared.Header.{Header}
use Rattle.mj_event.specs.declared.Event.{Event}
use Rattle.mj_event.specs.declared.Event.TheVariants.{SubtreeMap}
use Rattle.mj_event.specs.Event.{event_bytes}
use Rattle.mj_layout.specs.declared.Phase.TheVariants.{Serving}
use Rattle.mj_journaler.specs.Journal.{Journal}
use Rattle.mj_journaler.specs.Calls.{append_refusal, begun}
use Rattle.mj_rank.specs.Log.{with_entry}

-- a rank's trees begin at the root and at its own directory
abbrev pub subtree_map : ℕ → Event
subtree_map rank = SubtreeMap (1 ∷ (0x100 + rank) ∷ [])

-- The header of the next epoch, which ends at the tail. At the end of its type the epoch stays.
abbrev pub next_header : Header → ℕ → Header
next_header h tail = record h { write = tail; epoch = min (h.epoch + 1) (2 ^ 64 - 1) }

-- the last one that a mount sends
abbrev pub serving_header : Header → ℕ → Header
serving_header h tail = record (next_header h tail) { phase = Serving }

-- the journal goes on at the tail under that header
abbrev pub empty_log : Header → ℕ → ℕ → Journal
empty_log found rank tail = begun (serving_header found tail) rank tail

-- whether a subtree map fits there
abbrev pub map_fits : Header → ℕ → ℕ → Bool
map_fits found rank tail = is_none (append_refusal (empty_log found rank tail) (event_bytes (subtree_map rank)))

-- It begins with a map, which is not sent. At the end of all positions it stays empty.
abbrev pub first_log : Header → ℕ → ℕ → Journal
first_log found rank tail = if map_fits found rank tail then with_entry (empty_log found rank tail) (event_bytes (subtree_map rank)) else empty_log found rank tail

-- how many events the first segment has, if it has begun
abbrev pub first_segment : Header → ℕ → ℕ → Option ℕ
first_segment found rank tail = if map_fits found rank tail then Some 0 else None
