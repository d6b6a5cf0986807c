-- Segments: a subtree map begins each, and one begins by itself once the last has taken as many events as it may.
use Rattle.std.specs.Prelude.{ℕ, ◌+◌, Bool, true, nat_le, List, if◌then◌else◌, Option, None, Some, unwrap_or}
use Rattle.mj_entry.specs.Entry.{entry_length}
use Rattle.mj_event.specs.Event.{event_bytes}
use Rattle.mj_journaler.specs.declared.AppendRefusal.{AppendRefusal}
use Rattle.mj_journaler.specs.Journal.{Journal}
use Rattle.mj_journaler.specs.Calls.{append_refusal, append_both_refusal}
use Rattle.mj_rank.specs.Log.{entry_end, with_entry}
use Rattle.mj_rank.specs.Mount.{subtree_map}

-- the most events of a segment that still goes on, its map not counted
abbrev pub most_events : ℕ
most_events = 1024

-- whether a map comes before the next event: the segment is full, or none has begun
abbrev pub is_due : Option ℕ → Bool
is_due None = true
is_due (Some n) = nat_le most_events n

-- how many events the segment has with one more
abbrev pub events_after : Option ℕ → ℕ
events_after segment = if is_due segment then 1 else unwrap_or segment 0 + 1

-- the payload of the map that comes before the next event, where one does
abbrev pub due_map : ℕ → Option ℕ → Option (List ℕ)
due_map rank segment = if is_due segment then Some (event_bytes (subtree_map rank)) else None

-- ---- an event's entry, and the map before it

-- why they are refused
abbrev pub event_refusal : Option (List ℕ) → Journal → List ℕ → Option AppendRefusal
event_refusal None l payload = append_refusal l payload
event_refusal (Some map) l payload = append_both_refusal l map payload

-- the journal that the event's entry goes behind
abbrev pub log_before : Option (List ℕ) → Journal → Journal
log_before None l = l
log_before (Some map) l = with_entry l map

-- the journal with them, and where it ends then
abbrev pub log_behind : Option (List ℕ) → Journal → List ℕ → Journal
log_behind map l payload = with_entry (log_before map l) payload

abbrev pub event_end : Option (List ℕ) → Journal → List ℕ → ℕ
event_end map l payload = entry_end (log_before map l) payload

-- how many bytes they have
abbrev pub map_length : Option (List ℕ) → ℕ
map_length None = 0
map_length (Some map) = entry_length map
