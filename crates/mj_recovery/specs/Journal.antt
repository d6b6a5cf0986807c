-- The live journal of an image: the header, the events from its expire on, and the tail.
use Rattle.std.specs.Prelude.{ℕ, zero, suc, ◌+◌, ◌-◌, Bool, true, false, ◌==◌, nat_lt, List, [], ◌∷◌, length, drop, if◌then◌else◌, Option, None, Some, Result, Ok, Err}
use Rattle.std.specs.List.{flat_map}
use Rattle.mj_base.specs.Reading.{◌>>=◌}
use Rattle.mj_base.specs.declared.damage.Damage.{Damage}
use Rattle.mj_base.specs.declared.damage.Damage.TheVariants as damage
use Rattle.mj_store.specs.Object.{Content, Contents}
use Rattle.mj_layout.specs.Header.{header_of}
use Rattle.mj_layout.specs.declared.Header.{Header}
use Rattle.mj_layout.specs.declared.HeaderRefusal.{HeaderRefusal}
use Rattle.mj_layout.specs.declared.HeaderRefusal.TheVariants.{HeaderBad, HeaderOrder}
use Rattle.mj_entry.specs.Entry.{EntryCase, entry_at}
use Rattle.mj_entry.specs.Entry.EntryCase.{Whole, Part, BadSentinel, BadLength, BadStart}
use Rattle.mj_cells.specs.declared.cell.CellWrite.{CellWrite}
use Rattle.mj_event.specs.declared.Event.{Event}
use Rattle.mj_event.specs.declared.Event.TheVariants.{SubtreeMap, Reset}
use Rattle.mj_event.specs.EventReading.{event_of}
use Rattle.mj_event.specs.Writes.{writes_of}
use Rattle.mj_recovery.specs.Stream.{journal_object, stream}
use Rattle.mj_recovery.specs.declared.journal.Entries.{Entries}
use Rattle.mj_recovery.specs.declared.journal.LiveEvent.{LiveEvent}
use Rattle.mj_recovery.specs.declared.journal.LiveJournal.{LiveJournal}

-- ---- the header

-- a header of a format that is read here
abbrev pub of_format : Result Header HeaderRefusal → Result Header Damage
of_format (Err (HeaderBad at)) = Err (damage.HeaderBad at)
of_format (Err HeaderOrder) = Err damage.HeaderOrder
of_format (Ok h) = if h.format == 0 then Err damage.Legacy else Ok h

abbrev pub header_in : Option Content → Result Header Damage
header_in None = Err damage.HeaderMissing
header_in (Some o) = of_format (header_of o.bytes)

-- the header is the whole content of the journal's first object
abbrev pub live_header : Contents → ℕ → Result Header Damage
live_header image rank = header_in (image (journal_object rank 0))

-- ---- the events

-- the event of a payload that stands at a position, and the position behind its entry
abbrev pub event_in : ℕ → ℕ → Result Event ℕ → Result (Option (LiveEvent × ℕ)) Damage
event_in at ends (Ok event) = Ok (Some (record { at = at; event = event }, ends))
event_in at ends (Err wrong) = Err (damage.BadEvent at wrong)

-- What the bytes from a position on begin with: a whole entry with a readable event, or the tail, where the place is empty or
-- a part of an entry at or above `write`; else it is damaged.
abbrev pub next_entry : ℕ → ℕ → EntryCase → Result (Option (LiveEvent × ℕ)) Damage
next_entry at write (Whole payload ends) = event_in at ends (event_of payload)
next_entry at write Part = if nat_lt at write then Err (damage.CutEntry at) else Ok None
next_entry at write BadSentinel = Err (damage.BadSentinel at)
next_entry at write (BadLength len) = Err (damage.BadLength at len)
next_entry at write (BadStart start) = Err (damage.BadStart at start)

-- an event before the others
abbrev pub before : LiveEvent → Entries → Entries
before e rest = record { events = e ∷ rest.events; tail = rest.tail }

abbrev pub nothing_at : ℕ → Entries
nothing_at at = record { events = []; tail = at }

-- Whole entries with readable events, one behind the other, and the tail behind them. An entry takes a byte at least, so one more
-- turn than there are bytes is enough.
unfoldable pub entries_in : ℕ → List ℕ → ℕ → ℕ → Result Entries Damage
entries_in zero bytes at write = Ok (nothing_at at)
entries_in (suc n) bytes at write = next_entry at write (entry_at bytes at) >>= λ o. elim o [
  | None ↦ Ok (nothing_at at)
  | Some e ↦ entries_in n (drop (e.1 - at) bytes) e.1 write >>= λ rest. Ok (before e.0 rest)
]

-- whether an event may stand first in a live journal
abbrev pub is_beginning : Event → Bool
is_beginning (SubtreeMap dirs) = true
is_beginning Reset = true
is_beginning _ = false

abbrev pub beginning : Entries → Result Entries Damage
beginning found = by_first found.events
  where
    by_first : List LiveEvent → Result Entries Damage
    by_first [] = Ok found
    by_first (e ∷ es) = if is_beginning e.event then Ok found else Err (damage.NoSubtreeMap e.at)

-- ---- the journal

abbrev pub live_entries : List ℕ → ℕ → ℕ → Result Entries Damage
live_entries bytes expire write =
    let end = expire + length bytes in
    if nat_lt end write then Err (damage.Hole end) else entries_in (length bytes + 1) bytes expire write >>= beginning

unfoldable pub journal_from : Contents → ℕ → Header → Result LiveJournal Damage
journal_from image rank h =
    live_entries (stream image rank h.layout h.expire) h.expire h.write
    >>= λ found. Ok (record { header = h; events = found.events; tail = found.tail })

-- The header and the events from its expire on, or the first damage in them.
abbrev pub live_journal : Contents → ℕ → Result LiveJournal Damage
live_journal image rank = live_header image rank >>= λ h. journal_from image rank h

-- what some events write, in order
abbrev pub journal_writes : List LiveEvent → List CellWrite
journal_writes events = flat_map (λ (e : LiveEvent). writes_of e.event) events
