-- What a rank has journalled: its events, in entries that follow one another from a position on.
use Rattle.std.specs.Prelude.{◌≡◌, ℕ, ◌+◌, ◌^◌, ◌<◌, ◌≤◌, IsTrue, List, [], ◌∷◌, ◌++◌, length, take, Some, slice_get}
use Rattle.std.specs.List.{AllByRecursion}
use Rattle.mj_layout.specs.Striping.{Striping, IsStriping, period}
use Rattle.mj_entry.specs.Entry.{entry_bytes, entry_length, IsPayload}
use Rattle.mj_event.specs.declared.Event.{Event}
use Rattle.mj_event.specs.Event.{IsEvent, event_bytes}
use Rattle.mj_recovery.specs.Journal.{is_beginning}
use Rattle.mj_recovery.specs.declared.journal.LiveEvent.{LiveEvent}

-- an event that an entry carries
abbrev pub IsCarried : Event → Type 0
IsCarried e = IsEvent e × IsPayload (event_bytes e)

-- its entry at a position, and how many bytes that has
unfoldable pub entry_of : ℕ → Event → List ℕ
entry_of at e = entry_bytes at (event_bytes e)

unfoldable pub size_of : Event → ℕ
size_of e = entry_length (event_bytes e)

-- the bytes of entries from a position on, and where they end
abbrev pub spelled : ℕ → List Event → List ℕ
spelled at [] = []
spelled at (e ∷ es) = entry_of at e ++ spelled (at + size_of e) es

abbrev pub ends : ℕ → List Event → ℕ
ends at [] = at
ends at (e ∷ es) = ends (at + size_of e) es

-- events with the positions of their entries
abbrev pub placed : ℕ → List Event → List LiveEvent
placed at [] = []
placed at (e ∷ es) = record { at = at; event = e } ∷ placed (at + size_of e) es

-- the first of these may stand first in a live journal
abbrev pub Begins : List Event → Type 0
Begins [] = Unit {0}
Begins (e ∷ es) = IsTrue (is_beginning e)

-- ---- a rank's journal

-- `events` are all that were journalled from `start` on, and `want` is the byte wanted at each position.
pub record Journalled : Type 0 where
  pub rank : ℕ
  pub layout : Striping
  pub start : ℕ
  pub events : List Event
  pub want : ℕ → ℕ

-- the place of an event, counted in events
abbrev pub place_of : Journalled → ℕ → ℕ
place_of j i = ends j.start (take i j.events)

abbrev pub end_of : Journalled → ℕ
end_of j = ends j.start j.events

-- with the first of the events alone
abbrev pub taken : ℕ → Journalled → Journalled
taken count j = record j { events = take count j.events }

-- with more events, and the bytes that are wanted then
abbrev pub grown : List Event → (ℕ → ℕ) → Journalled → Journalled
grown more want j = record j { events = j.events ++ more; want = want }

-- the bytes wanted from a position on are just these
abbrev pub Wants : (ℕ → ℕ) → ℕ → List ℕ → Type 0
Wants want x bytes = (i : ℕ) → i < length bytes → slice_get bytes i ≡ Some (want (x + i))

pub record IsJournalled (j : Journalled) : Type 0 where
  pub layout : IsStriping j.layout
  -- the first set of objects holds the header alone
  pub aligned : period j.layout ≤ j.start
  pub carried : AllByRecursion IsCarried j.events
  pub wants : Wants j.want j.start (spelled j.start j.events)
  pub below : end_of j < 2 ^ 62
