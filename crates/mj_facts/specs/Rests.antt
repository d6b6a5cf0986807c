-- Contents that are at rest, or that a stop leaves, and what is read from them.
use Rattle.std.specs.Prelude.{◌≡◌, ℕ, ◌-◌, ◌<◌, ◌≤◌, List, length, take, drop, Some, None, Ok, map, unwrap_or}
use Rattle.mj_base.specs.Reading.{AreBytes}
use Rattle.mj_base.specs.declared.object.ObjectName.{ObjectName}
use Rattle.mj_store.specs.Object.{Contents, Content}
use Rattle.mj_store.specs.Causes.{In}
use Rattle.mj_layout.specs.Header.{header_bytes}
use Rattle.mj_layout.specs.Placing.{window_end}
use Rattle.mj_layout.specs.declared.Header.{Header}
use Rattle.mj_entry.specs.Entry.{entry_at}
use Rattle.mj_entry.specs.Entry.EntryCase.{Part}
use Rattle.mj_recovery.specs.Stream.{journal_object, byte_at, stream}
use Rattle.mj_recovery.specs.Journal.{live_journal}
use Rattle.mj_recovery.specs.declared.journal.LiveEvent.{LiveEvent}
use Rattle.mj_recovery.specs.declared.journal.LiveJournal.{LiveJournal}
use Rattle.mj_facts.specs.Journalled.{Journalled, place_of, placed, IsJournalled}
use Rattle.mj_facts.specs.Headers.{HoldsJust, IsBounded}

-- These contents recover to the first `count` events: a header stands, the bytes from its expire on are those of the entries
-- up to there, what follows is no more than a part of an entry wherever it is cut, and nothing lies beyond the window.
pub record Rests (j : Journalled) (count : ℕ) (image : Contents) : Type 0 where
  pub header : Header
  pub stands : HoldsJust (header_bytes header) (image (journal_object j.rank 0))
  pub bounded : IsBounded j count header
  pub within : count ≤ length j.events
  pub has : (x : ℕ) → header.expire ≤ x → x < place_of j count → byte_at image j.rank j.layout x ≡ Some (j.want x)
  pub part : (k : ℕ) → entry_at (take k (stream image j.rank j.layout (place_of j count))) (place_of j count) ≡ Part
  pub clear : (x : ℕ) → window_end j.layout (place_of j count) ≤ x → byte_at image j.rank j.layout x ≡ None

-- at least these are in what the contents recover to, and one of these headers stands
pub record RestsWith (j : Journalled) (safe : ℕ) (headers : List Header) (image : Contents) : Type 0 where
  pub count : ℕ
  pub enough : safe ≤ count
  pub rests : Rests j count image
  pub standing : In rests.header headers

-- ---- what is read

-- the events from the first on, up to the count-th, with the positions of their entries
abbrev pub events_between : Journalled → ℕ → ℕ → List LiveEvent
events_between j first count = placed (place_of j first) (take (count - first) (drop first j.events))

abbrev pub journal_of : Journalled → Header → ℕ → ℕ → LiveJournal
journal_of j header first count = record { header = header; events = events_between j first count; tail = place_of j count }

-- The live journal is read, and nothing in it is damaged. It is that of the events from its header's expire on, without some of
-- the last, but with all that are safe.
pub record IsFront (j : Journalled) (safe : ℕ) (headers : List Header) (image : Contents) : Type 0 where
  pub header : Header
  pub standing : In header headers
  pub first : ℕ
  pub starts : header.expire ≡ place_of j first
  pub count : ℕ
  pub live : first ≤ count
  pub within : count ≤ length j.events
  pub enough : safe ≤ count
  pub reaches : place_of j safe ≤ place_of j count
  pub read : live_journal image j.rank ≡ Ok (journal_of j header first count)

-- ---- what is found

-- the journal that is read from an image, as what was journalled
abbrev pub found_journal : Contents → ℕ → LiveJournal → Journalled
found_journal image rank live = record {
  rank = rank;
  layout = live.header.layout;
  start = live.header.expire;
  events = map (λ (e : LiveEvent). e.event) live.events;
  want = λ x. unwrap_or (byte_at image rank live.header.layout x) 0;
}

-- the bytes of each object are bytes
abbrev pub HoldsBytes : Contents → Type 0
HoldsBytes image = (name : ObjectName) (o : Content) → image name ≡ Some o → AreBytes o.bytes

-- All events were journalled, and the contents rest with them, under this header.
pub record RestsWhole (j : Journalled) (header : Header) (image : Contents) : Type 0 where
  pub journalled : IsJournalled j
  pub rests : Rests j (length j.events) image
  pub stands : rests.header ≡ header
