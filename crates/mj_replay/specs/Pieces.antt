-- Entries of a stream that is read piece by piece.
use Rattle.std.specs.Prelude.{◌≡◌, ◌⊎◌, ℕ, ◌+◌, ◌-◌, ◌<◌, ◌≤◌, List, [], ◌++◌, length, drop, Result, Ok, Err}
use Rattle.std.specs.List.{AllByRecursion}
use Rattle.mj_base.specs.declared.damage.Damage.{Damage}
use Rattle.mj_event.specs.Event.{IsEvent}
use Rattle.mj_recovery.specs.Journal.{entries_in}
use Rattle.mj_recovery.specs.declared.journal.Entries.{Entries}
use Rattle.mj_recovery.specs.declared.journal.LiveEvent.{LiveEvent}
use Rattle.mj_replay.specs.Replays.{Fails}
use Rattle.mj_replay.specs.declared.piece.Piece.{Piece}
use Rattle.mj_replay.specs.declared.piece.Piece.TheVariants.{More, Tail}
use Rattle.mj_replay.specs.declared.refusal.JournalRefusal.{JournalRefusal}

-- each event is in the grammar
abbrev pub InGrammar : List LiveEvent → Type 0
InGrammar es = AllByRecursion (λ (e : LiveEvent). IsEvent e.event) es

-- the entries of a whole stream from a position on
abbrev pub entries_from : List ℕ → ℕ → ℕ → Result Entries Damage
entries_from bytes at write = entries_in (length bytes + 1) bytes at write

-- the entries behind these events
abbrev pub behind : List LiveEvent → Result Entries Damage → Result Entries Damage
behind events (Ok rest) = Ok (record { events = events ++ rest.events; tail = rest.tail })
behind events (Err d) = Err d

-- What may follow a piece: nothing, or anything where the piece keeps back as many bytes as an entry has at most.
abbrev pub MayFollow : ℕ → List ℕ → Type 0
MayFollow keep more = (65536 ≤ keep) ⊎ (more ≡ [])

-- What the piece's entries came to: the tail lies in it, or the entries from a later place on are the rest.
abbrev pub Continues : List LiveEvent → Piece → List ℕ → ℕ → ℕ → Result Entries Damage → Type 0
Continues events (Tail tail) bytes at write all = all ≡ Ok (record { events = events; tail = tail })
Continues events (More next) bytes at write all = all ≡ behind events (entries_from (drop (next - at) bytes) next write)

-- Whatever may follow the piece, its entries stand first of all.
abbrev pub Reads : ℕ → List ℕ → ℕ → ℕ → List LiveEvent → List LiveEvent → Piece → Type 0
Reads keep bytes at write old new piece = (more : List ℕ) → MayFollow keep more → Continues new piece (bytes ++ more) at write (behind old (entries_from (bytes ++ more) at write))

-- and a damage is that of all
abbrev pub Refuses : ℕ → List ℕ → ℕ → ℕ → List LiveEvent → JournalRefusal → Type 0
Refuses keep bytes at write old why = (more : List ℕ) → MayFollow keep more → Fails why (behind old (entries_from (bytes ++ more) at write))

-- Where a piece ends: at a tail that does not lie below write, or behind some entries, with fewer bytes left than are kept back.
abbrev pub EndsIn : ℕ → List ℕ → ℕ → ℕ → Piece → Type 0
EndsIn keep bytes at write (Tail tail) = (write ≤ tail) × (tail ≤ at + length bytes)
EndsIn keep bytes at write (More next) = (at ≤ next) × (next ≤ at + length bytes) × (at + length bytes < next + keep)
