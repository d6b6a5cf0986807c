-- What holds of a rank and its store while it serves.
use Rattle.std.specs.Prelude.{◌≡◌, ◌⊎◌, ℕ, ◌+◌, ◌*◌, ◌<◌, ◌≤◌, Option, Some, None, List, length}
use Rattle.mj_base.specs.declared.object.ObjectName.{ObjectName}
use Rattle.mj_store.specs.Object.{Content}
use Rattle.mj_store.specs.State.{StoreState, Pending}
use Rattle.mj_store.specs.Causes.{In}
use Rattle.mj_store.specs.Along.{Always, HasOp, Numbers}
use Rattle.mj_layout.specs.Striping.{period}
use Rattle.mj_layout.specs.Place.{object_of, offset_of}
use Rattle.mj_recovery.specs.Stream.{journal_object, byte_in}
use Rattle.mj_facts.specs.Journalled.{IsJournalled, end_of}
use Rattle.mj_facts.specs.Headers.{HeaderStands, HeadersBounded}
use Rattle.mj_facts.specs.Ranks.{Sent, Rank, safe_of, base_of}

-- a position waits for a write of it that is pending and not acknowledged
pub record Waits (sent : List Sent) (x : ℕ) (rest : List Pending) : Type 0 where
  pub write : Sent
  pub is_sent : In write sent
  pub from : write.from ≤ x
  pub to : x < write.to
  pub pending : HasOp write.op rest

-- An object of the journal at a moment. Each byte of the stream is there, or it is missing and waits. None is above what was sent.
pub record Carries (r : Rank) (index : ℕ) (held : Option Content) (rest : List Pending) : Type 0 where
  pub each : (x : ℕ) → object_of r.journal.layout x ≡ index → base_of r ≤ x → x < r.flushed
      → (byte_in (offset_of r.journal.layout x) held ≡ Some (r.journal.want x)) ⊎ ((byte_in (offset_of r.journal.layout x) held ≡ None) × Waits r.sent x rest)
  pub above : (x : ℕ) → object_of r.journal.layout x ≡ index → r.flushed ≤ x → byte_in (offset_of r.journal.layout x) held ≡ None

-- each object of the rank's journal; of other objects nothing is said
pub record StreamStands (r : Rank) (name : ObjectName) (held : Option Content) (rest : List Pending) : Type 0 where
  pub head : name ≡ journal_object r.journal.rank 0 → HeaderStands r.stood r.heads held rest
  pub carries : (index : ℕ) → name ≡ journal_object r.journal.rank index → 1 ≤ index → Carries r index held rest

-- what is acknowledged as done is pending nowhere, and each write that is out begins at or above the safe position
pub record InFlightKnown (r : Rank) (s : StoreState) : Type 0 where
  pub numbers : Numbers s
  pub outstanding : (w : Sent) → In w r.sent → safe_of r ≤ w.from

pub record Serves (r : Rank) (s : StoreState) : Type 0 where
  pub journalled : IsJournalled r.journal
  pub stream_stands : Always (StreamStands r) s
  pub within_window : r.flushed ≤ safe_of r + 4 * period r.journal.layout
  pub headers_bounded : HeadersBounded r.journal r.count r.stood r.heads
  pub in_flight_known : InFlightKnown r s
  pub within : r.count ≤ length r.journal.events
  pub covers : safe_of r ≤ r.flushed
  pub flushed : r.flushed ≤ end_of r.journal
