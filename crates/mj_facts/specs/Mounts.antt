-- What holds from a stop until a rank serves.
use Rattle.std.specs.Prelude.{◌≡◌, ◌⊎◌, ℕ, ◌<◌, ◌≤◌, Option, Some, None, List, [], length, take}
use Rattle.mj_base.specs.declared.object.ObjectName.{ObjectName}
use Rattle.mj_store.specs.Object.{Content, Contents}
use Rattle.mj_store.specs.State.{StoreState, Pending}
use Rattle.mj_store.specs.Causes.{In}
use Rattle.mj_store.specs.Along.{Always, HasOp, Numbers}
use Rattle.mj_layout.specs.Place.{object_of, offset_of}
use Rattle.mj_layout.specs.Placing.{window_end}
use Rattle.mj_layout.specs.declared.Header.{Header}
use Rattle.mj_entry.specs.Entry.{entry_at}
use Rattle.mj_entry.specs.Entry.EntryCase.{Part}
use Rattle.mj_recovery.specs.Stream.{journal_object, byte_in, byte_at, stream}
use Rattle.mj_facts.specs.Journalled.{Journalled, IsJournalled}
use Rattle.mj_facts.specs.Headers.{HeaderStands, HeadersBounded}
use Rattle.mj_facts.specs.Ranks.{Rank, Cutting, Mount, tail_of}

-- the byte at a position in what the last stop left
abbrev pub left_at : Mount → ℕ → Option ℕ
left_at k x = byte_at k.found k.journal.rank k.journal.layout x

-- a truncation of this object was sent and is pending
pub record IsCutting (out : List Cutting) (index : ℕ) (rest : List Pending) : Type 0 where
  pub cutting : Cutting
  pub is_out : In cutting out
  pub index_is : cutting.index ≡ index
  pub pending : HasOp cutting.op rest

-- no truncation of this object is applied
abbrev pub Uncut : Mount → ℕ → List Pending → Type 0
Uncut k index rest = (In index k.cut → ⊥) ⊎ IsCutting k.out index rest

-- An object of the journal at a moment: the bytes of the events are there, and above the tail is what was left, or nothing.
-- Where no truncation was sent, nothing is pending.
pub record Keeps (k : Mount) (index : ℕ) (held : Option Content) (rest : List Pending) : Type 0 where
  pub each : (x : ℕ) → object_of k.journal.layout x ≡ index → k.stood.expire ≤ x → x < tail_of k → byte_in (offset_of k.journal.layout x) held ≡ Some (k.journal.want x)
  pub left : (x : ℕ) → object_of k.journal.layout x ≡ index → tail_of k ≤ x
      → (byte_in (offset_of k.journal.layout x) held ≡ None) ⊎ ((byte_in (offset_of k.journal.layout x) held ≡ left_at k x) × Uncut k index rest)
  pub idle : (In index k.cut → ⊥) → rest ≡ []

pub record MountStands (k : Mount) (name : ObjectName) (held : Option Content) (rest : List Pending) : Type 0 where
  pub head : name ≡ journal_object k.journal.rank 0 → HeaderStands k.stood k.heads held rest
  pub keeps : (index : ℕ) → name ≡ journal_object k.journal.rank index → 1 ≤ index → Keeps k index held rest

pub record Mounts (k : Mount) (s : StoreState) : Type 0 where
  pub journalled : IsJournalled k.journal
  pub stream_stands : Always (MountStands k) s
  pub headers_bounded : HeadersBounded k.journal (length k.journal.events) k.stood k.heads
  pub numbers : Numbers s
  pub part : (n : ℕ) → entry_at (take n (stream k.found k.journal.rank k.journal.layout (tail_of k))) (tail_of k) ≡ Part
  pub within_window : (x : ℕ) → window_end k.journal.layout (tail_of k) ≤ x → left_at k x ≡ None

-- Each object that has bytes at or above the tail was seen to, and every truncation is acknowledged: only then is the stream
-- written on.
pub record MountInOrder (k : Mount) : Type 0 where
  pub acked : k.out ≡ []
  pub cut : (x : ℕ) → tail_of k ≤ x → x < window_end k.journal.layout (tail_of k) → (left_at k x ≡ None) ⊎ In (object_of k.journal.layout x) k.cut

-- ---- how a mount begins and ends

abbrev pub begun : Journalled → Contents → Header → Mount
begun j found header = record { journal = j; found = found; stood = header; heads = []; cut = []; out = [] }

abbrev pub serving : Mount → Rank
serving k = record { journal = k.journal; count = length k.journal.events; flushed = tail_of k; sent = []; stood = k.stood; heads = k.heads }
