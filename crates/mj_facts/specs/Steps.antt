-- What may happen to a rank and its store, one step after another, with stops anywhere.
use Rattle.std.specs.Prelude.{◌≡◌, ◌⊎◌, ℕ, ◌≤◌, true, List, ◌∷◌, ◌++◌, length, take, drop}
use Rattle.mj_base.specs.declared.object.ObjectName.{ObjectName}
use Rattle.mj_store.specs.Object.{Contents}
use Rattle.mj_store.specs.State.{StoreState, IsImage, submitted, tried, failed, reported, at_rest}
use Rattle.mj_store.specs.Causes.{In}
use Rattle.mj_store.specs.declared.act.ObjectOp.{ObjectOp}
use Rattle.mj_store.specs.declared.answer.Ack.{Ack}
use Rattle.mj_layout.specs.Cutting.{IsCut}
use Rattle.mj_layout.specs.declared.Header.{Header}
use Rattle.mj_event.specs.declared.Event.{Event}
use Rattle.mj_recovery.specs.Stream.{journal_object}
use Rattle.mj_facts.specs.Elsewhere.{IsElsewhere}
use Rattle.mj_facts.specs.Journalled.{Journalled, taken}
use Rattle.mj_facts.specs.Headers.{HeadSent, may_stand}
use Rattle.mj_facts.specs.Ranks.{Sent, Rank, Cutting, Mount, tail_of}
use Rattle.mj_facts.specs.Serves.{Serves}
use Rattle.mj_facts.specs.Rests.{Rests, IsFront}
use Rattle.mj_facts.specs.Mounts.{Mounts, MountInOrder, begun, serving}
use Rattle.mj_facts.specs.Calls.{appended, MayAppend, write_op, flushed_to, MayWrite, made_safe, MayMakeSafe, header_op, MaySendHeader, IsSettled, rank_headed, rank_settled, mount_headed, mount_settled, remove_op, MayRemove, cut_op, cutting, cut_done, IsShort, passed}

pub data World : Type 0 where
  Serving : Rank → World
  Mounting : Mount → World

abbrev pub Holds : World → StoreState → Type 0
Holds (Serving r) s = Serves r s
Holds (Mounting k) s = Mounts k s

abbrev pub journal_in : World → Journalled
journal_in (Serving r) = r.journal
journal_in (Mounting k) = k.journal

-- how many events are safe: in a mount all that were recovered
abbrev pub safe_in : World → ℕ
safe_in (Serving r) = r.count
safe_in (Mounting k) = length k.journal.events

abbrev pub headers_in : World → List Header
headers_in (Serving r) = may_stand r.stood r.heads
headers_in (Mounting k) = may_stand k.stood k.heads

-- these contents are a front of the world's events, with all that are safe
abbrev pub IsFrontOf : World → Contents → Type 0
IsFrontOf w image = IsFront (journal_in w) (safe_in w) (headers_in w) image

abbrev pub with_headers : World → ℕ → Header → World
with_headers (Serving r) op h = Serving (rank_headed op h r)
with_headers (Mounting k) op h = Mounting (mount_headed op h k)

abbrev pub with_settled : World → Header → List HeadSent → World
with_settled (Serving r) stood after = Serving (rank_settled stood after r)
with_settled (Mounting k) stood after = Mounting (mount_settled stood after k)

abbrev pub stood_in : World → Header
stood_in (Serving r) = r.stood
stood_in (Mounting k) = k.stood

abbrev pub heads_in : World → List HeadSent
heads_in (Serving r) = r.heads
heads_in (Mounting k) = k.heads

pub data Step : World → StoreState → World → StoreState → Type 0 where
  -- what the store does
  Tried : (w : World) (s : StoreState) (name : ObjectName) → Step w s w (tried name s)
  NotDone : (w : World) (s : StoreState) (name : ObjectName) → Step w s w (failed name s)
  Told : (w : World) (s : StoreState) → Step w s w (reported s)
  -- what a rank does, or a mount
  Elsewhere : (w : World) (s : StoreState) (op : ObjectOp) (number : ℕ) → s.next ≤ number → IsElsewhere (journal_in w).rank op.name → Step w s w (submitted op number s)
  HeaderSent : (w : World) (s : StoreState) (op : ℕ) (h : Header) → s.next ≤ op → MaySendHeader (journal_in w) (safe_in w) (stood_in w) (heads_in w) h
      → Step w s (with_headers w op h) (submitted (header_op (journal_in w).rank h) op s)
  HeaderDone : (w : World) (s : StoreState) (a : Ack) (stood : Header) (after : List HeadSent) → s.completed ≡ a ∷ drop 1 s.completed → a.done ≡ true
      → IsSettled a.op (heads_in w) stood after → Step w s (with_settled w stood after) (reported s)
  -- what a rank does
  Appended : (r : Rank) (s : StoreState) (more : List Event) (want : ℕ → ℕ) → MayAppend r more want → Step (Serving r) s (Serving (appended more want r)) s
  Wrote : (r : Rank) (s : StoreState) (op to : ℕ) (bytes : List ℕ) → s.next ≤ op → MayWrite r to bytes
      → Step (Serving r) s (Serving (flushed_to op to r)) (submitted (write_op r bytes) op s)
  WriteDone : (r : Rank) (s : StoreState) (a : Ack) (count : ℕ) (sent : List Sent) → s.completed ≡ a ∷ drop 1 s.completed → a.done ≡ true
      → MayMakeSafe r a.op count sent → Step (Serving r) s (Serving (made_safe count sent r)) (reported s)
  Removed : (r : Rank) (s : StoreState) (op index : ℕ) → s.next ≤ op → MayRemove r index
      → Step (Serving r) s (Serving r) (submitted (remove_op r.journal.rank index) op s)
  -- what a mount does
  Cut : (k : Mount) (s : StoreState) (op index len : ℕ) → s.next ≤ op → 1 ≤ index → IsCut k.journal.layout index (tail_of k) len
      → Step (Mounting k) s (Mounting (cutting op index k)) (submitted (cut_op k.journal.rank index len) op s)
  CutDone : (k : Mount) (s : StoreState) (a : Ack) (out : List Cutting) → s.completed ≡ a ∷ drop 1 s.completed → a.done ≡ true
      → ((c : Cutting) → In c k.out → In c out ⊎ (c.op ≡ a.op)) → Step (Mounting k) s (Mounting (cut_done out k)) (reported s)
  Passed : (k : Mount) (s : StoreState) (index : ℕ) → 1 ≤ index → IsShort k index (s.objects (journal_object k.journal.rank index)).held
      → Step (Mounting k) s (Mounting (passed index k)) s
  Begins : (k : Mount) (s : StoreState) → MountInOrder k → Step (Mounting k) s (Serving (serving k)) s
  -- a stop at any moment, and the mount that reads what it left
  Stopped : (w : World) (s : StoreState) (image : Contents) (count : ℕ) → IsImage s image → safe_in w ≤ count → (r : Rests (journal_in w) count image)
      → Step w s (Mounting (begun (taken count (journal_in w)) image r.header)) (at_rest image s)

pub data Steps : World → StoreState → World → StoreState → Type 0 where
  Stay : (w : World) (s : StoreState) → Steps w s w s
  Then : (w : World) (s : StoreState) (v : World) (t : StoreState) (u : World) (z : StoreState) → Step w s v t → Steps v t u z → Steps w s u z

-- the safe events go on, at their places
pub record KeepsSafe (w v : World) : Type 0 where
  pub rank : (journal_in v).rank ≡ (journal_in w).rank
  pub layout : (journal_in v).layout ≡ (journal_in w).layout
  pub start : (journal_in v).start ≡ (journal_in w).start
  pub more : List Event
  pub events : take (safe_in v) (journal_in v).events ≡ take (safe_in w) (journal_in w).events ++ more
