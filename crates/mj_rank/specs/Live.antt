-- What holds of a rank, of a mount and of a stopped store against a machine, so that every stop leaves what the machine says.
--     Lives, Rested, Mounted   the same over a state of the store
--     RankLives      a rank serves
--     MountLives     a mount is on its way
--     StopLives      nothing runs, and nothing is pending
--     Recovers       an image recovers to a tree
use Rattle.std.specs.Prelude.{◌≡◌, ℕ, ◌^◌, ◌<◌, ◌≤◌, List, [], ◌++◌, map, length, drop, Option, Some, None, unwrap_or}
use Rattle.mj_base.specs.declared.object.ObjectName.{ObjectName}
use Rattle.mj_tree.specs.State.{PlainState}
use Rattle.mj_tree.specs.declared.request.ClientRequest.{ClientRequest}
use Rattle.mj_store.specs.Object.{Contents, Pairs}
use Rattle.mj_store.specs.State.{StoreState, IsImage, Quiet, contents}
use Rattle.mj_store.specs.Causes.{In}
use Rattle.mj_store.specs.Events.{Tells, Within}
use Rattle.mj_layout.specs.declared.Header.{Header}
use Rattle.mj_cells.specs.Table.{Table, overlay}
use Rattle.mj_cache.specs.Cached.{early_table}
use Rattle.mj_recovery.specs.Stream.{journal_object}
use Rattle.mj_recovery.specs.Objects.{Objects, Holds}
use Rattle.mj_recovery.specs.Recovered.{Recovery, RecoversTo, stored_table, bad_table, bad_key_of}
use Rattle.mj_machine.specs.Machine.{LogMachine, accepted, made_safe}
use Rattle.mj_machine.specs.CrashSafe.{IsFrontState, IsCrashSafe}
use Rattle.mj_delta.specs.Histories.{Turn, all_writes}
use Rattle.mj_delta.specs.Fresh.{fresh_table}
use Rattle.mj_facts.specs.Journalled.{Journalled, IsJournalled, end_of}
use Rattle.mj_facts.specs.Rests.{Rests}
use Rattle.mj_facts.specs.Headers.{may_stand, IsBounded}
use Rattle.mj_facts.specs.Ranks as facts
use Rattle.mj_facts.specs.Ranks.{Sent, safe_of, tail_of}
use Rattle.mj_facts.specs.Mounts.{Mounts}
use Rattle.mj_facts.specs.Calls.{IsBuffer, IsNear, entry_ends}
use Rattle.mj_facts.specs.Serves.{Serves}
use Rattle.mj_facts.specs.Few.{HoldsOnly}
use Rattle.mj_facts.specs.Elsewhere.{NothingCommitted, keys_of}
use Rattle.mj_texts.specs.declared.steps.Early.{Early}
use Rattle.mj_texts.specs.declared.steps.Reaped.{Reaped}
use Rattle.mj_texts.specs.declared.steps.Reaped.TheVariants.{One, Nothing}
use Rattle.mj_rank.specs.declared.mounting.Mounting as mounting
use Rattle.mj_rank.specs.declared.mounting.Stage.{Stage}
use Rattle.mj_rank.specs.declared.mounting.Stage.TheVariants.{Announcing, Announced, Cutting, Opened, Ready}
use Rattle.mj_rank.specs.declared.rank.Rank.{Rank}
use Rattle.mj_journaler.specs.Journal.{Journal, layout_of, IsNew}
use Rattle.mj_journaler.specs.declared.sent.Sent as journaler
use Rattle.mj_rank.specs.Log.{log_value}
use Rattle.mj_rank.specs.Cutting.{near_end, cuttings}
use Rattle.mj_rank.specs.Mount.{first_log}
use Rattle.mj_rank.specs.Mounts.{MountValue, mount_value}
use Rattle.mj_rank.specs.Flight.{GoesOn}
use Rattle.mj_rank.specs.History.{IsHistory}

-- ---- what an image comes to

-- An image recovers to a tree, with nothing in it damaged.
pub record Recovers (rank : ℕ) (image : Contents) (s : PlainState) : Type 0 where
  pub recovery : Recovery
  pub recovers : RecoversTo rank image recovery
  pub tree : recovery.tree ≡ s

-- Every image that a store may hold in this state recovers to the machine's state after a front of its requests that has all safe ones.
abbrev pub LeavesFronts : ℕ → LogMachine → StoreState → Type 0
LeavesFronts rank m s = IsCrashSafe (IsImage s) (Recovers rank) m

-- ---- the objects that are none of the journal

-- They store a new rank's table, and nothing in them is outside the format.
pub record StoresNew (rank : ℕ) (base : Contents) : Type 0 where
  pub objects : Objects
  pub holds : Holds base objects
  pub stored : stored_table rank objects ≡ fresh_table rank
  pub tables : bad_table base rank ≡ None
  pub dirfrags : (d : ℕ) → bad_key_of base d ≡ None
  pub keys : Option (List ℕ) × Pairs
  pub header : keys_of (base (journal_object rank 0)) ≡ Some keys

-- A new rank's table is stored, and nothing was committed since; and only a few objects are there.
pub record IsNewStore (rank : ℕ) (s : StoreState) : Type 0 where
  pub base : Contents
  pub new : StoresNew rank base
  pub uncommitted : NothingCommitted rank base s
  pub names : List ObjectName
  pub few : HoldsOnly names s

-- ---- a rank that serves

-- the journaler's writes that are out, as those of the facts
abbrev pub as_write : journaler.Sent → Sent
as_write w = record { op = w.op; from = w.from; to = w.to }

abbrev pub writes_of : List journaler.Sent → List Sent
writes_of ws = map as_write ws

-- the program's log is that of the facts
pub record IsLogOf (rank : ℕ) (l : Journal) (r : facts.Rank) : Type 0 where
  pub number : l.rank ≡ rank
  pub layout : layout_of l ≡ r.journal.layout
  pub safe : l.safe ≡ safe_of r
  pub flushed : l.flushed ≡ r.flushed
  pub buffer : IsBuffer r.journal r.flushed l.buffer
  pub ends : l.ends ≡ entry_ends (safe_of r) (drop r.count r.journal.events)
  pub writes : r.sent ≡ writes_of l.sent

-- A rank with this log and these cells, and the machine, over a store in this state.
pub record Lives (rank : ℕ) (l : Journal) (cells : Table) (m : LogMachine) (s : StoreState) : Type 0 where
  pub facts : facts.Rank
  pub serves : Serves facts s
  pub log : IsLogOf rank l facts
  -- the store's next numbers are above all that are out
  pub newest : IsNew s.next l
  pub older : List Turn
  pub newer : List Turn
  pub history : IsHistory rank facts.journal older newer m
  pub count : facts.count ≡ length older
  -- the cells are a new rank's with all that was journalled
  pub table_is : cells ≡ overlay (fresh_table rank) (all_writes (older ++ newer))
  -- nothing is expired, and an entry was journalled
  pub whole : (h : Header) → In h (may_stand facts.stood facts.heads) → h.expire ≡ facts.journal.start
  pub begun : facts.journal.start < end_of facts.journal
  pub new : IsNewStore rank s

abbrev pub RankLives : {S : Type 0} → (S → Option StoreState) → Rank S → LogMachine → Type 0
RankLives state k m = Tells (state k.store) (Lives k.number (log_value k.log) (early_table k.cache) m)

-- the machine after a rank's reap
abbrev pub after_reap : LogMachine → Reaped → LogMachine
after_reap m (One op from to) = made_safe m to
after_reap m Nothing = m

-- and after a request that was answered
abbrev pub after_early : LogMachine → ClientRequest → Early → LogMachine
after_early m r early = accepted m r (unwrap_or early.ends_at 0)

-- Whatever a stop before or within a call may leave recovers to such a front.
abbrev pub StopsSafely : ℕ → LogMachine → Option StoreState → Option StoreState → Type 0
StopsSafely rank m old new = Within old new (λ image. (s : PlainState) × Recovers rank image s × IsFrontState m s)

-- ---- a stopped store

-- Nothing is pending, and what the store holds rests with a front of the events that has all that are safe.
pub record Rested (rank : ℕ) (m : LogMachine) (s : StoreState) : Type 0 where
  pub journal : Journalled
  pub journalled : IsJournalled journal
  pub older : List Turn
  pub newer : List Turn
  pub history : IsHistory rank journal older newer m
  pub count : ℕ
  pub enough : length older ≤ count
  pub rests : Rests journal count (contents s)
  pub whole : rests.header.expire ≡ journal.start
  pub quiet : Quiet s
  pub new : IsNewStore rank s

abbrev pub StopLives : {S : Type 0} → (S → Option StoreState) → S → ℕ → LogMachine → Type 0
StopLives state store rank m = Tells (state store) (Rested rank m)

-- ---- a mount

-- Truncations are out only while it cuts. Once it has sent the header by which it serves, it has looked at all objects near the tail.
abbrev pub HasCut : Stage → MountValue → Type 0
HasCut Announcing v = v.out ≡ []
HasCut Announced v = v.out ≡ []
HasCut Cutting v = Unit {0}
HasCut Opened v = (v.out ≡ []) × (v.next ≡ v.end)
HasCut Ready v = (v.out ≡ []) × (v.next ≡ v.end)

-- A mount with this value. Each object near the tail below the next one was seen to, the truncations that are out are its own, and
-- the header that it sends next is one by which the whole journal is read, in whatever phase.
pub record Mounted (v : MountValue) (m : LogMachine) (s : StoreState) : Type 0 where
  pub facts : facts.Mount
  pub mounts : Mounts facts s
  pub first : 1 ≤ v.next
  pub end_is : v.end ≡ near_end v.found.layout v.tail
  pub seen : (index : ℕ) → IsNear facts index → index < v.next → In index facts.cut
  pub out_is : facts.out ≡ cuttings v.out
  pub cut : HasCut v.stage v
  pub turns : List Turn
  pub history : IsHistory v.number facts.journal turns [] m
  pub layout_is : v.found.layout ≡ facts.journal.layout
  pub tail_is : v.tail ≡ tail_of facts
  -- the journal does not begin where positions end
  pub early : facts.journal.start < 2 ^ 61
  pub table_is : early_table v.cache ≡ overlay (fresh_table v.number) (all_writes turns)
  pub log_is : v.log ≡ first_log v.found v.number v.tail
  pub bounded : IsBounded facts.journal (length facts.journal.events) v.header
  pub from_start : v.header.expire ≡ facts.journal.start
  pub whole : (h : Header) → In h (may_stand facts.stood facts.heads) → h.expire ≡ facts.journal.start
  pub new : IsNewStore v.number s

-- So it is, and what it has sent is on its way.
pub record OnItsWay (v : MountValue) (m : LogMachine) (s : StoreState) : Type 0 where
  pub mounted : Mounted v m s
  pub sent : GoesOn v s

abbrev pub MountLives : {S : Type 0} → (S → Option StoreState) → mounting.Mounting S → LogMachine → Type 0
MountLives state k m = Tells (state k.store) (OnItsWay (mount_value k) m)
