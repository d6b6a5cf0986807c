-- How a mount begins, what its steps make of it, and the rank that it ends in.
use Rattle.std.specs.Prelude.{◌≡◌, ◌⊎◌, ◌≢◌, ℕ, ◌+◌, true, false, List, [], ◌∷◌, ◌++◌, Option, Some, None, IsSome, Result, Ok, Err}
use Rattle.mj_base.specs.declared.damage.Damage.{Damage}
use Rattle.mj_cache.specs.Cached.{CacheValue}
use Rattle.mj_base.specs.declared.object.ObjectName.{ObjectName}
use Rattle.mj_store.specs.declared.act.ObjectAct.TheVariants.{Write}
use Rattle.mj_store.specs.declared.act.ObjectOp.{ObjectOp}
use Rattle.mj_store.specs.declared.answer.Ack.{Ack}
use Rattle.mj_store.specs.declared.answer.StoreFault.{StoreFault}
use Rattle.mj_store.specs.State.{StoreState}
use Rattle.mj_store.specs.Moves.{Stays, Submits, Reaps}
use Rattle.mj_layout.specs.declared.Header.{Header}
use Rattle.mj_layout.specs.declared.Phase.{Phase}
use Rattle.mj_layout.specs.declared.Phase.TheVariants.{Mounting, Serving}
use Rattle.mj_layout.specs.Header.{header_bytes}
use Rattle.mj_recovery.specs.Stream.{journal_object}
use Rattle.mj_recovery.specs.Recovered.{Recovery}
use Rattle.mj_rank.specs.declared.cutting.Cut.{Cut}
use Rattle.mj_rank.specs.declared.mounting.Mounting as mounting
use Rattle.mj_rank.specs.declared.mounting.Stage.{Stage}
use Rattle.mj_rank.specs.declared.mounting.Stage.TheVariants.{Announcing, Announced, Cutting, Opened, Ready}
use Rattle.mj_texts.specs.declared.steps.MountStep.{MountStep}
use Rattle.mj_texts.specs.declared.steps.MountStep.TheVariants as step
use Rattle.mj_rank.specs.declared.refusal.MountRefusal.{MountRefusal}
use Rattle.mj_rank.specs.Cutting.{near_from, near_end, Passes, Finds, sent_cuts, without_cut}
use Rattle.mj_rank.specs.Finding.{IsFound, IsRefused}
use Rattle.mj_journaler.specs.Journal.{Journal}
use Rattle.mj_rank.specs.Log.{log_value}
use Rattle.mj_rank.specs.Mount.{first_log, first_segment, next_header}
use Rattle.mj_rank.specs.Request.{RankValue}

-- What is kept of a mount beside its store: the header that it sends, what it has found, the log that its rank begins with, how
-- far it has come, the header that it sent last, the objects near the tail that it is still to look at, from the next up to the
-- end, the truncations that are on their way, and the fault for which it can't go on.
pub record MountValue : Type 0 where
  pub number : ℕ
  pub header : Header
  pub found : Header
  pub tail : ℕ
  pub cache : CacheValue
  pub log : Journal
  pub segment : Option ℕ
  pub stage : Stage
  pub sent : ℕ
  pub next : ℕ
  pub end : ℕ
  pub out : List Cut
  pub fault : Option StoreFault

abbrev pub mount_value : {S : Type 0} → mounting.Mounting S → MountValue
mount_value k = record {
  number = k.number;
  header = k.header;
  found = k.found.header;
  tail = k.found.tail;
  cache = k.found.cache;
  log = log_value k.log.journal;
  segment = k.log.segment;
  stage = k.stage;
  sent = k.sent;
  next = k.cuts.next;
  end = k.cuts.end;
  out = k.cuts.out.items;
  fault = k.fault;
}

-- Nothing is sent yet, and nothing looked at. The header to be sent is the next one, and the log begins at the tail.
pub record Begins {S : Type 0} (rank : ℕ) (m : mounting.Mounting S) : Type 0 where
  pub number : m.number ≡ rank
  pub header : m.header ≡ next_header m.found.header m.found.tail
  pub log : log_value m.log.journal ≡ first_log m.found.header rank m.found.tail
  pub segment : m.log.segment ≡ first_segment m.found.header rank m.found.tail
  pub cells : m.found.cache.rank ≡ rank
  pub safe : m.found.cache.groups ≡ []
  pub stage : m.stage ≡ Announcing
  pub next : m.cuts.next ≡ near_from m.found.header.layout m.found.tail
  pub end : m.cuts.end ≡ near_end m.found.header.layout m.found.tail
  pub out : m.cuts.out.items ≡ []
  pub fault : m.fault ≡ None

-- It has found the recovery, or is refused for the damage.
abbrev pub BeginsAs : {S : Type 0} → Result (mounting.Mounting S) (S × MountRefusal) → Result Recovery Damage → Type 0
BeginsAs (Ok m) r = IsFound m.found r
BeginsAs (Err e) r = IsRefused e.1 r

-- the rank has the mount's header, log and cells, and has answered nothing
abbrev pub first_value : {S : Type 0} → mounting.Mounting S → RankValue
first_value m = record { number = m.number; epoch = m.header.epoch; log = log_value m.log.journal; cache = m.found.cache; chronicle = []; segment = m.log.segment; fault = None }

-- What a mount has found stays, and the log that it begins with.
pub record KeepsFound {S : Type 0} (old new : mounting.Mounting S) : Type 0 where
  pub number : new.number ≡ old.number
  pub epoch : new.header.epoch ≡ old.header.epoch
  pub header : new.found.header ≡ old.found.header
  pub tail : new.found.tail ≡ old.found.tail
  pub cache : new.found.cache ≡ old.found.cache
  pub log : log_value new.log.journal ≡ log_value old.log.journal
  pub segment : new.log.segment ≡ old.log.segment

-- ---- what is sent and not acknowledged

-- numbers and objects, in the order in which they were sent
abbrev pub sent_at : Stage → ℕ → ℕ → List Cut → List (ℕ × ObjectName)
sent_at Announcing rank header out = []
sent_at Announced rank header out = (header, journal_object rank 0) ∷ []
sent_at Cutting rank header out = sent_cuts rank out
sent_at Opened rank header out = (header, journal_object rank 0) ∷ []
sent_at Ready rank header out = []

abbrev pub sent_of : MountValue → List (ℕ × ObjectName)
sent_of v = sent_at v.stage v.number v.sent v.out

abbrev pub first_of : {A : Type 0} → List A → Option A
first_of [] = None
first_of (x ∷ xs) = Some x

-- the operation with the least number, and its object
abbrev pub oldest_of : {S : Type 0} → mounting.Mounting S → Option (ℕ × ObjectName)
oldest_of m = first_of (sent_of (mount_value m))

-- something is sent and not acknowledged
abbrev pub AwaitsSent : {S : Type 0} → mounting.Mounting S → Type 0
AwaitsSent m = IsSome (oldest_of m)

-- ---- what a step does first

-- While it cuts, it looks at objects up to the next one.
abbrev pub LooksTo : Stage → {S : Type 0} → (S → Option StoreState) → mounting.Mounting S → ℕ → Option StoreState → Type 0
LooksTo Cutting state old next told = Passes old.number old.found.header.layout old.found.tail old.cuts.next next (state old.store) told
LooksTo _ state old next told = (next ≡ old.cuts.next) × (told ≡ state old.store)

-- all objects near the tail were looked at
abbrev pub HasLooked : Stage → MountValue → ℕ → Type 0
HasLooked Cutting v next = next ≡ v.end
HasLooked _ v next = Unit {0}

-- ---- a header is sent

-- the header is the whole content of the journal's first object
abbrev pub header_op : ℕ → Header → ObjectOp
header_op rank h = record { name = journal_object rank 0; act = Write 0 (header_bytes h) }

-- The phase that a mount announces, and then that it serves. It serves once every object near the tail was looked at, and every
-- truncation is acknowledged.
abbrev pub phase_at : Stage → Phase → Phase
phase_at Announcing phase = Mounting
phase_at Cutting phase = Serving
phase_at stage phase = phase

abbrev pub SendsAt : Stage → MountValue → Type 0
SendsAt Announcing v = Unit {0}
SendsAt Cutting v = v.out ≡ []
SendsAt _ v = ⊥

abbrev pub next_stage : Stage → Stage
next_stage Announcing = Announced
next_stage Announced = Cutting
next_stage Cutting = Opened
next_stage Opened = Ready
next_stage Ready = Ready

-- The next header was submitted to the journal's first object, with the phase of the stage.
pub record SendsHeader {S : Type 0} (state : S → Option StoreState) (told : Option StoreState) (name : ObjectName) (old new : mounting.Mounting S) : Type 0 where
  pub may : SendsAt old.stage (mount_value old)
  pub looked : HasLooked old.stage (mount_value old) new.cuts.next
  pub object : name ≡ journal_object old.number 0
  pub value : mount_value new ≡ record (mount_value old) { header = record old.header { phase = phase_at old.stage old.header.phase }; stage = next_stage old.stage; sent = new.sent; next = new.cuts.next }
  pub submits : Submits (header_op old.number new.header) new.sent told (state new.store)

-- ---- an object is cut

-- The first object that has a byte at or above the tail was found, and the truncation of it submitted.
pub record SendsCut {S : Type 0} (state : S → Option StoreState) (name : ObjectName) (old new : mounting.Mounting S) : Type 0 where
  pub cutting : old.stage ≡ Cutting
  pub index : ℕ
  pub op : ObjectOp
  pub told : Option StoreState
  pub finds : Finds old.number old.found.header.layout old.found.tail old.cuts.next old.cuts.end index op (state old.store) told
  pub object : name ≡ journal_object old.number index
  pub number : ℕ
  pub value : mount_value new ≡ record (mount_value old) { next = index + 1; out = old.cuts.out.items ++ record { op = number; index = index } ∷ [] }
  pub submits : Submits op number told (state new.store)

-- One truncation was submitted, and nothing else done.
pub record SendsTruncation {S : Type 0} (state : S → Option StoreState) (index : ℕ) (op : ObjectOp) (said : MountStep) (old new : mounting.Mounting S) : Type 0 where
  pub number : ℕ
  pub says : said ≡ step.Sent (journal_object old.number index)
  pub value : mount_value new ≡ record (mount_value old) { next = index + 1; out = old.cuts.out.items ++ record { op = number; index = index } ∷ [] }
  pub submits : Submits op number (state old.store) (state new.store)

-- nothing was submitted
pub record IsUnmoved {S : Type 0} (state : S → Option StoreState) (old new : mounting.Mounting S) : Type 0 where
  pub value : mount_value new ≡ mount_value old
  pub stays : Stays (state old.store) (state new.store)

abbrev pub SendsNext : {S : Type 0} → (S → Option StoreState) → ObjectName → mounting.Mounting S → mounting.Mounting S → Type 0
SendsNext state name old new = ((told : Option StoreState) × LooksTo old.stage state old new.cuts.next told × SendsHeader state told name old new) ⊎ SendsCut state name old new

-- ---- an acknowledgement is taken

-- what is awaited, once all objects were looked at
abbrev pub AwaitsAt : Stage → MountValue → Type 0
AwaitsAt Announced v = Unit {0}
AwaitsAt Cutting v = v.out ≢ []
AwaitsAt Opened v = Unit {0}
AwaitsAt _ v = ⊥

-- a header is acknowledged, or one of the truncations
abbrev pub acked_stage : Stage → Stage
acked_stage Cutting = Cutting
acked_stage stage = next_stage stage

abbrev pub acked_out : Stage → ℕ → List Cut → List Cut
acked_out Cutting op out = without_cut op out
acked_out _ op out = out

-- One operation was reported as done.
pub record TakesAck {S : Type 0} (state : S → Option StoreState) (op : ℕ) (old new : mounting.Mounting S) : Type 0 where
  pub told : Option StoreState
  pub looks : LooksTo old.stage state old new.cuts.next told
  pub looked : HasLooked old.stage (mount_value old) new.cuts.next
  pub awaited : AwaitsAt old.stage (mount_value old)
  pub value : mount_value new ≡ record (mount_value old) { stage = acked_stage old.stage; next = new.cuts.next; out = acked_out old.stage op old.cuts.out.items }
  pub reaps : Reaps (Some (record { op = op; done = true })) told (state new.store)

-- Nothing was reported.
pub record AwaitsMore {S : Type 0} (state : S → Option StoreState) (old new : mounting.Mounting S) : Type 0 where
  pub told : Option StoreState
  pub looks : LooksTo old.stage state old new.cuts.next told
  pub looked : HasLooked old.stage (mount_value old) new.cuts.next
  pub awaited : AwaitsAt old.stage (mount_value old)
  pub value : mount_value new ≡ record (mount_value old) { next = new.cuts.next }
  pub reaps : Reaps None told (state new.store)

-- ---- a step is refused

-- an operation was reported as not done, and the mount keeps the fault
pub record NotDone (told new : Option StoreState) (fault : Option StoreFault) : Type 0 where
  pub ack : Ack
  pub not : ack.done ≡ false
  pub reaps : Reaps (Some ack) told new
  pub kept : IsSome fault

-- Nothing was submitted. What is found stays, and how far the mount has come, but for objects that were looked at.
pub record IsHeldUp {S : Type 0} (state : S → Option StoreState) (old new : mounting.Mounting S) : Type 0 where
  pub told : Option StoreState
  pub looks : LooksTo old.stage state old new.cuts.next told
  pub value : mount_value new ≡ record (mount_value old) { header = record old.header { phase = new.header.phase }; next = new.cuts.next; fault = new.fault }
  pub rest : (Stays told (state new.store) × (new.fault ≡ old.fault)) ⊎ NotDone told (state new.store) new.fault

-- ---- what a step makes of a mount

-- A step that was answered so led from the one mount to the other.
abbrev pub MountSteps : {S : Type 0} → (S → Option StoreState) → Result MountStep MountRefusal → mounting.Mounting S → mounting.Mounting S → Type 0
MountSteps state (Ok (step.Sent name)) old new = SendsNext state name old new
MountSteps state (Ok (step.Reaped op)) old new = TakesAck state op old new
MountSteps state (Ok step.Waiting) old new = AwaitsMore state old new
MountSteps state (Ok step.Ready) old new = (old.stage ≡ Ready) × (new ≡ old)
MountSteps state (Err e) old new = IsHeldUp state old new
