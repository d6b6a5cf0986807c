-- What the store of a world is asked to do: to try an operation, and to be stopped and started again.
use Rattle.std.specs.Prelude.{◌≡◌, Option, None, Result, Ok, Err}
use Rattle.mj_base.specs.declared.object.ObjectName.{ObjectName}
use Rattle.mj_store.specs.State.{StoreState}
use Rattle.mj_store.specs.Moves.{Stays, Steps, Restarts}
use Rattle.mj_rank.specs.declared.mounting.Mounting.{Mounting}
use Rattle.mj_rank.specs.declared.rank.Rank.{Rank}
use Rattle.mj_rank.specs.Refusals.{IsDownFor}
use Rattle.mj_rank.specs.Request.{value_of}
use Rattle.mj_texts.specs.declared.steps.Said.{Said}
use Rattle.mj_texts.specs.declared.steps.Said.TheVariants.{Applied, Restarted}
use Rattle.mj_world.specs.declared.refusal.WorldRefusal.{WorldRefusal}
use Rattle.mj_world.specs.declared.refusal.WorldRefusal.TheVariants as refusal
use Rattle.mj_world.specs.declared.world.Phase.{Phase}
use Rattle.mj_world.specs.declared.world.Phase.TheVariants as phase
use Rattle.mj_world.specs.Sent.{Stands}

-- ---- an operation is tried

-- by a stopped store
abbrev pub TriesStopped : {S : Type 0} → (S → Option StoreState) → ObjectName → S → Result Said WorldRefusal → S → Type 0
TriesStopped state name old (Ok (Applied op)) new = Steps name op (state old) (state new)
TriesStopped state name old (Err (refusal.Store fault)) new = Stays (state old) (state new)
TriesStopped state name old result new = ⊥

-- by that of a mount, which is else as it was
abbrev pub TriesMounting : {S : Type 0} → (S → Option StoreState) → ObjectName → Mounting S → Result Said WorldRefusal → Mounting S → Type 0
TriesMounting state name old (Ok (Applied op)) new = Steps name op (state old.store) (state new.store) × (new ≡ record old { store = new.store })
TriesMounting state name old (Err (refusal.Store fault)) new = Stays (state old.store) (state new.store) × (new ≡ record old { store = new.store })
TriesMounting state name old result new = ⊥

-- by that of a rank, which is else as it was
abbrev pub TriesServing : {S : Type 0} → (S → Option StoreState) → ObjectName → Rank S → Result Said WorldRefusal → Rank S → Type 0
TriesServing state name old (Ok (Applied op)) new = (new.fault ≡ None) × Steps name op (state old.store) (state new.store) × Stands old new
TriesServing state name old (Err (refusal.Rank e)) new = IsDownFor new.fault e × Stands old new
TriesServing state name old result new = ⊥

abbrev pub IsTried : {S : Type 0} → (S → Option StoreState) → ObjectName → Phase S → Result Said WorldRefusal → Phase S → Type 0
IsTried state name (phase.Stopped old) result (phase.Stopped new) = TriesStopped state name old result new
IsTried state name (phase.Mounting old) result (phase.Mounting new) = TriesMounting state name old result new
IsTried state name (phase.Serving old) result (phase.Serving new) = TriesServing state name old result new
IsTried state name phase.Gone result new = new ≡ phase.Gone
IsTried state name old result new = ⊥

-- ---- the store is stopped and started again

abbrev pub RestartsStopped : {S : Type 0} → (S → Option StoreState) → S → Result Said WorldRefusal → Phase S → Type 0
RestartsStopped state old (Ok Restarted) (phase.Stopped new) = Restarts (state old) (state new)
RestartsStopped state old (Err (refusal.Store fault)) (phase.Stopped new) = Stays (state old) (state new)
RestartsStopped state old result new = ⊥

-- a mount or a rank is given up for it, or is handed back as it was
abbrev pub RestartsMounting : {S : Type 0} → (S → Option StoreState) → Mounting S → Result Said WorldRefusal → Phase S → Type 0
RestartsMounting state old (Ok Restarted) (phase.Stopped new) = Restarts (state old.store) (state new)
RestartsMounting state old (Err (refusal.Store fault)) (phase.Mounting new) = Stays (state old.store) (state new.store) × (new ≡ record old { store = new.store })
RestartsMounting state old result new = ⊥

abbrev pub RestartsServing : {S : Type 0} → (S → Option StoreState) → Rank S → Result Said WorldRefusal → Phase S → Type 0
RestartsServing state old (Ok Restarted) (phase.Stopped new) = Restarts (state old.store) (state new)
RestartsServing state old (Err (refusal.Store fault)) (phase.Serving new) = Stays (state old.store) (state new.store) × (value_of new ≡ value_of old)
RestartsServing state old result new = ⊥

abbrev pub IsRestarted : {S : Type 0} → (S → Option StoreState) → Phase S → Result Said WorldRefusal → Phase S → Type 0
IsRestarted state (phase.Stopped old) result new = RestartsStopped state old result new
IsRestarted state (phase.Mounting old) result new = RestartsMounting state old result new
IsRestarted state (phase.Serving old) result new = RestartsServing state old result new
IsRestarted state phase.Gone result new = new ≡ phase.Gone
