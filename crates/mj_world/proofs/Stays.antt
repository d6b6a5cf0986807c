-- What a world keeps against a machine where nothing is done, and what a stopped store keeps through its calls.
use Rattle.std.proofs.Common.{◌≡◌, ℕ, [], Option, subst, sym}
use Rattle.mj_base.specs.declared.object.ObjectName.{ObjectName}
use Rattle.mj_tree.specs.State.{PlainState}
use Rattle.mj_store.specs.State.{StoreState}
use Rattle.mj_store.specs.Events.{Goes}
use Rattle.mj_store.specs.Moves.{Stays, Steps, Restarts}
use Rattle.mj_store.proofs.Paths.{stays_keeps, steps_keeps, restarts_keeps, goes_itself, within_goes}
use Rattle.mj_machine.specs.Machine.{LogMachine}
use Rattle.mj_machine.specs.CrashSafe.{IsFrontState}
use Rattle.mj_rank.specs.declared.mounting.Mounting.{Mounting}
use Rattle.mj_rank.specs.declared.rank.Rank.{Rank}
use Rattle.mj_rank.specs.Live.{Recovers, Rested, StopLives, MountLives, RankLives, StopsSafely}
use Rattle.mj_rank.proofs.Living.{stops_by}
use Rattle.mj_rank.proofs.MountLives.{mount_stops_by}
use Rattle.mj_rank.proofs.Stopping.{rested_leaves, rested_tried, rested_failed, rested_stopped}
use Rattle.mj_world.specs.declared.world.Phase.{Phase}
use Rattle.mj_world.specs.declared.world.Phase.TheVariants as phase
use Rattle.mj_world.specs.Live.{PhaseLives, told_in}

module _ {S : Type 0} (state : S → Option StoreState) (number : ℕ) (m : LogMachine) where
  -- ---- a stopped store

  module _ (old new : S) where
    pub stopped_stays : Stays (state old) (state new) → StopLives state old number m → StopLives state new number m
    stopped_stays stays t = stays_keeps (Rested number m) _ (λ name s h. rested_tried number m s h name) stays t

    pub stopped_tries : (name : ObjectName) (op : Option ℕ) → Steps name op (state old) (state new) → StopLives state old number m → StopLives state new number m
    stopped_tries name op steps t = steps_keeps (Rested number m) name op (λ n s h. rested_tried number m s h n) (λ n s h. rested_failed number m s h n) steps t

    pub stopped_restarts : Restarts (state old) (state new) → StopLives state old number m → StopLives state new number m
    stopped_restarts restarts t = restarts_keeps (Rested number m) (Rested number m) (λ name s h. rested_tried number m s h name) (λ image s im h. rested_stopped number m s h image im) restarts t

    pub stopped_stops : Goes (state old) [] (state new) → StopLives state old number m → StopsSafely number m (state old) (state new)
    stopped_stops goes t = within_goes (λ image. (s : PlainState) × Recovers number image s × IsFrontState m s) t.now t.is goes (λ image may. rested_leaves number m t.now t.holds image may)

  -- ---- a phase

  pub mount_goes : (old : Mounting S) {told : Option StoreState} → (MountLives state old m → StopsSafely old.number m (state old.store) told) → PhaseLives state number m (phase.Mounting old) → StopsSafely number m (state old.store) told
  mount_goes old {told} stops h = subst (λ (x : ℕ). StopsSafely x m (state old.store) told) h.0 (stops h.1)

  pub rank_goes : (old : Rank S) {told : Option StoreState} → (RankLives state old m → StopsSafely old.number m (state old.store) told) → PhaseLives state number m (phase.Serving old) → StopsSafely number m (state old.store) told
  rank_goes old {told} stops h = subst (λ (x : ℕ). StopsSafely x m (state old.store) told) h.0 (stops h.1)

  -- nothing is done
  pub stays_safe : (p : Phase S) → PhaseLives state number m p → StopsSafely number m (told_in state p) (told_in state p)
  stays_safe (phase.Stopped store) h = stopped_stops store store (goes_itself (state store)) h
  stays_safe (phase.Mounting k) h = mount_goes k (mount_stops_by state k m (goes_itself (state k.store))) h
  stays_safe (phase.Serving k) h = rank_goes k (stops_by state k m (goes_itself (state k.store))) h
  stays_safe phase.Gone h = absurd h

  -- the rank's store is not called
  pub rank_stands : (old new : Rank S) → new.store ≡ old.store → PhaseLives state number m (phase.Serving old) → StopsSafely number m (state old.store) (state new.store)
  rank_stands old new same h = subst (λ (x : S). StopsSafely number m (state old.store) (state x)) (sym same) (stays_safe (phase.Serving old) h)
