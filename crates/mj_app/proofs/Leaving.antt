-- Whatever a stop may leave of a world that lives recovers to a front and is at rest, and so it is before the first line.
use Rattle.std.proofs.Common.{◌≡◌, ℕ, [], Option, sym, subst}
use Rattle.mj_tree.specs.State.{PlainState}
use Rattle.mj_store.specs.Events.{Goes, Tells}
use Rattle.mj_store.specs.Moves.{Anything, Stays, Restarts}
use Rattle.mj_store.specs.State.{StoreState}
use Rattle.mj_store.proofs.Paths.{stays_keeps, restarts_keeps, goes_stays, goes_restarts, goes_itself, within_goes}
use Rattle.mj_machine.specs.CrashSafe.{IsFrontState}
use Rattle.mj_machine.specs.Machine.{LogMachine}
use Rattle.mj_rank.specs.Live.{LeavesFronts, Rested, Recovers, StopLives, StopsSafely}
use Rattle.mj_rank.specs.Log.{log_value}
use Rattle.mj_rank.specs.Mounts.{mount_value}
use Rattle.mj_rank.proofs.Crashes.{lives_leave}
use Rattle.mj_rank.proofs.MountLives.{mounted_leaves, mounted_stopped}
use Rattle.mj_rank.proofs.Stopping.{lives_stopped, rested_leaves, rested_tried, rested_stopped}
use Rattle.mj_world.specs.Live.{PhaseLives, WorldLives, told, told_in}
use Rattle.mj_world.specs.World.{StoreHas}
use Rattle.mj_world.specs.declared.world.Phase.{Phase}
use Rattle.mj_world.specs.declared.world.Phase.TheVariants as phase
use Rattle.mj_world.specs.declared.world.World.{World}
use Rattle.mj_app.specs.Headline.{RestsAgain}
use Rattle.mj_app.specs.Worlds.{Opens, HoldsStore}

module _ {S : Type 0} (state : S → Option StoreState) where
  leaves_in : (number : ℕ) (m : LogMachine) (p : Phase S) → PhaseLives state number m p → Tells (told_in state p) (LeavesFronts number m)
  leaves_in number m (phase.Stopped store) t = record { now = t.now; is = t.is; holds = rested_leaves number m t.now t.holds }
  leaves_in number m (phase.Mounting k) h =
      let t = h.1 in
      record { now = t.now; is = t.is; holds = subst (λ n. LeavesFronts n m t.now) h.0 (mounted_leaves (mount_value k) m t.now t.holds.mounted) }
  leaves_in number m (phase.Serving k) h =
      let t = h.1 in
      record { now = t.now; is = t.is; holds = subst (λ n. LeavesFronts n m t.now) h.0 (lives_leave k.number (log_value k.log) _ m t.now t.holds) }
  leaves_in number m phase.Gone h = absurd h

  held_tells : (store : S) (p : Phase S) → StoreHas (λ held. held ≡ store) p → told_in state p ≡ state store
  held_tells store (phase.Stopped held) is = λ i. state (is i)
  held_tells store (phase.Mounting k) is = λ i. state (is i)
  held_tells store (phase.Serving k) is = λ i. state (is i)
  held_tells store phase.Gone is = absurd is

  rests_in : (number : ℕ) (m : LogMachine) (p : Phase S) → PhaseLives state number m p → Tells (told_in state p) (RestsAgain number m)
  rests_in number m (phase.Stopped store) t = record { now = t.now; is = t.is; holds = λ image may. rested_stopped number m t.now t.holds image may }
  rests_in number m (phase.Mounting k) h =
      let t = h.1 in
      record { now = t.now; is = t.is; holds = subst (λ n. RestsAgain n m t.now) h.0 (λ image may. mounted_stopped (mount_value k) m t.now t.holds.mounted image may) }
  rests_in number m (phase.Serving k) h =
      let t = h.1 in
      record { now = t.now; is = t.is; holds = subst (λ n. RestsAgain n m t.now) h.0 (λ image may. lives_stopped k.number (log_value k.log) _ m t.now image may t.holds) }
  rests_in number m phase.Gone h = absurd h

  -- the store that is handed back
  module _ (rank : ℕ) (world : World S) (store : S) (m : LogMachine) (number : world.number ≡ rank) (holds : HoldsStore world store) (lives : WorldLives state world m) where
    pub world_leaves : Tells (state store) (LeavesFronts rank m)
    world_leaves = subst (λ o. Tells o (LeavesFronts rank m)) (held_tells store world.phase holds) (subst (λ n. Tells (told state world) (LeavesFronts n m)) number (leaves_in world.number m world.phase lives))

    pub world_rests : Tells (state store) (RestsAgain rank m)
    world_rests = subst (λ o. Tells o (RestsAgain rank m)) (held_tells store world.phase holds) (subst (λ n. Tells (told state world) (RestsAgain n m)) number (rests_in world.number m world.phase lives))

  -- the first world
  pub opens_lives : (rank : ℕ) (store : S) (world : World S) (m : LogMachine) → Opens rank store world → StopLives state store rank m → WorldLives state world m
  opens_lives rank store world m o lives = subst (PhaseLives state world.number m) (sym o.phase) (subst (λ n. StopLives state store n m) (sym o.number) lives)

-- ---- a stopped store

module _ (rank : ℕ) (m : LogMachine) {old : Option StoreState} (t : Tells old (Rested rank m)) where
  pub rested_tells : Tells old (LeavesFronts rank m)
  rested_tells = record { now = t.now; is = t.is; holds = rested_leaves rank m t.now t.holds }

  pub rested_again : Tells old (RestsAgain rank m)
  rested_again = record { now = t.now; is = t.is; holds = λ image may. rested_stopped rank m t.now t.holds image may }

  pub rested_restarts : {new : Option StoreState} → Restarts old new → Tells new (Rested rank m)
  rested_restarts restarts = restarts_keeps (Rested rank m) (Rested rank m) (λ name s h. rested_tried rank m s h name) (λ image s im h. rested_stopped rank m s h image im) restarts t

  pub rested_stays : {new : Option StoreState} → Stays old new → Tells new (Rested rank m)
  rested_stays stays = stays_keeps (Rested rank m) Anything (λ name s h. rested_tried rank m s h name) stays t

  stops_by : {new : Option StoreState} → Goes old [] new → StopsSafely rank m old new
  stops_by goes = within_goes (λ image. (s : PlainState) × Recovers rank image s × IsFrontState m s) t.now t.is goes (λ image may. rested_leaves rank m t.now t.holds image may)

  pub restart_stops : {new : Option StoreState} → Restarts old new → StopsSafely rank m old new
  restart_stops restarts = stops_by (goes_restarts restarts)

  pub stay_stops : {new : Option StoreState} → Stays old new → StopsSafely rank m old new
  stay_stops stays = stops_by (goes_stays stays)

pub still_stops : (rank : ℕ) (m : LogMachine) (told : Option StoreState) → Tells told (Rested rank m) → StopsSafely rank m told told
still_stops rank m told t = within_goes (λ image. (s : PlainState) × Recovers rank image s × IsFrontState m s) t.now t.is (goes_itself told) (λ image may. rested_leaves rank m t.now t.holds image may)
