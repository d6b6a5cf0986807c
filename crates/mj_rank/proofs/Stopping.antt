-- A stop at any moment leaves a store at rest, and so does the next one.
use mathlib.Core.Path.{fun_ext}
use Rattle.std.proofs.Common.{◌≡◌, inl, inr, ℕ, Option, List, [], ◌∷◌, length, take, refl, sym, ap, subst, ◌∙◌, arith}
use Rattle.std.proofs.Math.Seq.{take-nil}
use Rattle.mj_base.specs.ObjectName.{journal_ino}
use Rattle.mj_base.specs.declared.object.ObjectName.{ObjectName}
use Rattle.mj_store.specs.Object.{Contents}
use Rattle.mj_store.specs.State.{StoreState, IsImage, Quiet, contents, applied_all, at_rest, Pending, tried, failed, front_failed}
use Rattle.mj_store.specs.Causes.{In}
use Rattle.mj_store.specs.Events.{Tells}
use Rattle.mj_store.specs.Moves.{Restarts}
use Rattle.mj_store.proofs.Always.{always_image}
use Rattle.mj_store.proofs.Rest.{quiet_still}
use Rattle.std.specs.Prelude.{if◌then◌else◌}
use Rattle.mj_facts.specs.Journalled.{Journalled}
use Rattle.mj_store.proofs.Paths.{restarts_keeps, goes_restarts}
use Rattle.mj_layout.specs.declared.Header.{Header}
use Rattle.mj_cells.specs.Table.{Table}
use Rattle.mj_cache.specs.Cached.{early_table}
use Rattle.mj_machine.specs.Machine.{LogMachine}
use Rattle.mj_facts.specs.Few.{IsAbsentBut}
use Rattle.mj_facts.specs.Rests.{Rests, RestsWith, IsFront}
use Rattle.mj_facts.proofs.Few.{few_rest}
use Rattle.mj_facts.proofs.Recovers.{rests_front}
use Rattle.mj_facts.proofs.Uncommitted.{uncommitted_begins, uncommitted_elsewhere, uncommitted_keys}
use Rattle.mj_facts.proofs.WhileServing.{serves_rests}
use Rattle.mj_rank.specs.declared.rank.Rank.{Rank}
use Rattle.mj_journaler.specs.Journal.{Journal}
use Rattle.mj_rank.specs.Log.{log_value}
use Rattle.mj_rank.specs.Live.{LeavesFronts, IsNewStore, Lives, RankLives, Rested, StopLives, StopsSafely}
use Rattle.mj_rank.proofs.Crashes.{front_recovers}
use Rattle.mj_rank.proofs.Serving.{lives_tried}
use Rattle.mj_rank.proofs.Living.{stops_by}

-- contents that rest, read from this place on
record RestsBy (j : Journalled) (count start : ℕ) (image : Contents) : Type 0 where
  rests : Rests j count image
  whole : rests.header.expire ≡ start

-- where nothing is pending, an image is what is there
quiet_image : (s : StoreState) (image : Contents) → Quiet s → IsImage s image → image ≡ contents s
quiet_image s image q im = fun_ext (λ name.
    (im name).1 ∙ ap (λ (ps : List Pending). applied_all ps (s.objects name).held) (ap (take (im name).0) (q.pending name) ∙ take-nil (im name).0))

only_standing : (rank : ℕ) (m : LogMachine) (s : StoreState) (k : Rested rank m s) (h : Header) → In h (k.rests.header ∷ []) → h.expire ≡ k.journal.start
only_standing rank m s k h (inl e) = ap (λ (x : Header). x.expire) (sym e) ∙ k.whole
only_standing rank m s k h (inr i) = absurd i

pub rested_leaves : (rank : ℕ) (m : LogMachine) (s : StoreState) → Rested rank m s → LeavesFronts rank m s
rested_leaves rank m s k image im =
    let same = quiet_image s image k.quiet im in
    let rests : RestsWith k.journal (length k.older) (k.rests.header ∷ []) (contents s) = record { count = k.count; enough = k.enough; rests = k.rests; standing = inl refl } in
    front_recovers rank k.journal k.older k.newer m (length k.older) (k.rests.header ∷ []) image s k.history (omega arith) (only_standing rank m s k) k.new im
    (subst (IsFront k.journal (length k.older) (k.rests.header ∷ [])) (sym same) (rests_front k.journal (length k.older) (k.rests.header ∷ []) (contents s) k.journalled rests))

-- ---- a rank stops

pub new_rests : (rank : ℕ) (s : StoreState) (image : Contents) → IsNewStore rank s → IsImage s image → IsNewStore rank (at_rest image s)
new_rests rank s image n im = record {
  base = n.base;
  new = n.new;
  uncommitted = uncommitted_begins rank n.base image s (uncommitted_elsewhere rank n.base s image n.uncommitted im) (uncommitted_keys rank n.base s image n.uncommitted im (journal_ino rank));
  names = n.names;
  few = few_rest n.names image s (λ name none. (always_image (IsAbsentBut n.names) s image n.few im name).1.absent none);
}

pub lives_stopped : (rank : ℕ) (l : Journal) (cells : Table) (m : LogMachine) (s : StoreState) (image : Contents) → IsImage s image → Lives rank l cells m s → Rested rank m (at_rest image s)
lives_stopped rank l cells m s image im k =
    let r = serves_rests k.facts s image k.serves im in
    record {
      journal = k.facts.journal;
      journalled = k.serves.journalled;
      older = k.older;
      newer = k.newer;
      history = k.history;
      count = r.count;
      enough = omega (arith, k.count, r.enough);
      rests = r.rests;
      whole = k.whole r.rests.header r.standing;
      quiet = record { pending = λ name. refl; free = λ name. refl; completed = refl };
      new = new_rests rank s image k.new im;
    }

pub rank_stopped : {S : Type 0} (state : S → Option StoreState) (k : Rank S) (m : LogMachine) {told : Option StoreState} → Restarts (state k.store) told → RankLives state k m → Tells told (Rested k.number m)
rank_stopped state k m restarts t =
    restarts_keeps (Lives k.number (log_value k.log) (early_table k.cache) m) (Rested k.number m)
    (λ name s h. lives_tried k.number (log_value k.log) (early_table k.cache) m s h name)
    (λ image s im h. lives_stopped k.number (log_value k.log) (early_table k.cache) m s image im h) restarts t

-- in the store that is handed back
module _ {S : Type 0} (state : S → Option StoreState) (k : Rank S) (store : S) {mid : S} (same : store ≡ mid) where
  pub store_stopped : Restarts (state k.store) (state mid) → (m : LogMachine) → RankLives state k m → StopLives state store k.number m
  store_stopped restarts m t = subst (λ (x : S). StopLives state x k.number m) (sym same) (rank_stopped state k m restarts t)

  pub store_stops : Restarts (state k.store) (state mid) → (m : LogMachine) → RankLives state k m → StopsSafely k.number m (state k.store) (state store)
  store_stops restarts m t = subst (λ (x : S). StopsSafely k.number m (state k.store) (state x)) (sym same) (stops_by state k m (goes_restarts restarts) t)

-- ---- a stopped store stays at rest

module _ (rank : ℕ) (m : LogMachine) (s : StoreState) (k : Rested rank m s) where
  pub rested_tried : (name : ObjectName) → Rested rank m (tried name s)
  rested_tried name = subst (Rested rank m) (sym (quiet_still s k.quiet name)) k

  pub rested_failed : (name : ObjectName) → Rested rank m (failed name s)
  rested_failed name =
      let same : failed name s ≡ s = (λ z. if k.quiet.free name z then s else front_failed name s (s.objects name) (k.quiet.pending name z)) in
      subst (Rested rank m) (sym same) k

  pub rested_stopped : (image : Contents) → IsImage s image → Rested rank m (at_rest image s)
  rested_stopped image im =
      let same : contents s ≡ image = sym (quiet_image s image k.quiet im) in
      let again : RestsBy k.journal k.count k.journal.start image = subst (RestsBy k.journal k.count k.journal.start) same (record { rests = k.rests; whole = k.whole }) in
      record {
        journal = k.journal;
        journalled = k.journalled;
        older = k.older;
        newer = k.newer;
        history = k.history;
        count = k.count;
        enough = k.enough;
        rests = again.rests;
        whole = again.whole;
        quiet = record { pending = λ name. refl; free = λ name. refl; completed = refl };
        new = new_rests rank s image k.new im;
      }
