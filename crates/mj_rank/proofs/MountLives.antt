-- What a mount keeps through each event of its store, and what a stop leaves of it.
use Rattle.std.proofs.Common.{◌≡◌, ◌⊎◌, inl, inr, ℕ, ◌+◌, ◌<◌, ◌≤◌, true, List, [], ◌∷◌, ◌++◌, length, drop, refl, sym, ap, subst, ◌∙◌, arith, Option, Some, None, Result, Ok, Err, OnErr, OnOk}
use Rattle.std.specs.Prelude.{IfOk, unwrap_or}
use Rattle.std.proofs.lemmas.Bool.{cases_lt}
use Rattle.std.proofs.Math.Nat.{ℕ_set}
use Rattle.mj_base.specs.declared.object.ObjectName.{ObjectName}
use Rattle.mj_tree.specs.State.{PlainState}
use Rattle.mj_store.specs.declared.answer.Ack.{Ack}
use Rattle.mj_store.specs.declared.answer.StoreFault.{StoreFault}
use Rattle.mj_store.specs.Object.{Contents}
use Rattle.mj_store.specs.State.{StoreState, IsImage, submitted, tried, failed, reported, at_rest}
use Rattle.mj_store.specs.Causes.{In}
use Rattle.mj_store.specs.Events.{Goes, Tells}
use Rattle.mj_store.specs.Moves.{Moves, HasSize, Stays, Steps, Restarts}
use Rattle.mj_store.proofs.Paths.{stays_keeps, steps_keeps, restarts_keeps, goes_stays, goes_steps, goes_restarts, within_goes}
use Rattle.mj_layout.specs.Striping.{Striping}
use Rattle.mj_layout.specs.Cutting.{IsCut}
use Rattle.mj_layout.specs.declared.Header.{Header}
use Rattle.mj_recovery.specs.Stream.{journal_object}
use Rattle.mj_machine.specs.Machine.{LogMachine}
use Rattle.mj_machine.specs.CrashSafe.{IsFrontState}
use Rattle.mj_facts.specs.Headers.{HeadSent, may_stand}
use Rattle.mj_facts.specs.Ranks.{Cutting as Sending, tail_of}
use Rattle.mj_facts.specs.Mounts.{Mounts}
use Rattle.mj_facts.specs.Calls.{IsNear, IsShort, cut_op, cutting}
use Rattle.mj_facts.proofs.Laws.{mounting_leaves}
use Rattle.mj_facts.proofs.WhileMounting.{mounts_tried, mounts_failed, mounts_reported, mounts_done, mounts_passed, mounts_cut, mounts_cut_done, mount_rests}
use Rattle.mj_rank.specs.declared.cutting.Cut.{Cut}
use Rattle.mj_rank.specs.declared.mounting.Mounting as mounting
use Rattle.mj_rank.specs.declared.mounting.Stage.{Stage}
use Rattle.mj_rank.specs.declared.mounting.Stage.TheVariants.{Announcing, Announced, Cutting, Opened, Ready}
use Rattle.mj_journaler.specs.Cutting.{IsBelowTail}
use Rattle.mj_rank.specs.Cutting.{cuttings, cutting_of, without_cut}
use Rattle.mj_rank.specs.Mounts.{MountValue, mount_value, sent_of, first_of, oldest_of}
use Rattle.mj_rank.specs.Flight.{HasCompleted}
use Rattle.mj_rank.specs.Live.{LeavesFronts, IsNewStore, HasCut, Mounted, OnItsWay, MountLives, Rested, StopLives, StopsSafely, Recovers}
use Rattle.mj_rank.proofs.Crashes.{front_recovers}
use Rattle.mj_rank.proofs.Cuts.{short_of, others_out}
use Rattle.mj_rank.proofs.Flight.{out_tried, out_failed, out_steps}
use Rattle.mj_rank.proofs.Turns.{all_events}
use Rattle.mj_rank.proofs.Serving.{new_tried, new_failed, new_reported, new_written}
use Rattle.mj_rank.proofs.Stopping.{new_rests}

module _ (v : MountValue) (m : LogMachine) (s : StoreState) (k : Mounted v m s) where
  abbrev Whole : List HeadSent → Type 0
  Whole heads = (h : Header) → In h (may_stand k.facts.stood heads) → h.expire ≡ k.facts.journal.start

  abbrev Seen : ℕ → List ℕ → Type 0
  Seen next cut = (index : ℕ) → IsNear k.facts index → index < next → In index cut

  -- Headers and truncations may be sent and acknowledged, and objects seen to. All else stays.
  pub mounted_with : (heads : List HeadSent) (cut : List ℕ) (out : List Sending) (t : StoreState) (stage : Stage) (sent next : ℕ) (cuts : List Cut) (fault : Option StoreFault)
      → Mounts (record k.facts { heads = heads; cut = cut; out = out }) t → 1 ≤ next → Seen next cut → out ≡ cuttings cuts → HasCut stage (record v { stage = stage; sent = sent; next = next; out = cuts; fault = fault }) → Whole heads → IsNewStore v.number t
      → Mounted (record v { stage = stage; sent = sent; next = next; out = cuts; fault = fault }) m t
  mounted_with heads cut out t stage sent next cuts fault mounts first seen out_is has whole new = record {
    facts = record k.facts { heads = heads; cut = cut; out = out };
    mounts = mounts;
    first = first;
    end_is = k.end_is;
    seen = λ index near less. seen index (record { from = near.from; to = near.to }) less;
    out_is = out_is;
    cut = has;
    turns = k.turns;
    history = k.history;
    layout_is = k.layout_is;
    tail_is = k.tail_is;
    early = k.early;
    table_is = k.table_is;
    log_is = k.log_is;
    bounded = k.bounded;
    from_start = k.from_start;
    whole = whole;
    new = new;
  }

  mounted_in : (t : StoreState) → Mounts k.facts t → IsNewStore v.number t → Mounted v m t
  mounted_in t mounts new = mounted_with k.facts.heads k.facts.cut k.facts.out t v.stage v.sent v.next v.out v.fault mounts k.first k.seen k.out_is k.cut k.whole new

  -- nothing happens but that it goes on to another stage, or keeps a fault
  pub mounted_at : (stage : Stage) (sent next : ℕ) (fault : Option StoreFault) → 1 ≤ next → Seen next k.facts.cut → HasCut stage (record v { stage = stage; sent = sent; next = next; fault = fault }) → Mounted (record v { stage = stage; sent = sent; next = next; fault = fault }) m s
  mounted_at stage sent next fault first seen has = mounted_with k.facts.heads k.facts.cut k.facts.out s stage sent next v.out fault k.mounts first seen k.out_is has k.whole k.new

  all_safe : length k.turns ≤ length k.facts.journal.events
  all_safe = omega (arith, all_events v.number k.facts.journal k.turns [] m k.history)

  pub mounted_leaves : LeavesFronts v.number m s
  mounted_leaves image im =
      front_recovers v.number k.facts.journal k.turns [] m (length k.facts.journal.events) (may_stand k.facts.stood k.facts.heads) image s k.history all_safe k.whole k.new im
      (mounting_leaves k.facts s image k.mounts im)

  pub mounted_tried : (name : ObjectName) → Mounted v m (tried name s)
  mounted_tried name = mounted_in (tried name s) (mounts_tried k.facts s name k.mounts) (new_tried v.number s name k.new)

  pub mounted_failed : (name : ObjectName) → Mounted v m (failed name s)
  mounted_failed name = mounted_in (failed name s) (mounts_failed k.facts s name k.mounts) (new_failed v.number s name k.new)

  pub mounted_reported : Mounted v m (reported s)
  mounted_reported = mounted_in (reported s) (mounts_reported k.facts s k.mounts) (new_reported v.number s k.new)

  -- a stop in the middle of a mount
  pub mounted_stopped : (image : Contents) → IsImage s image → Rested v.number m (at_rest image s)
  mounted_stopped image im =
      let r = mount_rests k.facts s image k.mounts im in
      record {
        journal = k.facts.journal;
        journalled = k.mounts.journalled;
        older = k.turns;
        newer = [];
        history = k.history;
        count = r.count;
        enough = omega (arith, all_safe, r.enough);
        rests = r.rests;
        whole = k.whole r.rests.header r.standing;
        quiet = record { pending = λ name. refl; free = λ name. refl; completed = refl };
        new = new_rests v.number s image k.new im;
      }

  -- ---- objects near the tail

  -- the next one was asked, and needs no truncation
  pub mounted_passed : (size : Option ℕ) → HasSize (journal_object v.number v.next) size s → IsBelowTail v.found.layout v.tail v.next (unwrap_or size 0) → HasCut v.stage (record v { next = v.next + 1 }) → Mounted (record v { next = v.next + 1 }) m s
  mounted_passed size is below has =
      let held = (s.objects (journal_object v.number v.next)).held in
      let there : IsBelowTail k.facts.journal.layout (tail_of k.facts) v.next (unwrap_or size 0) = subst (λ (p : Striping × ℕ). IsBelowTail p.0 p.1 v.next (unwrap_or size 0)) (λ i. (k.layout_is i, k.tail_is i)) below in
      let short : IsShort k.facts v.next (s.objects (journal_object k.facts.journal.rank v.next)).held =
      subst (λ (rank : ℕ). IsShort k.facts v.next (s.objects (journal_object rank v.next)).held) (sym k.history.number) (short_of k.facts v.next held size is there) in
      mounted_with k.facts.heads (v.next ∷ k.facts.cut) k.facts.out s v.stage v.sent (v.next + 1) v.out v.fault (mounts_passed k.facts s v.next k.mounts k.first short) (omega arith)
      (λ index near less. elim (cases_lt index v.next) [ inl before ↦ inr (k.seen index near before) | inr after ↦ inl (omega (arith, less, after)) ]) k.out_is has k.whole k.new

  -- an object is cut
  pub mounted_cut : (op index len next : ℕ) → s.next ≤ op → 1 ≤ index → IsCut v.found.layout index v.tail len → 1 ≤ next → ((i : ℕ) → i < next → (i < v.next) ⊎ (i ≡ index))
      → HasCut v.stage (record v { next = next; out = v.out ++ record { op = op; index = index } ∷ [] }) → Mounted (record v { next = next; out = v.out ++ record { op = op; index = index } ∷ [] }) m (submitted (cut_op v.number index len) op s)
  mounted_cut op index len next fresh one cut first before has =
      let c : Cut = record { op = op; index = index } in
      let there : IsCut k.facts.journal.layout index (tail_of k.facts) len = subst (λ (p : Striping × ℕ). IsCut p.0 index p.1 len) (λ i. (k.layout_is i, k.tail_is i)) cut in
      mounted_with k.facts.heads (index ∷ k.facts.cut) (k.facts.out ++ cutting_of c ∷ []) (submitted (cut_op v.number index len) op s) v.stage v.sent next (v.out ++ c ∷ []) v.fault
      (subst (λ (rank : ℕ). Mounts (cutting op index k.facts) (submitted (cut_op rank index len) op s)) k.history.number (mounts_cut k.facts s op index len k.mounts fresh one there))
      first
      (λ i near less. elim (before i less) [ inl seen ↦ inr (k.seen i near seen) | inr same ↦ inl (sym same) ])
      (ap (λ (out : List Sending). out ++ cutting_of c ∷ []) k.out_is ∙ more_out v.out c)
      has k.whole (new_written v.number s op (cut_op v.number index len) index refl one k.new)
    where
      more_out : (out : List Cut) (c : Cut) → cuttings out ++ cutting_of c ∷ [] ≡ cuttings (out ++ c ∷ [])
      more_out [] c = refl
      more_out (x ∷ xs) c = ap (λ (ys : List Sending). cutting_of x ∷ ys) (more_out xs c)

  -- a truncation is acknowledged
  pub mounted_cut_done : (a : Ack) → s.completed ≡ a ∷ drop 1 s.completed → a.done ≡ true → HasCut v.stage (record v { out = without_cut a.op v.out }) → Mounted (record v { out = without_cut a.op v.out }) m (reported s)
  mounted_cut_done a is done has =
      mounted_with k.facts.heads k.facts.cut (cuttings (without_cut a.op v.out)) (reported s) v.stage v.sent v.next (without_cut a.op v.out) v.fault
      (mounts_cut_done k.facts (reported s) a.op (cuttings (without_cut a.op v.out)) (mounts_reported k.facts s k.mounts) (mounts_done k.facts s a k.mounts is done)
      (λ c i. others_out a.op v.out c (subst (In c) k.out_is i)))
      k.first k.seen refl has k.whole (new_reported v.number s k.new)

-- ---- with what it has sent

-- what is said of truncations and of what was looked at is said of no more
pub cut_same : (stage : Stage) (v w : MountValue) → w.out ≡ v.out → w.next ≡ v.next → w.end ≡ v.end → HasCut stage v → HasCut stage w
cut_same Announcing v w a b c cut = a ∙ cut
cut_same Announced v w a b c cut = a ∙ cut
cut_same Cutting v w a b c cut = tt
cut_same Opened v w a b c cut = (a ∙ cut.0, b ∙ (cut.1 ∙ sym c))
cut_same Ready v w a b c cut = (a ∙ cut.0, b ∙ (cut.1 ∙ sym c))

pub way_tried : (v : MountValue) (m : LogMachine) (name : ObjectName) (s : StoreState) → OnItsWay v m s → OnItsWay v m (tried name s)
way_tried v m name s h = record { mounted = mounted_tried v m s h.mounted name; sent = λ up. out_tried (sent_of v) s (h.sent up) name }

-- ---- a mount's calls

-- it is the same by whatever proof its cells are those of its rank
pub kept_same : {S : Type 0} (k : mounting.Mounting S) (store : S) (p q : k.found.cache.rank ≡ k.number) → record k { store = store; cells = p } ≡ record k { store = store; cells = q }
kept_same k store p q = λ z. record k { store = store; cells = ℕ_set k.found.cache.rank k.number p q z }

first_in : {A : Type 0} (xs : List A) (x : A) → first_of xs ≡ Some x → In x xs
first_in [] x e = absurd cc
first_in (y ∷ ys) x e = inl cc

module _ {S : Type 0} (state : S → Option StoreState) (k : mounting.Mounting S) (m : LogMachine) where
  abbrev v : MountValue
  v = mount_value k

  abbrev At : StoreState → Type 0
  At = OnItsWay v m

  pub tried_at : (name : ObjectName) (s : StoreState) → At s → At (tried name s)
  tried_at name s h = way_tried v m name s h

  failed_at : (name : ObjectName) (s : StoreState) → At s → At (failed name s)
  failed_at name s h = record { mounted = mounted_failed v m s h.mounted name; sent = λ up. out_failed (sent_of v) s (h.sent up) name }

  pub mount_stays : {P : StoreState → Type 0} {told : Option StoreState} → Moves P [] (state k.store) told → MountLives state k m → Tells told At
  mount_stays {P} moves t = stays_keeps At P tried_at moves t

  pub mount_stops_by : {told : Option StoreState} → Goes (state k.store) [] told → MountLives state k m → StopsSafely k.number m (state k.store) told
  mount_stops_by goes t = within_goes (λ image. (s : PlainState) × Recovers k.number image s × IsFrontState m s) t.now t.is goes
      (λ image may. mounted_leaves v m t.now t.holds.mounted image may)

  pub mount_applies : {E : Type 0} (name : ObjectName) (result : Result (Option ℕ) E) {told : Option StoreState} → IfOk result (λ op. Steps name op (state k.store) told) → OnErr result (Stays (state k.store) told) → MountLives state k m → Tells told At
  mount_applies name (Ok op) steps stays t = steps_keeps At name op tried_at failed_at steps t
  mount_applies name (Err e) steps stays t = mount_stays stays t

  pub mount_stops : {E : Type 0} (name : ObjectName) (result : Result (Option ℕ) E) {told : Option StoreState} → IfOk result (λ op. Steps name op (state k.store) told) → OnErr result (Stays (state k.store) told) → MountLives state k m → StopsSafely k.number m (state k.store) told
  mount_stops name (Ok op) steps stays t = mount_stops_by (goes_steps name op steps) t
  mount_stops name (Err e) steps stays t = mount_stops_by (goes_stays stays) t

  pub mount_stopped : (store : S) {mid : S} → store ≡ mid → Restarts (state k.store) (state mid) → MountLives state k m → StopLives state store k.number m
  mount_stopped store same restarts t = subst (λ (x : S). StopLives state x k.number m) (sym same)
      (restarts_keeps At (Rested k.number m) tried_at
      (λ image s im h. mounted_stopped v m s h.mounted image im) restarts t)

  pub mount_stopped_stops : (store : S) {mid : S} → store ≡ mid → Restarts (state k.store) (state mid) → MountLives state k m → StopsSafely k.number m (state k.store) (state store)
  mount_stopped_stops store same restarts t = subst (λ (x : S). StopsSafely k.number m (state k.store) (state x)) (sym same) (mount_stops_by (goes_restarts restarts) t)

  -- a step of the object of the oldest operation that is sent completes something
  pub mount_completes : {E : Type 0} (name : ObjectName) (oldest : ℕ) (result : Result (Option ℕ) E) (told : Option StoreState) → IfOk result (λ op. Steps name op (state k.store) told) → MountLives state k m → k.fault ≡ None → oldest_of k ≡ Some (oldest, name)
      → OnOk result (Tells told HasCompleted)
  mount_completes name oldest (Ok op) told steps t up is = out_steps (sent_of v) t.now (t.holds.sent up) (oldest, name) (first_in (sent_of v) (oldest, name) is) op (state k.store) told t.is steps
  mount_completes name oldest (Err e) told steps t up is = tt
