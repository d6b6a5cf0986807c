-- The facts of a rank through its calls.
use Rattle.std.proofs.Common.{◌≡◌, ℕ, ◌+◌, ◌-◌, ◌<◌, ◌≤◌, ◌^◌, Bool, true, false, List, [], ◌∷◌, Option, Some, None, Result, Ok, Err, OnErr, refl, sym, ap, subst, ◌∙◌, arith}
use Rattle.std.specs.Prelude.{nat_lt, if◌then◌else◌}
use Rattle.std.proofs.lemmas.Bool.{cond_both, ltb-false}
use Rattle.mj_base.specs.declared.object.ObjectName.{ObjectName}
use Rattle.mj_tree.specs.State.{PlainState}
use Rattle.mj_tree.specs.Answer.{changes}
use Rattle.mj_tree.specs.declared.request.ClientRequest.{ClientRequest}
use Rattle.mj_tree.specs.declared.request.Reply.{Reply}
use Rattle.mj_store.specs.declared.act.ObjectOp.{ObjectOp}
use Rattle.mj_store.specs.declared.answer.Ack.{Ack}
use Rattle.mj_store.specs.State.{StoreState, MayHold, tried, submitted}
use Rattle.mj_store.specs.Events.{Goes, Tells}
use Rattle.mj_store.specs.Moves.{Moves, Submits, Reaps, Steps, fronts_applied}
use Rattle.mj_store.proofs.Paths.{stays_keeps, submits_keeps, reaps_keeps, steps_keeps, goes_submits, within_goes}
use Rattle.mj_cells.specs.declared.cell.CellWrite.{CellWrite}
use Rattle.mj_cells.specs.Table.{Table, table_of, overlay}
use Rattle.mj_cells.proofs.CellMaps.{table_of-put_all}
use Rattle.mj_entry.specs.Entry.{IsPayload, entry_length}
use Rattle.mj_event.specs.declared.Event.{Event}
use Rattle.mj_event.specs.Event.{event_bytes}
use Rattle.mj_event.specs.Writes.{writes_of}
use Rattle.mj_recovery.specs.Tree.{tree_of}
use Rattle.mj_index.proofs.GroupFits.{early_more}
use Rattle.mj_cache.specs.Cached.{CacheValue, early_cells, early_table, early_tree, projected}
use Rattle.mj_machine.specs.Machine.{LogMachine, accepted, made_safe, early_state}
use Rattle.mj_machine.specs.CrashSafe.{IsFrontState}
use Rattle.mj_delta.specs.Steps.{GivesTree}
use Rattle.mj_journaler.specs.declared.AppendRefusal.TheVariants.{Full, Spent}
use Rattle.mj_journaler.specs.declared.sent.Offer.TheVariants.{Flush}
use Rattle.mj_journaler.specs.Journal as stream
use Rattle.mj_journaler.specs.Journal.{Journal, IsNew}
use Rattle.mj_journaler.specs.Keeps.{MaySend}
use Rattle.mj_journaler.specs.Calls.{append_refusal, append_both_refusal, offer_op, taken, acknowledged}
use Rattle.mj_journaler.proofs.Kept.{end_more}
use Rattle.mj_rank.specs.declared.refusal.Fault.{Fault}
use Rattle.mj_rank.specs.declared.rank.Rank.{Rank}
use Rattle.mj_rank.specs.Log.{log_value, entry_end, with_entry}
use Rattle.mj_rank.specs.Mount.{subtree_map}
use Rattle.mj_rank.specs.Segment as segment
use Rattle.mj_rank.specs.Segment.{is_due, event_refusal, log_behind}
use Rattle.mj_rank.specs.Request.{RankValue, value_of, map_in, with_event, event_end, answered}
use Rattle.mj_rank.specs.Live.{Recovers, Lives, RankLives, StopsSafely}
use Rattle.mj_rank.proofs.Crashes.{lives_leave}
use Rattle.mj_rank.proofs.Serving.{next_tried, lives_tried, lives_failed, lives_reported, lives_wrote}
use Rattle.mj_rank.proofs.Reaping.{lives_acked}
use Rattle.mj_rank.proofs.Asking.{lives_answered, lives_journalled, lives_mapped, tree_lives}

-- a value lives over a store in this state
abbrev LivesAt : RankValue → LogMachine → StoreState → Type 0
LivesAt v m s = Lives v.number v.log (early_table v.cache) m s

tried_at : (v : RankValue) (m : LogMachine) (name : ObjectName) (s : StoreState) → LivesAt v m s → LivesAt v m (tried name s)
tried_at v m name s k = lives_tried v.number v.log (early_table v.cache) m s k name

-- ---- a value, over a store that is told

pub value_stays : (v : RankValue) (m : LogMachine) {P : StoreState → Type 0} {old new : Option StoreState} → Moves P [] old new → Tells old (LivesAt v m) → Tells new (LivesAt v m)
value_stays v m {P} moves t = stays_keeps (LivesAt v m) P (λ name s k. tried_at v m name s k) moves t

pub value_steps : (v : RankValue) (m : LogMachine) (name : ObjectName) (op : Option ℕ) {old new : Option StoreState} → Steps name op old new → Tells old (LivesAt v m) → Tells new (LivesAt v m)
value_steps v m name op steps t =
    steps_keeps (LivesAt v m) name op (λ n s k. tried_at v m n s k) (λ n s k. lives_failed v.number v.log (early_table v.cache) m s k n) steps t

pub value_reported : (v : RankValue) (m : LogMachine) (ack : Ack) {old new : Option StoreState} → Reaps (Some ack) old new → Tells old (LivesAt v m) → Tells new (LivesAt v m)
value_reported v m ack reaps t =
    reaps_keeps (LivesAt v m) (LivesAt v m) ack (λ x s k. tried_at v m x s k) (λ s first k. lives_reported v.number v.log (early_table v.cache) m s k) reaps t

-- a log that is the same
pub value_log : (v : RankValue) (m : LogMachine) (l : Journal) {told : Option StoreState} → l ≡ v.log → Tells told (LivesAt v m) → Tells told (LivesAt (record v { log = l }) m)
value_log v m l {told} e t = subst (λ (x : Journal). Tells told (LivesAt (record v { log = x }) m)) (sym e) t

-- fronts that are applied take no number
next_fronts : (names : List ObjectName) (s : StoreState) → (fronts_applied names s).next ≡ s.next
next_fronts [] s = refl
next_fronts (name ∷ names) s = next_fronts names (tried name s) ∙ next_tried name s

-- ---- a rank

module _ {S : Type 0} (state : S → Option StoreState) (old : Rank S) (m : LogMachine) where
  -- it is down
  pub rank_down : (new : Rank S) (v : RankValue) (fault : Option Fault) {mid : S} → new.store ≡ mid → value_of new ≡ record v { fault = fault } → Tells (state mid) (LivesAt v m) → RankLives state new m
  rank_down new v fault same e t = record { now = t.now; is = ap state same ∙ t.is; holds = subst (λ (x : RankValue). LivesAt x m t.now) (sym e) t.holds }

  -- it has this value
  pub rank_is : (new : Rank S) (v : RankValue) {mid : S} → new.store ≡ mid → value_of new ≡ v → Tells (state mid) (LivesAt v m) → RankLives state new m
  rank_is new v same e t = record { now = t.now; is = ap state same ∙ t.is; holds = subst (λ (x : RankValue). LivesAt x m t.now) (sym e) t.holds }

  -- it has this log, and its cells' table stays
  pub rank_with : (new : Rank S) (l : Journal) (n : LogMachine) {mid : S} → new.store ≡ mid → new.number ≡ old.number → log_value new.log ≡ l → early_table new.cache ≡ early_table old.cache
      → Tells (state mid) (Lives old.number l (early_table old.cache) n) → RankLives state new n
  rank_with new l n same number log cells t = record {
    now = t.now;
    is = ap state same ∙ t.is;
    holds = subst (λ (p : ℕ × (Journal × Table)). Lives p.0 p.1.0 p.1.1 n t.now) (λ i. (sym number i, (sym log i, sym cells i))) t.holds;
  }

  -- a write is sent
  pub rank_wrote : (op to : ℕ) (w : ObjectOp) (l : Journal) {told : Option StoreState} → MaySend (log_value old.log) (Some (Flush to)) → w ≡ offer_op (log_value old.log) (Flush to)
      → l ≡ taken op (Flush to) (log_value old.log) → Submits w op (state old.store) told → RankLives state old m → Tells told (Lives old.number l (early_table old.cache) m)
  rank_wrote op to w l {told} given is log submits t =
      let from = log_value old.log in
      let v : RankValue = record (value_of old) { log = taken op (Flush to) from } in
      subst (λ (x : Journal). Tells told (Lives old.number x (early_table old.cache) m)) (sym log)
      (submits_keeps (LivesAt (value_of old) m) (LivesAt v m) (offer_op from (Flush to)) op (λ n s k. tried_at (value_of old) m n s k)
      (λ s next k. lives_wrote old.number from (early_table old.cache) m s op to next given k)
      (subst (λ (x : ObjectOp). Submits x op (state old.store) told) is submits) t)

  -- its number is new
  pub rank_numbers : (op : ℕ) (w : ObjectOp) {told : Option StoreState} → Submits w op (state old.store) told → RankLives state old m → IsNew op old.log
  rank_numbers op w submits t =
      let moved = submits t.now t.is in
      let next : t.now.next ≤ op = subst (λ n. n ≤ op) (next_fronts moved.fronts t.now) moved.possible.0 in
      let new = t.holds.newest in
      record { sent = λ x i. omega (arith, next, new.sent x i); heads = λ x i. omega (arith, next, new.heads x i); removals = λ x i. omega (arith, next, new.removals x i) }

  -- one is acknowledged
  pub rank_acked : (op : ℕ) (l : Journal) (safe : ℕ) {told : Option StoreState} → l ≡ acknowledged op (log_value old.log) → safe ≡ l.safe → Reaps (Some (record { op = op; done = true })) (state old.store) told
      → RankLives state old m → Tells told (Lives old.number l (early_table old.cache) (made_safe m safe))
  rank_acked op l safe {told} log at reaps t =
      let to = acknowledged op (log_value old.log) in
      let v : RankValue = record (value_of old) { log = to } in
      let n = made_safe m to.safe in
      let done = reaps_keeps (LivesAt (value_of old) m) (LivesAt v n) (record { op = op; done = true }) (λ x s k. tried_at (value_of old) m x s k)
      (λ s first k. lives_acked old.number (log_value old.log) (early_table old.cache) m s (record { op = op; done = true }) k first refl) reaps t in
      let safe_is : to.safe ≡ safe = sym (at ∙ ap (λ (x : Journal). x.safe) log) in
      subst (λ (x : ℕ). Tells told (Lives old.number l (early_table old.cache) (made_safe m x))) safe_is
      (subst (λ (x : Journal). Tells told (Lives old.number x (early_table old.cache) n)) (sym log) done)

  -- ---- what a stop may leave

  pub stops_by : {told : Option StoreState} → Goes (state old.store) [] told → RankLives state old m → StopsSafely old.number m (state old.store) told
  stops_by goes t = within_goes (λ image. (s : PlainState) × Recovers old.number image s × IsFrontState m s) t.now t.is goes
      (λ image may. lives_leave old.number (log_value old.log) (early_table old.cache) m t.now t.holds image may)

  pub stops_down : (new : Rank S) {mid : S} → new.store ≡ mid → Goes (state old.store) [] (state mid) → RankLives state old m → StopsSafely old.number m (state old.store) (state new.store)
  stops_down new same goes t = subst (λ (x : S). StopsSafely old.number m (state old.store) (state x)) (sym same) (stops_by goes t)

  pub stops_is : (new : Rank S) {mid : S} → new.store ≡ mid → StopsSafely old.number m (state old.store) (state mid) → StopsSafely old.number m (state old.store) (state new.store)
  stops_is new same h = subst (λ (x : S). StopsSafely old.number m (state old.store) (state x)) (sym same) h

  pub stops_sending : (op to : ℕ) (w : ObjectOp) {told : Option StoreState} → MaySend (log_value old.log) (Some (Flush to)) → w ≡ offer_op (log_value old.log) (Flush to) → Submits w op (state old.store) told
      → RankLives state old m → StopsSafely old.number m (state old.store) told
  stops_sending op to w given is submits t =
      let from = log_value old.log in
      within_goes (λ image. (s : PlainState) × Recovers old.number image s × IsFrontState m s) t.now t.is (goes_submits w op submits)
      (λ image may. lives_leave old.number (taken t.now.next (Flush to) from) (early_table old.cache) m (submitted (offer_op from (Flush to)) t.now.next t.now)
      (lives_wrote old.number from (early_table old.cache) m t.now t.now.next to (omega arith) given t.holds)
      image (subst (λ (x : ObjectOp). MayHold t.now (x ∷ []) image) is may))

-- ---- a request

-- the tree of the cells is the machine's
pub tree_of_lives : {S : Type 0} (state : S → Option StoreState) (k : Rank S) (m : LogMachine) → RankLives state k m → k.cache.rank ≡ k.number → early_tree k.cache ≡ early_state m
tree_of_lives state k m t own = ap (λ (rank : ℕ). tree_of rank (early_table k.cache)) own ∙ tree_lives k.number (log_value k.log) (early_table k.cache) m t.now t.holds

-- one group of writes more
projected_table : (ws : List CellWrite) (ends : ℕ) (c : CacheValue) → early_table (projected ws ends c) ≡ overlay (early_table c) ws
projected_table ws ends c = ap table_of (early_more c.safe c.groups (record { ends = ends; writes = ws })) ∙ table_of-put_all (early_cells c) ws

-- what is appended without a refusal ends below the last position
pub room_for : (l : Journal) (payload : List ℕ) → append_refusal l payload ≡ None → entry_end l payload < 2 ^ 62
room_for l payload h =
    let late = if nat_lt (2 ^ 62 - 1) (entry_end l payload) then Some (Spent (stream.end_of l)) else None in
    cond_both (nat_lt 8388608 (stream.unsafe_of l + entry_length payload)) (Some (Full (stream.unsafe_of l))) late (λ o. o ≡ None → entry_end l payload < 2 ^ 62)
    (λ b e. absurd cc)
    (λ b. cond_both (nat_lt (2 ^ 62 - 1) (entry_end l payload)) (Some (Spent (stream.end_of l))) None (λ o. o ≡ None → entry_end l payload < 2 ^ 62)
    (λ c e. absurd cc) (λ c e. omega (arith, ltb-false (2 ^ 62 - 1) (entry_end l payload) c)))
    h

-- and so do two entries
room_for_both : (l : Journal) (first second : List ℕ) → append_both_refusal l first second ≡ None → entry_end l first + entry_length second < 2 ^ 62
room_for_both l first second h =
    let between = entry_end l first in
    let second_late = if nat_lt (2 ^ 62 - 1) (between + entry_length second) then Some (Spent between) else None in
    let late = if nat_lt (2 ^ 62 - 1) between then Some (Spent (stream.end_of l)) else second_late in
    cond_both (nat_lt 8388608 (stream.unsafe_of l + entry_length first + entry_length second)) (Some (Full (stream.unsafe_of l))) late (λ o. o ≡ None → between + entry_length second < 2 ^ 62)
    (λ b e. absurd cc)
    (λ b. cond_both (nat_lt (2 ^ 62 - 1) between) (Some (Spent (stream.end_of l))) second_late (λ o. o ≡ None → between + entry_length second < 2 ^ 62)
    (λ c e. absurd cc)
    (λ c. cond_both (nat_lt (2 ^ 62 - 1) (between + entry_length second)) (Some (Spent between)) None (λ o. o ≡ None → between + entry_length second < 2 ^ 62)
    (λ d e. absurd cc) (λ d e. omega (arith, ltb-false (2 ^ 62 - 1) (between + entry_length second) d))))
    h

-- an event's entry, behind a map where one is due
module _ (rank : ℕ) (l : Journal) (cells : Table) (m : LogMachine) (s : StoreState) (k : Lives rank l cells m s) (r : ClientRequest) (e : Event) (change : changes (tree_of rank cells) r ≡ true)
    (gives : GivesTree rank cells (tree_of rank cells) r e) (payload : IsPayload (event_bytes e)) where
  abbrev before : Bool → Option (List ℕ)
  before due = if due then Some (event_bytes (subtree_map rank)) else None

  lives_behind : (due : Bool) → event_refusal (before due) l (event_bytes e) ≡ None
      → Lives rank (log_behind (before due) l (event_bytes e)) (overlay cells (writes_of e)) (accepted m r (segment.event_end (before due) l (event_bytes e))) s
  lives_behind false admitted = lives_journalled rank l cells m s k r e change gives payload (room_for l (event_bytes e) admitted)
  lives_behind true admitted =
      let map = event_bytes (subtree_map rank) in
      let room = room_for_both l map (event_bytes e) admitted in
      let mapped : Lives rank (with_entry l map) cells m s = lives_mapped rank l cells m s k (omega (arith, room)) in
      lives_journalled rank (with_entry l map) cells m s mapped r e change gives payload (omega (arith, room, end_more l map))

module _ {S : Type 0} (state : S → Option StoreState) (old new : Rank S) (r : ClientRequest) (same : new.store ≡ old.store) (own : old.cache.rank ≡ old.number) where
  -- one that changes nothing
  pub answered_lives : changes (early_tree old.cache) r ≡ false → (x : Reply) (o : Option ℕ) → value_of new ≡ answered (value_of old) r x o → (end : ℕ) (m : LogMachine) → RankLives state old m → RankLives state new (accepted m r end)
  answered_lives none x o e end m t = record {
    now = t.now;
    is = ap state same ∙ t.is;
    holds = subst (λ (v : RankValue). LivesAt v (accepted m r end) t.now) (sym e)
        (lives_answered old.number (log_value old.log) (early_table old.cache) m t.now t.holds r end (subst (λ (rank : ℕ). changes (tree_of rank (early_table old.cache)) r ≡ false) own none));
  }

  -- one with an event
  pub accepted_lives : (e : Event) → changes (early_tree old.cache) r ≡ true → GivesTree old.cache.rank (early_table old.cache) (early_tree old.cache) r e → IsPayload (event_bytes e)
      → event_refusal (map_in (value_of old)) (log_value old.log) (event_bytes e) ≡ None → (x : Reply) (o : Option ℕ) → value_of new ≡ answered (with_event (value_of old) e) r x o
      → (m : LogMachine) → RankLives state old m → RankLives state new (accepted m r (event_end (value_of old) e))
  accepted_lives e change gives payload admitted x o is m t =
      let cells = early_table old.cache in
      let end = event_end (value_of old) e in
      let after = answered (with_event (value_of old) e) r x o in
      let here : Lives old.number after.log (overlay cells (writes_of e)) (accepted m r end) t.now =
      lives_behind old.number (log_value old.log) cells m t.now t.holds r e (subst (λ (rank : ℕ). changes (tree_of rank cells) r ≡ true) own change)
      (subst (λ (rank : ℕ). GivesTree rank cells (tree_of rank cells) r e) own gives) payload (is_due old.segment) admitted in
      record {
        now = t.now;
        is = ap state same ∙ t.is;
        holds = subst (λ (v : RankValue). LivesAt v (accepted m r end) t.now) (sym is)
            (subst (λ (x : Table). Lives old.number after.log x (accepted m r end) t.now) (sym (projected_table (writes_of e) end old.cache)) here);
      }

-- a refused request leaves the rank
pub refused_lives : {S X E : Type 0} (state : S → Option StoreState) (old new : Rank S) (result : Result X E) → OnErr result (value_of new ≡ value_of old) → new.store ≡ old.store
    → OnErr result ((m : LogMachine) → RankLives state old m → RankLives state new m)
refused_lives state old new (Ok early) e same = tt
refused_lives state old new (Err x) e same = λ m t. record { now = t.now; is = ap state same ∙ t.is; holds = subst (λ (v : RankValue). LivesAt v m t.now) (sym e) t.holds }
