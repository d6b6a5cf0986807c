-- What a rank that serves keeps through each event of its store.
use Rattle.std.proofs.Common.{◌≡◌, inl, inr, ℕ, ◌+◌, ◌-◌, ◌<◌, ◌≤◌, List, [], ◌∷◌, ◌++◌, take, drop, Some, refl, sym, ap, subst, ◌∙◌, arith}
use Rattle.std.proofs.lemmas.Bool.{cond_both}
use Rattle.mj_base.specs.ObjectName.{journal_ino}
use Rattle.mj_base.specs.declared.object.ObjectName.{ObjectName}
use Rattle.mj_base.specs.declared.object.ObjectName.TheVariants.{File}
use Rattle.mj_store.specs.declared.act.ObjectAct.TheVariants.{Write}
use Rattle.mj_store.specs.declared.act.ObjectOp.{ObjectOp}
use Rattle.mj_store.specs.State.{StoreState, Object, Pending, submitted, tried, failed, reported, front_done, front_failed}
use Rattle.mj_store.specs.Causes.{In}
use Rattle.mj_store.proofs.Always.{always_tried, always_failed, always_reported}
use Rattle.mj_layout.specs.Striping.{period}
use Rattle.mj_layout.specs.Place.{object_of, offset_of, unit_end}
use Rattle.mj_layout.proofs.Placed.{placing}
use Rattle.mj_cells.specs.Table.{Table}
use Rattle.mj_machine.specs.Machine.{LogMachine}
use Rattle.mj_facts.specs.Journalled.{end_of}
use Rattle.mj_facts.specs.Ranks.{Sent}
use Rattle.mj_facts.specs.Serves.{Serves}
use Rattle.mj_facts.specs.Calls.{IsBuffer, write_op, flushed_to, MayWrite}
use Rattle.mj_facts.specs.Few.{IsAbsentBut}
use Rattle.mj_facts.specs.Elsewhere.{IsUncommitted, NothingCommitted}
use Rattle.mj_facts.proofs.Entries.{place_above}
use Rattle.mj_facts.proofs.Few.{few_submitted}
use Rattle.mj_facts.proofs.Uncommitted.{uncommitted_journal}
use Rattle.mj_facts.proofs.Computed.{may_write, buffer_sent}
use Rattle.mj_facts.proofs.WhileServing.{serves_tried, serves_failed, serves_reported, serves_wrote}
use Rattle.mj_journaler.specs.Journal as stream
use Rattle.mj_journaler.specs.Journal.{Journal, IsNew, layout_of}
use Rattle.mj_journaler.specs.Keeps.{MaySend}
use Rattle.mj_journaler.specs.Calls.{offer_op, taken}
use Rattle.mj_journaler.specs.declared.sent.Offer.TheVariants.{Flush}
use Rattle.mj_journaler.specs.declared.sent.Sent as journaler
use Rattle.mj_journaler.proofs.Kept.{in_more}
use Rattle.mj_rank.specs.Live.{IsNewStore, Lives, as_write, writes_of}

-- ---- the objects that are none of the journal

pub new_tried : (rank : ℕ) (s : StoreState) (name : ObjectName) → IsNewStore rank s → IsNewStore rank (tried name s)
new_tried rank s name n = record {
  base = n.base;
  new = n.new;
  uncommitted = always_tried (IsUncommitted rank n.base) s name n.uncommitted;
  names = n.names;
  few = always_tried (IsAbsentBut n.names) s name n.few;
}

pub new_failed : (rank : ℕ) (s : StoreState) (name : ObjectName) → IsNewStore rank s → IsNewStore rank (failed name s)
new_failed rank s name n = record {
  base = n.base;
  new = n.new;
  uncommitted = always_failed (IsUncommitted rank n.base) s name n.uncommitted;
  names = n.names;
  few = always_failed (IsAbsentBut n.names) s name n.few;
}

pub new_reported : (rank : ℕ) (s : StoreState) → IsNewStore rank s → IsNewStore rank (reported s)
new_reported rank s n = record {
  base = n.base;
  new = n.new;
  uncommitted = always_reported (IsUncommitted rank n.base) s n.uncommitted;
  names = n.names;
  few = always_reported (IsAbsentBut n.names) s n.few;
}

pub new_written : (rank : ℕ) (s : StoreState) (number : ℕ) (w : ObjectOp) (index : ℕ) → w.name ≡ File (journal_ino rank) index → 1 ≤ index → IsNewStore rank s → IsNewStore rank (submitted w number s)
new_written rank s number w index e one n =
    let at : record { name = File (journal_ino rank) index; act = w.act } ≡ w = λ z. record { name = sym e z; act = w.act } in
    record {
      base = n.base;
      new = n.new;
      uncommitted = subst (λ (x : ObjectOp). NothingCommitted rank n.base (submitted x number s)) at (uncommitted_journal rank n.base s number index w.act one n.uncommitted);
      names = w.name ∷ n.names;
      few = few_submitted n.names s w number n.few;
    }

-- ---- what the store does by itself

front_next : (name : ObjectName) (s : StoreState) (o : Object) (ps : List Pending) → (front_done name s o ps).next ≡ s.next
front_next name s o [] = refl
front_next name s o (p ∷ ps) = refl

failed_next : (name : ObjectName) (s : StoreState) (o : Object) (ps : List Pending) → (front_failed name s o ps).next ≡ s.next
failed_next name s o [] = refl
failed_next name s o (p ∷ ps) = refl

pub next_tried : (name : ObjectName) (s : StoreState) → (tried name s).next ≡ s.next
next_tried name s = let o = s.objects name in cond_both o.blocked s (front_done name s o o.pending) (λ (t : StoreState). t.next ≡ s.next) (λ b. refl) (λ b. front_next name s o o.pending)

next_failed : (name : ObjectName) (s : StoreState) → (failed name s).next ≡ s.next
next_failed name s = let o = s.objects name in cond_both o.blocked s (front_failed name s o o.pending) (λ (t : StoreState). t.next ≡ s.next) (λ b. refl) (λ b. failed_next name s o o.pending)

module _ (rank : ℕ) (l : Journal) (cells : Table) (m : LogMachine) (s : StoreState) (k : Lives rank l cells m s) where
  lives_in : (t : StoreState) → t.next ≡ s.next → Serves k.facts t → IsNewStore rank t → Lives rank l cells m t
  lives_in t next serves new = record {
    newest = subst (λ n. IsNew n l) (sym next) k.newest;
    facts = k.facts;
    serves = serves;
    log = k.log;
    older = k.older;
    newer = k.newer;
    history = k.history;
    count = k.count;
    table_is = k.table_is;
    whole = k.whole;
    begun = k.begun;
    new = new;
  }

  pub lives_tried : (name : ObjectName) → Lives rank l cells m (tried name s)
  lives_tried name = lives_in (tried name s) (next_tried name s) (serves_tried k.facts s name k.serves) (new_tried rank s name k.new)

  pub lives_failed : (name : ObjectName) → Lives rank l cells m (failed name s)
  lives_failed name = lives_in (failed name s) (next_failed name s) (serves_failed k.facts s name k.serves) (new_failed rank s name k.new)

  pub lives_reported : Lives rank l cells m (reported s)
  lives_reported = lives_in (reported s) refl (serves_reported k.facts s k.serves) (new_reported rank s k.new)

-- ---- a write of the stream

writes_last : (ws : List journaler.Sent) (w : journaler.Sent) → writes_of (ws ++ w ∷ []) ≡ writes_of ws ++ as_write w ∷ []
writes_last [] w = refl
writes_last (x ∷ ws) w = ap (λ (vs : List Sent). as_write x ∷ vs) (writes_last ws w)

-- a number that is sent is below the next one
below_next : (ws : List journaler.Sent) (next op : ℕ) → next ≤ op → ((w : journaler.Sent) → In w ws → w.op < next) → (w : journaler.Sent) → In w ws → w.op < op + 1
below_next ws next op h each w i = omega (arith, h, each w i)

pub lives_wrote : (rank : ℕ) (l : Journal) (cells : Table) (m : LogMachine) (s : StoreState) (op to : ℕ) → s.next ≤ op → MaySend l (Some (Flush to))
    → Lives rank l cells m s → Lives rank (taken op (Flush to) l) cells m (submitted (offer_op l (Flush to)) op s)
lives_wrote rank l cells m s op to next given k =
    let r = k.facts in
    let j = r.journal in
    let more : l.flushed < to = given.0 in
    let lay : layout_of l ≡ j.layout = k.log.layout in
    let ends_at : stream.end_of l ≡ end_of j = omega (arith, k.log.flushed, k.log.buffer.ends) in
    let bytes = take (to - r.flushed) l.buffer in
    let unit : unit_end (layout_of l) l.flushed ≡ unit_end j.layout r.flushed = λ z. unit_end (lay z) (k.log.flushed z) in
    let entries : to ≤ end_of j = omega (arith, given.1, ends_at) in
    let may : MayWrite r to bytes = may_write r s l.buffer to k.serves k.log.buffer (omega (arith, more, k.log.flushed)) entries (omega (arith, given.1, unit))
    (omega (arith, given.1, k.log.safe, ap period lay)) in
    let number : j.rank ≡ l.rank = k.history.number ∙ sym k.log.number in
    let same : write_op r bytes ≡ offer_op l (Flush to) = λ z. record {
      name = File (journal_ino (number z)) (object_of (sym lay z) (sym k.log.flushed z));
      act = Write (offset_of (sym lay z) (sym k.log.flushed z)) (take (to - sym k.log.flushed z) l.buffer);
    } in
    let one : 1 ≤ object_of (layout_of l) l.flushed =
    subst (λ n. 1 ≤ n) (λ z. object_of (sym lay z) (sym k.log.flushed z))
    ((placing j.layout k.serves.journalled.layout).first r.flushed (omega (arith, k.serves.journalled.aligned, place_above j r.count, k.serves.covers))) in
    let w : journaler.Sent = record { op = op; from = l.flushed; to = to } in
    record {
      facts = flushed_to op to r;
      serves = subst (λ (w : ObjectOp). Serves (flushed_to op to r) (submitted w op s)) same (serves_wrote r s op to bytes k.serves next may);
      log = record {
        number = k.log.number;
        layout = lay;
        safe = k.log.safe;
        flushed = refl;
        buffer = subst (λ n. IsBuffer j to (drop (to - n) l.buffer)) (sym k.log.flushed) (buffer_sent j r.flushed l.buffer to k.log.buffer (omega (arith, more, k.log.flushed)) entries);
        ends = k.log.ends;
        writes = (λ z. k.log.writes z ++ record { op = op; from = sym k.log.flushed z; to = to } ∷ []) ∙ sym (writes_last l.sent w);
      };
      newest = record {
        sent = λ v i. elim (in_more l.sent w v i) [ inl old ↦ below_next l.sent s.next op next k.newest.sent v old | inr new ↦ omega (arith, ap (λ (x : journaler.Sent). x.op) new) ];
        heads = below_next l.heads s.next op next k.newest.heads;
        removals = below_next l.removals s.next op next k.newest.removals;
      };
      older = k.older;
      newer = k.newer;
      history = k.history;
      count = k.count;
      table_is = k.table_is;
      whole = k.whole;
      begun = k.begun;
      new = new_written rank s op (offer_op l (Flush to)) (object_of (layout_of l) l.flushed) (ap (λ n. File (journal_ino n) (object_of (layout_of l) l.flushed)) k.log.number) one k.new;
    }
