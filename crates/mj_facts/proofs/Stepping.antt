-- Each step keeps what holds, and loses no safe event.
use Rattle.std.proofs.Common.{◌≡◌, ℕ, ◌+◌, ◌-◌, ◌≤◌, true, List, [], ◌∷◌, ◌++◌, length, take, drop, refl, sym, ◌∙◌, ap, arith, append_assoc}
use Rattle.std.proofs.lemmas.List.{take_all, take-append-le, append-nil}
use Rattle.mj_base.specs.declared.object.ObjectName.{ObjectName}
use Rattle.mj_store.specs.Object.{Contents}
use Rattle.mj_store.specs.State.{StoreState, IsImage, submitted, tried, failed, reported}
use Rattle.mj_store.specs.declared.act.ObjectOp.{ObjectOp}
use Rattle.mj_store.specs.declared.answer.Ack.{Ack}
use Rattle.mj_layout.specs.declared.Header.{Header}
use Rattle.mj_event.specs.declared.Event.{Event}
use Rattle.mj_facts.specs.Elsewhere.{IsElsewhere}
use Rattle.mj_facts.specs.Journalled.{IsJournalled}
use Rattle.mj_facts.specs.Headers.{HeadSent}
use Rattle.mj_facts.specs.Calls.{header_op, MaySendHeader, IsSettled}
use Rattle.mj_facts.specs.Steps.{World, Serving, Mounting, Holds, journal_in, safe_in, IsFrontOf, with_headers, with_settled, stood_in, heads_in, Step, Tried, NotDone, Told, Elsewhere, HeaderSent, HeaderDone, Appended, Wrote, WriteDone, Removed, Cut, CutDone, Passed, Begins, Stopped, Steps, Stay, Then, KeepsSafe}
use Rattle.mj_facts.proofs.Scans.{same_take}
use Rattle.mj_facts.proofs.Entries.{take_from}
use Rattle.mj_facts.proofs.WhileServing.{serves_tried, serves_failed, serves_reported, serves_done, serves_elsewhere, serves_wrote, serves_made_safe, serves_headed, serves_settled, serves_removed, serves_appended}
use Rattle.mj_facts.proofs.WhileMounting.{mounts_tried, mounts_failed, mounts_reported, mounts_done, mounts_elsewhere, mounts_headed, mounts_settled, mounts_cut, mounts_cut_done, mounts_passed, mount_serves}
use Rattle.mj_facts.proofs.Laws.{serving_leaves, mounting_leaves, stop_begins}

-- ---- what holds of both

tried_holds : (w : World) (s : StoreState) (name : ObjectName) → Holds w s → Holds w (tried name s)
tried_holds (Serving r) s name h = serves_tried r s name h
tried_holds (Mounting k) s name h = mounts_tried k s name h

failed_holds : (w : World) (s : StoreState) (name : ObjectName) → Holds w s → Holds w (failed name s)
failed_holds (Serving r) s name h = serves_failed r s name h
failed_holds (Mounting k) s name h = mounts_failed k s name h

told_holds : (w : World) (s : StoreState) → Holds w s → Holds w (reported s)
told_holds (Serving r) s h = serves_reported r s h
told_holds (Mounting k) s h = mounts_reported k s h

elsewhere_holds : (w : World) (s : StoreState) (op : ObjectOp) (number : ℕ) → s.next ≤ number → IsElsewhere (journal_in w).rank op.name → Holds w s → Holds w (submitted op number s)
elsewhere_holds (Serving r) s op number new other h = serves_elsewhere r s op number h new other
elsewhere_holds (Mounting k) s op number new other h = mounts_elsewhere k s op number h new other

headed_holds : (w : World) (s : StoreState) (op : ℕ) (header : Header) → s.next ≤ op → MaySendHeader (journal_in w) (safe_in w) (stood_in w) (heads_in w) header → Holds w s
    → Holds (with_headers w op header) (submitted (header_op (journal_in w).rank header) op s)
headed_holds (Serving r) s op header new may h = serves_headed r s op header h new may
headed_holds (Mounting k) s op header new may h = mounts_headed k s op header h new may

settled_holds : (w : World) (s : StoreState) (a : Ack) (stood : Header) (after : List HeadSent) → s.completed ≡ a ∷ drop 1 s.completed → a.done ≡ true → IsSettled a.op (heads_in w) stood after → Holds w s
    → Holds (with_settled w stood after) (reported s)
settled_holds (Serving r) s a stood after e done set h = serves_settled r (reported s) a.op stood after (serves_reported r s h) (serves_done r s a h e done) set
settled_holds (Mounting k) s a stood after e done set h = mounts_settled k (reported s) a.op stood after (mounts_reported k s h) (mounts_done k s a h e done) set

journalled_in : (w : World) (s : StoreState) → Holds w s → IsJournalled (journal_in w)
journalled_in (Serving r) s h = h.journalled
journalled_in (Mounting k) s h = h.journalled

pub leaves : (w : World) (s : StoreState) (image : Contents) → Holds w s → IsImage s image → IsFrontOf w image
leaves (Serving r) s image h im = serving_leaves r s image h im
leaves (Mounting k) s image h im = mounting_leaves k s image h im

-- ---- each step

pub step_holds : (w : World) (s : StoreState) (v : World) (t : StoreState) → Step w s v t → Holds w s → Holds v t
step_holds _ _ _ _ (Tried w s name) h = tried_holds w s name h
step_holds _ _ _ _ (NotDone w s name) h = failed_holds w s name h
step_holds _ _ _ _ (Told w s) h = told_holds w s h
step_holds _ _ _ _ (Elsewhere w s op number new other) h = elsewhere_holds w s op number new other h
step_holds _ _ _ _ (HeaderSent w s op header new may) h = headed_holds w s op header new may h
step_holds _ _ _ _ (HeaderDone w s a stood after e done set) h = settled_holds w s a stood after e done set h
step_holds _ _ _ _ (Appended r s more want may) h = serves_appended r s more want h may
step_holds _ _ _ _ (Wrote r s op to bytes new may) h = serves_wrote r s op to bytes h new may
step_holds _ _ _ _ (WriteDone r s a count sent e done may) h = serves_made_safe r (reported s) a.op count sent (serves_reported r s h) (serves_done r s a h e done) may
step_holds _ _ _ _ (Removed r s op index new may) h = serves_removed r s op index h new may
step_holds _ _ _ _ (Cut k s op index len new one c) h = mounts_cut k s op index len h new one c
step_holds _ _ _ _ (CutDone k s a out e done less) h = mounts_cut_done k (reported s) a.op out (mounts_reported k s h) (mounts_done k s a h e done) less
step_holds _ _ _ _ (Passed k s index one short) h = mounts_passed k s index h one short
step_holds _ _ _ _ (Begins k s ready) h = mount_serves k s h ready
step_holds _ _ _ _ (Stopped w s image count im enough r) h = stop_begins (journal_in w) count image s (journalled_in w s h) r

pub steps_hold : (w : World) (s : StoreState) (v : World) (t : StoreState) → Steps w s v t → Holds w s → Holds v t
steps_hold _ _ _ _ (Stay w s) h = h
steps_hold _ _ _ _ (Then w s x y u z step more) h = steps_hold x y u z more (step_holds w s x y step h)

-- ---- no safe event is lost

kept_itself : (w : World) → KeepsSafe w w
kept_itself w = record { rank = refl; layout = refl; start = refl; more = []; events = sym (append-nil (take (safe_in w) (journal_in w).events)) }

kept_then : (w v u : World) → KeepsSafe w v → KeepsSafe v u → KeepsSafe w u
kept_then w v u a b = record {
  rank = b.rank ∙ a.rank;
  layout = b.layout ∙ a.layout;
  start = b.start ∙ a.start;
  more = a.more ++ b.more;
  events = b.events ∙ (ap (λ (t : List Event). t ++ b.more) a.events ∙ append_assoc (take (safe_in w) (journal_in w).events) a.more b.more);
}

-- as many events and more
taken_more : (i j : ℕ) (xs : List Event) → i ≤ j → take j xs ≡ take i xs ++ take (j - i) (drop i xs)
taken_more i j xs h = same_take j (i + (j - i)) xs (omega (arith, h)) ∙ take_from i (j - i) xs

kept_headed : (w : World) (op : ℕ) (header : Header) → KeepsSafe w (with_headers w op header)
kept_headed (Serving r) op header = record { rank = refl; layout = refl; start = refl; more = []; events = sym (append-nil (take r.count r.journal.events)) }
kept_headed (Mounting k) op header = record { rank = refl; layout = refl; start = refl; more = []; events = sym (append-nil (take (length k.journal.events) k.journal.events)) }

kept_settled : (w : World) (stood : Header) (after : List HeadSent) → KeepsSafe w (with_settled w stood after)
kept_settled (Serving r) stood after = record { rank = refl; layout = refl; start = refl; more = []; events = sym (append-nil (take r.count r.journal.events)) }
kept_settled (Mounting k) stood after = record { rank = refl; layout = refl; start = refl; more = []; events = sym (append-nil (take (length k.journal.events) k.journal.events)) }

within_of : (w : World) (s : StoreState) → Holds w s → safe_in w ≤ length (journal_in w).events
within_of (Serving r) s h = h.within
within_of (Mounting k) s h = omega arith

pub step_keeps : (w : World) (s : StoreState) (v : World) (t : StoreState) → Step w s v t → Holds w s → KeepsSafe w v
step_keeps _ _ _ _ (Tried w s name) h = kept_itself w
step_keeps _ _ _ _ (NotDone w s name) h = kept_itself w
step_keeps _ _ _ _ (Told w s) h = kept_itself w
step_keeps _ _ _ _ (Elsewhere w s op number new other) h = kept_itself w
step_keeps _ _ _ _ (HeaderSent w s op header new may) h = kept_headed w op header
step_keeps _ _ _ _ (HeaderDone w s a stood after e done set) h = kept_settled w stood after
step_keeps _ _ _ _ (Appended r s more want may) h = record {
  rank = refl;
  layout = refl;
  start = refl;
  more = [];
  events = take-append-le r.count r.journal.events more h.within ∙ sym (append-nil (take r.count r.journal.events));
}
step_keeps _ _ _ _ (Wrote r s op to bytes new may) h = record { rank = refl; layout = refl; start = refl; more = []; events = sym (append-nil (take r.count r.journal.events)) }
step_keeps _ _ _ _ (WriteDone r s a count sent e done may) h = record {
  rank = refl;
  layout = refl;
  start = refl;
  more = take (count - r.count) (drop r.count r.journal.events);
  events = taken_more r.count count r.journal.events may.rises;
}
step_keeps _ _ _ _ (Removed r s op index new may) h = kept_itself (Serving r)
step_keeps _ _ _ _ (Cut k s op index len new one c) h = record { rank = refl; layout = refl; start = refl; more = []; events = sym (append-nil (take (length k.journal.events) k.journal.events)) }
step_keeps _ _ _ _ (CutDone k s a out e done less) h = record { rank = refl; layout = refl; start = refl; more = []; events = sym (append-nil (take (length k.journal.events) k.journal.events)) }
step_keeps _ _ _ _ (Passed k s index one short) h = record { rank = refl; layout = refl; start = refl; more = []; events = sym (append-nil (take (length k.journal.events) k.journal.events)) }
step_keeps _ _ _ _ (Begins k s ready) h = record { rank = refl; layout = refl; start = refl; more = []; events = sym (append-nil (take (length k.journal.events) k.journal.events)) }
step_keeps _ _ _ _ (Stopped w s image count im enough r) h = record {
  rank = refl;
  layout = refl;
  start = refl;
  more = take (count - safe_in w) (drop (safe_in w) (journal_in w).events);
  events = take_all (length (take count (journal_in w).events)) (take count (journal_in w).events) (omega arith) ∙ taken_more (safe_in w) count (journal_in w).events enough;
}

pub steps_keep : (w : World) (s : StoreState) (v : World) (t : StoreState) → Steps w s v t → Holds w s → KeepsSafe w v
steps_keep _ _ _ _ (Stay w s) h = kept_itself w
steps_keep _ _ _ _ (Then w s x y u z step more) h = kept_then w x u (step_keeps w s x y step h) (steps_keep x y u z more (step_holds w s x y step h))
