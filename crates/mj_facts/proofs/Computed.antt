-- What a rank computes for its calls is what may be done.
use Rattle.std.proofs.Common.{◌≡◌, ◌⊎◌, inl, inr, ℕ, zero, suc, ◌+◌, ◌-◌, ◌*◌, ◌/◌, ◌^◌, ◌<◌, ◌≤◌, Some, List, [], ◌∷◌, ◌++◌, length, take, drop, get_or, sym, ◌∙◌, ap, subst, arith, length-append, length-drop, refl}
use Rattle.std.specs.Prelude.{nat_lt, nat_le, filter}
use Rattle.std.specs.List.{AllByRecursion}
use Rattle.std.proofs.lemmas.Bool.{cases_lt, cond_both, cond-true, cond-false, lt-ltb, le-ltb, leb-true, leb-false}
use Rattle.std.proofs.lemmas.List.{length-take-le, append-nil}
use Rattle.std.proofs.lemmas.Nat.{div-add-mod', mod_below}
use Rattle.std.proofs.lemmas.Option.{slice_get-get_or}
use Rattle.mj_store.specs.State.{StoreState}
use Rattle.mj_store.specs.Causes.{In}
use Rattle.mj_layout.specs.Striping.{period}
use Rattle.mj_layout.specs.Place.{unit_end}
use Rattle.mj_layout.specs.Header.{IsHeader}
use Rattle.mj_layout.specs.declared.Header.{Header}
use Rattle.mj_layout.proofs.Striped.{sizes}
use Rattle.mj_layout.proofs.Placed.{placing}
use Rattle.mj_event.specs.declared.Event.{Event}
use Rattle.mj_facts.specs.Journalled.{IsCarried, entry_of, size_of, spelled, ends, Begins, Wants, Journalled, IsJournalled, place_of, end_of}
use Rattle.mj_facts.specs.Headers.{may_stand, IsBounded}
use Rattle.mj_facts.specs.Ranks.{Sent, Rank, safe_of, base_of}
use Rattle.mj_facts.specs.Serves.{Serves}
use Rattle.mj_facts.specs.Calls.{wanted_more, with_event, IsBuffer, MayAppend, MayWrite, MayMakeSafe, MayRemove, ending_by, count_by, entry_ends, IsLastEnd}
use Rattle.mj_facts.proofs.Bytes.{get_left, get_right_at, get_take, get_drop}
use Rattle.mj_facts.proofs.Entries.{entry_long, ends_from, ends_append, spelled_append, place_from, size_some}

-- ---- an event is appended

carried_append : (es : List Event) (e : Event) → AllByRecursion IsCarried es → IsCarried e → AllByRecursion IsCarried (es ++ e ∷ [])
carried_append [] e all here = (here, tt)
carried_append (x ∷ es) e all here = (all.0, carried_append es e all.1 here)

-- below the end the same bytes are wanted, and from there on those of the entry
wanted_before : (want : ℕ → ℕ) (end : ℕ) (entry : List ℕ) (x : ℕ) → x < end → wanted_more want end entry x ≡ want x
wanted_before want end entry x h = cond-true (nat_lt x end) (want x) (get_or entry (x - end) 0) (lt-ltb x end h)

wanted_behind : (want : ℕ → ℕ) (end : ℕ) (entry : List ℕ) (x i : ℕ) → x ≡ end + i → wanted_more want end entry x ≡ get_or entry i 0
wanted_behind want end entry x i e = cond-false (nat_lt x end) (want x) (get_or entry (x - end) 0) (le-ltb x end (omega (arith, e))) ∙ ap (λ k. get_or entry k 0) (left x end i e)
  where
    left : (x end i : ℕ) → x ≡ end + i → x - end ≡ i
    left x end i e = omega (arith, e)

-- bytes and those of the entry behind them
wants_more : (want : ℕ → ℕ) (from end : ℕ) (bytes entry : List ℕ) → from + length bytes ≡ end → Wants want from bytes → Wants (wanted_more want end entry) from (bytes ++ entry)
wants_more want from end bytes entry e w i h = elim (cases_lt i (length bytes)) [
  | inl less ↦ get_left bytes entry i less ∙ (w i less ∙ ap (λ b. Some b) (sym (wanted_before want end entry (from + i) (omega (arith, e, less)))))
  | inr past ↦
      let k = i - length bytes in
      get_right_at bytes entry i k (omega (arith, past))
      ∙ (slice_get-get_or entry k 0 (omega (arith, past, h, length-append bytes entry)) ∙ ap (λ b. Some b) (sym (wanted_behind want end entry (from + i) k (omega (arith, e, past)))))
]

pub journalled_event : (j : Journalled) (e : Event) → IsJournalled j → IsCarried e → end_of j + size_of e < 2 ^ 62 → IsJournalled (with_event e j)
journalled_event j e ok carried room =
    let entry = entry_of (end_of j) e in
    let bytes : spelled j.start (j.events ++ e ∷ []) ≡ spelled j.start j.events ++ entry =
    spelled_append j.start j.events (e ∷ []) ∙ ap (λ (t : List ℕ). spelled j.start j.events ++ t) (append-nil entry) in
    record {
      layout = ok.layout;
      aligned = ok.aligned;
      carried = carried_append j.events e ok.carried carried;
      wants = subst (Wants (wanted_more j.want (end_of j) entry) j.start) (sym bytes) (wants_more j.want j.start (end_of j) (spelled j.start j.events) entry (sym (ends_from j.events j.start)) ok.wants);
      below = omega (arith, ends_append j.start j.events (e ∷ []), room);
    }

pub may_append : (r : Rank) (s : StoreState) (e : Event) → Serves r s → IsCarried e → end_of r.journal + size_of e < 2 ^ 62
    → ((h : Header) → In h (may_stand r.stood r.heads) → h.expire ≡ end_of r.journal → Begins (e ∷ [])) → MayAppend r (e ∷ []) (wanted_more r.journal.want (end_of r.journal) (entry_of (end_of r.journal) e))
may_append r s e sv carried room begins = record {
  same = λ x h. wanted_before r.journal.want (end_of r.journal) (entry_of (end_of r.journal) e) x (omega (arith, h, sv.flushed));
  journalled = journalled_event r.journal e sv.journalled carried room;
  begins = begins;
}

pub buffer_event : (j : Journalled) (e : Event) (flushed : ℕ) (buffer : List ℕ) → IsBuffer j flushed buffer → IsBuffer (with_event e j) flushed (buffer ++ entry_of (end_of j) e)
buffer_event j e flushed buffer b = record {
  wants = wants_more j.want flushed (end_of j) buffer (entry_of (end_of j) e) b.ends b.wants;
  ends = omega (arith, length-append buffer (entry_of (end_of j) e), b.ends, entry_long (end_of j) e, ends_append j.start j.events (e ∷ []));
}

-- ---- a write is sent

pub may_write : (r : Rank) (s : StoreState) (buffer : List ℕ) (to : ℕ) → Serves r s → IsBuffer r.journal r.flushed buffer
    → r.flushed < to → to ≤ end_of r.journal → to ≤ unit_end r.journal.layout r.flushed → to ≤ safe_of r + 4 * period r.journal.layout → MayWrite r to (take (to - r.flushed) buffer)
may_write r s buffer to sv b more end unit window =
    let long : length (take (to - r.flushed) buffer) ≡ to - r.flushed = length-take-le (to - r.flushed) buffer (omega (arith, b.ends, end)) in
    record {
      more = more;
      unit = unit;
      long = long;
      wants = λ i h. get_take (to - r.flushed) buffer i (omega (arith, h, long)) ∙ b.wants i (omega (arith, h, long, b.ends, end, more));
      entries = end;
      window = window;
    }

pub buffer_sent : (j : Journalled) (flushed : ℕ) (buffer : List ℕ) (to : ℕ) → IsBuffer j flushed buffer → flushed ≤ to → to ≤ end_of j → IsBuffer j to (drop (to - flushed) buffer)
buffer_sent j flushed buffer to b more end = record {
  wants = λ i h. get_drop (to - flushed) buffer i ∙ (b.wants (to - flushed + i) (omega (arith, h, length-drop (to - flushed) buffer)) ∙ ap (λ x. Some (j.want x)) (further flushed to i more));
  ends = omega (arith, b.ends, more, end, length-drop (to - flushed) buffer);
}
  where
    further : (flushed to i : ℕ) → flushed ≤ to → flushed + (to - flushed + i) ≡ to + i
    further flushed to i h = omega (arith, h)

-- ---- a write is done

ending_within : (p at : ℕ) (es : List Event) → ending_by p at es ≤ length es
ending_within p at [] = omega arith
ending_within p at (e ∷ es) = cond_both (nat_le (at + size_of e) p) (ending_by p (at + size_of e) es + 1) 0 (λ n. n ≤ length (e ∷ es))
    (λ b. omega (arith, ending_within p (at + size_of e) es)) (λ b. omega arith)

plus_one : (n : ℕ) → suc n ≡ n + 1
plus_one n = omega arith

ending_ends : (p at : ℕ) (es : List Event) → at ≤ p → ends at (take (ending_by p at es) es) ≤ p
ending_ends p at [] h = h
ending_ends p at (e ∷ es) h = cond_both (nat_le (at + size_of e) p) (ending_by p (at + size_of e) es + 1) 0 (λ n. ends at (take n (e ∷ es)) ≤ p)
    (λ b. subst (λ n. ends at (take n (e ∷ es)) ≤ p) (plus_one (ending_by p (at + size_of e) es)) (ending_ends p (at + size_of e) es (leb-true (at + size_of e) p b)))
    (λ b. h)

-- no more of them end there
ending_most : (p at : ℕ) (es : List Event) (i : ℕ) → i ≤ length es → ends at (take i es) ≤ p → i ≤ ending_by p at es
ending_most p at [] i h l = h
ending_most p at (e ∷ es) zero h l = omega arith
ending_most p at (e ∷ es) (suc i) h l = cond_both (nat_le (at + size_of e) p) (ending_by p (at + size_of e) es + 1) 0 (λ n. suc i ≤ n)
    (λ b. omega (arith, ending_most p (at + size_of e) es i (omega arith) l))
    (λ b. absurd (omega (arith, leb-false (at + size_of e) p b, l, ends_from (take i es) (at + size_of e))))

-- the safe position is at or below one below which nothing is out
pub count_place : (r : Rank) (p : ℕ) → safe_of r ≤ p → place_of r.journal (count_by p r) ≤ p
count_place r p h = omega (arith, place_from r.journal r.count (ending_by p (safe_of r) (drop r.count r.journal.events)), ending_ends p (safe_of r) (drop r.count r.journal.events) h)

-- and no event after it ends there
pub count_most : (r : Rank) (p i : ℕ) → r.count ≤ i → i ≤ length r.journal.events → place_of r.journal i ≤ p → i ≤ count_by p r
count_most r p i up within h =
    let es = drop r.count r.journal.events in
    let e : place_of r.journal i ≡ ends (safe_of r) (take (i - r.count) es) = ap (place_of r.journal) (apart r.count i up) ∙ place_from r.journal r.count (i - r.count) in
    omega (arith, up, ending_most p (safe_of r) es (i - r.count) (omega (arith, length-drop r.count r.journal.events, within)) (omega (arith, e, h)))
  where
    apart : (n i : ℕ) → n ≤ i → i ≡ n + (i - n)
    apart n i h = omega (arith, h)

pub may_make_safe : (r : Rank) (s : StoreState) (op p : ℕ) (sent : List Sent) → Serves r s → ((w : Sent) → In w r.sent → In w sent ⊎ (w.op ≡ op))
    → safe_of r ≤ p → p ≤ r.flushed → ((w : Sent) → In w sent → p ≤ w.from) → MayMakeSafe r op (count_by p r) sent
may_make_safe r s op p sent sv out up within below = record {
  out = out;
  rises = omega arith;
  within = omega (arith, sv.within, length-drop r.count r.journal.events, ending_within p (safe_of r) (drop r.count r.journal.events));
  outstanding = λ w i. omega (arith, count_place r p up, below w i);
  covers = omega (arith, count_place r p up, within);
}

-- ---- the ends of entries

end_in : (at : ℕ) (es : List Event) (end : ℕ) → In end (entry_ends at es) → (i : ℕ) × (i ≤ length es) × (end ≡ ends at (take i es))
end_in at [] end h = absurd h
end_in at (e ∷ es) end (inl same) = (1, omega arith, sym same)
end_in at (e ∷ es) end (inr h) = let r = end_in (at + size_of e) es end h in (suc r.0, omega (arith, r.1), r.2)

in_ends : (at : ℕ) (es : List Event) (i : ℕ) → i < length es → In (ends at (take (suc i) es)) (entry_ends at es)
in_ends at [] i h = absurd (omega arith)
in_ends at (e ∷ es) zero h = inl refl
in_ends at (e ∷ es) (suc i) h = inr (in_ends (at + size_of e) es i (omega arith))

ends_rise : (at : ℕ) (es : List Event) (i k : ℕ) → i ≤ k → ends at (take i es) ≤ ends at (take k es)
ends_rise at es zero k h = omega (arith, ends_from (take k es) at)
ends_rise at [] (suc i) zero h = omega arith
ends_rise at [] (suc i) (suc k) h = omega arith
ends_rise at (e ∷ es) (suc i) zero h = absurd (omega arith)
ends_rise at (e ∷ es) (suc i) (suc k) h = ends_rise (at + size_of e) es i k (omega arith)

last_above : (p at : ℕ) (es : List Event) (end k : ℕ) → k ≤ length es → ends at (take k es) ≤ p → IsLastEnd at (entry_ends at es) p end → ends at (take k es) ≤ end
last_above p at es end zero within below l = elim l.among [
  | inl same ↦ omega (arith, same)
  | inr among ↦ let r = end_in at es end among in omega (arith, r.2, ends_rise at es 0 r.0 (omega arith))
]
last_above p at es end (suc k) within below l = l.most (ends at (take (suc k) es)) (in_ends at es k (omega arith)) below

last_below : (p at : ℕ) (es : List Event) (end : ℕ) → at ≤ p → IsLastEnd at (entry_ends at es) p end → end ≤ ends at (take (ending_by p at es) es)
last_below p at es end h l = elim l.among [
  | inl same ↦ omega (arith, same, ends_from (take (ending_by p at es) es) at)
  | inr among ↦
      let r = end_in at es end among in
      omega (arith, r.2, ends_rise at es r.0 (ending_by p at es) (ending_most p at es r.0 r.1 (omega (arith, r.2, l.within))))
]

-- the safe position is the last end below which nothing is out
pub last_end_is : (r : Rank) (p end : ℕ) → safe_of r ≤ p → IsLastEnd (safe_of r) (entry_ends (safe_of r) (drop r.count r.journal.events)) p end → end ≡ place_of r.journal (count_by p r)
last_end_is r p end h l =
    let es = drop r.count r.journal.events in
    omega (
      arith,
      place_from r.journal r.count (ending_by p (safe_of r) es),
      last_below p (safe_of r) es end h l,
      last_above p (safe_of r) es end (ending_by p (safe_of r) es) (ending_within p (safe_of r) es) (ending_ends p (safe_of r) es h) l,
    )

all_above : (at limit : ℕ) (es : List Event) → limit ≤ at → filter (λ e. nat_lt limit e) (entry_ends at es) ≡ entry_ends at es
all_above at limit [] h = refl
all_above at limit (e ∷ es) h =
    cond-true (nat_lt limit (at + size_of e)) ((at + size_of e) ∷ filter (λ x. nat_lt limit x) (entry_ends (at + size_of e) es)) (filter (λ x. nat_lt limit x) (entry_ends (at + size_of e) es)) (lt-ltb limit (at + size_of e) (omega (arith, h, size_some e)))
    ∙ ap (λ (t : List ℕ). (at + size_of e) ∷ t) (all_above (at + size_of e) limit es (omega (arith, h)))

-- the ends above the place of one of the events are those of the events behind it
pub ends_left : (at : ℕ) (es : List Event) (k : ℕ) → k ≤ length es → filter (λ e. nat_lt (ends at (take k es)) e) (entry_ends at es) ≡ entry_ends (ends at (take k es)) (drop k es)
ends_left at es zero h = all_above at at es (omega arith)
ends_left at [] (suc k) h = refl
ends_left at (e ∷ es) (suc k) h =
    let limit = ends (at + size_of e) (take k es) in
    cond-false (nat_lt limit (at + size_of e)) ((at + size_of e) ∷ filter (λ x. nat_lt limit x) (entry_ends (at + size_of e) es)) (filter (λ x. nat_lt limit x) (entry_ends (at + size_of e) es)) (le-ltb limit (at + size_of e) (omega (arith, ends_from (take k es) (at + size_of e))))
    ∙ ends_left (at + size_of e) es k (omega arith)

-- one entry more ends behind them
pub ends_more : (at : ℕ) (es : List Event) (e : Event) → entry_ends at (es ++ e ∷ []) ≡ entry_ends at es ++ (ends at es + size_of e) ∷ []
ends_more at [] e = refl
ends_more at (x ∷ es) e = ap (λ (t : List ℕ). (at + size_of x) ∷ t) (ends_more (at + size_of x) es e)

-- ---- an object is removed

-- what stands in an object of a set that lies wholly below a position stands below it
pub may_remove : (r : Rank) (s : StoreState) (index live : ℕ) → Serves r s → 1 ≤ index → live ≤ base_of r → (index / r.journal.layout.sc + 1) * period r.journal.layout ≤ live → MayRemove r index
may_remove r s index live sv one low h = record {
  no_header = one;
  below = λ x at.
      let l = r.journal.layout in
      let pl = placing l sv.journalled.layout in
      let z = sizes l sv.journalled.layout in
      let set : index / l.sc ≡ x / period l = ap (λ i. i / l.sc) (sym at) ∙ pl.set x in
      omega (arith, h, low, div-add-mod' x (period l), mod_below x (period l) (omega (arith, z.period_least)), ap (λ q. q * period l) set);
}

-- ---- a header is sent

-- one with the expire of one that may stand, as a mount sends it
pub bounded_again : (j : Journalled) (count : ℕ) (h k : Header) → IsBounded j count h → IsHeader k → k.layout ≡ h.layout → k.format ≡ h.format → k.expire ≡ h.expire → k.write ≤ place_of j count → IsBounded j count k
bounded_again j count h k b sound layout format expire write = record {
  sound = sound;
  layout = layout ∙ b.layout;
  format = format ∙ b.format;
  first = b.first;
  starts = expire ∙ b.starts;
  live = b.live;
  begins = b.begins;
  write = write;
}
