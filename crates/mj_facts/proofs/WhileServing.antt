-- What a serving rank keeps, through each event.
use Rattle.std.proofs.Common.{◌≡◌, ◌≢◌, inl, inr, ℕ, ◌+◌, ◌-◌, ◌<◌, ◌≤◌, true, Option, Some, List, [], ◌∷◌, ◌++◌, length, drop, refl, sym, ◌∙◌, ap, subst, arith, length-append, None}
use Rattle.std.proofs.lemmas.Bool.{cases_lt}
use Rattle.mj_base.specs.declared.object.ObjectName.{ObjectName}
use Rattle.mj_store.specs.declared.act.ObjectAct.TheVariants.{Write}
use Rattle.mj_store.specs.declared.act.ObjectOp.{ObjectOp}
use Rattle.mj_store.specs.declared.answer.Ack.{Ack}
use Rattle.mj_store.specs.Object.{Content, Contents, applied}
use Rattle.mj_store.specs.State.{StoreState, Pending, IsImage, submitted, tried, failed, reported}
use Rattle.mj_store.specs.Causes.{In}
use Rattle.mj_store.specs.Along.{HasOp}
use Rattle.mj_store.specs.Moves.{fronts_applied}
use Rattle.mj_store.proofs.Always.{always_image, always_map, always_submitted}
use Rattle.mj_store.proofs.Numbers.{append_has, append_last, in_append, numbers_submitted, reported_done}
use Rattle.mj_layout.specs.Striping.{period}
use Rattle.mj_layout.specs.Place.{object_of, offset_of}
use Rattle.mj_layout.specs.Header.{header_bytes}
use Rattle.mj_layout.specs.declared.Header.{Header}
use Rattle.mj_layout.proofs.Striped.{sizes}
use Rattle.mj_layout.proofs.Placed.{placing, in_one_unit}
use Rattle.mj_event.specs.declared.Event.{Event}
use Rattle.mj_recovery.specs.Stream.{journal_object, byte_at}
use Rattle.mj_facts.specs.Elsewhere.{IsElsewhere}
use Rattle.mj_facts.specs.Journalled.{Journalled, Begins, place_of, end_of, grown}
use Rattle.mj_facts.specs.Headers.{HeadSent, may_stand, HeaderStands, IsBounded, HeadersBounded}
use Rattle.mj_facts.specs.Ranks.{Sent, Rank, safe_of, base_of}
use Rattle.mj_facts.specs.Serves.{Waits, Carries, StreamStands, Serves}
use Rattle.mj_facts.specs.Rests.{RestsWith}
use Rattle.mj_facts.specs.Calls.{appended, MayAppend, write_op, flushed_to, MayWrite, made_safe, MayMakeSafe, header_op, with_head, MaySendHeader, IsSettled, rank_headed, rank_settled, remove_op, MayRemove}
use Rattle.mj_facts.proofs.Bytes.{in_written_below, in_written_in, in_written_past}
use Rattle.mj_facts.proofs.Entries.{ends_from, ends_append, ends_kept, place_rises, place_above, place_last, begins_more}
use Rattle.mj_facts.proofs.Heads.{stands_in, may_more, may_settled, climbs_low, climbs_more, climbs_settled, header_stands_early, header_stands_last, header_stands_settled}
use Rattle.mj_facts.proofs.Recovers.{byte_there, shows_rests}
use Rattle.mj_facts.proofs.Always.{Holding, holding_tried, holding_failed, holding_reported, holding_fronts}

-- a journal's objects are told apart by their indexes
pub same_index : (rank m n : ℕ) → journal_object rank m ≡ journal_object rank n → m ≡ n
same_index rank m n e = cc

-- ---- what a header that may stand has to do with the rank

bounded_of : (r : Rank) (s : StoreState) (h : Header) → Serves r s → In h (may_stand r.stood r.heads) → IsBounded r.journal r.count h
bounded_of r s h sv i = sv.headers_bounded.each h i

-- the base is the place of an event that is safe
pub base_low : (r : Rank) (s : StoreState) → Serves r s → base_of r ≤ safe_of r
base_low r s sv =
    let b = bounded_of r s r.stood sv (inl refl) in
    omega (arith, b.starts, place_rises r.journal b.first r.count b.live)

pub base_high : (r : Rank) (s : StoreState) → Serves r s → period r.journal.layout ≤ base_of r
base_high r s sv =
    let b = bounded_of r s r.stood sv (inl refl) in
    omega (arith, b.starts, place_above r.journal b.first, sv.journalled.aligned)

-- ---- what a stop leaves

pub serves_rests : (r : Rank) (s : StoreState) (image : Contents) → Serves r s → IsImage s image → RestsWith r.journal r.count (may_stand r.stood r.heads) image
serves_rests r s image sv im =
    let j = r.journal in
    let pl = placing j.layout sv.journalled.layout in
    let at : (name : ObjectName) → (rest : List Pending) × StreamStands r name (image name) rest = always_image (StreamStands r) s image sv.stream_stands im in
    let h : HeaderStands r.stood r.heads (image (journal_object j.rank 0)) (at (journal_object j.rank 0)).0 = (at (journal_object j.rank 0)).1.head refl in
    let standing = stands_in r.stood r.heads (at (journal_object j.rank 0)).0 h.header h.stands in
    let low = base_low r s sv in
    let high = base_high r s sv in
    let piece : (x : ℕ) → base_of r ≤ x → Carries r (object_of j.layout x) (image (journal_object j.rank (object_of j.layout x))) (at (journal_object j.rank (object_of j.layout x))).0 =
    λ x lo. (at (journal_object j.rank (object_of j.layout x))).1.carries (object_of j.layout x) refl (pl.first x (omega (arith, lo, high))) in
    shows_rests j (base_of r) r.count r.flushed (may_stand r.stood r.heads) image h.header sv.journalled
    (record {
      has = λ x lo hi. byte_there image j.rank j.layout x ∙ elim ((piece x lo).each x refl lo (omega (arith, hi, sv.covers))) [
        | inl there ↦ there
        | inr gap ↦ absurd (omega (arith, hi, gap.1.from, sv.in_flight_known.outstanding gap.1.write gap.1.is_sent))
      ];
      may = λ x lo hi. elim ((piece x lo).each x refl lo hi) [ inl there ↦ inr (byte_there image j.rank j.layout x ∙ there) | inr gap ↦ inl (byte_there image j.rank j.layout x ∙ gap.0) ];
      none = λ x hi. byte_there image j.rank j.layout x ∙ (piece x (omega (arith, hi, low, sv.covers))).above x refl hi;
    })
    standing h.is (bounded_of r s h.header sv standing) (climbs_low r.stood r.heads h.header sv.headers_bounded.climbs standing) sv.within sv.covers sv.flushed sv.within_window

-- no image has a byte above what was sent
pub serves_above : (r : Rank) (s : StoreState) (image : Contents) → Serves r s → IsImage s image → (x : ℕ) → r.flushed ≤ x → byte_at image r.journal.rank r.journal.layout x ≡ None
serves_above r s image sv im x hi =
    let l = r.journal.layout in
    let at = always_image (StreamStands r) s image sv.stream_stands im (journal_object r.journal.rank (object_of l x)) in
    let one = (placing l sv.journalled.layout).first x (omega (arith, hi, base_low r s sv, base_high r s sv, sv.covers)) in
    byte_there image r.journal.rank l x ∙ (at.1.carries (object_of l x) refl one).above x refl hi

-- ---- what the store does by itself

-- the same facts of another state of the store
pub moved : (r : Rank) (s t : StoreState) → Serves r s → Holding (StreamStands r) t → Serves r t
moved r s t sv h = record {
  journalled = sv.journalled;
  stream_stands = h.moments;
  within_window = sv.within_window;
  headers_bounded = sv.headers_bounded;
  in_flight_known = record { numbers = h.numbers; outstanding = sv.in_flight_known.outstanding };
  within = sv.within;
  covers = sv.covers;
  flushed = sv.flushed;
}

holding : (r : Rank) (s : StoreState) → Serves r s → Holding (StreamStands r) s
holding r s sv = record { moments = sv.stream_stands; numbers = sv.in_flight_known.numbers }

pub serves_tried : (r : Rank) (s : StoreState) (name : ObjectName) → Serves r s → Serves r (tried name s)
serves_tried r s name sv = moved r s (tried name s) sv (holding_tried (StreamStands r) s name (holding r s sv))

pub serves_failed : (r : Rank) (s : StoreState) (name : ObjectName) → Serves r s → Serves r (failed name s)
serves_failed r s name sv = moved r s (failed name s) sv (holding_failed (StreamStands r) s name (holding r s sv))

pub serves_reported : (r : Rank) (s : StoreState) → Serves r s → Serves r (reported s)
serves_reported r s sv = moved r s (reported s) sv (holding_reported (StreamStands r) s (holding r s sv))

pub serves_fronts : (r : Rank) (names : List ObjectName) (s : StoreState) → Serves r s → Serves r (fronts_applied names s)
serves_fronts r names s sv = moved r s (fronts_applied names s) sv (holding_fronts (StreamStands r) names s (holding r s sv))

-- what is reported as done is pending nowhere
pub serves_done : (r : Rank) (s : StoreState) (a : Ack) → Serves r s → s.completed ≡ a ∷ drop 1 s.completed → a.done ≡ true → (name : ObjectName) → HasOp a.op (s.objects name).pending → ⊥
serves_done r s a sv e d name h = reported_done s a e sv.in_flight_known.numbers d name h

-- ---- an operation elsewhere

pub serves_elsewhere : (r : Rank) (s : StoreState) (op : ObjectOp) (number : ℕ) → Serves r s → s.next ≤ number → IsElsewhere r.journal.rank op.name → Serves r (submitted op number s)
serves_elsewhere r s op number sv new other = moved r s (submitted op number s) sv (record {
  moments = always_submitted (StreamStands r) (StreamStands r) s op number (λ k ne h rest sub mo. mo)
      (λ h rest sub mo. record { head = λ e. absurd (other 0 e); carries = λ index e one. absurd (other index e) })
      (λ h mo. record { head = λ e. absurd (other 0 e); carries = λ index e one. absurd (other index e) }) sv.stream_stands;
  numbers = numbers_submitted s op number new sv.in_flight_known.numbers;
})

-- ---- a write is sent

pub waits_of : (sent sent' : List Sent) (x : ℕ) (rest : List Pending) (h : Waits sent x rest) → In h.write sent' → Waits sent' x rest
waits_of sent sent' x rest h i = record { write = h.write; is_sent = i; from = h.from; to = h.to; pending = h.pending }

pub in_before : {A : Type 0} (x : A) (xs ys : List A) → In x xs → In x (xs ++ ys)
in_before x [] ys i = absurd i
in_before x (z ∷ zs) ys (inl e) = inl e
in_before x (z ∷ zs) ys (inr i) = inr (in_before x zs ys i)

pub in_last : {A : Type 0} (x : A) (xs : List A) → In x (xs ++ x ∷ [])
in_last x [] = inl refl
in_last x (z ∷ zs) = inr (in_last x zs)

waits_longer : (sent : List Sent) (w : Sent) (x : ℕ) (rest : List Pending) → Waits sent x rest → Waits (sent ++ w ∷ []) x rest
waits_longer sent w x rest h = waits_of sent (sent ++ w ∷ []) x rest h (in_before h.write sent (w ∷ []) h.is_sent)

waits_more : (sent : List Sent) (w : Sent) (x : ℕ) (rest : List Pending) (q : Pending) → Waits sent x rest → Waits (sent ++ w ∷ []) x (rest ++ q ∷ [])
waits_more sent w x rest q h = record { write = h.write; is_sent = in_before h.write sent (w ∷ []) h.is_sent; from = h.from; to = h.to; pending = append_has h.write.op rest (q ∷ []) h.pending }

plus : (x y : ℕ) → x ≤ y → x + (y - x) ≡ y
plus x y h = omega arith

-- A position of a write: it stands in the write's object, at its own place in the write's bytes.
written_at : (r : Rank) (s : StoreState) (to : ℕ) (bytes : List ℕ) → Serves r s → MayWrite r to bytes → (x : ℕ) → r.flushed ≤ x → x < to
    → (object_of r.journal.layout x ≡ object_of r.journal.layout r.flushed) × (offset_of r.journal.layout x ≡ offset_of r.journal.layout r.flushed + (x - r.flushed))
written_at r s to bytes sv may x lo hi =
    let l = r.journal.layout in
    let far = in_one_unit l (sizes l sv.journalled.layout) r.flushed (to - r.flushed - 1) (omega (arith, may.unit, may.more)) in
    let p = (placing l sv.journalled.layout).run r.flushed (x - r.flushed) (to - r.flushed - 1) (omega (arith, lo, hi)) far in
    (sym (ap (object_of l) (plus r.flushed x lo)) ∙ p.0, sym (ap (offset_of l) (plus r.flushed x lo)) ∙ p.1)

pub serves_wrote : (r : Rank) (s : StoreState) (op to : ℕ) (bytes : List ℕ) → Serves r s → s.next ≤ op → MayWrite r to bytes → Serves (flushed_to op to r) (submitted (write_op r bytes) op s)
serves_wrote r s op to bytes sv new may = record {
  journalled = sv.journalled;
  stream_stands = always_submitted (StreamStands r) (StreamStands r') s (write_op r bytes) op others early last sv.stream_stands;
  within_window = may.window;
  headers_bounded = sv.headers_bounded;
  in_flight_known = record {
    numbers = numbers_submitted s (write_op r bytes) op new sv.in_flight_known.numbers;
    outstanding = λ w i. elim (in_append w r.sent (sent ∷ []) i) [
      | inl was ↦ sv.in_flight_known.outstanding w was
      | inr j ↦ elim j [ inl e ↦ subst (λ (v : Sent). safe_of r ≤ v.from) e sv.covers | inr never ↦ absurd never ]
    ];
  };
  within = sv.within;
  covers = omega (arith, sv.covers, may.more);
  flushed = may.entries;
}
  where
    r' : Rank
    r' = flushed_to op to r

    sent : Sent
    sent = record { op = op; from = r.flushed; to = to }

    index : ℕ
    index = object_of r.journal.layout r.flushed

    q : Pending
    q = record { op = op; act = Write (offset_of r.journal.layout r.flushed) bytes }

    one : 1 ≤ index
    one = (placing r.journal.layout sv.journalled.layout).first r.flushed (omega (arith, base_low r s sv, base_high r s sv, sv.covers))

    here : (x : ℕ) → r.flushed ≤ x → x < to → (object_of r.journal.layout x ≡ index) × (offset_of r.journal.layout x ≡ offset_of r.journal.layout r.flushed + (x - r.flushed))
    here = written_at r s to bytes sv may

    rising : (x y : ℕ) → object_of r.journal.layout x ≡ object_of r.journal.layout y → x < y → offset_of r.journal.layout x < offset_of r.journal.layout y
    rising = (placing r.journal.layout sv.journalled.layout).rising

    -- of this object
    no_head : journal_object r.journal.rank index ≡ journal_object r.journal.rank 0 → ⊥
    no_head e = absurd (omega (arith, one, same_index r.journal.rank index 0 e))

    others : (k : ObjectName) → k ≢ journal_object r.journal.rank index → (h : Option Content) (rest : List Pending) → ((o : ℕ) → HasOp o rest → HasOp o (s.objects k).pending) → StreamStands r k h rest → StreamStands r' k h rest
    others k ne h rest sub mo = record {
      head = mo.head;
      carries = λ n is o. record {
        each = λ x at lo hi. elim (cases_lt x r.flushed) [
          | inl less ↦ elim ((mo.carries n is o).each x at lo less) [ inl a ↦ inl a | inr w ↦ inr (w.0, waits_longer r.sent sent x rest w.1) ]
          | inr past ↦ absurd (ne (is ∙ ap (journal_object r.journal.rank) (sym at ∙ (here x past hi).0)))
        ];
        above = λ x at hi. (mo.carries n is o).above x at (omega (arith, hi, may.more));
      };
    }

    early : (h : Option Content) (rest : List Pending) → ((o : ℕ) → HasOp o rest → HasOp o (s.objects (journal_object r.journal.rank index)).pending)
        → StreamStands r (journal_object r.journal.rank index) h rest → StreamStands r' (journal_object r.journal.rank index) h (rest ++ q ∷ [])
    early h rest sub mo = record {
      head = λ e. absurd (no_head e);
      carries = λ n is o. record {
        each = λ x at lo hi. elim (cases_lt x r.flushed) [
          | inl less ↦ elim ((mo.carries n is o).each x at lo less) [ inl a ↦ inl a | inr w ↦ inr (w.0, waits_more r.sent sent x rest q w.1) ]
          | inr past ↦ inr ((mo.carries n is o).above x at past, record { write = sent; is_sent = in_last sent r.sent; from = past; to = hi; pending = append_last rest q })
        ];
        above = λ x at hi. (mo.carries n is o).above x at (omega (arith, hi, may.more));
      };
    }

    last : (h : Option Content) → StreamStands r (journal_object r.journal.rank index) h [] → StreamStands r' (journal_object r.journal.rank index) (applied (Write (offset_of r.journal.layout r.flushed) bytes) h) []
    last h mo = record {
      head = λ e. absurd (no_head e);
      carries = λ n is o. let in_it : (x : ℕ) → object_of r.journal.layout x ≡ n → object_of r.journal.layout x ≡ index = λ x at. at ∙ sym (same_index r.journal.rank index n is) in record {
        each = λ x at lo hi. elim (cases_lt x r.flushed) [
          | inl less ↦ elim ((mo.carries n is o).each x at lo less) [
            | inl a ↦ inl (in_written_below (offset_of r.journal.layout r.flushed) bytes h (offset_of r.journal.layout x) (r.journal.want x) (rising x r.flushed (in_it x at) less) a)
            | inr w ↦ absurd w.1.pending
          ]
          | inr past ↦ inl (in_written_in (offset_of r.journal.layout r.flushed) bytes h (offset_of r.journal.layout x) (x - r.flushed) (here x past hi).1 (omega (arith, past, hi, may.long))
              ∙ (may.wants (x - r.flushed) (omega (arith, past, hi, may.long)) ∙ ap (λ y. Some (r.journal.want y)) (plus r.flushed x past)))
        ];
        above = λ x at hi.
            let final = here (to - 1) (omega (arith, may.more)) (omega (arith, may.more)) in
            in_written_past (offset_of r.journal.layout r.flushed) bytes h (offset_of r.journal.layout x) (omega (arith, may.long, may.more, final.1, rising (to - 1) x (final.0 ∙ sym (in_it x at)) (omega (arith, hi, may.more))))
            ∙ (mo.carries n is o).above x at (omega (arith, hi, may.more));
      };
    }

-- ---- a write is acknowledged

bounded_later : (j : Journalled) (count count' : ℕ) (h : Header) → count ≤ count' → IsBounded j count h → IsBounded j count' h
bounded_later j count count' h up b = record {
  sound = b.sound;
  layout = b.layout;
  format = b.format;
  first = b.first;
  starts = b.starts;
  live = omega (arith, b.live, up);
  begins = b.begins;
  write = omega (arith, b.write, place_rises j count count' up);
}

pub serves_made_safe : (r : Rank) (s : StoreState) (op count : ℕ) (sent : List Sent) → Serves r s → ((name : ObjectName) → HasOp op (s.objects name).pending → ⊥) → MayMakeSafe r op count sent → Serves (made_safe count sent r) s
serves_made_safe r s op count sent sv done may = record {
  journalled = sv.journalled;
  stream_stands = always_map (StreamStands r) (StreamStands (made_safe count sent r)) s (λ name h rest sub mo. record {
    head = mo.head;
    carries = λ n is o. record {
      each = λ x at lo hi. elim ((mo.carries n is o).each x at lo hi) [
        | inl there ↦ inl there
        | inr w ↦ elim (may.out w.1.write w.1.is_sent) [
          | inl i ↦ inr (w.0, waits_of r.sent sent x rest w.1 i)
          | inr e ↦ absurd (done name (sub op (subst (λ o. HasOp o rest) e w.1.pending)))
        ]
      ];
      above = (mo.carries n is o).above;
    };
  }) sv.stream_stands;
  within_window = omega (arith, sv.within_window, place_rises r.journal r.count count may.rises);
  headers_bounded = record { each = λ h i. bounded_later r.journal r.count count h may.rises (sv.headers_bounded.each h i); climbs = sv.headers_bounded.climbs };
  in_flight_known = record { numbers = sv.in_flight_known.numbers; outstanding = may.outstanding };
  within = may.within;
  covers = may.covers;
  flushed = sv.flushed;
}

-- ---- headers

-- one more may stand
pub bounded_more : (j : Journalled) (count : ℕ) (stood : Header) (heads : List HeadSent) (op : ℕ) (h : Header) → MaySendHeader j count stood heads h → HeadersBounded j count stood heads → HeadersBounded j count stood (with_head op h heads)
bounded_more j count stood heads op h may b = record {
  each = λ k i. elim (may_more stood heads (record { op = op; header = h }) k i) [ inl was ↦ b.each k was | inr e ↦ subst (IsBounded j count) e may.bounded ];
  climbs = climbs_more stood heads (record { op = op; header = h }) may.rises b.climbs;
}

-- one is known to be applied
pub bounded_settled : (j : Journalled) (count op : ℕ) (stood : Header) (heads : List HeadSent) (stood' : Header) (after : List HeadSent) → IsSettled op heads stood' after → HeadersBounded j count stood heads → HeadersBounded j count stood' after
bounded_settled j count op stood heads stood' after k b =
    let w : HeadersBounded j count stood (k.before ++ k.head ∷ after) = subst (HeadersBounded j count stood) k.parts b in
    let same : HeadersBounded j count k.head.header after = record { each = λ h i. w.each h (may_settled stood k.before k.head after h i); climbs = climbs_settled stood k.before k.head after w.climbs } in
    subst (λ x. HeadersBounded j count x after) k.header same

pub stands_after : (op : ℕ) (stood : Header) (heads : List HeadSent) (stood' : Header) (after : List HeadSent) (held : Option Content) (rest : List Pending) → IsSettled op heads stood' after → (HasOp op rest → ⊥) → HeaderStands stood heads held rest → HeaderStands stood' after held rest
stands_after op stood heads stood' after held rest k gone h =
    subst (λ x. HeaderStands x after held rest) k.header
    (header_stands_settled stood k.before k.head after held rest (λ p. gone (subst (λ o. HasOp o rest) k.number p)) (subst (λ hs. HeaderStands stood hs held rest) k.parts h))

-- the new base is no lower
pub settled_rises : (op : ℕ) (stood : Header) (heads : List HeadSent) (stood' : Header) (after : List HeadSent) (j : Journalled) (count : ℕ) → IsSettled op heads stood' after → HeadersBounded j count stood heads → stood.expire ≤ stood'.expire
settled_rises op stood heads stood' after j count k b =
    climbs_low stood heads stood' b.climbs (subst (λ hs. In stood' (may_stand stood hs)) (sym k.parts) (subst (λ x. In x (may_stand stood (k.before ++ k.head ∷ after))) k.header (may_settled stood k.before k.head after k.head.header (inl refl))))

pub serves_headed : (r : Rank) (s : StoreState) (op : ℕ) (h : Header) → Serves r s → s.next ≤ op → MaySendHeader r.journal r.count r.stood r.heads h → Serves (rank_headed op h r) (submitted (header_op r.journal.rank h) op s)
serves_headed r s op h sv new may = record {
  journalled = sv.journalled;
  stream_stands = always_submitted (StreamStands r) (StreamStands (rank_headed op h r)) s (header_op r.journal.rank h) op
      (λ k ne held rest sub mo. record { head = λ e. absurd (ne e); carries = λ n is o. record { each = (mo.carries n is o).each; above = (mo.carries n is o).above } })
      (λ held rest sub mo. record {
        head = λ e. header_stands_early r.stood r.heads op h held rest (record { op = op; act = Write 0 (header_bytes h) }) refl (mo.head e);
        carries = λ n is o. absurd (omega (arith, o, same_index r.journal.rank 0 n is));
      })
      (λ held mo. record {
        head = λ e. header_stands_last r.stood r.heads op h held (mo.head e);
        carries = λ n is o. absurd (omega (arith, o, same_index r.journal.rank 0 n is));
      }) sv.stream_stands;
  within_window = sv.within_window;
  headers_bounded = bounded_more r.journal r.count r.stood r.heads op h may sv.headers_bounded;
  in_flight_known = record { numbers = numbers_submitted s (header_op r.journal.rank h) op new sv.in_flight_known.numbers; outstanding = sv.in_flight_known.outstanding };
  within = sv.within;
  covers = sv.covers;
  flushed = sv.flushed;
}

-- a header that is done: none before it can stand, and what lies below its expire counts no more
pub serves_settled : (r : Rank) (s : StoreState) (op : ℕ) (stood : Header) (after : List HeadSent) → Serves r s → ((name : ObjectName) → HasOp op (s.objects name).pending → ⊥) → IsSettled op r.heads stood after → Serves (rank_settled stood after r) s
serves_settled r s op stood after sv done k =
    let up = settled_rises op r.stood r.heads stood after r.journal r.count k sv.headers_bounded in record {
      journalled = sv.journalled;
      stream_stands = always_map (StreamStands r) (StreamStands (rank_settled stood after r)) s (λ name h rest sub mo. record {
        head = λ e. stands_after op r.stood r.heads stood after h rest k (λ p. done name (sub op p)) (mo.head e);
        carries = λ n is o. record { each = λ x at lo hi. (mo.carries n is o).each x at (omega (arith, lo, up)) hi; above = (mo.carries n is o).above };
      }) sv.stream_stands;
      within_window = sv.within_window;
      headers_bounded = bounded_settled r.journal r.count op r.stood r.heads stood after k sv.headers_bounded;
      in_flight_known = record { numbers = sv.in_flight_known.numbers; outstanding = sv.in_flight_known.outstanding };
      within = sv.within;
      covers = sv.covers;
      flushed = sv.flushed;
    }

-- ---- an object below the stream is removed

pub serves_removed : (r : Rank) (s : StoreState) (op index : ℕ) → Serves r s → s.next ≤ op → MayRemove r index → Serves r (submitted (remove_op r.journal.rank index) op s)
serves_removed r s op index sv new may = moved r s (submitted (remove_op r.journal.rank index) op s) sv (record {
  moments = always_submitted (StreamStands r) (StreamStands r) s (remove_op r.journal.rank index) op (λ k ne h rest sub mo. mo)
      (λ h rest sub mo. record {
        head = λ e. absurd (omega (arith, may.no_header, same_index r.journal.rank index 0 e));
        carries = λ n is o. record { each = λ x at lo hi. absurd (omega (arith, may.below x (at ∙ sym (same_index r.journal.rank index n is)), lo)); above = (mo.carries n is o).above };
      })
      (λ h mo. record {
        head = λ e. absurd (omega (arith, may.no_header, same_index r.journal.rank index 0 e));
        carries = λ n is o. record { each = λ x at lo hi. absurd (omega (arith, may.below x (at ∙ sym (same_index r.journal.rank index n is)), lo)); above = λ x at hi. refl };
      }) sv.stream_stands;
  numbers = numbers_submitted s (remove_op r.journal.rank index) op new sv.in_flight_known.numbers;
})

-- ---- events are appended

bounded_grown : (j : Journalled) (count : ℕ) (more : List Event) (want : ℕ → ℕ) (h : Header) → count ≤ length j.events → (h.expire ≡ end_of j → Begins more) → IsBounded j count h → IsBounded (grown more want j) count h
bounded_grown j count more want h within begins b = record {
  sound = b.sound;
  layout = b.layout;
  format = b.format;
  first = b.first;
  starts = b.starts ∙ sym (ends_kept j.start j.events more b.first (omega (arith, b.live, within)));
  live = b.live;
  begins = begins_more b.first j.events more b.begins (omega (arith, b.live, within)) (λ all. begins (b.starts ∙ place_last j b.first all));
  write = omega (arith, b.write, ends_kept j.start j.events more count within);
}

-- what was sent of the stream stays as it is
pub serves_appended : (r : Rank) (s : StoreState) (more : List Event) (want : ℕ → ℕ) → Serves r s → MayAppend r more want → Serves (appended more want r) s
serves_appended r s more want sv may =
    let j = r.journal in
    let kept : place_of (grown more want j) r.count ≡ place_of j r.count = ends_kept j.start j.events more r.count sv.within in record {
      journalled = may.journalled;
      stream_stands = always_map (StreamStands r) (StreamStands (appended more want r)) s (λ name h rest sub mo. record {
        head = mo.head;
        carries = λ n is o. record {
          each = λ x at lo hi. elim ((mo.carries n is o).each x at lo hi) [ inl a ↦ inl (a ∙ ap (λ y. Some y) (sym (may.same x hi))) | inr w ↦ inr w ];
          above = (mo.carries n is o).above;
        };
      }) sv.stream_stands;
      within_window = omega (arith, sv.within_window, kept);
      headers_bounded = record { each = λ h i. bounded_grown j r.count more want h sv.within (may.begins h i) (sv.headers_bounded.each h i); climbs = sv.headers_bounded.climbs };
      in_flight_known = record { numbers = sv.in_flight_known.numbers; outstanding = λ w i. omega (arith, sv.in_flight_known.outstanding w i, kept) };
      within = omega (arith, sv.within, length-append j.events more);
      covers = omega (arith, sv.covers, kept);
      flushed = omega (arith, sv.flushed, ends_append j.start j.events more, ends_from more (end_of j));
    }
