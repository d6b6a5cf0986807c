-- What a mount keeps, from a stop until the rank serves.
use Rattle.std.proofs.Common.{◌≡◌, ◌⊎◌, inl, inr, ℕ, ◌-◌, ◌^◌, ◌≤◌, true, min, None, List, [], ◌∷◌, length, take, drop, refl, sym, ◌∙◌, ap, subst, arith, Option, ◌<◌, ◌+◌, Some}
use Rattle.std.proofs.lemmas.Bool.{cases_lt, cases_eq}
use Rattle.std.proofs.lemmas.Nat.{div_below}
use Rattle.std.proofs.lemmas.Option.{slice_get_past}
use Rattle.std.proofs.lemmas.List.{take-take, length-take-le}
use Rattle.mj_base.specs.declared.object.ObjectName.{ObjectName}
use Rattle.mj_store.specs.declared.act.ObjectAct.TheVariants.{Write, Truncate}
use Rattle.mj_store.specs.declared.act.ObjectOp.{ObjectOp}
use Rattle.mj_store.specs.declared.answer.Ack.{Ack}
use Rattle.mj_store.specs.Object.{Contents, Content}
use Rattle.mj_store.specs.State.{StoreState, Pending, IsImage, submitted, tried, failed, reported, at_rest}
use Rattle.mj_store.specs.Causes.{In}
use Rattle.mj_store.specs.Along.{Along, Always, HasOp}
use Rattle.mj_store.specs.Moves.{fronts_applied}
use Rattle.mj_store.proofs.Names.{cases_name}
use Rattle.mj_store.proofs.Always.{along_map, always_now, always_image, always_map, always_submitted, always_rest}
use Rattle.mj_store.proofs.Numbers.{append_last, numbers_submitted, numbers_rest, reported_done}
use Rattle.mj_layout.specs.Striping.{IsStriping, period}
use Rattle.mj_layout.specs.Place.{object_of, offset_of}
use Rattle.mj_layout.specs.Placing.{window_end, set_of}
use Rattle.mj_layout.specs.Cutting.{IsCut}
use Rattle.mj_layout.specs.Header.{header_bytes}
use Rattle.mj_layout.specs.declared.Header.{Header}
use Rattle.mj_layout.proofs.Striped.{sizes}
use Rattle.mj_layout.proofs.Placed.{placing, div_rises}
use Rattle.mj_entry.specs.Entry.{entry_at}
use Rattle.mj_entry.specs.Entry.EntryCase.{Part}
use Rattle.mj_recovery.specs.Orderly.{window_end as reach}
use Rattle.mj_recovery.specs.Stream.{journal_object, byte_in, byte_at, stream}
use Rattle.mj_facts.specs.Elsewhere.{IsElsewhere}
use Rattle.mj_facts.specs.Journalled.{Journalled, IsJournalled, ends, place_of, taken}
use Rattle.mj_facts.specs.Headers.{HeadSent, may_stand, HeaderStands, HoldsJust, IsBounded}
use Rattle.mj_facts.specs.Ranks.{Cutting, Mount, tail_of}
use Rattle.mj_facts.specs.Serves.{StreamStands, Serves}
use Rattle.mj_facts.specs.Rests.{Rests, RestsWith}
use Rattle.mj_facts.specs.Mounts.{left_at, Keeps, MountStands, Mounts, MountInOrder, begun, serving}
use Rattle.mj_facts.specs.Calls.{header_op, MaySendHeader, IsSettled, mount_headed, mount_settled, cut_op, cutting, cut_done, held_size, IsShort, passed, IsNear}
use Rattle.mj_facts.proofs.Bytes.{in_cut_below, in_cut_above}
use Rattle.mj_facts.proofs.Scans.{scan_less, stream_scan, take_min_take}
use Rattle.mj_facts.proofs.Entries.{carried_take, wants_take, place_rises, place_above, place_below, begins_taken}
use Rattle.mj_facts.proofs.Heads.{stands_in, climbs_low, header_stands_early, header_stands_last}
use Rattle.mj_facts.proofs.Recovers.{byte_there}
use Rattle.mj_facts.proofs.Always.{Holding, holding_tried, holding_failed, holding_reported, holding_fronts}
use Rattle.mj_facts.proofs.WhileServing.{same_index, in_before, in_last, bounded_more, bounded_settled, stands_after, settled_rises}

-- ---- what was recovered is all that goes on

pub place_taken : (j : Journalled) (count i : ℕ) → i ≤ count → place_of (taken count j) i ≡ place_of j i
place_taken j count i h = ap (ends j.start) (take-take i count j.events h)

pub journalled_taken : (j : Journalled) (count : ℕ) → IsJournalled j → IsJournalled (taken count j)
journalled_taken j count ok = record {
  layout = ok.layout;
  aligned = ok.aligned;
  carried = carried_take count j.events ok.carried;
  wants = wants_take j.want j.start j.events count ok.wants;
  below = omega (arith, ok.below, place_below j count);
}

bounded_taken : (j : Journalled) (count n : ℕ) (h : Header) → n ≡ count → IsBounded j count h → IsBounded (taken count j) n h
bounded_taken j count n h same b = record {
  sound = b.sound;
  layout = b.layout;
  format = b.format;
  first = b.first;
  starts = b.starts ∙ sym (place_taken j count b.first b.live);
  live = omega (arith, b.live, same);
  begins = begins_taken b.first count j.events b.begins;
  write = omega (arith, b.write, ap (place_of (taken count j)) same, place_taken j count count (omega arith));
}

-- where contents rest with some of the events, they rest with all of these
pub rests_taken : (j : Journalled) (count : ℕ) (image : Contents) → Rests j count image → Rests (taken count j) (length (taken count j).events) image
rests_taken j count image r =
    let n : length (take count j.events) ≡ count = length-take-le count j.events r.within in
    let same : place_of (taken count j) (length (take count j.events)) ≡ place_of j count = ap (place_of (taken count j)) n ∙ place_taken j count count (omega arith) in
    record {
      header = r.header;
      stands = r.stands;
      bounded = bounded_taken j count (length (take count j.events)) r.header n r.bounded;
      within = omega arith;
      has = λ x lo hi. r.has x lo (omega (arith, hi, same));
      part = subst (λ at. (k : ℕ) → entry_at (take k (stream image j.rank j.layout at)) at ≡ Part) (sym same) r.part;
      clear = subst (λ at. (x : ℕ) → window_end j.layout at ≤ x → byte_at image j.rank j.layout x ≡ None) (sym same) r.clear;
    }

pub taken_header : (j : Journalled) (count : ℕ) (image : Contents) (r : Rests j count image) → (rests_taken j count image r).header ≡ r.header
unfolding rests_taken
taken_header j count image r = refl

-- ---- a mount begins

object_is : (image : Contents) (rank index : ℕ) (name : ObjectName) (offset : ℕ) → name ≡ journal_object rank index → byte_in offset (image name) ≡ byte_in offset (image (journal_object rank index))
object_is image rank index name offset e = ap (λ n. byte_in offset (image n)) e

pub mount_begins : (j : Journalled) (image : Contents) (s : StoreState) → IsJournalled j → (r : Rests j (length j.events) image) → Mounts (begun j image r.header) (at_rest image s)
mount_begins j image s ok r = record {
  journalled = ok;
  stream_stands = always_rest (MountStands (begun j image r.header)) image s (λ name. record {
    head = λ e. record { header = r.header; is = subst (λ n. HoldsJust (header_bytes r.header) (image n)) (sym e) r.stands; stands = refl };
    keeps = λ index e one. record {
      each = λ x at lo hi. byte_of name index e x at ∙ r.has x lo hi;
      left = λ x at lo. inr (byte_of name index e x at, inl (λ h. h));
      idle = λ none. refl;
    };
  });
  headers_bounded = record { each = λ h i. elim i [ inl e ↦ subst (IsBounded j (length j.events)) e r.bounded | inr never ↦ absurd never ]; climbs = tt };
  numbers = numbers_rest image s;
  part = r.part;
  within_window = r.clear;
}
  where
    byte_of : (name : ObjectName) (index : ℕ) → name ≡ journal_object j.rank index → (x : ℕ) → object_of j.layout x ≡ index → byte_in (offset_of j.layout x) (image name) ≡ byte_at image j.rank j.layout x
    byte_of name index e x at =
        object_is image j.rank index name (offset_of j.layout x) e
        ∙ (ap (λ n. byte_in (offset_of j.layout x) (image (journal_object j.rank n))) (sym at) ∙ sym (byte_there image j.rank j.layout x))

-- ---- what a stop leaves

mount_low : (k : Mount) (s : StoreState) → Mounts k s → k.stood.expire ≤ tail_of k
mount_low k s mt =
    let b = mt.headers_bounded.each k.stood (inl refl) in
    omega (arith, b.starts, place_rises k.journal b.first (length k.journal.events) b.live)

mount_high : (k : Mount) (s : StoreState) → Mounts k s → period k.journal.layout ≤ k.stood.expire
mount_high k s mt =
    let b = mt.headers_bounded.each k.stood (inl refl) in
    omega (arith, b.starts, place_above k.journal b.first, mt.journalled.aligned)

pub mount_rests : (k : Mount) (s : StoreState) (image : Contents) → Mounts k s → IsImage s image → RestsWith k.journal (length k.journal.events) (may_stand k.stood k.heads) image
mount_rests k s image mt im =
    let j = k.journal in
    let tail = tail_of k in
    let pl = placing j.layout mt.journalled.layout in
    let at : (name : ObjectName) → (rest : List Pending) × MountStands k name (image name) rest = always_image (MountStands k) s image mt.stream_stands im in
    let h : HeaderStands k.stood k.heads (image (journal_object j.rank 0)) (at (journal_object j.rank 0)).0 = (at (journal_object j.rank 0)).1.head refl in
    let standing = stands_in k.stood k.heads (at (journal_object j.rank 0)).0 h.header h.stands in
    let up = climbs_low k.stood k.heads h.header mt.headers_bounded.climbs standing in
    let low = mount_low k s mt in
    let high = mount_high k s mt in
    let piece : (x : ℕ) → k.stood.expire ≤ x → Keeps k (object_of j.layout x) (image (journal_object j.rank (object_of j.layout x))) (at (journal_object j.rank (object_of j.layout x))).0 =
    λ x lo. (at (journal_object j.rank (object_of j.layout x))).1.keeps (object_of j.layout x) refl (pl.first x (omega (arith, lo, high))) in
    let above : (x : ℕ) → tail ≤ x → (byte_at image j.rank j.layout x ≡ None) ⊎ (byte_at image j.rank j.layout x ≡ left_at k x) = λ x lo.
    elim ((piece x (omega (arith, lo, low))).left x refl lo) [ inl gap ↦ inl (byte_there image j.rank j.layout x ∙ gap) | inr there ↦ inr (byte_there image j.rank j.layout x ∙ there.0) ] in
    let less = scan_less (2 ^ 62 - tail) (left_at k) (byte_at image j.rank j.layout) tail above in
    let front : stream image j.rank j.layout tail ≡ take less.0 (stream k.found j.rank j.layout tail) =
    stream_scan image j.rank j.layout (2 ^ 62 - tail) tail ∙ (less.1 ∙ ap (take less.0) (sym (stream_scan k.found j.rank j.layout (2 ^ 62 - tail) tail))) in
    record {
      count = length j.events;
      enough = omega arith;
      standing = standing;
      rests = record {
        header = h.header;
        stands = h.is;
        bounded = mt.headers_bounded.each h.header standing;
        within = omega arith;
        has = λ x lo hi. byte_there image j.rank j.layout x ∙ (piece x (omega (arith, lo, up))).each x refl (omega (arith, lo, up)) hi;
        part = λ n. ap (λ t. entry_at t tail) (ap (take n) front ∙ take_min_take n less.0 (stream k.found j.rank j.layout tail)) ∙ mt.part (min n less.0);
        clear = λ x far. elim (above x (omega (arith, far, pl.window tail tail (omega arith) (omega (arith, mt.journalled.below, place_below j (length j.events)))))) [ inl gap ↦ gap | inr same ↦ same ∙ mt.within_window x far ];
      };
    }

-- above the tail no image has a byte that was not left there
pub mount_above : (k : Mount) (s : StoreState) (image : Contents) → Mounts k s → IsImage s image → (x : ℕ) → tail_of k ≤ x
    → (byte_at image k.journal.rank k.journal.layout x ≡ None) ⊎ (byte_at image k.journal.rank k.journal.layout x ≡ left_at k x)
mount_above k s image mt im x lo =
    let l = k.journal.layout in
    let at = always_image (MountStands k) s image mt.stream_stands im (journal_object k.journal.rank (object_of l x)) in
    let one = (placing l mt.journalled.layout).first x (omega (arith, lo, mount_low k s mt, mount_high k s mt)) in
    elim ((at.1.keeps (object_of l x) refl one).left x refl lo) [
      | inl gap ↦ inl (byte_there image k.journal.rank l x ∙ gap)
      | inr there ↦ inr (byte_there image k.journal.rank l x ∙ there.0)
    ]

-- ---- what the store does by itself

pub mount_moved : (k : Mount) (s t : StoreState) → Mounts k s → Holding (MountStands k) t → Mounts k t
mount_moved k s t mt h = record {
  journalled = mt.journalled;
  stream_stands = h.moments;
  headers_bounded = mt.headers_bounded;
  numbers = h.numbers;
  part = mt.part;
  within_window = mt.within_window;
}

mount_holding : (k : Mount) (s : StoreState) → Mounts k s → Holding (MountStands k) s
mount_holding k s mt = record { moments = mt.stream_stands; numbers = mt.numbers }

pub mounts_tried : (k : Mount) (s : StoreState) (name : ObjectName) → Mounts k s → Mounts k (tried name s)
mounts_tried k s name mt = mount_moved k s (tried name s) mt (holding_tried (MountStands k) s name (mount_holding k s mt))

pub mounts_failed : (k : Mount) (s : StoreState) (name : ObjectName) → Mounts k s → Mounts k (failed name s)
mounts_failed k s name mt = mount_moved k s (failed name s) mt (holding_failed (MountStands k) s name (mount_holding k s mt))

pub mounts_reported : (k : Mount) (s : StoreState) → Mounts k s → Mounts k (reported s)
mounts_reported k s mt = mount_moved k s (reported s) mt (holding_reported (MountStands k) s (mount_holding k s mt))

pub mounts_fronts : (k : Mount) (names : List ObjectName) (s : StoreState) → Mounts k s → Mounts k (fronts_applied names s)
mounts_fronts k names s mt = mount_moved k s (fronts_applied names s) mt (holding_fronts (MountStands k) names s (mount_holding k s mt))

-- what is reported as done is pending nowhere
pub mounts_done : (k : Mount) (s : StoreState) (a : Ack) → Mounts k s → s.completed ≡ a ∷ drop 1 s.completed → a.done ≡ true → (name : ObjectName) → HasOp a.op (s.objects name).pending → ⊥
mounts_done k s a mt e d name h = reported_done s a e mt.numbers d name h

pub mounts_elsewhere : (k : Mount) (s : StoreState) (op : ObjectOp) (number : ℕ) → Mounts k s → s.next ≤ number → IsElsewhere k.journal.rank op.name → Mounts k (submitted op number s)
mounts_elsewhere k s op number mt new other = mount_moved k s (submitted op number s) mt (record {
  moments = always_submitted (MountStands k) (MountStands k) s op number (λ n ne h rest sub mo. mo)
      (λ h rest sub mo. record { head = λ e. absurd (other 0 e); keeps = λ index e one. absurd (other index e) })
      (λ h mo. record { head = λ e. absurd (other 0 e); keeps = λ index e one. absurd (other index e) }) mt.stream_stands;
  numbers = numbers_submitted s op number new mt.numbers;
})

-- ---- headers

pub mounts_headed : (k : Mount) (s : StoreState) (op : ℕ) (h : Header) → Mounts k s → s.next ≤ op → MaySendHeader k.journal (length k.journal.events) k.stood k.heads h
    → Mounts (mount_headed op h k) (submitted (header_op k.journal.rank h) op s)
mounts_headed k s op h mt new may = record {
  journalled = mt.journalled;
  stream_stands = always_submitted (MountStands k) (MountStands (mount_headed op h k)) s (header_op k.journal.rank h) op
      (λ name ne held rest sub mo. record { head = λ e. absurd (ne e); keeps = λ n is o. record { each = (mo.keeps n is o).each; left = (mo.keeps n is o).left; idle = (mo.keeps n is o).idle } })
      (λ held rest sub mo. record {
        head = λ e. header_stands_early k.stood k.heads op h held rest (record { op = op; act = Write 0 (header_bytes h) }) refl (mo.head e);
        keeps = λ n is o. absurd (omega (arith, o, same_index k.journal.rank 0 n is));
      })
      (λ held mo. record {
        head = λ e. header_stands_last k.stood k.heads op h held (mo.head e);
        keeps = λ n is o. absurd (omega (arith, o, same_index k.journal.rank 0 n is));
      }) mt.stream_stands;
  headers_bounded = bounded_more k.journal (length k.journal.events) k.stood k.heads op h may mt.headers_bounded;
  numbers = numbers_submitted s (header_op k.journal.rank h) op new mt.numbers;
  part = mt.part;
  within_window = mt.within_window;
}

pub mounts_settled : (k : Mount) (s : StoreState) (op : ℕ) (stood : Header) (after : List HeadSent) → Mounts k s → ((name : ObjectName) → HasOp op (s.objects name).pending → ⊥) → IsSettled op k.heads stood after
    → Mounts (mount_settled stood after k) s
mounts_settled k s op stood after mt done set =
    let up = settled_rises op k.stood k.heads stood after k.journal (length k.journal.events) set mt.headers_bounded in record {
      journalled = mt.journalled;
      stream_stands = always_map (MountStands k) (MountStands (mount_settled stood after k)) s (λ name h rest sub mo. record {
        head = λ e. stands_after op k.stood k.heads stood after h rest set (λ p. done name (sub op p)) (mo.head e);
        keeps = λ n is o. record { each = λ x at lo hi. (mo.keeps n is o).each x at (omega (arith, lo, up)) hi; left = (mo.keeps n is o).left; idle = (mo.keeps n is o).idle };
      }) mt.stream_stands;
      headers_bounded = bounded_settled k.journal (length k.journal.events) op k.stood k.heads stood after set mt.headers_bounded;
      numbers = mt.numbers;
      part = mt.part;
      within_window = mt.within_window;
    }

-- ---- truncations

pub mounts_cut : (k : Mount) (s : StoreState) (op index len : ℕ) → Mounts k s → s.next ≤ op → 1 ≤ index → IsCut k.journal.layout index (tail_of k) len
    → Mounts (cutting op index k) (submitted (cut_op k.journal.rank index len) op s)
mounts_cut k s op index len mt new one c = record {
  journalled = mt.journalled;
  stream_stands = always_submitted (MountStands k) (MountStands k') s (cut_op k.journal.rank index len) op
      (λ name ne h rest sub mo. record {
        head = mo.head;
        keeps = λ n is o. record {
          each = (mo.keeps n is o).each;
          left = λ x at lo. elim ((mo.keeps n is o).left x at lo) [
            | inl gap ↦ inl gap
            | inr there ↦ inr (
              there.0,
              elim there.1 [
                | inl whole ↦ inl (λ i. elim i [ inl e ↦ ne (is ∙ ap (journal_object k.journal.rank) (sym e)) | inr i ↦ whole i ])
                | inr f ↦ inr (record { cutting = f.cutting; is_out = in_before f.cutting k.out (sent ∷ []) f.is_out; index_is = f.index_is; pending = f.pending })
              ],
            )
          ];
          idle = λ none. (mo.keeps n is o).idle (λ i. none (inr i));
        };
      })
      (λ h rest sub mo. record {
        head = λ e. absurd (omega (arith, one, same_index k.journal.rank index 0 e));
        keeps = λ n is o. record {
          each = (mo.keeps n is o).each;
          left = λ x at lo. elim ((mo.keeps n is o).left x at lo) [
            | inl gap ↦ inl gap
            | inr there ↦ inr (there.0, inr (record { cutting = sent; is_out = in_last sent k.out; index_is = same_index k.journal.rank index n is; pending = append_last rest q }))
          ];
          idle = λ none. absurd (none (inl (same_index k.journal.rank index n is)));
        };
      })
      (λ h mo. record {
        head = λ e. absurd (omega (arith, one, same_index k.journal.rank index 0 e));
        keeps = λ n is o. let in_it : (x : ℕ) → object_of k.journal.layout x ≡ n → object_of k.journal.layout x ≡ index = λ x at. at ∙ sym (same_index k.journal.rank index n is) in record {
          each = λ x at lo hi. in_cut_below len h (offset_of k.journal.layout x) (c.below x (in_it x at) hi) ∙ (mo.keeps n is o).each x at lo hi;
          left = λ x at lo. inl (in_cut_above len h (offset_of k.journal.layout x) (c.above x (in_it x at) lo));
          idle = λ none. refl;
        };
      }) mt.stream_stands;
  headers_bounded = mt.headers_bounded;
  numbers = numbers_submitted s (cut_op k.journal.rank index len) op new mt.numbers;
  part = mt.part;
  within_window = mt.within_window;
}
  where
    k' : Mount
    k' = cutting op index k

    sent : Cutting
    sent = record { op = op; index = index }

    q : Pending
    q = record { op = op; act = Truncate len }

-- one is acknowledged as done
pub mounts_cut_done : (k : Mount) (s : StoreState) (op : ℕ) (out : List Cutting) → Mounts k s → ((name : ObjectName) → HasOp op (s.objects name).pending → ⊥) → ((c : Cutting) → In c k.out → In c out ⊎ (c.op ≡ op))
    → Mounts (cut_done out k) s
mounts_cut_done k s op out mt done less = record {
  journalled = mt.journalled;
  stream_stands = always_map (MountStands k) (MountStands (cut_done out k)) s (λ name h rest sub mo. record {
    head = mo.head;
    keeps = λ n is o. record {
      each = (mo.keeps n is o).each;
      left = λ x at lo. elim ((mo.keeps n is o).left x at lo) [
        | inl gap ↦ inl gap
        | inr there ↦ inr (
          there.0,
          elim there.1 [
            | inl whole ↦ inl whole
            | inr f ↦ elim (less f.cutting f.is_out) [
              | inl i ↦ inr (record { cutting = f.cutting; is_out = i; index_is = f.index_is; pending = f.pending })
              | inr e ↦ absurd (done name (sub op (subst (λ o. HasOp o rest) e f.pending)))
            ]
          ],
        )
      ];
      idle = (mo.keeps n is o).idle;
    };
  }) mt.stream_stands;
  headers_bounded = mt.headers_bounded;
  numbers = mt.numbers;
  part = mt.part;
  within_window = mt.within_window;
}

-- ---- an object is found short

cases_in : (i : ℕ) (xs : List ℕ) → In i xs ⊎ (In i xs → ⊥)
cases_in i [] = inr (λ h. h)
cases_in i (x ∷ xs) = elim (cases_eq x i) [
  | inl same ↦ inl (inl same)
  | inr other ↦ elim (cases_in i xs) [ inl there ↦ inl (inr there) | inr none ↦ inr (λ h. elim h [ inl e ↦ other e | inr there ↦ none there ]) ]
]

past_size : (held : Option Content) (i : ℕ) → held_size held ≤ i → byte_in i held ≡ None
past_size None i h = refl
past_size (Some o) i h = slice_get_past o.bytes i h

-- where the object is named already, nothing changes
named_again : (k : Mount) (index : ℕ) (name : ObjectName) (held : Option Content) (rest : List Pending) → name ≡ journal_object k.journal.rank index → In index k.cut → MountStands k name held rest → MountStands (passed index k) name held rest
named_again k index name held rest same named mo = record {
  head = mo.head;
  keeps = λ n is o. let it : index ≡ n = same_index k.journal.rank index n (sym same ∙ is) in record {
    each = (mo.keeps n is o).each;
    left = λ x at lo. elim ((mo.keeps n is o).left x at lo) [
      | inl gap ↦ inl gap
      | inr there ↦ inr (there.0, elim there.1 [ inl whole ↦ absurd (whole (subst (λ i. In i k.cut) it named)) | inr f ↦ inr f ])
    ];
    idle = λ none. absurd (none (inl it));
  };
}

-- an object of which nothing is pending
now_short : (k : Mount) (index : ℕ) (name : ObjectName) (held : Option Content) → name ≡ journal_object k.journal.rank index → 1 ≤ index → IsShort k index held → MountStands k name held [] → MountStands (passed index k) name held []
now_short k index name held same one short mo = record {
  head = mo.head;
  keeps = λ n is o. record {
    each = (mo.keeps n is o).each;
    left = λ x at lo. inl (past_size held (offset_of k.journal.layout x) (omega (arith, short.size, short.cut.above x (at ∙ sym (same_index k.journal.rank index n (sym same ∙ is))) lo)));
    idle = λ none. refl;
  };
}

passed_stands : (k : Mount) (s : StoreState) (index : ℕ) → Mounts k s → 1 ≤ index → IsShort k index (s.objects (journal_object k.journal.rank index)).held → Always (MountStands (passed index k)) s
passed_stands k s index mt one short name = elim (cases_name name (journal_object k.journal.rank index)) [
  | inl same ↦ elim (cases_in index k.cut) [
    | inl named ↦ along_map (MountStands k name) (MountStands (passed index k) name) (s.objects name).held (s.objects name).pending (λ h rest sub mo. named_again k index name h rest same named mo) (mt.stream_stands name)
    | inr not_yet ↦
        let none : (s.objects name).pending ≡ [] = ((always_now (MountStands k) s mt.stream_stands name).keeps index same one).idle not_yet in
        let here : IsShort k index (s.objects name).held = subst (λ m. IsShort k index (s.objects m).held) (sym same) short in
        let was : MountStands k name (s.objects name).held [] = subst (λ ps. Along (MountStands k name) (s.objects name).held ps) none (mt.stream_stands name) in
        let now : Along (MountStands (passed index k) name) (s.objects name).held [] = now_short k index name (s.objects name).held same one here was in
        subst (λ ps. Along (MountStands (passed index k) name) (s.objects name).held ps) (sym none) now
  ]
  | inr other ↦ along_map (MountStands k name) (MountStands (passed index k) name) (s.objects name).held (s.objects name).pending (λ h rest sub mo. record {
    head = mo.head;
    keeps = λ n is o. record {
      each = (mo.keeps n is o).each;
      left = λ x at lo. elim ((mo.keeps n is o).left x at lo) [
        | inl gap ↦ inl gap
        | inr there ↦ inr (
          there.0,
          elim there.1 [
            | inl whole ↦ inl (λ i. elim i [ inl e ↦ other (is ∙ ap (journal_object k.journal.rank) (sym e)) | inr i ↦ whole i ])
            | inr f ↦ inr f
          ],
        )
      ];
      idle = λ none. (mo.keeps n is o).idle (λ i. none (inr i));
    };
  }) (mt.stream_stands name)
]

pub mounts_passed : (k : Mount) (s : StoreState) (index : ℕ) → Mounts k s → 1 ≤ index → IsShort k index (s.objects (journal_object k.journal.rank index)).held → Mounts (passed index k) s
mounts_passed k s index mt one short = record {
  journalled = mt.journalled;
  stream_stands = passed_stands k s index mt one short;
  headers_bounded = mt.headers_bounded;
  numbers = mt.numbers;
  part = mt.part;
  within_window = mt.within_window;
}

-- every object of the sets from the tail's on, up to that of the window, was seen to
pub in_order : (k : Mount) → IsStriping k.journal.layout → k.out ≡ [] → ((index : ℕ) → IsNear k index → In index k.cut) → MountInOrder k
unfolding window_end
in_order k ok acked each = record {
  acked = acked;
  cut = λ x lo hi.
      let l = k.journal.layout in
      let z = sizes l ok in
      let pl = placing l ok in
      let pos : 0 < period l = omega (arith, z.period_least) in
      inr (each (object_of l x) (record {
        from = omega (arith, pl.set x, div_rises (tail_of k) x (period l) pos lo);
        to = omega (arith, pl.set x, div_below x (period l) (set_of l (reach l (tail_of k)) + 1) pos hi);
      }));
}

-- ---- the rank serves

pub mount_serves : (k : Mount) (s : StoreState) → Mounts k s → MountInOrder k → Serves (serving k) s
mount_serves k s mt ready = record {
  journalled = mt.journalled;
  stream_stands = always_map (MountStands k) (StreamStands (serving k)) s (λ name h rest sub mo. record {
    head = mo.head;
    carries = λ n is o. record {
      each = λ x at lo hi. inl ((mo.keeps n is o).each x at lo hi);
      above = λ x at lo. elim ((mo.keeps n is o).left x at lo) [
        | inl gap ↦ gap
        | inr there ↦ elim (cases_lt x (window_end k.journal.layout (tail_of k))) [
          | inl near ↦ elim (ready.cut x lo near) [
            | inl none ↦ there.0 ∙ none
            | inr named ↦ absurd (elim there.1 [
              | inl whole ↦ whole (subst (λ i. In i k.cut) at named)
              | inr f ↦ subst (λ out. In f.cutting out) ready.acked f.is_out
            ])
          ]
          | inr far ↦ there.0 ∙ mt.within_window x far
        ]
      ];
    };
  }) mt.stream_stands;
  within_window = omega arith;
  headers_bounded = mt.headers_bounded;
  in_flight_known = record { numbers = mt.numbers; outstanding = λ w i. absurd i };
  within = omega arith;
  covers = omega arith;
  flushed = place_below k.journal (length k.journal.events);
}
