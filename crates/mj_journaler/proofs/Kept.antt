-- What each journaler keeps goes on over its calls.
use Rattle.std.proofs.Common.{◌≡◌, ◌⊎◌, inl, inr, ℕ, ◌+◌, ◌-◌, ◌*◌, ◌/◌, ◌^◌, ◌<◌, ◌≤◌, min, Bool, true, false, cond, List, [], ◌∷◌, ◌++◌, length, drop, Option, None, Some, refl, sym, ◌∙◌, ap, subst, arith, length-append, length-drop}
use Rattle.std.specs.Prelude.{◌&&◌, ◌==◌, nat_le, nat_lt}
use Rattle.std.proofs.lemmas.Bool.{cond_both, leb-true, leb-false, ltb-false, le-leb, ltb-true, lt-ltb, cases_lt}
use Rattle.std.proofs.lemmas.Nat.{div-add-mod', div-mul-add, mod_below, div_below, mul-le}
use Rattle.mj_base.specs.Reading.{eight}
use Rattle.mj_base.proofs.Codec.{true_and}
use Rattle.mj_entry.specs.Entry.{IsPayload, entry_bytes, entry_length}
use Rattle.mj_layout.specs.Striping.{Striping, IsStriping, period}
use Rattle.mj_layout.specs.Place.{unit_end}
use Rattle.mj_layout.specs.Header.{IsHeader}
use Rattle.mj_layout.specs.declared.Header.{Header}
use Rattle.mj_layout.proofs.Striped.{Sizes, sizes}
use Rattle.mj_store.specs.Causes.{In}
use Rattle.mj_journaler.specs.Outstanding.{Rises, Follow, final, lowest, found, without, last_end, ends_above}
use Rattle.mj_journaler.specs.Journal.{Journal, layout_of, end_of, unsafe_of, window_of, flush_end, first_set, standing_set, trimmed_of}
use Rattle.mj_journaler.specs.Keeps.{IsJournal, Continues, MaySend, IsLast, IsDone}
use Rattle.mj_journaler.specs.Calls.{begun, append_refusal, appended, reserved, header_now, offered, taken, acked_to, expire_of, acknowledged}
use Rattle.mj_journaler.specs.declared.AppendRefusal.TheVariants.{Full, Spent}
use Rattle.mj_journaler.specs.declared.sent.Sent.{Sent}
use Rattle.mj_journaler.specs.declared.sent.Offer.{Offer}
use Rattle.mj_journaler.specs.declared.sent.Offer.TheVariants.{Flush, Head, Removal}
use Rattle.mj_journaler.proofs.Out.{lowest_end, lowest_each, lowest_most, without_less, without_out, last_end_below, last_end_rises, rises_above}

-- ---- lists

rises_more : (before : ℕ) (ends : List ℕ) (e : ℕ) → Rises before ends → final before ends < e → Rises before (ends ++ e ∷ [])
rises_more before [] e r h = (h, tt)
rises_more before (x ∷ ends) e r h = (r.0, rises_more x ends e r.1 h)

final_more : (before : ℕ) (ends : List ℕ) (e : ℕ) → final before (ends ++ e ∷ []) ≡ e
final_more before [] e = refl
final_more before (x ∷ ends) e = final_more x ends e

final_by : (b : Bool) (before e last : ℕ) (above ends : List ℕ) → final last above ≡ final e ends → final (cond b last before) (cond b above (e ∷ ends)) ≡ final e ends
final_by true before e last above ends h = h
final_by false before e last above ends h = refl

final_above : (before : ℕ) (ends : List ℕ) (at : ℕ) → final (last_end before ends at) (ends_above ends at) ≡ final before ends
final_above before [] at = refl
final_above before (e ∷ ends) at = final_by (nat_le e at) before e (last_end e ends at) (ends_above ends at) ends (final_above e ends at)

follow_within : (from : ℕ) (ws : List Sent) (to : ℕ) → Follow from ws to → from ≤ to
follow_within from [] to h = h
follow_within from (w ∷ ws) to h = omega (arith, h.0, h.1, follow_within w.to ws to h.2)

pub follow_later : (from before : ℕ) (ws : List Sent) (to : ℕ) → before ≤ from → Follow from ws to → Follow before ws to
follow_later from before [] to h f = omega (arith, h, f)
follow_later from before (w ∷ ws) to h f = (omega (arith, h, f.0), f.1, f.2)

follow_more : (from : ℕ) (ws : List Sent) (to next op : ℕ) → Follow from ws to → to < next → Follow from (ws ++ record { op = op; from = to; to = next } ∷ []) next
follow_more from [] to next op f h = (f, h, omega arith)
follow_more from (w ∷ ws) to next op f h = (f.0, f.1, follow_more w.to ws to next op f.2 h)

follow_less : (b : Bool) (from : ℕ) (w : Sent) (ws : List Sent) (to : ℕ) → from ≤ w.from → w.from < w.to → Follow w.to ws to → Follow from (cond b ws (w ∷ ws)) to
follow_less true from w ws to h some f = follow_later w.to from ws to (omega (arith, h, some)) f
follow_less false from w ws to h some f = (h, some, f)

pub follow_without : (op from : ℕ) (ws : List Sent) (to : ℕ) → Follow from ws to → Follow from (without op ws) to
follow_without op from [] to f = f
follow_without op from (w ∷ ws) to f = follow_less (w.op == op) from w (without op ws) to f.0 f.1 (follow_without op w.to ws to f.2)

follow_from : (from at : ℕ) (ws : List Sent) (to : ℕ) → Follow from ws to → at ≤ lowest ws to → Follow at ws to
follow_from from at [] to f h = h
follow_from from at (w ∷ ws) to f h = (omega (arith, h), f.1, f.2)

pub follow_each : (from : ℕ) (ws : List Sent) (to : ℕ) → Follow from ws to → (w : Sent) → In w ws → from ≤ w.from
follow_each from [] to f w i = absurd i
follow_each from (v ∷ ws) to f w (inl e) = omega (arith, f.0, ap (λ (s : Sent). s.from) e)
follow_each from (v ∷ ws) to f w (inr i) = omega (arith, f.0, f.1, follow_each v.to ws to f.2 w i)

pub in_more : (ws : List Sent) (x w : Sent) → In w (ws ++ x ∷ []) → In w ws ⊎ (x ≡ w)
in_more [] x w (inl e) = inr e
in_more [] x w (inr i) = absurd i
in_more (v ∷ ws) x w (inl e) = inl (inl e)
in_more (v ∷ ws) x w (inr i) = elim (in_more ws x w i) [ inl i ↦ inl (inr i) | inr e ↦ inr e ]

expire_most : (op : ℕ) (hs : List Sent) (live most : ℕ) → live ≤ most → ((h : Sent) → In h hs → h.to ≤ most) → expire_of (found op hs) live ≤ most
expire_most op [] live most l each = l
expire_most op (h ∷ hs) live most l each = one_of (h.op == op) h (found op hs) live most (each h (inl refl)) (expire_most op hs live most l (λ g i. each g (inr i)))
  where
    one_of : (b : Bool) (h : Sent) (rest : Option Sent) (live most : ℕ) → h.to ≤ most → expire_of rest live ≤ most → expire_of (cond b (Some h) rest) live ≤ most
    one_of true h rest live most a b = a
    one_of false h rest live most a b = b

-- ---- what is given stays so

pub may_still : (j k : Journal) (o : Option Offer) → k.flushed ≡ j.flushed → flush_end j ≤ flush_end k → k.header ≡ j.header → j.safe ≤ k.safe → k.removing ≡ j.removing → MaySend j o → MaySend k o
may_still j k None f e h s r m = tt
may_still j k (Some (Flush to)) f e h s r m = (omega (arith, f, m.0), omega (arith, e, m.1))
may_still j k (Some (Head header)) f e h s r m = record {
  layout = m.layout ∙ sym (ap (λ (x : Header). x.layout) h);
  format = m.format ∙ sym (ap (λ (x : Header). x.format) h);
  epoch = m.epoch ∙ sym (ap (λ (x : Header). x.epoch) h);
  expire = omega (arith, m.expire, s);
}
may_still j k (Some (Removal index)) f e h s r m = (m.0 ∙ sym r, subst (λ (x : Header). (index / x.layout.sc + 1) * period x.layout ≤ 2 ^ 62) (sym h) m.1)

-- ---- the start

pub begun_is : (h : Header) (rank tail : ℕ) → IsHeader h → h.expire ≤ tail → tail ≤ 2 ^ 62 → IsJournal (begun h rank tail)
begun_is h rank tail k above below =
    let s = h.layout in
    let z : Sizes s = sizes s k.layout in
    let rest = true_and (nat_le (period s) h.trimmed && nat_le h.trimmed h.expire && nat_le h.expire h.write) (nat_lt h.write (2 ^ 62)) k.order in
    let front = true_and (nat_le (period s) h.trimmed && nat_le h.trimmed h.expire) (nat_le h.expire h.write) rest.0 in
    let first = true_and (nat_le (period s) h.trimmed) (nat_le h.trimmed h.expire) front.0 in
    let trimmed : h.trimmed ≤ h.expire = leb-true h.trimmed h.expire first.1 in
    let whole : first_set s h.trimmed * s.sc / s.sc ≡ first_set s h.trimmed = ap (λ n. n / s.sc) (sym (plus_none (first_set s h.trimmed * s.sc))) ∙ div-mul-add (first_set s h.trimmed) s.sc 0 z.sc in
    record {
      layout = k.layout;
      format = k.format;
      epoch = k.epoch;
      first = leb-true (period s) h.trimmed first.0;
      trimmed = omega (arith, trimmed, above);
      live = above;
      window = omega arith;
      few = omega arith;
      below = omega (arith, below);
      rising = tt;
      whole = omega arith;
      sent = omega arith;
      heads = λ g i. absurd i;
      removals = omega arith;
      removing = omega (arith, ap (λ n. n * period s) whole, div-add-mod' (h.trimmed + period s - 1) (period s), trimmed, above, below, z.period_most);
      offer = tt;
    }
  where
    plus_none : (n : ℕ) → n + 0 ≡ n
    plus_none n = omega arith

-- ---- entries

pub entry_long : (at : ℕ) (payload : List ℕ) → length (entry_bytes at payload) ≡ entry_length payload
entry_long at payload = omega (arith, length-append payload (eight at))

pub end_more : (j : Journal) (payload : List ℕ) → end_of (appended payload j) ≡ end_of j + entry_length payload
end_more j payload = omega (arith, length-append j.buffer (entry_bytes (end_of j) payload), entry_long (end_of j) payload)

-- what is not refused fits
pub record Fits (j : Journal) (payload : List ℕ) : Type 0 where
  pub few : unsafe_of j + entry_length payload ≤ 8388608
  pub below : end_of j + entry_length payload ≤ 2 ^ 62 - 1

pub appended_is : (j : Journal) (payload : List ℕ) → IsJournal j → Fits j payload → IsJournal (appended payload j)
appended_is j payload k f =
    let more = end_more j payload in
    let safe : j.safe ≤ j.flushed = follow_within j.safe j.sent j.flushed k.sent in
    record {
      layout = k.layout;
      format = k.format;
      epoch = k.epoch;
      first = k.first;
      trimmed = k.trimmed;
      live = k.live;
      window = k.window;
      few = omega (arith, f.few, more, safe);
      below = omega (arith, f.below, more);
      rising = rises_more j.safe j.ends (end_of j + entry_length payload) k.rising (omega (arith, k.whole));
      whole = final_more j.safe j.ends (end_of j + entry_length payload) ∙ sym more;
      sent = k.sent;
      heads = k.heads;
      removals = k.removals;
      removing = k.removing;
      offer = may_still j (appended payload j) j.offer refl (later (end_of j) (end_of (appended payload j)) (unit_end (layout_of j) j.flushed) (window_of j) (omega (arith, more))) refl (omega arith) refl k.offer;
    }
  where
    later : (a b u w : ℕ) → a ≤ b → min (min a u) w ≤ min (min b u) w
    later a b u w h = omega (arith, h)

pub reserved_is : (j : Journal) (bytes : ℕ) → IsJournal j → IsJournal (reserved bytes j)
reserved_is j bytes k = record {
  layout = k.layout;
  format = k.format;
  epoch = k.epoch;
  first = k.first;
  trimmed = k.trimmed;
  live = k.live;
  window = k.window;
  few = k.few;
  below = k.below;
  rising = k.rising;
  whole = k.whole;
  sent = k.sent;
  heads = k.heads;
  removals = k.removals;
  removing = k.removing;
  offer = may_still j (reserved bytes j) j.offer refl (omega arith) refl (omega arith) refl k.offer;
}

-- ---- what is given

pub offered_is : (j : Journal) (o : Option Offer) → IsJournal j → MaySend j o → IsJournal (offered o j)
offered_is j o k m = record {
  layout = k.layout;
  format = k.format;
  epoch = k.epoch;
  first = k.first;
  trimmed = k.trimmed;
  live = k.live;
  window = k.window;
  few = k.few;
  below = k.below;
  rising = k.rising;
  whole = k.whole;
  sent = k.sent;
  heads = k.heads;
  removals = k.removals;
  removing = k.removing;
  offer = may_still j (offered o j) o refl (omega arith) refl (omega arith) refl m;
}

-- ---- what is sent

pub flushed_is : (j : Journal) (op to : ℕ) → IsJournal j → j.flushed < to → to ≤ flush_end j → IsJournal (taken op (Flush to) j)
flushed_is j op to k more m =
    let same : end_of (taken op (Flush to) j) ≡ end_of j = omega (arith, length-drop (to - j.flushed) j.buffer, more, m) in
    record {
      layout = k.layout;
      format = k.format;
      epoch = k.epoch;
      first = k.first;
      trimmed = k.trimmed;
      live = k.live;
      window = omega (arith, m);
      few = omega (arith, k.few, same);
      below = omega (arith, k.below, same);
      rising = k.rising;
      whole = k.whole ∙ sym same;
      sent = follow_more j.safe j.sent j.flushed to op k.sent more;
      heads = k.heads;
      removals = k.removals;
      removing = k.removing;
      offer = tt;
    }

pub headed_is : (j : Journal) (op : ℕ) (h : Header) → IsJournal j → Continues j h → IsJournal (taken op (Head h) j)
headed_is j op h k m =
    let s : layout_of j ≡ h.layout = sym m.layout in
    record {
      layout = subst (λ (x : Striping). IsStriping x) s k.layout;
      format = omega (arith, m.format, k.format);
      epoch = omega (arith, m.epoch, k.epoch);
      first = subst (λ (x : Striping). period x ≤ j.trimmed) s k.first;
      trimmed = k.trimmed;
      live = k.live;
      window = subst (λ (x : Striping). j.flushed ≤ j.safe + 4 * period x) s k.window;
      few = k.few;
      below = k.below;
      rising = k.rising;
      whole = k.whole;
      sent = k.sent;
      heads = λ g i. elim (in_more j.heads (record { op = op; from = h.trimmed; to = h.expire }) g i) [ inl i ↦ k.heads g i | inr e ↦ omega (arith, m.expire, ap (λ (x : Sent). x.to) e) ];
      removals = k.removals;
      removing = subst (λ (x : Striping). j.removing / x.sc * period x ≤ 2 ^ 63) s k.removing;
      offer = tt;
    }

pub removed_is : (j : Journal) (op index : ℕ) → IsJournal j → index ≡ j.removing → (index / (layout_of j).sc + 1) * period (layout_of j) ≤ 2 ^ 62 → IsJournal (taken op (Removal index) j)
removed_is j op index k is most =
    let s = layout_of j in
    let z : Sizes s = sizes s k.layout in
    let up : (index + 1) / s.sc < index / s.sc + 1 + 1 = div_below (index + 1) s.sc (index / s.sc + 1 + 1) z.sc (omega (arith, div-add-mod' index s.sc, mod_below index s.sc z.sc, z.sc)) in
    record {
      layout = k.layout;
      format = k.format;
      epoch = k.epoch;
      first = k.first;
      trimmed = k.trimmed;
      live = k.live;
      window = k.window;
      few = k.few;
      below = k.below;
      rising = k.rising;
      whole = k.whole;
      sent = k.sent;
      heads = k.heads;
      removals = follow_more 0 j.removals index (index + 1) op (subst (λ n. Follow 0 j.removals n) (sym is) k.removals) (omega arith);
      removing = omega (arith, mul-le ((index + 1) / s.sc) (period s) (index / s.sc + 1) (period s) (omega (arith, up)) (omega arith), most);
      offer = tt;
    }

-- ---- acknowledgements

-- what is out at the lowest is above it, or has this number
pub acked_done : (j : Journal) (op : ℕ) → IsJournal j → IsDone j op (acked_to j op)
acked_done j op k =
    let less : Follow j.safe (without op j.sent) j.flushed = follow_without op j.safe j.sent j.flushed k.sent in
    record {
      above = lowest_most (without op j.sent) j.flushed j.safe (follow_within j.safe j.sent j.flushed k.sent) (follow_each j.safe (without op j.sent) j.flushed less);
      within = lowest_end (without op j.sent) j.flushed;
      below = λ w i. elim (without_out op j.sent w i) [ inl out ↦ inl (lowest_each (without op j.sent) j.flushed w out) | inr is ↦ inr is ];
    }

pub acknowledged_is : (j : Journal) (op : ℕ) → IsJournal j → IsJournal (acknowledged op j)
acknowledged_is j op k =
    let at = acked_to j op in
    let now = acknowledged op j in
    let done : IsDone j op at = acked_done j op k in
    let up : j.safe ≤ now.safe = last_end_rises j.safe j.ends at k.rising in
    let under : now.safe ≤ at = last_end_below j.safe j.ends at done.above in
    let less : Follow j.safe (without op j.sent) j.flushed = follow_without op j.safe j.sent j.flushed k.sent in
    record {
      layout = k.layout;
      format = k.format;
      epoch = k.epoch;
      first = k.first;
      trimmed = omega (arith, k.trimmed, up);
      live = expire_most op j.heads j.live now.safe (omega (arith, k.live, up)) (λ h i. omega (arith, k.heads h i, up));
      window = omega (arith, k.window, up);
      few = omega (arith, k.few, up);
      below = k.below;
      rising = rises_above j.safe j.ends at k.rising;
      whole = final_above j.safe j.ends at ∙ k.whole;
      sent = follow_from j.safe now.safe (without op j.sent) j.flushed less under;
      heads = λ h i. omega (arith, k.heads h (without_less op j.heads h i), up);
      removals = follow_without op 0 j.removals j.removing k.removals;
      removing = k.removing;
      offer = may_still j now j.offer refl (wider (end_of j) (unit_end (layout_of j) j.flushed) (window_of j) (window_of now) (omega (arith, up))) refl up refl k.offer;
    }
  where
    wider : (a u v w : ℕ) → v ≤ w → min (min a u) v ≤ min (min a u) w
    wider a u v w h = omega (arith, h)

-- ---- the trimmed position

pub trimmed_rises : (j : Journal) → IsJournal j → j.trimmed ≤ trimmed_of j
trimmed_rises j k =
    let s = layout_of j in
    let z : Sizes s = sizes s k.layout in
    let p : 0 < period s = omega (arith, z.period_least) in
    cond_both (nat_lt (first_set s j.trimmed) (standing_set j)) (standing_set j * period s) j.trimmed (λ n. j.trimmed ≤ n)
    (λ b. omega (arith, mul-le (first_set s j.trimmed + 1) (period s) (standing_set j) (period s) (omega (arith, ltb-true (first_set s j.trimmed) (standing_set j) b)) (omega arith), div-add-mod' (j.trimmed + period s - 1) (period s), mod_below (j.trimmed + period s - 1) (period s) p))
    (λ b. omega arith)

pub header_sound : (j : Journal) (expire : ℕ) → IsJournal j → trimmed_of j ≤ expire → expire ≤ j.safe → j.safe < 2 ^ 62 → IsHeader (header_now j expire)
header_sound j expire k least most below =
    let s = layout_of j in
    let t = trimmed_of j in
    record {
      layout = k.layout;
      format = k.format;
      epoch = k.epoch;
      order = all_four (nat_le (period s) t) (nat_le t expire) (nat_le expire j.safe) (nat_lt j.safe (2 ^ 62))
          (le-leb (period s) t (omega (arith, k.first, trimmed_rises j k))) (le-leb t expire least) (le-leb expire j.safe most) (lt-ltb j.safe (2 ^ 62) below);
    }
  where
    all_four : (a b c d : Bool) → a ≡ true → b ≡ true → c ≡ true → d ≡ true → (a && b && c && d) ≡ true
    all_four a b c d e f g h = subst (λ x. (x && b && c && d) ≡ true) (sym e) (subst (λ x. (true && x && c && d) ≡ true) (sym f) (subst (λ x. (true && true && x && d) ≡ true) (sym g) h))

pub trimmed_small : (j : Journal) → IsJournal j → standing_set j * period (layout_of j) ≤ 2 ^ 63
trimmed_small j k =
    let s = layout_of j in
    let z : Sizes s = sizes s k.layout in
    let low : lowest j.removals j.removing ≤ j.removing = lowest_end j.removals j.removing in
    let set : standing_set j < j.removing / s.sc + 1 = div_below (lowest j.removals j.removing) s.sc (j.removing / s.sc + 1) z.sc (omega (arith, low, div-add-mod' j.removing s.sc, mod_below j.removing s.sc z.sc)) in
    omega (arith, mul-le (standing_set j) (period s) (j.removing / s.sc) (period s) (omega (arith, set)) (omega arith), k.removing)

-- ---- the last end

is_last_by : (b : Bool) (before e end last : ℕ) (ends : List ℕ) (at : ℕ) → (b ≡ true → e ≤ at) → (b ≡ false → at < e) → before ≤ at → before < e → Rises e ends
    → (b ≡ true → IsLast e ends at last) → IsLast before (e ∷ ends) at (cond b last before)
is_last_by true before e end last ends at below above h lt r rest =
    let l : IsLast e ends at last = rest refl in
    record {
      among = elim l.among [ inl e ↦ inr (inl (sym e)) | inr i ↦ inr (inr i) ];
      within = l.within;
      most = λ x i le. elim i [ inl same ↦ omega (arith, same, least e ends last l.among r) | inr i ↦ l.most x i le ];
    }
  where
    member : (b : ℕ) (xs : List ℕ) (x : ℕ) → Rises b xs → In x xs → b ≤ x
    member b [] x r i = absurd i
    member b (y ∷ xs) x r (inl e) = omega (arith, r.0, e)
    member b (y ∷ xs) x r (inr i) = omega (arith, r.0, member y xs x r.1 i)

    least : (b : ℕ) (xs : List ℕ) (x : ℕ) → (x ≡ b) ⊎ In x xs → Rises b xs → b ≤ x
    least b xs x (inl e) r = omega (arith, e)
    least b xs x (inr i) r = member b xs x r i
is_last_by false before e end last ends at below above h lt r rest = record {
  among = inl refl;
  within = h;
  most = λ x i le. absurd (omega (arith, beyond e ends x i r, above refl, le));
}
  where
    beyond : (e : ℕ) (ends : List ℕ) (x : ℕ) → (e ≡ x) ⊎ In x ends → Rises e ends → e ≤ x
    beyond e ends x (inl same) r = omega (arith, same)
    beyond e [] x (inr i) r = absurd i
    beyond e (y ∷ ends) x (inr i) r = omega (arith, r.0, beyond y ends x i r.1)

pub is_last : (before : ℕ) (ends : List ℕ) (at : ℕ) → before ≤ at → Rises before ends → IsLast before ends at (last_end before ends at)
is_last before [] at h r = record { among = inl refl; within = h; most = λ x i le. absurd i }
is_last before (e ∷ ends) at h r = is_last_by (nat_le e at) before e e (last_end e ends at) ends at (leb-true e at) (leb-false e at) h r.0 r.1 (λ b. is_last e ends at (leb-true e at b) r.1)

-- ---- the fields

pub safe_within : (j : Journal) → IsJournal j → j.safe ≤ j.flushed
safe_within j k = follow_within j.safe j.sent j.flushed k.sent

pub begun_as : (h : Header) (rank tail removing : ℕ) (buffer ends : List ℕ) (sent heads removals : List Sent) → buffer ≡ [] → ends ≡ [] → sent ≡ [] → heads ≡ [] → removals ≡ [] → removing ≡ first_set h.layout h.trimmed * h.layout.sc
    → IsHeader h → h.expire ≤ tail → tail ≤ 2 ^ 62
    → IsJournal (record { rank = rank; tail = tail; trimmed = h.trimmed; header = h; live = h.expire; safe = tail; flushed = tail; buffer = buffer; ends = ends; sent = sent; heads = heads; removals = removals; removing = removing; offer = None; room = 0 })
begun_as h rank tail removing buffer ends sent heads removals a b c d e f k above below =
    let same : begun h rank tail ≡ record { rank = rank; tail = tail; trimmed = h.trimmed; header = h; live = h.expire; safe = tail; flushed = tail; buffer = buffer; ends = ends; sent = sent; heads = heads; removals = removals; removing = removing; offer = None; room = 0 } = cc in
    subst (λ (j : Journal). IsJournal j) same (begun_is h rank tail k above below)

pub copied_as : (j : Journal) (buffer ends : List ℕ) (sent heads removals : List Sent) → IsJournal j → buffer ≡ j.buffer → ends ≡ j.ends → sent ≡ j.sent → heads ≡ j.heads → removals ≡ j.removals
    → IsJournal (record j { buffer = buffer; ends = ends; sent = sent; heads = heads; removals = removals })
copied_as j buffer ends sent heads removals k a b c d e =
    let same : record j { buffer = buffer; ends = ends; sent = sent; heads = heads; removals = removals } ≡ j = λ i. record j { buffer = a i; ends = b i; sent = c i; heads = d i; removals = e i } in
    subst (λ (m : Journal). IsJournal m) (sym same) k

pub window_small : (j : Journal) → IsJournal j → (j.safe ≤ 2 ^ 62) × (period (layout_of j) ≤ 67108864) × (0 < period (layout_of j)) × (1 ≤ (layout_of j).sc)
window_small j k = let z = sizes (layout_of j) k.layout in (omega (arith, safe_within j k, k.below), z.period_most, omega (arith, z.period_least), z.sc)

-- ---- what is left in the fields

none_of : {A : Type 0} (a b : Bool) (x y : A) → cond a (Some x) (cond b (Some y) None) ≡ None → (a ≡ false) × (b ≡ false)
none_of true b x y h = cc
none_of false true x y h = cc
none_of false false x y h = (refl, refl)

pub fits_of : (j : Journal) (payload : List ℕ) → append_refusal j payload ≡ None → Fits j payload
fits_of j payload h =
    let both = none_of (nat_lt 8388608 (unsafe_of j + entry_length payload)) (nat_lt (2 ^ 62 - 1) (end_of j + entry_length payload)) (Full (unsafe_of j)) (Spent (end_of j)) h in
    record { few = ltb-false 8388608 (unsafe_of j + entry_length payload) both.0; below = ltb-false (2 ^ 62 - 1) (end_of j + entry_length payload) both.1 }

pub appended_as : (j : Journal) (payload buffer ends : List ℕ) (room end : ℕ) → IsJournal j → append_refusal j payload ≡ None → end ≡ end_of j → buffer ≡ j.buffer ++ entry_bytes end payload → ends ≡ j.ends ++ (end + (length payload + 20)) ∷ [] → room ≡ j.room - (length payload + 20)
    → IsJournal (record j { buffer = buffer; ends = ends; room = room })
appended_as j payload buffer ends room end k h e b s r =
    let now : j.buffer ++ entry_bytes (end_of j) payload ≡ buffer = sym (b ∙ ap (λ n. j.buffer ++ entry_bytes n payload) e) in
    let added : j.ends ++ (end_of j + entry_length payload) ∷ [] ≡ ends = sym (s ∙ ap (λ n. j.ends ++ (n + (length payload + 20)) ∷ []) e) in
    subst (λ (m : List ℕ). IsJournal (record j { buffer = m; ends = ends; room = room })) now
    (subst (λ (m : List ℕ). IsJournal (record j { buffer = j.buffer ++ entry_bytes (end_of j) payload; ends = m; room = room })) added
    (subst (λ n. IsJournal (record j { buffer = j.buffer ++ entry_bytes (end_of j) payload; ends = j.ends ++ (end_of j + entry_length payload) ∷ []; room = n })) (sym r) (appended_is j payload k (fits_of j payload h))))

pub flushed_as : (j : Journal) (op to : ℕ) (buffer : List ℕ) (sent : List Sent) → IsJournal j → j.offer ≡ Some (Flush to) → buffer ≡ drop (to - j.flushed) j.buffer → sent ≡ j.sent ++ record { op = op; from = j.flushed; to = to } ∷ []
    → IsJournal (record j { flushed = to; buffer = buffer; sent = sent; offer = None })
flushed_as j op to buffer sent k o b s =
    let may : MaySend j (Some (Flush to)) = subst (λ (x : Option Offer). MaySend j x) o k.offer in
    subst (λ (m : List ℕ). IsJournal (record j { flushed = to; buffer = m; sent = sent; offer = None })) (sym b)
    (subst (λ (m : List Sent). IsJournal (record j { flushed = to; buffer = drop (to - j.flushed) j.buffer; sent = m; offer = None })) (sym s) (flushed_is j op to k may.0 may.1))

pub flush_within : (j : Journal) (to : ℕ) → IsJournal j → j.offer ≡ Some (Flush to) → (j.flushed < to) × (to ≤ end_of j)
flush_within j to k o = let may : MaySend j (Some (Flush to)) = subst (λ (x : Option Offer). MaySend j x) o k.offer in (may.0, omega (arith, may.1))

pub headed_as : (j : Journal) (op : ℕ) (h : Header) (heads : List Sent) → IsJournal j → j.offer ≡ Some (Head h) → heads ≡ j.heads ++ record { op = op; from = h.trimmed; to = h.expire } ∷ []
    → IsJournal (record j { header = h; heads = heads; offer = None })
headed_as j op h heads k o s =
    let may : Continues j h = subst (λ (x : Option Offer). MaySend j x) o k.offer in
    subst (λ (m : List Sent). IsJournal (record j { header = h; heads = m; offer = None })) (sym s) (headed_is j op h k may)

pub removal_within : (j : Journal) (index : ℕ) → IsJournal j → j.offer ≡ Some (Removal index) → index + 1 ≤ 2 ^ 62
removal_within j index k o =
    let may : MaySend j (Some (Removal index)) = subst (λ (x : Option Offer). MaySend j x) o k.offer in
    let s = layout_of j in
    let z : Sizes s = sizes s k.layout in
    let wide : s.sc ≤ period s = omega (arith, mul-le 1 s.sc s.os s.sc (omega (arith, z.os)) (omega arith)) in
    omega (arith, div-add-mod' index s.sc, mod_below index s.sc z.sc, mul-le (index / s.sc + 1) s.sc (index / s.sc + 1) (period s) (omega arith) wide, may.1)

pub removed_as : (j : Journal) (op index : ℕ) (removals : List Sent) → IsJournal j → j.offer ≡ Some (Removal index) → removals ≡ j.removals ++ record { op = op; from = index; to = index + 1 } ∷ []
    → IsJournal (record j { removals = removals; removing = index + 1; offer = None })
removed_as j op index removals k o s =
    let may : MaySend j (Some (Removal index)) = subst (λ (x : Option Offer). MaySend j x) o k.offer in
    subst (λ (m : List Sent). IsJournal (record j { removals = m; removing = index + 1; offer = None })) (sym s) (removed_is j op index k may.0 may.1)

pub purge_small : (j : Journal) (sc p : ℕ) → IsJournal j → sc ≡ (layout_of j).sc → p ≡ period (layout_of j) → (j.removing / sc + 1) * p ≤ j.live → (j.removing / (layout_of j).sc + 1) * period (layout_of j) ≤ 2 ^ 62
purge_small j sc p k e f h =
    let most : (j.removing / sc + 1) * p ≤ 2 ^ 62 = omega (arith, h, k.live, safe_within j k, k.below) in
    subst (λ n. (j.removing / n + 1) * period (layout_of j) ≤ 2 ^ 62) e (subst (λ n. (j.removing / sc + 1) * n ≤ 2 ^ 62) f most)

pub acked_as : (j : Journal) (op live safe done : ℕ) (ends : List ℕ) (sent heads removals : List Sent) → sent ≡ without op j.sent → heads ≡ without op j.heads → removals ≡ without op j.removals → live ≡ expire_of (found op j.heads) j.live
    → done ≡ lowest sent j.flushed → safe ≡ last_end j.safe j.ends done → ends ≡ ends_above j.ends done
    → acknowledged op j ≡ record j { safe = safe; ends = ends; sent = sent; heads = heads; live = live; removals = removals }
acked_as j op live safe done ends sent heads removals a b c d e f g = cc

pub trimmed_fits : (j : Journal) (l sc p : ℕ) → IsJournal j → l ≡ lowest j.removals j.removing → sc ≡ (layout_of j).sc → p ≡ period (layout_of j) → l / sc * p ≤ 2 ^ 63
trimmed_fits j l sc p k a b c =
    subst (λ n. l / sc * n ≤ 2 ^ 63) (sym c)
    (subst (λ n. l / n * period (layout_of j) ≤ 2 ^ 63) (sym b) (subst (λ n. n / (layout_of j).sc * period (layout_of j) ≤ 2 ^ 63) (sym a) (trimmed_small j k)))

pub payload_some : (payload : List ℕ) → IsPayload payload → 1 ≤ length payload
payload_some payload h = leb-true 1 (length payload) (true_and (nat_le 1 (length payload)) (nat_le (length payload) 65516) h).0

pub room_left : (room buffer new e : ℕ) → room ≤ buffer → (e ≤ buffer → buffer ≤ new + e) → room - e ≤ new
room_left room buffer new e h f = elim (cases_lt buffer e) [ inl less ↦ omega (arith, less, h) | inr more ↦ omega (arith, f more, h) ]
