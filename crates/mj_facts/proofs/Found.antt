-- An image whose live journal is read rests with all its events.
use mathlib.Core.Path.{fun_ext}
use Rattle.mj_maps.specs.Map.{get}
use Rattle.mj_recovery.specs.Objects.{Objects}
use Rattle.mj_recovery.specs.Recovered.{Recovery, or_damage, merged_damage, merged_with, gathered, recovered}
use Rattle.std.proofs.Common.{◌≡◌, inl, inr, ℕ, zero, suc, ◌+◌, ◌-◌, ◌*◌, ◌/◌, ◌^◌, ◌<◌, ◌≤◌, Bool, true, false, cond, Option, Some, None, List, [], ◌∷◌, ◌++◌, length, get_or, take, drop, Result, Ok, Err, refl, sym, ◌∙◌, ap, subst, arith, length-append, append_assoc}
use Rattle.std.specs.Prelude.{slice_get, nat_lt, map, unwrap_or, ◌==◌}
use Rattle.std.specs.List.{AllByRecursion}
use Rattle.std.proofs.lemmas.Bool.{cases_lt, eqb-false, lt-ltb}
use Rattle.std.proofs.lemmas.List.{take_all, append_cancel_left, get_or-drop, get_or_append_left, get_or_past}
use Rattle.std.proofs.lemmas.Nat.{div-add-mod', mul-le, le-div}
use Rattle.std.proofs.lemmas.Option.{slice_get-get_or, get_or_from_slice_get}
use Rattle.mj_base.specs.Reading.{◌>>=◌, eight}
use Rattle.mj_base.specs.declared.damage.Damage.{Damage}
use Rattle.mj_base.specs.declared.damage.Damage.TheVariants as damage
use Rattle.mj_base.proofs.Codec.{IsBytes}
use Rattle.mj_store.specs.Object.{Content, Contents}
use Rattle.mj_layout.specs.Striping.{Striping, IsStriping, period}
use Rattle.mj_layout.specs.Place.{object_of, offset_of}
use Rattle.mj_layout.specs.Placing.{window_end}
use Rattle.mj_layout.specs.Header.{header_bytes, header_of, IsHeader}
use Rattle.mj_layout.specs.declared.Header.{Header}
use Rattle.mj_layout.specs.declared.HeaderRefusal.{HeaderRefusal}
use Rattle.mj_layout.specs.declared.HeaderRefusal.TheVariants.{HeaderBad, HeaderOrder}
use Rattle.mj_layout.proofs.Striped.{sizes, Sizes}
use Rattle.mj_layout.proofs.Placed.{placing}
use Rattle.mj_layout.proofs.HeaderLaw.{header_takes, is_header}
use Rattle.mj_entry.specs.Entry.{entry_at, entry_bytes, EntryCase, IsPayload}
use Rattle.mj_entry.specs.Entry.EntryCase.{Whole, Part, BadSentinel, BadLength, BadStart}
use Rattle.mj_entry.proofs.Envelope.{entry_made}
use Rattle.mj_event.specs.declared.Event.{Event}
use Rattle.mj_event.specs.Event.{event_bytes}
use Rattle.mj_event.specs.EventReading.{event_of}
use Rattle.mj_event.proofs.EventLaw.{read_is_spelled}
use Rattle.mj_recovery.specs.Stream.{journal_object, byte_in, byte_at, stream}
use Rattle.mj_recovery.specs.declared.journal.Entries.{Entries}
use Rattle.mj_recovery.specs.Journal.{before, entries_in, beginning, is_beginning, live_entries, live_header, header_in, of_format, journal_from, live_journal}
use Rattle.mj_recovery.specs.Orderly.{IsClearBeyond, HasRecoveredTree}
use Rattle.mj_recovery.specs.Orderly.{window_end as reach}
use Rattle.mj_recovery.specs.declared.journal.LiveEvent.{LiveEvent}
use Rattle.mj_recovery.specs.declared.journal.LiveJournal.{LiveJournal}
use Rattle.mj_facts.specs.Journalled.{Journalled, IsJournalled, IsCarried, Begins, entry_of, size_of, spelled, ends, placed, place_of}
use Rattle.mj_facts.specs.Headers.{HoldsJust}
use Rattle.mj_facts.specs.Rests.{found_journal, HoldsBytes, RestsWhole}
use Rattle.mj_facts.proofs.Bytes.{get_left}
use Rattle.mj_facts.proofs.Scans.{scan, stream_scan, scan_some, scan_none, same_at}
use Rattle.mj_facts.proofs.Entries.{with_first, entries_part, entry_long, size_some, ends_from}
use Rattle.mj_facts.proofs.Parts.{part_cut}
use Rattle.mj_facts.proofs.Recovers.{byte_there, stream_has}
use Rattle.mj_facts.proofs.Laws.{ordered}

-- ---- steps that did not fail

bind_ok : {A B E : Type 0} (r : Result A E) (f : A → Result B E) (y : B) → (r >>= f) ≡ Ok y → (x : A) × (r ≡ Ok x) × (f x ≡ Ok y)
bind_ok (Ok x) f y e = (x, refl, e)
bind_ok (Err d) f y e = absurd cc

abbrev done : {A : Type 0} → A → Result A Damage
done x = Ok x

ok_is : {A : Type 0} (x y : A) → done x ≡ done y → x ≡ y
ok_is x y e = cc

passed_ok : {A : Type 0} (b : Bool) (d : Damage) (r : Result A Damage) (y : A) → cond b (Err d) r ≡ Ok y → (b ≡ false) × (r ≡ Ok y)
passed_ok true d r y e = absurd cc
passed_ok false d r y e = (refl, e)

held_ok : {A : Type 0} (b : Bool) (d : Damage) (r : Result A Damage) (y : A) → cond b r (Err d) ≡ Ok y → (b ≡ true) × (r ≡ Ok y)
held_ok true d r y e = (refl, e)
held_ok false d r y e = absurd cc

-- ---- the header

pub record HeaderFound (held : Option Content) (h : Header) : Type 0 where
  pub is : HoldsJust (header_bytes h) held
  pub sound : IsHeader h
  pub format : h.format ≡ 1

of_format_ok : (r : Result Header HeaderRefusal) (h : Header) → of_format r ≡ Ok h → (r ≡ Ok h) × ((h.format == 0) ≡ false)
of_format_ok (Err (HeaderBad at)) h e = absurd cc
of_format_ok (Err HeaderOrder) h e = absurd cc
of_format_ok (Ok k) h e =
    let t = passed_ok (k.format == 0) damage.Legacy (Ok k) h e in
    let same : k ≡ h = ok_is k h t.1 in
    (ap (λ (x : Header). Ok x) same, ap (λ (x : Header). x.format == 0) (sym same) ∙ t.0)

header_found : (held : Option Content) (h : Header) → ((o : Content) → held ≡ Some o → IsBytes o.bytes) → header_in held ≡ Ok h → HeaderFound held h
header_found None h bytes e = absurd cc
header_found (Some o) h bytes e =
    let t = of_format_ok (header_of o.bytes) h e in
    let k = header_takes o.bytes h (bytes o refl) t.0 in
    let sound = is_header h k.1 k.2 in
    record { is = ap Some k.0; sound = sound; format = omega (arith, sound.format, eqb-false h.format 0 t.1) }

-- ---- the entries

bytes_drop : (n : ℕ) (bytes : List ℕ) → IsBytes bytes → IsBytes (drop n bytes)
bytes_drop n bytes h i = rw get_or-drop (h (n + i))

-- what bytes are that are read as entries
pub record EntriesFound (bytes : List ℕ) (at write : ℕ) (found : Entries) : Type 0 where
  pub events : List Event
  pub is : found ≡ record { events = placed at events; tail = ends at events }
  pub carried : AllByRecursion IsCarried events
  pub rest : List ℕ
  pub bytes_are : bytes ≡ spelled at events ++ rest
  pub part : entry_at rest (ends at events) ≡ Part
  pub reaches : write ≤ ends at events

-- ---- one whole entry

-- the bytes of a payload are among those of its entry
payload_bytes : (bytes payload rest : List ℕ) (at : ℕ) → IsBytes bytes → bytes ≡ entry_bytes at payload ++ rest → IsBytes payload
payload_bytes bytes payload rest at h e i = elim (cases_lt i (length payload)) [
  | inl less ↦
      let inside : drop 12 bytes ≡ payload ++ eight at ++ rest = ap (drop 12) e in
      let same : get_or (drop 12 bytes) i 0 ≡ get_or payload i 0 =
      ap (λ xs. get_or xs i 0) inside ∙ (get_or_append_left (payload ++ eight at) rest 0 i (omega (arith, less, length-append payload (eight at))) ∙ get_or_append_left payload (eight at) 0 i less) in
      subst (λ b. b < 256) same (bytes_drop 12 bytes h i)
  | inr past ↦ subst (λ b. b < 256) (sym (get_or_past payload i 0 past)) (omega arith)
]

record OneFound (bytes : List ℕ) (at next : ℕ) (e : Event) : Type 0 where
  pub carried : IsCarried e
  pub bytes_are : bytes ≡ entry_of at e ++ drop (next - at) bytes
  pub next_is : next ≡ at + size_of e

one_found : (bytes payload : List ℕ) (at next : ℕ) (e : Event) → IsBytes bytes → entry_at bytes at ≡ Whole payload next → event_of payload ≡ Ok e → OneFound bytes at next e
unfolding entry_of size_of
one_found bytes payload at next e fits whole read =
    let m = entry_made bytes payload at next fits whole in
    let s = read_is_spelled payload e (payload_bytes bytes payload (drop (length payload + 20) bytes) at fits m.0) read in
    let size : next - at ≡ length payload + 20 = omega (arith, m.2) in
    record {
      carried = (s.0, subst IsPayload s.1 m.1);
      bytes_are = m.0 ∙ (ap (λ p. entry_bytes at p ++ drop (length payload + 20) bytes) s.1 ∙ ap (λ (k : ℕ). entry_bytes at (event_bytes e) ++ drop k bytes) (sym size));
      next_is = m.2 ∙ ap (λ (p : List ℕ). at + (length p + 20)) s.1;
    }

-- ---- entries one behind the other

-- what is read with whole bytes as the first entry
entries_first : (n : ℕ) (bytes payload : List ℕ) (at write next : ℕ) (e : Event) → entry_at bytes at ≡ Whole payload next → event_of payload ≡ Ok e
    → entries_in (suc n) bytes at write ≡ with_first (record { at = at; event = e }) (entries_in n (drop (next - at) bytes) next write)
unfolding entries_in
entries_first n bytes payload at write next e r v = rw (r, entries_in, v) refl

entries_bad_event : (n : ℕ) (bytes payload : List ℕ) (at write next wrong : ℕ) → entry_at bytes at ≡ Whole payload next → event_of payload ≡ Err wrong → entries_in (suc n) bytes at write ≡ Err (damage.BadEvent at wrong)
unfolding entries_in
entries_bad_event n bytes payload at write next wrong r v = rw (r, entries_in, v) refl

entries_cut : (n : ℕ) (bytes : List ℕ) (at write : ℕ) → entry_at bytes at ≡ Part → at < write → entries_in (suc n) bytes at write ≡ Err (damage.CutEntry at)
unfolding entries_in
entries_cut n bytes at write r h = rw (r, entries_in, lt-ltb at write h) refl

entries_bad_sentinel : (n : ℕ) (bytes : List ℕ) (at write : ℕ) → entry_at bytes at ≡ BadSentinel → entries_in (suc n) bytes at write ≡ Err (damage.BadSentinel at)
unfolding entries_in
entries_bad_sentinel n bytes at write r = rw (r, entries_in) refl

entries_bad_length : (n : ℕ) (bytes : List ℕ) (at write len : ℕ) → entry_at bytes at ≡ BadLength len → entries_in (suc n) bytes at write ≡ Err (damage.BadLength at len)
unfolding entries_in
entries_bad_length n bytes at write len r = rw (r, entries_in) refl

entries_bad_start : (n : ℕ) (bytes : List ℕ) (at write start : ℕ) → entry_at bytes at ≡ BadStart start → entries_in (suc n) bytes at write ≡ Err (damage.BadStart at start)
unfolding entries_in
entries_bad_start n bytes at write start r = rw (r, entries_in) refl

not_both : (r : Result Entries Damage) (d : Damage) (found : Entries) → r ≡ Err d → r ≡ Ok found → ⊥
not_both r d found e e' = absurd cc

-- a whole entry, and what was found behind it
entries_joined : (bytes : List ℕ) (at write next : ℕ) (e : Event) (rest found : Entries) → OneFound bytes at next e → EntriesFound (drop (next - at) bytes) next write rest
    → before (record { at = at; event = e }) rest ≡ found → EntriesFound bytes at write found
entries_joined bytes at write next e rest found one tail is =
    let moved : EntriesFound (drop (next - at) bytes) (at + size_of e) write rest = subst (λ x. EntriesFound (drop (next - at) bytes) x write rest) one.next_is tail in
    record {
      events = e ∷ moved.events;
      is = sym is ∙ ap (before (record { at = at; event = e })) moved.is;
      carried = (one.carried, moved.carried);
      rest = moved.rest;
      bytes_are = one.bytes_are ∙ (ap (λ (t : List ℕ). entry_of at e ++ t) moved.bytes_are ∙ sym (append_assoc (entry_of at e) (spelled (at + size_of e) moved.events) moved.rest));
      part = moved.part;
      reaches = moved.reaches;
    }

-- so it is where the first entry is whole
entries_more : (n : ℕ) (bytes payload : List ℕ) (at write next : ℕ) (e : Event) (found : Entries) → IsBytes bytes → length bytes ≤ n → entry_at bytes at ≡ Whole payload next → event_of payload ≡ Ok e
    → ((found : Entries) → length (drop (next - at) bytes) < n → entries_in n (drop (next - at) bytes) next write ≡ Ok found → EntriesFound (drop (next - at) bytes) next write found)
    → entries_in (suc n) bytes at write ≡ Ok found → EntriesFound bytes at write found
entries_more n bytes payload at write next e found fits long r v rec is =
    let one = one_found bytes payload at next e fits r v in
    let behind = drop (next - at) bytes in
    let size : length bytes ≡ size_of e + length behind = ap length one.bytes_are ∙ omega (arith, length-append (entry_of at e) behind, entry_long at e) in
    let b = bind_ok (entries_in n behind next write) (λ rest. done (before (record { at = at; event = e }) rest)) found (sym (entries_first n bytes payload at write next e r v) ∙ is) in
    entries_joined bytes at write next e b.0 found one (rec b.0 (omega (arith, size, size_some e, long)) b.1) (ok_is (before (record { at = at; event = e }) b.0) found b.2)

-- no entry is there
entries_none : (n : ℕ) (bytes : List ℕ) (at write : ℕ) (found : Entries) → entry_at bytes at ≡ Part → entries_in (suc n) bytes at write ≡ Ok found → EntriesFound bytes at write found
entries_none n bytes at write found r is = elim (cases_lt at write) [
  | inl cut ↦ absurd (not_both (entries_in (suc n) bytes at write) (damage.CutEntry at) found (entries_cut n bytes at write r cut) is)
  | inr fine ↦ record {
    events = [];
    is = sym (ok_is (record { events = []; tail = at }) found (sym (entries_part (suc n) bytes at write r fine) ∙ is));
    carried = tt;
    rest = bytes;
    bytes_are = refl;
    part = r;
    reaches = fine;
  }
]

by_event : (n : ℕ) (bytes payload : List ℕ) (at write next : ℕ) (found : Entries) (v : Result Event ℕ) → event_of payload ≡ v → IsBytes bytes → length bytes ≤ n → entry_at bytes at ≡ Whole payload next
    → ((found : Entries) → length (drop (next - at) bytes) < n → entries_in n (drop (next - at) bytes) next write ≡ Ok found → EntriesFound (drop (next - at) bytes) next write found)
    → entries_in (suc n) bytes at write ≡ Ok found → EntriesFound bytes at write found
by_event n bytes payload at write next found (Ok e) v fits long r rec is = entries_more n bytes payload at write next e found fits long r v rec is
by_event n bytes payload at write next found (Err wrong) v fits long r rec is = absurd (not_both (entries_in (suc n) bytes at write) (damage.BadEvent at wrong) found (entries_bad_event n bytes payload at write next wrong r v) is)

by_case : (n : ℕ) (bytes : List ℕ) (at write : ℕ) (found : Entries) (c : EntryCase) → entry_at bytes at ≡ c → IsBytes bytes → length bytes ≤ n
    → ((next : ℕ) (found : Entries) → length (drop (next - at) bytes) < n → entries_in n (drop (next - at) bytes) next write ≡ Ok found → EntriesFound (drop (next - at) bytes) next write found)
    → entries_in (suc n) bytes at write ≡ Ok found → EntriesFound bytes at write found
by_case n bytes at write found (Whole payload next) r fits long rec is = by_event n bytes payload at write next found (event_of payload) refl fits long r (rec next) is
by_case n bytes at write found Part r fits long rec is = entries_none n bytes at write found r is
by_case n bytes at write found BadSentinel r fits long rec is = absurd (not_both (entries_in (suc n) bytes at write) (damage.BadSentinel at) found (entries_bad_sentinel n bytes at write r) is)
by_case n bytes at write found (BadLength len) r fits long rec is = absurd (not_both (entries_in (suc n) bytes at write) (damage.BadLength at len) found (entries_bad_length n bytes at write len r) is)
by_case n bytes at write found (BadStart start) r fits long rec is = absurd (not_both (entries_in (suc n) bytes at write) (damage.BadStart at start) found (entries_bad_start n bytes at write start r) is)

entries_found : (n : ℕ) (bytes : List ℕ) (at write : ℕ) (found : Entries) → IsBytes bytes → length bytes < n → entries_in n bytes at write ≡ Ok found → EntriesFound bytes at write found
entries_found zero bytes at write found fits long is = absurd (omega (arith, long))
entries_found (suc n) bytes at write found fits long is =
    by_case n bytes at write found (entry_at bytes at) refl fits (omega (arith, long)) (λ next f less e. entries_found n (drop (next - at) bytes) next write f (bytes_drop (next - at) bytes fits) less e) is

beginning_found : (events : List LiveEvent) (tail : ℕ) (g : Entries) → beginning (record { events = events; tail = tail }) ≡ Ok g → record { events = events; tail = tail } ≡ g
beginning_found [] tail g e = ok_is (record { events = []; tail = tail }) g e
beginning_found (x ∷ events) tail g e = ok_is (record { events = x ∷ events; tail = tail }) g (held_ok (is_beginning x.event) (damage.NoSubtreeMap x.at) (Ok (record { events = x ∷ events; tail = tail })) g e).1

begins_found : (at : ℕ) (es : List Event) (tail : ℕ) (g : Entries) → beginning (record { events = placed at es; tail = tail }) ≡ Ok g → Begins es
begins_found at [] tail g e = tt
begins_found at (x ∷ es) tail g e = (held_ok (is_beginning x) (damage.NoSubtreeMap at) (Ok (record { events = placed at (x ∷ es); tail = tail })) g e).0

-- ---- the stream

scan_gets : (n : ℕ) (f : ℕ → Option ℕ) (x i : ℕ) → i < length (scan n f x) → f (x + i) ≡ slice_get (scan n f x) i
unfolding scan
scan_gets zero f x i h = absurd (omega (arith, h))
scan_gets (suc n) f x i h = go (f x) refl i h (λ i l. scan_gets n f (x + 1) i l)
  where
    go : (o : Option ℕ) → f x ≡ o → (i : ℕ) → i < length (scan (suc n) f x) → ((i : ℕ) → i < length (scan n f (x + 1)) → f (x + 1 + i) ≡ slice_get (scan n f (x + 1)) i) → f (x + i) ≡ slice_get (scan (suc n) f x) i
    go None e i h rec = absurd (omega (arith, h, ap length (scan_none (suc n) f x e)))
    go (Some b) e zero h rec = same_at f (x + 0) x (omega arith) ∙ (e ∙ ap (λ (xs : List ℕ). slice_get xs 0) (sym (scan_some n f x b e)))
    go (Some b) e (suc i) h rec =
        same_at f (x + suc i) (x + 1 + i) (omega arith)
        ∙ (rec i (omega (arith, h, ap length (scan_some n f x b e))) ∙ ap (λ (xs : List ℕ). slice_get xs (suc i)) (sym (scan_some n f x b e)))

scan_bytes : (n : ℕ) (f : ℕ → Option ℕ) (x : ℕ) → ((y b : ℕ) → f y ≡ Some b → b < 256) → IsBytes (scan n f x)
unfolding scan
scan_bytes zero f x small = λ i. omega arith
scan_bytes (suc n) f x small = go (f x) refl (scan_bytes n f (x + 1) small)
  where
    go : (o : Option ℕ) → f x ≡ o → IsBytes (scan n f (x + 1)) → IsBytes (scan (suc n) f x)
    go None e rec = subst IsBytes (sym (scan_none (suc n) f x e)) (λ i. omega arith)
    go (Some b) e rec = subst IsBytes (sym (scan_some n f x b e)) (λ i. first b (small x b e) i rec)
      where
        first : (b : ℕ) → b < 256 → (i : ℕ) → IsBytes (scan n f (x + 1)) → get_or (b ∷ scan n f (x + 1)) i 0 < 256
        first b h zero rec = h
        first b h (suc i) rec = rec i

-- each byte of an image is one
image_byte : (image : Contents) (rank : ℕ) (layout : Striping) → HoldsBytes image → (y b : ℕ) → byte_at image rank layout y ≡ Some b → b < 256
image_byte image rank layout all y b e =
    by_object (image (journal_object rank (object_of layout y))) (offset_of layout y) (all (journal_object rank (object_of layout y))) (sym (byte_there image rank layout y) ∙ e)
  where
    by_object : (held : Option Content) (offset : ℕ) → ((o : Content) → held ≡ Some o → IsBytes o.bytes) → byte_in offset held ≡ Some b → b < 256
    by_object None offset small e = absurd cc
    by_object (Some o) offset small e = subst (λ c. c < 256) (get_or_from_slice_get o.bytes offset b 0 e) (small o refl offset)

-- ---- what is read of an image

record JournalFound (image : Contents) (rank : ℕ) (live : LiveJournal) : Type 0 where
  pub header : HeaderFound (image (journal_object rank 0)) live.header
  pub entries : EntriesFound (stream image rank live.header.layout live.header.expire) live.header.expire live.header.write (record { events = live.events; tail = live.tail })
  pub begins : Begins entries.events

entries_live : (bytes : List ℕ) (expire write : ℕ) (found : Entries) → IsBytes bytes → live_entries bytes expire write ≡ Ok found → (e : EntriesFound bytes expire write found) × Begins e.events
entries_live bytes expire write found fits is =
    let end = expire + length bytes in
    let t = passed_ok (nat_lt end write) (damage.Hole end) (entries_in (length bytes + 1) bytes expire write >>= beginning) found is in
    let b = bind_ok (entries_in (length bytes + 1) bytes expire write) beginning found t.1 in
    let same : b.0 ≡ found = beginning_found b.0.events b.0.tail found b.2 in
    let e : EntriesFound bytes expire write found = entries_found (length bytes + 1) bytes expire write found fits (omega arith) (b.1 ∙ ap done same) in
    let first : beginning (record { events = placed expire e.events; tail = ends expire e.events }) ≡ Ok found = ap beginning (sym e.is) ∙ (ap beginning (sym same) ∙ b.2) in
    (e, begins_found expire e.events (ends expire e.events) found first)

journal_found : (image : Contents) (rank : ℕ) (live : LiveJournal) → HoldsBytes image → live_journal image rank ≡ Ok live → JournalFound image rank live
unfolding journal_from
journal_found image rank live all is =
    let h = bind_ok (live_header image rank) (journal_from image rank) live is in
    let bytes = stream image rank h.0.layout h.0.expire in
    let f = bind_ok (live_entries bytes h.0.expire h.0.write) (λ found. done (record { header = h.0; events = found.events; tail = found.tail })) live h.2 in
    let made : LiveJournal = record { header = h.0; events = f.0.events; tail = f.0.tail } in
    let fits : IsBytes bytes = subst IsBytes (sym (stream_scan image rank h.0.layout (2 ^ 62 - h.0.expire) h.0.expire)) (scan_bytes (2 ^ 62 - h.0.expire) (byte_at image rank h.0.layout) h.0.expire (image_byte image rank h.0.layout all)) in
    let e = entries_live bytes h.0.expire h.0.write f.0 fits f.1 in
    let here : JournalFound image rank made = record { header = header_found (image (journal_object rank 0)) h.0 (all (journal_object rank 0)) h.1; entries = e.0; begins = e.1 } in
    subst (JournalFound image rank) (ok_is made live f.2) here

-- ---- it rests

map_placed : (at : ℕ) (es : List Event) → map (λ (e : LiveEvent). e.event) (placed at es) ≡ es
map_placed at [] = refl
map_placed at (e ∷ es) = ap (λ (t : List Event). e ∷ t) (map_placed (at + size_of e) es)

-- no byte is in a set beyond the window
beyond : (image : Contents) (rank : ℕ) (l : Striping) (tail x : ℕ) → IsStriping l → IsClearBeyond rank l tail image → window_end l tail ≤ x → byte_at image rank l x ≡ None
unfolding window_end
beyond image rank l tail x ok clear far =
    byte_there image rank l x ∙ by_object (image (journal_object rank (object_of l x))) refl
  where
    z : Sizes l
    z = sizes l ok

    set : reach l tail / period l + 1 ≤ object_of l x / l.sc
    set = omega (arith, (placing l ok).set x, le-div (reach l tail / period l + 1) x (period l) (omega (arith, z.period_least)) (omega (arith, far)))

    later : reach l tail / period l * l.sc + l.sc - 1 < object_of l x
    later = omega (arith, z.sc, div-add-mod' (object_of l x) l.sc, mul-le (reach l tail / period l + 1) l.sc (object_of l x / l.sc) l.sc set (omega arith))

    by_object : (held : Option Content) → image (journal_object rank (object_of l x)) ≡ held → byte_in (offset_of l x) held ≡ None
    by_object None e = refl
    by_object (Some o) e = ap (λ (bytes : List ℕ). slice_get bytes (offset_of l x)) (clear (object_of l x) o later e)

-- what an option holds
held_value : (o : Option ℕ) (b : ℕ) → o ≡ Some b → o ≡ Some (unwrap_or o 0)
held_value None b e = absurd cc
held_value (Some c) b e = refl

abbrev shown : Contents → ℕ → Header → List Event → Journalled
shown image rank h es = record { rank = rank; layout = h.layout; start = h.expire; events = es; want = λ x. unwrap_or (byte_at image rank h.layout x) 0 }

shown_rests : (image : Contents) (rank : ℕ) (h : Header) (es : List Event) (rest : List ℕ) → HeaderFound (image (journal_object rank 0)) h → AllByRecursion IsCarried es → Begins es
    → stream image rank h.layout h.expire ≡ spelled h.expire es ++ rest → entry_at rest (ends h.expire es) ≡ Part → h.write ≤ ends h.expire es → ends h.expire es < 2 ^ 62
    → IsClearBeyond rank h.layout (ends h.expire es) image → RestsWhole (shown image rank h es) h image
shown_rests image rank h es rest head carried begins bytes part write below clear =
    let j = shown image rank h es in
    let f = byte_at image rank h.layout in
    let o = ordered h head.sound in
    let all = stream image rank h.layout h.expire in
    let is_scan : all ≡ scan (2 ^ 62 - h.expire) f h.expire = stream_scan image rank h.layout (2 ^ 62 - h.expire) h.expire in
    let long : length all ≡ length (spelled h.expire es) + length rest = ap length bytes ∙ length-append (spelled h.expire es) rest in
    let got : (i : ℕ) → i < length all → f (h.expire + i) ≡ slice_get all i = λ i l.
    scan_gets (2 ^ 62 - h.expire) f h.expire i (omega (arith, l, ap length is_scan)) ∙ ap (λ (xs : List ℕ). slice_get xs i) (sym is_scan) in
    let there : (i : ℕ) → i < length all → f (h.expire + i) ≡ Some (j.want (h.expire + i)) = λ i l. held_value (f (h.expire + i)) (get_or all i 0) (got i l ∙ slice_get-get_or all i 0 l) in
    let last : place_of j (length es) ≡ ends h.expire es = ap (ends h.expire) (take_all (length es) es (omega arith)) in
    let journalled : IsJournalled j = record {
      layout = head.sound.layout;
      aligned = omega (arith, o.trimmed, o.expire);
      carried = carried;
      wants = λ i l. sym (get_left (spelled h.expire es) rest i l) ∙ (ap (λ (xs : List ℕ). slice_get xs i) (sym bytes) ∙ (sym (got i (omega (arith, l, long))) ∙ there i (omega (arith, l, long))));
      below = below;
    } in
    let has : (x : ℕ) → h.expire ≤ x → x < place_of j (length es) → f x ≡ Some (j.want x) = λ x lo hi.
    subst (λ y. f y ≡ Some (j.want y)) (back x h.expire lo) (there (x - h.expire) (omega (arith, lo, hi, last, ends_from es h.expire, long))) in
    let again : all ≡ spelled h.expire (take (length es - 0) es) ++ stream image rank h.layout (place_of j (length es)) = stream_has image j 0 (length es) journalled (omega arith) has in
    let whole : take (length es - 0) es ≡ es = take_all (length es - 0) es (omega arith) in
    let rest_is : stream image rank h.layout (place_of j (length es)) ≡ rest =
    append_cancel_left (spelled h.expire es) (stream image rank h.layout (place_of j (length es))) rest
    (ap (λ (xs : List Event). spelled h.expire xs ++ stream image rank h.layout (place_of j (length es))) (sym whole) ∙ (sym again ∙ bytes)) in
    record {
      journalled = journalled;
      rests = record {
        header = h;
        stands = head.is;
        bounded = record { sound = head.sound; layout = refl; format = head.format; first = 0; starts = refl; live = omega arith; begins = begins; write = omega (arith, write, last) };
        within = omega arith;
        has = has;
        part = λ k. ap (λ t. entry_at (take k t) (place_of j (length es))) rest_is ∙ subst (λ y. entry_at (take k rest) y ≡ Part) (sym last) (part_cut rest (ends h.expire es) k part);
        clear = λ x far. beyond image rank h.layout (ends h.expire es) x head.sound.layout clear (subst (λ y. window_end h.layout y ≤ x) last far);
      };
      stands = refl;
    }
  where
    back : (x at : ℕ) → at ≤ x → at + (x - at) ≡ x
    back x at h = omega (arith, h)

pub found_rests : (image : Contents) (rank : ℕ) (live : LiveJournal) → HoldsBytes image → live_journal image rank ≡ Ok live → live.tail < 2 ^ 62 → IsClearBeyond rank live.header.layout live.tail image
    → RestsWhole (found_journal image rank live) live.header image
found_rests image rank live all is below clear =
    let g = journal_found image rank live all is in
    let h = live.header in
    let es = g.entries.events in
    let events : live.events ≡ placed h.expire es = ap (λ (e : Entries). e.events) g.entries.is in
    let tail : live.tail ≡ ends h.expire es = ap (λ (e : Entries). e.tail) g.entries.is in
    let same : es ≡ map (λ (e : LiveEvent). e.event) live.events = sym (ap (map (λ (e : LiveEvent). e.event)) events ∙ map_placed h.expire es) in
    subst (λ xs. RestsWhole (shown image rank h xs) h image) same
    (shown_rests image rank h es g.entries.rest g.header g.entries.carried g.begins g.entries.bytes_are g.entries.part g.entries.reaches (omega (arith, below, tail)) (subst (λ y. IsClearBeyond rank h.layout y image) tail clear))

-- ---- an image that recovers

or_damage_ok : {A : Type 0} (d : Option Damage) (x y : A) → or_damage d x ≡ Ok y → x ≡ y
or_damage_ok None x y e = ok_is x y e
or_damage_ok (Some d) x y e = absurd cc

recovered_journal : (rank : ℕ) (m : Objects) (r : Recovery) → recovered rank m ≡ Ok r → live_journal (get m) rank ≡ Ok r.journal
unfolding recovered
recovered_journal rank m r is =
    let g = bind_ok (gathered rank m) (λ x. or_damage (merged_damage rank m x.journal x.table) x) r is in
    let b = bind_ok (live_journal (get m) rank) (λ j. done (merged_with rank m j)) g.0 g.1 in
    let same : merged_with rank m b.0 ≡ r = ok_is (merged_with rank m b.0) g.0 b.2 ∙ or_damage_ok (merged_damage rank m g.0.journal g.0.table) g.0 r g.2 in
    b.1 ∙ ap done (ap (λ (x : Recovery). x.journal) same)

pub recovers_rests : (rank : ℕ) (image : Contents) (r : Recovery) → HoldsBytes image → HasRecoveredTree rank image r → RestsWhole (found_journal image rank r.journal) r.journal.header image
recovers_rests rank image r all t =
    let same : get t.recovers.objects ≡ image = fun_ext (λ name. t.recovers.holds name) in
    let read : live_journal image rank ≡ Ok r.journal = subst (λ (m : Contents). live_journal m rank ≡ Ok r.journal) same (recovered_journal rank t.recovers.objects r t.recovers.recovers) in
    found_rests image rank r.journal all read t.tail t.clear
