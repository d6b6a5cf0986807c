-- Contents that show a stream recover to a front of its events, and that is what is read from them.
use Rattle.std.proofs.Common.{◌≡◌, ◌⊎◌, inl, inr, ℕ, ◌+◌, ◌-◌, ◌*◌, ◌^◌, ◌<◌, ◌≤◌, Option, Some, None, List, ◌++◌, length, take, drop, Result, Ok, Err, refl, sym, ◌∙◌, ap, subst, arith, min, length-append, length-drop}
use Rattle.std.specs.Prelude.{slice_get, nat_lt}
use Rattle.std.specs.List.{AllByRecursion}
use Rattle.std.proofs.lemmas.Bool.{cases_lt, cond-false, le-ltb}
use Rattle.std.proofs.lemmas.List.{length-take, length-take-le, take_all, append_cancel_left}
use Rattle.mj_base.specs.Reading.{◌>>=◌}
use Rattle.mj_base.specs.declared.damage.Damage.{Damage}
use Rattle.mj_base.specs.declared.damage.Damage.TheVariants as damage
use Rattle.mj_store.specs.Object.{Contents}
use Rattle.mj_store.specs.Causes.{In}
use Rattle.mj_layout.specs.Striping.{Striping, period}
use Rattle.mj_layout.specs.Place.{object_of, offset_of}
use Rattle.mj_layout.specs.Header.{header_bytes}
use Rattle.mj_layout.specs.declared.Header.{Header}
use Rattle.mj_layout.proofs.Placed.{placing}
use Rattle.mj_entry.specs.Entry.{entry_at}
use Rattle.mj_entry.specs.Entry.EntryCase.{Part}
use Rattle.mj_event.specs.declared.Event.{Event}
use Rattle.mj_recovery.specs.Stream.{journal_object, byte_in, byte_at, stream}
use Rattle.mj_recovery.specs.declared.journal.Entries.{Entries}
use Rattle.mj_recovery.specs.Journal.{entries_in, beginning, live_entries, live_header, journal_from, live_journal}
use Rattle.mj_recovery.specs.declared.journal.LiveJournal.{LiveJournal}
use Rattle.mj_facts.specs.Journalled.{Journalled, IsJournalled, IsCarried, Begins, Wants, spelled, ends, placed, place_of, end_of}
use Rattle.mj_facts.specs.Headers.{HoldsJust, IsBounded}
use Rattle.mj_facts.specs.Rests.{Rests, RestsWith, IsFront, journal_of}
use Rattle.mj_facts.proofs.Bytes.{get_take}
use Rattle.mj_facts.proofs.Scans.{same_at, stream_scan, Front, scan_front, scan_has, take_min_take}
use Rattle.mj_facts.proofs.Entries.{entries_read, beginning_is, ends_from, carried_drop, carried_take, place_from, place_rest, place_below, place_until, place_rises, place_back, wants_take, wants_drop, begins_front}
use Rattle.mj_facts.proofs.Cuts.{Cut, cut}
use Rattle.mj_facts.proofs.Heads.{header_is}

-- the byte at a position, by its object and offset
pub byte_there : (image : Contents) (rank : ℕ) (layout : Striping) (x : ℕ) → byte_at image rank layout x ≡ byte_in (offset_of layout x) (image (journal_object rank (object_of layout x)))
unfolding byte_at
byte_there image rank layout x = refl

-- ---- what rests is read

-- the bytes of the events from one on, up to another
live_bytes : (j : Journalled) → IsJournalled j → (first count : ℕ) → Wants j.want (place_of j first) (spelled (place_of j first) (take (count - first) (drop first j.events)))
live_bytes j ok first count = wants_take j.want (place_of j first) (drop first j.events) (count - first) (wants_drop j.want j.start j.events first ok.wants)

-- where the bytes of events are there, the stream is these bytes and those behind them
pub stream_has : (image : Contents) (j : Journalled) (first count : ℕ) → IsJournalled j → first ≤ count
    → ((x : ℕ) → place_of j first ≤ x → x < place_of j count → byte_at image j.rank j.layout x ≡ Some (j.want x))
    → stream image j.rank j.layout (place_of j first) ≡ spelled (place_of j first) (take (count - first) (drop first j.events)) ++ stream image j.rank j.layout (place_of j count)
stream_has image j first count ok live has =
    let f = byte_at image j.rank j.layout in
    let at = place_of j first in
    let tail = place_of j count in
    let es = take (count - first) (drop first j.events) in
    let bytes = spelled at es in
    let tail_at : tail ≡ at + length bytes = place_until j first count live ∙ ends_from es at in
    stream_scan image j.rank j.layout (2 ^ 62 - at) at
    ∙ (scan_has bytes (2 ^ 62 - at) (2 ^ 62 - tail) f at tail (omega (arith, tail_at, place_below j count, ok.below)) tail_at
    (λ i h. has (at + i) (omega arith) (omega (arith, tail_at, h)) ∙ sym (live_bytes j ok first count i h))
    ∙ ap (λ (t : List ℕ). bytes ++ t) (sym (stream_scan image j.rank j.layout (2 ^ 62 - tail) tail)))

-- the live entries of a stream of whole entries and a part
live_entries_are : (es : List Event) (rest : List ℕ) (at write : ℕ) → AllByRecursion IsCarried es → Begins es → ends at es ≤ 2 ^ 62 → entry_at rest (ends at es) ≡ Part → write ≤ ends at es
    → live_entries (spelled at es ++ rest) at write ≡ Ok (record { events = placed at es; tail = ends at es })
live_entries_are es rest at write fit first far part h =
    let bytes = spelled at es ++ rest in
    let long : length bytes ≡ length (spelled at es) + length rest = length-append (spelled at es) rest in
    cond-false (nat_lt (at + length bytes) write) (Err (damage.Hole (at + length bytes))) (entries_in (length bytes + 1) bytes at write >>= beginning) (le-ltb (at + length bytes) write (omega (arith, long, h, ends_from es at)))
    ∙ (ap (λ (r : Result Entries Damage). r >>= beginning) (entries_read es (length bytes + 1) rest at write fit far (omega (arith, long)) part h)
    ∙ beginning_is at (ends at es) es first)

abbrev pub with_header : Header → Result Entries Damage → Result LiveJournal Damage
with_header h r = r >>= λ found. Ok (record { header = h; events = found.events; tail = found.tail })

from_bytes : (image : Contents) (rank : ℕ) (h : Header) (bytes : List ℕ) → stream image rank h.layout h.expire ≡ bytes → journal_from image rank h ≡ with_header h (live_entries bytes h.expire h.write)
unfolding journal_from
from_bytes image rank h bytes e = ap (λ b. with_header h (live_entries b h.expire h.write)) e

header_read : (image : Contents) (rank : ℕ) (h : Header) → live_header image rank ≡ Ok h → live_journal image rank ≡ journal_from image rank h
header_read image rank h e = ap (λ (r : Result Header Damage). r >>= λ k. journal_from image rank k) e

pub rests_read : (j : Journalled) (count : ℕ) (image : Contents) → IsJournalled j → (r : Rests j count image) → live_journal image j.rank ≡ Ok (journal_of j r.header r.bounded.first count)
rests_read j count image ok r =
    let h = r.header in
    let b = r.bounded in
    let at = place_of j b.first in
    let tail = place_of j count in
    let es = take (count - b.first) (drop b.first j.events) in
    let rest = stream image j.rank j.layout tail in
    let tail_is : tail ≡ ends at es = place_until j b.first count b.live in
    let bytes : stream image j.rank j.layout at ≡ spelled at es ++ rest = stream_has image j b.first count ok b.live (λ x lo hi. r.has x (omega (arith, lo, b.starts)) hi) in
    let here : stream image j.rank h.layout h.expire ≡ spelled at es ++ rest = ap (λ l. stream image j.rank l h.expire) b.layout ∙ (ap (stream image j.rank j.layout) b.starts ∙ bytes) in
    let part : entry_at rest (ends at es) ≡ Part = subst (λ y. entry_at rest y ≡ Part) tail_is (ap (λ t. entry_at t tail) (sym (take_all (length rest) rest (omega arith))) ∙ r.part (length rest)) in
    let entries : live_entries (spelled at es ++ rest) at h.write ≡ Ok (record { events = placed at es; tail = ends at es }) =
    live_entries_are es rest at h.write (carried_take (count - b.first) (drop b.first j.events) (carried_drop b.first j.events ok.carried)) (begins_front (count - b.first) (drop b.first j.events) b.begins)
    (omega (arith, sym tail_is, place_below j count, ok.below)) part (omega (arith, b.write, tail_is)) in
    header_read image j.rank h (header_is (image (journal_object j.rank 0)) h r.stands b.sound b.format)
    ∙ (from_bytes image j.rank h (spelled at es ++ rest) here
    ∙ (ap (λ x. with_header h (live_entries (spelled at es ++ rest) x h.write)) b.starts
    ∙ (ap (with_header h) entries ∙ ap (λ y. Ok (record { header = h; events = placed at es; tail = y })) (sym tail_is))))

pub rests_front : (j : Journalled) (safe : ℕ) (headers : List Header) (image : Contents) → IsJournalled j → RestsWith j safe headers image → IsFront j safe headers image
rests_front j safe headers image ok w = record {
  header = w.rests.header;
  standing = w.standing;
  first = w.rests.bounded.first;
  starts = w.rests.bounded.starts;
  count = w.count;
  live = w.rests.bounded.live;
  within = w.rests.within;
  enough = w.enough;
  reaches = place_rises j safe w.count w.enough;
  read = rests_read j w.count image ok w.rests;
}

-- ---- contents that show a stream

pub record Shows (j : Journalled) (base safe flushed : ℕ) (image : Contents) : Type 0 where
  pub has : (x : ℕ) → base ≤ x → x < safe → byte_at image j.rank j.layout x ≡ Some (j.want x)
  pub may : (x : ℕ) → base ≤ x → x < flushed → (byte_at image j.rank j.layout x ≡ None) ⊎ (byte_at image j.rank j.layout x ≡ Some (j.want x))
  pub none : (x : ℕ) → flushed ≤ x → byte_at image j.rank j.layout x ≡ None

-- The events from one on, of which every byte up to `safe` is there: a count of them stands whole, and behind it is a part.
record Reached (j : Journalled) (first safe : ℕ) (image : Contents) : Type 0 where
  pub count : ℕ
  pub enough : safe ≤ count
  pub within : count ≤ length j.events
  pub there : (x : ℕ) → place_of j first ≤ x → x < place_of j count → byte_at image j.rank j.layout x ≡ Some (j.want x)
  pub part : (k : ℕ) → entry_at (take k (stream image j.rank j.layout (place_of j count))) (place_of j count) ≡ Part

missing : (o : Option ℕ) (b : ℕ) → o ≡ None → o ≡ Some b → ⊥
missing o b e e' = absurd cc

back : (x at : ℕ) → at ≤ x → at + (x - at) ≡ x
back x at h = omega arith

-- the bytes of the events from one on, and those of them that were sent
abbrev bytes_of : Journalled → ℕ → List ℕ
bytes_of j first = spelled (place_of j first) (drop first j.events)

abbrev sent_of : Journalled → ℕ → ℕ → List ℕ
sent_of j first flushed = take (flushed - place_of j first) (bytes_of j first)

-- what there is of them, up to the first gap
abbrev Scanned : Journalled → ℕ → ℕ → Contents → Type 0
Scanned j first flushed image = Front (byte_at image j.rank j.layout) (place_of j first) (sent_of j first flushed) (2 ^ 62 - place_of j first)

bytes_end : (j : Journalled) (first : ℕ) → end_of j ≡ place_of j first + length (bytes_of j first)
bytes_end j first = sym (place_rest j first) ∙ ends_from (drop first j.events) (place_of j first)

sent_long : (j : Journalled) (first flushed : ℕ) → flushed ≤ end_of j → length (sent_of j first flushed) ≡ flushed - place_of j first
sent_long j first flushed under = length-take-le (flushed - place_of j first) (bytes_of j first) (omega (arith, bytes_end j first, under))

sent_is : (j : Journalled) (first flushed i : ℕ) → IsJournalled j → flushed ≤ end_of j → i < flushed - place_of j first → slice_get (sent_of j first flushed) i ≡ Some (j.want (place_of j first + i))
sent_is j first flushed i ok under h =
    get_take (flushed - place_of j first) (bytes_of j first) i h ∙ wants_drop j.want j.start j.events first ok.wants i (omega (arith, h, bytes_end j first, under))

scanned : (j : Journalled) (first flushed base safe : ℕ) (image : Contents) → IsJournalled j → Shows j base safe flushed image → base ≤ place_of j first → place_of j first ≤ flushed → flushed ≤ end_of j → Scanned j first flushed image
scanned j first flushed base safe image ok sh above order under =
    let at = place_of j first in
    let bytes = sent_of j first flushed in
    let long = sent_long j first flushed under in
    scan_front bytes (2 ^ 62 - at) (byte_at image j.rank j.layout) at (omega (arith, long, ok.below, under))
    (λ i h. elim (sh.may (at + i) (omega (arith, above)) (omega (arith, long, h))) [ inl a ↦ inl a | inr b ↦ inr (b ∙ sym (sent_is j first flushed i ok under (omega (arith, long, h)))) ])
    (λ h. sh.none (at + length bytes) (omega (arith, long, order)))

-- it goes on to the safe position
scan_reaches : (j : Journalled) (first flushed base safe : ℕ) (image : Contents) → Shows j base safe flushed image → base ≤ place_of j first → safe ≤ flushed → flushed ≤ end_of j → (fr : Scanned j first flushed image) → safe ≤ place_of j first + fr.count
scan_reaches j first flushed base safe image sh above covers under fr =
    let x = place_of j first + fr.count in
    elim (cases_lt x safe) [
      | inl gap ↦ absurd (missing (byte_at image j.rank j.layout x) (j.want x) (fr.gap (omega (arith, sent_long j first flushed under, covers, gap))) (sh.has x (omega (arith, above)) gap))
      | inr fine ↦ fine
    ]

-- and up to its end the wanted bytes are there
scan_there : (j : Journalled) (first flushed : ℕ) (image : Contents) → IsJournalled j → flushed ≤ end_of j → (fr : Scanned j first flushed image) → (x : ℕ) → place_of j first ≤ x → x < flushed → x < place_of j first + fr.count → byte_at image j.rank j.layout x ≡ Some (j.want x)
scan_there j first flushed image ok under fr x lo sent hi =
    let at = place_of j first in
    let i = x - at in
    same_at (byte_at image j.rank j.layout) x (at + i) (omega (arith, lo))
    ∙ (fr.there i (omega (arith, lo, hi)) ∙ (sent_is j first flushed i ok under (omega (arith, lo, sent)) ∙ ap (λ y. Some (j.want y)) (back x at lo)))

-- The scan is cut where the last whole entry in it ends.
cut_scan : (j : Journalled) (first flushed : ℕ) (image : Contents) → IsJournalled j → (fr : Scanned j first flushed image) → Cut (place_of j first) (drop first j.events) (min fr.count (flushed - place_of j first))
cut_scan j first flushed image ok fr = cut (drop first j.events) (place_of j first) (min fr.count (flushed - place_of j first)) (carried_drop first j.events ok.carried) (omega (arith, place_rest j first, ok.below))

cut_is : (j : Journalled) (first flushed : ℕ) (image : Contents) (fr : Scanned j first flushed image) (c : Cut (place_of j first) (drop first j.events) (min fr.count (flushed - place_of j first)))
    → stream image j.rank j.layout (place_of j first) ≡ spelled (place_of j first) (take c.count (drop first j.events)) ++ c.rest
cut_is j first flushed image fr c = stream_scan image j.rank j.layout (2 ^ 62 - place_of j first) (place_of j first) ∙ (fr.is ∙ (take_min_take fr.count (flushed - place_of j first) (bytes_of j first) ∙ c.is))

-- behind the whole entries stands what is left of the scan
behind_cut : (j : Journalled) (first count : ℕ) (image : Contents) (rest : List ℕ) → IsJournalled j
    → ((x : ℕ) → place_of j first ≤ x → x < place_of j (first + count) → byte_at image j.rank j.layout x ≡ Some (j.want x))
    → stream image j.rank j.layout (place_of j first) ≡ spelled (place_of j first) (take count (drop first j.events)) ++ rest → stream image j.rank j.layout (place_of j (first + count)) ≡ rest
behind_cut j first count image rest ok there is =
    let at = place_of j first in
    let es = drop first j.events in
    let tail = stream image j.rank j.layout (place_of j (first + count)) in
    let again : spelled at (take (first + count - first) es) ++ tail ≡ spelled at (take count es) ++ rest = sym (stream_has image j first (first + count) ok (omega arith) there) ∙ is in
    append_cancel_left (spelled at (take count es)) tail rest (ap (λ (n : ℕ). spelled at (take n es) ++ tail) (plus_less first count) ∙ again)
  where
    plus_less : (i k : ℕ) → k ≡ i + k - i
    plus_less i k = omega arith

reached : (j : Journalled) (first flushed base safe : ℕ) (image : Contents) → IsJournalled j → Shows j base (place_of j safe) flushed image → base ≤ place_of j first → first ≤ safe → safe ≤ length j.events
    → place_of j safe ≤ flushed → flushed ≤ end_of j → Reached j first safe image
reached j first flushed base safe image ok sh above live within covers under =
    let at = place_of j first in
    let es = drop first j.events in
    let order : at ≤ place_of j safe = place_rises j first safe live in
    let fr = scanned j first flushed base (place_of j safe) image ok sh above (omega (arith, order, covers)) under in
    let c = cut_scan j first flushed image ok fr in
    let front = take c.count es in
    let tail = place_of j (first + c.count) in
    let tail_is : tail ≡ ends at front = place_from j first c.count in
    let tail_at : tail ≡ at + length (spelled at front) = tail_is ∙ ends_from front at in
    let cut_long : length (spelled at front) ≤ min fr.count (flushed - at) = omega (arith, length-append (spelled at front) c.rest, ap length c.is, length-take (min fr.count (flushed - at)) (bytes_of j first)) in
    let there : (x : ℕ) → at ≤ x → x < tail → byte_at image j.rank j.layout x ≡ Some (j.want x) =
    λ x lo hi. scan_there j first flushed image ok under fr x lo (omega (arith, cut_long, tail_at, hi, order, covers)) (omega (arith, cut_long, tail_at, hi)) in
    let safe_is : place_of j safe ≡ ends at (take (safe - first) es) = place_until j first safe live in
    let safe_in : place_of j safe ≤ tail =
    omega (arith, safe_is, tail_is, c.most (safe - first) (omega (arith, safe_is, scan_reaches j first flushed base (place_of j safe) image sh above covers under fr, covers, order))) in
    let rest_is : stream image j.rank j.layout tail ≡ c.rest = behind_cut j first c.count image c.rest ok there (cut_is j first flushed image fr c) in
    record {
      count = first + c.count;
      enough = place_back j safe (first + c.count) within safe_in;
      within = omega (arith, c.within, length-drop first j.events, live, within);
      there = there;
      part = λ n. ap (λ t. entry_at (take n t) tail) rest_is ∙ subst (λ y. entry_at (take n c.rest) y ≡ Part) (sym tail_is) (c.part n);
    }

-- what a stop leaves rests with no less than what is safe
pub shows_rests : (j : Journalled) (base safe flushed : ℕ) (headers : List Header) (image : Contents) (h : Header) → IsJournalled j → Shows j base (place_of j safe) flushed image
    → In h headers → HoldsJust (header_bytes h) (image (journal_object j.rank 0)) → IsBounded j safe h → base ≤ h.expire
    → safe ≤ length j.events → place_of j safe ≤ flushed → flushed ≤ end_of j → flushed ≤ place_of j safe + 4 * period j.layout → RestsWith j safe headers image
shows_rests j base safe flushed headers image h ok sh standing stands b above within covers under window =
    let r = reached j b.first flushed base safe image ok sh (omega (arith, above, b.starts)) b.live within covers under in
    let order : place_of j safe ≤ place_of j r.count = place_rises j safe r.count r.enough in
    record {
      count = r.count;
      enough = r.enough;
      standing = standing;
      rests = record {
        header = h;
        stands = stands;
        bounded = record {
          sound = b.sound;
          layout = b.layout;
          format = b.format;
          first = b.first;
          starts = b.starts;
          live = omega (arith, b.live, r.enough);
          begins = b.begins;
          write = omega (arith, b.write, order);
        };
        within = r.within;
        has = λ x lo hi. r.there x (omega (arith, b.starts, lo)) hi;
        part = r.part;
        clear = λ x far. sh.none x (omega (arith, far, (placing j.layout ok.layout).window (place_of j r.count) flushed (omega (arith, window, order)) (omega (arith, under, ok.below))));
      };
    }
