-- Entries of events: read whole as they are spelled, and where they stand.
use Rattle.std.proofs.Common.{◌≡◌, inl, inr, ℕ, zero, suc, ◌+◌, ◌-◌, ◌^◌, ◌<◌, ◌≤◌, List, [], ◌∷◌, ◌++◌, length, take, drop, Result, Ok, Err, refl, sym, ◌∙◌, ap, subst, arith, length-append, append_assoc}
use Rattle.std.specs.Prelude.{Some}
use Rattle.std.specs.List.{AllByRecursion}
use Rattle.std.proofs.lemmas.Bool.{cases_lt, cond-true, le-ltb}
use Rattle.std.proofs.lemmas.List.{take_all, drop_at, take-append-drop, take-append-le}
use Rattle.mj_base.specs.Reading.{◌>>=◌, eight}
use Rattle.mj_base.specs.declared.damage.Damage.{Damage}
use Rattle.mj_base.specs.declared.damage.Damage.TheVariants as damage
use Rattle.mj_entry.specs.Entry.{entry_at}
use Rattle.mj_entry.specs.Entry.EntryCase.{Whole, Part}
use Rattle.mj_entry.proofs.Envelope as envelope
use Rattle.mj_event.specs.declared.Event.{Event}
use Rattle.mj_event.specs.Event.{event_bytes, IsEvent}
use Rattle.mj_event.proofs.EventLaw as event_law
use Rattle.mj_recovery.specs.declared.journal.Entries.{Entries}
use Rattle.mj_recovery.specs.Journal.{before, entries_in, beginning, is_beginning}
use Rattle.mj_recovery.specs.declared.journal.LiveEvent.{LiveEvent}
use Rattle.mj_facts.specs.Journalled.{IsCarried, entry_of, size_of, spelled, ends, placed, Begins, Wants, Journalled, place_of, end_of}
use Rattle.mj_facts.proofs.Bytes.{get_left, get_right_at}
use Rattle.mj_facts.proofs.Scans.{same_take}

-- ---- one entry

pub entry_long : (at : ℕ) (e : Event) → length (entry_of at e) ≡ size_of e
unfolding entry_of size_of
entry_long at e = omega (arith, length-append (event_bytes e) (eight at))

pub size_some : (e : Event) → 1 ≤ size_of e
unfolding size_of
size_some e = omega arith

pub entry_reads : (at : ℕ) (e : Event) (rest : List ℕ) → IsCarried e → at ≤ 2 ^ 62 → entry_at (entry_of at e ++ rest) at ≡ Whole (event_bytes e) (at + size_of e)
unfolding entry_of size_of
entry_reads at e rest fits h = envelope.entry_whole at (event_bytes e) rest fits.1 (omega (arith, h)) ∙ ap (λ n. Whole (event_bytes e) n) (together at (length (event_bytes e)))
  where
    together : (at n : ℕ) → at + n + 20 ≡ at + (n + 20)
    together at n = omega arith

pub entry_cut : (at k : ℕ) (e : Event) → IsCarried e → k < size_of e → entry_at (take k (entry_of at e)) at ≡ Part
unfolding entry_of size_of
entry_cut at k e fits h = envelope.entry_front at k (event_bytes e) fits.1 h

pub entry_none : (at : ℕ) → entry_at [] at ≡ Part
unfolding entry_at
entry_none at = refl

-- ---- entries that are read

abbrev pub with_first : LiveEvent → Result Entries Damage → Result Entries Damage
with_first e r = r >>= λ rest. Ok (before e rest)

entries_whole : (n : ℕ) (bytes : List ℕ) (at write : ℕ) (e : Event) (next : ℕ) → entry_at bytes at ≡ Whole (event_bytes e) next → IsEvent e
    → entries_in (suc n) bytes at write ≡ with_first (record { at = at; event = e }) (entries_in n (drop (next - at) bytes) next write)
unfolding entries_in
entries_whole n bytes at write e next r fits = rw (r, entries_in, event_law.read_again e fits) refl

pub entries_part : (n : ℕ) (bytes : List ℕ) (at write : ℕ) → entry_at bytes at ≡ Part → write ≤ at → entries_in n bytes at write ≡ Ok (record { events = []; tail = at })
unfolding entries_in
entries_part zero bytes at write r h = refl
entries_part (suc n) bytes at write r h = rw (r, entries_in, le-ltb at write h) refl

pub ends_from : (es : List Event) (at : ℕ) → ends at es ≡ at + length (spelled at es)
ends_from [] at = omega arith
ends_from (e ∷ es) at = ends_from es (at + size_of e) ∙ omega (arith, entry_long at e, length-append (entry_of at e) (spelled (at + size_of e) es))

behind_entry : (at : ℕ) (e : Event) (more : List ℕ) → drop (at + size_of e - at) (entry_of at e ++ more) ≡ more
behind_entry at e more = drop_at (entry_of at e) more (at + size_of e - at) (omega (arith, entry_long at e))

-- entries that stand whole before a part are what is read
pub entries_read : (es : List Event) (n : ℕ) (rest : List ℕ) (at write : ℕ) → AllByRecursion IsCarried es → ends at es ≤ 2 ^ 62 → length (spelled at es) ≤ n
    → entry_at rest (ends at es) ≡ Part → write ≤ ends at es → entries_in n (spelled at es ++ rest) at write ≡ Ok (record { events = placed at es; tail = ends at es })
entries_read [] n rest at write fit far long part h = entries_part n rest at write part h
entries_read (e ∷ es) zero rest at write fit far long part h = absurd (omega (arith, long, size_some e, entry_long at e, length-append (entry_of at e) (spelled (at + size_of e) es)))
entries_read (e ∷ es) (suc n) rest at write fit far long part h =
    let here = entry_of at e in
    let next = at + size_of e in
    let more = spelled next es ++ rest in
    let this : LiveEvent = record { at = at; event = e } in
    ap (λ bytes. entries_in (suc n) bytes at write) (append_assoc here (spelled next es) rest)
    ∙ (entries_whole n (here ++ more) at write e next (entry_reads at e more fit.0 (omega (arith, far, ends_from es next))) fit.0.0
    ∙ (ap (λ bytes. with_first this (entries_in n bytes next write)) (behind_entry at e more)
    ∙ ap (with_first this) (entries_read es n rest next write fit.1 far (omega (arith, long, size_some e, entry_long at e, length-append here (spelled next es))) part h)))

pub beginning_is : (at tail : ℕ) (es : List Event) → Begins es → beginning (record { events = placed at es; tail = tail }) ≡ Ok (record { events = placed at es; tail = tail })
beginning_is at tail [] h = refl
beginning_is at tail (e ∷ es) h = cond-true (is_beginning e) (Ok (record { events = placed at (e ∷ es); tail = tail })) (Err (damage.NoSubtreeMap at)) h

-- ---- events in two parts

pub ends_append : (at : ℕ) (xs ys : List Event) → ends at (xs ++ ys) ≡ ends (ends at xs) ys
ends_append at [] ys = refl
ends_append at (x ∷ xs) ys = ends_append (at + size_of x) xs ys

pub spelled_append : (at : ℕ) (xs ys : List Event) → spelled at (xs ++ ys) ≡ spelled at xs ++ spelled (ends at xs) ys
spelled_append at [] ys = refl
spelled_append at (x ∷ xs) ys =
    ap (λ (t : List ℕ). entry_of at x ++ t) (spelled_append (at + size_of x) xs ys)
    ∙ sym (append_assoc (entry_of at x) (spelled (at + size_of x) xs) (spelled (ends (at + size_of x) xs) ys))

pub carried_take : (i : ℕ) (es : List Event) → AllByRecursion IsCarried es → AllByRecursion IsCarried (take i es)
carried_take zero es fit = tt
carried_take (suc i) [] fit = tt
carried_take (suc i) (e ∷ es) fit = (fit.0, carried_take i es fit.1)

pub carried_drop : (i : ℕ) (es : List Event) → AllByRecursion IsCarried es → AllByRecursion IsCarried (drop i es)
carried_drop zero es fit = fit
carried_drop (suc i) [] fit = tt
carried_drop (suc i) (e ∷ es) fit = carried_drop i es fit.1

pub take_from : (i k : ℕ) (xs : List Event) → take (i + k) xs ≡ take i xs ++ take k (drop i xs)
take_from zero k xs = same_take (0 + k) k xs (omega arith)
take_from (suc i) k [] = take_all (suc i + k) [] (omega arith) ∙ sym (take_all k [] (omega arith))
take_from (suc i) k (x ∷ xs) = same_take (suc i + k) (suc (i + k)) (x ∷ xs) (omega arith) ∙ ap (λ (t : List Event). x ∷ t) (take_from i k xs)

-- ---- places of events

-- counted from an earlier one
pub place_from : (j : Journalled) (i k : ℕ) → place_of j (i + k) ≡ ends (place_of j i) (take k (drop i j.events))
place_from j i k = ap (ends j.start) (take_from i k j.events) ∙ ends_append j.start (take i j.events) (take k (drop i j.events))

pub place_rest : (j : Journalled) (i : ℕ) → ends (place_of j i) (drop i j.events) ≡ end_of j
place_rest j i = sym (ends_append j.start (take i j.events) (drop i j.events)) ∙ ap (ends j.start) (take-append-drop i j.events)

pub place_last : (j : Journalled) (i : ℕ) → length j.events ≤ i → place_of j i ≡ end_of j
place_last j i h = ap (ends j.start) (take_all i j.events h)

pub place_below : (j : Journalled) (i : ℕ) → place_of j i ≤ end_of j
place_below j i = omega (arith, place_rest j i, ends_from (drop i j.events) (place_of j i))

pub place_above : (j : Journalled) (i : ℕ) → j.start ≤ place_of j i
place_above j i = omega (arith, ends_from (take i j.events) j.start)

pub plus_rest : (i k : ℕ) → i ≤ k → k ≡ i + (k - i)
plus_rest i k h = omega arith

pub place_until : (j : Journalled) (i k : ℕ) → i ≤ k → place_of j k ≡ ends (place_of j i) (take (k - i) (drop i j.events))
place_until j i k h = ap (place_of j) (plus_rest i k h) ∙ place_from j i (k - i)

pub place_rises : (j : Journalled) (i k : ℕ) → i ≤ k → place_of j i ≤ place_of j k
place_rises j i k h = omega (arith, place_until j i k h, ends_from (take (k - i) (drop i j.events)) (place_of j i))

next_place : (at : ℕ) (es : List Event) (i : ℕ) → i < length es → ends at (take i es) < ends at (take (suc i) es)
next_place at [] i h = absurd (omega arith)
next_place at (e ∷ es) zero h = omega (arith, size_some e)
next_place at (e ∷ es) (suc i) h = next_place (at + size_of e) es i (omega arith)

-- each entry takes a byte at least, so places tell events apart
pub place_back : (j : Journalled) (i k : ℕ) → i ≤ length j.events → place_of j i ≤ place_of j k → i ≤ k
place_back j i k within h = elim (cases_lt k i) [
  | inl less ↦ absurd (omega (arith, h, next_place j.start j.events k (omega arith), place_rises j (suc k) i (omega arith)))
  | inr fine ↦ fine
]

-- more events do not move the places of those before
pub ends_kept : (start : ℕ) (es more : List Event) (i : ℕ) → i ≤ length es → ends start (take i (es ++ more)) ≡ ends start (take i es)
ends_kept start es more i h = ap (ends start) (take-append-le i es more h)

-- ---- the bytes that are wanted

wants_rest : (want : ℕ → ℕ) (x y : ℕ) (xs ys : List ℕ) → y ≡ x + length xs → Wants want x (xs ++ ys) → Wants want y ys
wants_rest want x y xs ys e w i h =
    sym (get_right_at xs ys (length xs + i) i refl) ∙ (w (length xs + i) (omega (arith, length-append xs ys)) ∙ ap (λ z. Some (want z)) (places x y i (length xs) e))
  where
    places : (x y i n : ℕ) → y ≡ x + n → x + (n + i) ≡ y + i
    places x y i n e = omega arith

pub wants_front : (want : ℕ → ℕ) (x : ℕ) (xs ys : List ℕ) → Wants want x (xs ++ ys) → Wants want x xs
wants_front want x xs ys w i h = sym (get_left xs ys i h) ∙ w i (omega (arith, length-append xs ys))

-- of the first events from a position on
pub wants_take : (want : ℕ → ℕ) (at : ℕ) (es : List Event) (k : ℕ) → Wants want at (spelled at es) → Wants want at (spelled at (take k es))
wants_take want at es k w =
    wants_front want at (spelled at (take k es)) (spelled (ends at (take k es)) (drop k es))
    (subst (Wants want at) (sym (ap (spelled at) (take-append-drop k es)) ∙ spelled_append at (take k es) (drop k es)) w)

-- of the events from one on
pub wants_drop : (want : ℕ → ℕ) (at : ℕ) (es : List Event) (k : ℕ) → Wants want at (spelled at es) → Wants want (ends at (take k es)) (spelled (ends at (take k es)) (drop k es))
wants_drop want at es k w =
    wants_rest want at (ends at (take k es)) (spelled at (take k es)) (spelled (ends at (take k es)) (drop k es)) (ends_from (take k es) at)
    (subst (Wants want at) (sym (ap (spelled at) (take-append-drop k es)) ∙ spelled_append at (take k es) (drop k es)) w)

-- ---- what a live journal begins with

pub begins_more : (i : ℕ) (es more : List Event) → Begins (drop i es) → i ≤ length es → (length es ≤ i → Begins more) → Begins (drop i (es ++ more))
begins_more zero [] more h within f = f (omega arith)
begins_more zero (e ∷ es) more h within f = h
begins_more (suc i) [] more h within f = absurd (omega arith)
begins_more (suc i) (e ∷ es) more h within f = begins_more i es more h (omega arith) (λ l. f (omega arith))

pub begins_taken : (i n : ℕ) (es : List Event) → Begins (drop i es) → Begins (drop i (take n es))
begins_taken zero zero es h = tt
begins_taken zero (suc n) [] h = tt
begins_taken zero (suc n) (e ∷ es) h = h
begins_taken (suc i) zero es h = tt
begins_taken (suc i) (suc n) [] h = tt
begins_taken (suc i) (suc n) (e ∷ es) h = begins_taken i n es h

pub begins_front : (n : ℕ) (es : List Event) → Begins es → Begins (take n es)
begins_front zero es h = tt
begins_front (suc n) [] h = tt
begins_front (suc n) (e ∷ es) h = h
