-- Pages of pairs that are in order.
use Rattle.std.proofs.Common.{◌≡◌, ℕ, zero, suc, ◌+◌, ◌-◌, ◌<◌, ◌≤◌, min, Bool, true, false, cond, T, List, [], ◌∷◌, length, map, take, drop, get_or, Option, Some, None, refl, sym, ap, subst, ◌∙◌, inl, inr, arith, length-drop}
use Rattle.std.specs.Prelude.{filter, is_some, nat_lt, nat_le}
use Rattle.std.proofs.Math.Seq.{take-length}
use Rattle.std.proofs.lemmas.List.{take_min, length-take}
use Rattle.std.proofs.lemmas.Bool.{cases_lt, cases_order, lt-ltb, le-ltb, le-leb, ltb-true, and_from, and_parts}
use Rattle.std.specs.declared.cmp.Ordering.TheVariants.{Less}
use Rattle.std.specs.Ordering.{is_lt, is_eq, ordering_reverse, eq_by_cmp}
use Rattle.std.specs.Cmp.{tied_itself}
use Rattle.std.specs.FinMap.Entries.{is_sorted, find}
use Rattle.mj_maps.specs.Orders.{bytes_cmp}
use Rattle.mj_maps.specs.Map.{left_true, right_true}
use Rattle.mj_maps.proofs.MapLaws.{exact_bytes, entries-from_entries, get-from_entries}
use Rattle.mj_store.specs.declared.act.Pair.{Pair}
use Rattle.mj_store.specs.declared.answer.Page.{Page}
use Rattle.mj_store.specs.declared.held.HeldObject.{HeldObject}
use Rattle.mj_store.specs.Object.{longest_key}
use Rattle.mj_store.specs.Pages.{is_above, pairs_of, page_of, rise_above, IsPage}
use Rattle.mj_memstore.specs.Pairs.{entry_of, entries_of, IsKeyAt, IsGapAt}
use Rattle.mj_memstore.specs.Content.{map_of, content_of, IsShort}
use Rattle.mj_memstore.proofs.PairLemmas.{bytes_total, below_at, some_pair, entry_at, length-entries}

-- ---- those from a place on

pub filter_from : (test : Pair → Bool) (ps : List Pair) (i : ℕ) → ((j : ℕ) → j < i → j < length ps → test (get_or ps j some_pair) ≡ false) → ((j : ℕ) → i ≤ j → j < length ps → test (get_or ps j some_pair) ≡ true) → filter test ps ≡ drop i ps
filter_from test [] zero low high = refl
filter_from test [] (suc i) low high = refl
filter_from test (p ∷ ps) zero low high =
    ap (λ b. cond b (p ∷ filter test ps) (filter test ps)) (high zero (omega arith) (omega arith))
    ∙ ap (λ (rest : List Pair). p ∷ rest) (filter_from test ps zero (λ j lt len. absurd (omega arith)) (λ j ge len. high (suc j) (omega arith) (omega arith)))
filter_from test (p ∷ ps) (suc i) low high =
    ap (λ b. cond b (p ∷ filter test ps) (filter test ps)) (low zero (omega arith) (omega arith))
    ∙ filter_from test ps i (λ j lt len. low (suc j) (omega arith) (omega arith)) (λ j ge len. high (suc j) (omega arith) (omega arith))

far : (es : List (List ℕ × List ℕ)) (i j : ℕ) (d : List ℕ × List ℕ) → T (is_sorted bytes_cmp es) → i < j → j < length es → bytes_cmp (get_or es i d).0 (get_or es j d).0 ≡ Less
far [] i j d h lt len = absurd (omega arith)
far (e ∷ es) i zero d h lt len = absurd (omega arith)
far (e ∷ es) zero (suc j) d h lt len = below_at bytes_total e.0 es j d (left_true _ _ h) (omega arith)
far (e ∷ es) (suc i) (suc j) d h lt len = far es i j d (right_true _ _ h) (omega arith) (omega arith)

keys_far : (ps : List Pair) (i j : ℕ) → T (is_sorted bytes_cmp (entries_of ps)) → i < j → j < length ps → bytes_cmp (get_or ps i some_pair).key (get_or ps j some_pair).key ≡ Less
keys_far ps i j h lt len =
    subst (λ (k : List ℕ). bytes_cmp k (get_or ps j some_pair).key ≡ Less) (entry_at ps i (entry_of some_pair) (omega arith))
    (subst (λ (k : List ℕ). bytes_cmp (get_or (entries_of ps) i (entry_of some_pair)).0 k ≡ Less) (entry_at ps j (entry_of some_pair) len)
    (far (entries_of ps) i j (entry_of some_pair) h lt (omega (arith, length-entries ps))))

abbrev pub above_key : List ℕ → Pair → Bool
above_key key p = is_above (Some key) p.key

not_above : (a b : List ℕ) → bytes_cmp a b ≡ Less → is_lt (bytes_cmp b a) ≡ false
not_above a b e = ap is_lt (bytes_total.antisymm b a ∙ ap ordering_reverse e)

pub above_found : (ps : List Pair) (key : List ℕ) (i : ℕ) → T (is_sorted bytes_cmp (entries_of ps)) → IsKeyAt ps key i → filter (above_key key) ps ≡ drop (i + 1) ps
above_found ps key i h at = filter_from (above_key key) ps (i + 1)
    (λ j lt len. elim (cases_order j i) [
      | inl same ↦ ap (λ (k : ℕ). is_lt (bytes_cmp key (get_or ps k some_pair).key)) same ∙ ap (λ (k : List ℕ). is_lt (bytes_cmp key k)) (at.1 some_pair) ∙ ap is_lt (tied_itself bytes_total key)
      | inr (inl below) ↦ not_above (get_or ps j some_pair).key key (subst (λ (k : List ℕ). bytes_cmp (get_or ps j some_pair).key k ≡ Less) (at.1 some_pair) (keys_far ps j i h below at.0))
      | inr (inr above) ↦ absurd (omega arith)
    ])
    (λ j ge len. ap is_lt (subst (λ (k : List ℕ). bytes_cmp k (get_or ps j some_pair).key ≡ Less) (at.1 some_pair) (keys_far ps i j h (omega arith) len)))

pub above_gap : (ps : List Pair) (key : List ℕ) (i : ℕ) → IsGapAt ps key i → filter (above_key key) ps ≡ drop i ps
above_gap ps key i gap = filter_from (above_key key) ps i
    (λ j lt len. not_above (get_or ps j some_pair).key key (gap.1 j some_pair (omega arith) lt))
    (λ j ge len. ap is_lt (bytes_total.antisymm key (get_or ps j some_pair).key ∙ ap ordering_reverse (gap.2 j some_pair ge len)))

pub above_all : (ps : List Pair) → filter (λ (p : Pair). is_above None p.key) ps ≡ ps
above_all [] = refl
above_all (p ∷ ps) = ap (λ (rest : List Pair). p ∷ rest) (above_all ps)

-- ---- the pairs of a held object

abbrev pair_of : List ℕ × List ℕ → Pair
pair_of e = record { key = e.0; value = e.1 }

pairs_again : (ps : List Pair) → map pair_of (entries_of ps) ≡ ps
pairs_again [] = refl
pairs_again (p ∷ ps) = ap (λ (rest : List Pair). p ∷ rest) (pairs_again ps)

pub held_pairs : (h : HeldObject) → T (is_sorted bytes_cmp (entries_of h.pairs)) → pairs_of (Some (content_of h)) ≡ h.pairs
held_pairs h sorted = ap (map pair_of) (entries-from_entries exact_bytes (entries_of h.pairs) sorted) ∙ pairs_again h.pairs

-- ---- a page

count_more : (most n : ℕ) → nat_lt (min most n) n ≡ nat_lt most n
count_more most n = elim (cases_lt most n) [
  | inl lt ↦ lt-ltb (min most n) n (omega arith) ∙ sym (lt-ltb most n lt)
  | inr ge ↦ le-ltb (min most n) n (omega arith) ∙ sym (le-ltb most n ge)
]

make_page : Bool → Option (List ℕ) → List Pair → Bool → Page
make_page present head pairs more = record { present = present; head = head; pairs = pairs; more = more }

page_same : (head head' : Option (List ℕ)) (ps qs : List Pair) (a b : Bool) → head ≡ head' → ps ≡ qs → a ≡ b → ◌≡◌ {A = Page} (record { present = true; head = head; pairs = ps; more = a }) (record { present = true; head = head'; pairs = qs; more = b })
page_same head head' ps qs a b e f g = rw (e, f, g) refl

pub page_is : (h : HeldObject) (after : Option (List ℕ)) (most count : ℕ) (above pairs : List Pair) (head : Option (List ℕ)) → T (is_sorted bytes_cmp (entries_of h.pairs)) → filter (λ (p : Pair). is_above after p.key) h.pairs ≡ above
    → count ≡ min most (length above) → pairs ≡ take count above → head ≡ h.head
    → ◌≡◌ {A = Page} (record { present = true; head = head; pairs = pairs; more = nat_lt count (length above) }) (page_of after most (Some (content_of h)))
page_is h after most count above pairs head sorted is c p e =
    let from : filter (λ (q : Pair). is_above after q.key) (pairs_of (Some (content_of h))) ≡ above = ap (filter (λ (q : Pair). is_above after q.key)) (held_pairs h sorted) ∙ is in
    page_same head h.head pairs _ (nat_lt count (length above)) _ e
    (p ∙ ap (λ k. take k above) c ∙ take_min most above ∙ ap (λ (ps : List Pair). take most ps) (sym from))
    (ap (λ k. nat_lt k (length above)) c ∙ count_more most (length above) ∙ ap (λ (ps : List Pair). nat_lt most (length ps)) (sym from))

-- ---- its shape

found_some : (ps : List Pair) (i : ℕ) → i < length ps → is_some (find bytes_cmp (get_or ps i some_pair).key (entries_of ps)) ≡ true
found_some [] i lt = absurd (omega arith)
found_some (p ∷ ps) zero lt = ap (λ r. is_some (cond (is_eq r) (Some p.value) (find bytes_cmp p.key (entries_of ps)))) (tied_itself bytes_total p.key)
found_some (p ∷ ps) (suc i) lt = elim (eq_by_cmp bytes_cmp (get_or ps i some_pair).key p.key) as (λ b. is_some (cond b (Some p.value) (find bytes_cmp (get_or ps i some_pair).key (entries_of ps))) ≡ true) [
  | true ↦ refl
  | false ↦ found_some ps i (omega arith)
]

pub short_at : (ps : List Pair) → IsShort (map_of ps) → (i : ℕ) → i < length ps → length (get_or ps i some_pair).key ≤ longest_key
short_at ps short i lt = short (get_or ps i some_pair).key (ap is_some (get-from_entries exact_bytes (entries_of ps) (get_or ps i some_pair).key) ∙ found_some ps i lt)

le_true : (a b : ℕ) → a ≤ b → nat_le a b ≡ true
le_true a b le = le-leb a b le

pub rise_sorted : (after : Option (List ℕ)) (ps : List Pair) → T (is_sorted bytes_cmp (entries_of ps)) → ((i : ℕ) → i < length ps → length (get_or ps i some_pair).key ≤ longest_key) → (0 < length ps → is_above after (get_or ps 0 some_pair).key ≡ true) → rise_above after ps ≡ true
rise_sorted after [] h short above = refl
rise_sorted after (p ∷ ps) h short above =
    and_from _ _ (and_from _ _ (above (omega arith)) (le_true (length p.key) longest_key (short zero (omega arith))))
    (rise_sorted (Some p.key) ps (right_true _ _ h) (λ i lt. short (suc i) (omega arith)) (λ lt. ap is_lt (subst (λ (k : List ℕ). bytes_cmp p.key k ≡ Less) (entry_at ps 0 (entry_of some_pair) lt) (below_at bytes_total p.key (entries_of ps) 0 (entry_of some_pair) (left_true _ _ h) (omega (arith, length-entries ps))))))

sorted_drop : (n : ℕ) (ps : List Pair) → T (is_sorted bytes_cmp (entries_of ps)) → T (is_sorted bytes_cmp (entries_of (drop n ps)))
sorted_drop zero ps h = h
sorted_drop (suc n) [] h = h
sorted_drop (suc n) (p ∷ ps) h = sorted_drop n ps (right_true _ _ h)

short_drop : (n : ℕ) (ps : List Pair) → ((i : ℕ) → i < length ps → length (get_or ps i some_pair).key ≤ longest_key) → (i : ℕ) → i < length (drop n ps) → length (get_or (drop n ps) i some_pair).key ≤ longest_key
short_drop zero ps short i lt = short i lt
short_drop (suc n) [] short i lt = short i lt
short_drop (suc n) (p ∷ ps) short i lt = short_drop n ps (λ j l. short (suc j) (omega arith)) i lt

rise_take : (n : ℕ) (after : Option (List ℕ)) (ps : List Pair) → rise_above after ps ≡ true → rise_above after (take n ps) ≡ true
rise_take zero after ps h = refl
rise_take (suc n) after [] h = refl
rise_take (suc n) after (p ∷ ps) h = let parts = and_parts _ _ h in and_from _ _ parts.0 (rise_take n (Some p.key) ps parts.1)

first_above : (test : Pair → Bool) (ps above : List Pair) → filter test ps ≡ above → 0 < length above → test (get_or above 0 some_pair) ≡ true
first_above test [] above e lt = let n = ap (λ (xs : List Pair). length xs) e in absurd (omega (arith, n))
first_above test (p ∷ ps) above e lt = elim (test p) as (λ b. test p ≡ b → cond b (p ∷ filter test ps) (filter test ps) ≡ above → test (get_or above 0 some_pair) ≡ true) [
  | true ↦ λ t f. ap (λ (xs : List Pair). test (get_or xs 0 some_pair)) (sym f) ∙ t
  | false ↦ λ t f. first_above test ps above f lt
] refl e

pub page_shape : (h : HeldObject) (after : Option (List ℕ)) (most count start : ℕ) (pairs : List Pair) (head : Option (List ℕ)) → T (is_sorted bytes_cmp (entries_of h.pairs)) → IsShort (map_of h.pairs)
    → filter (λ (p : Pair). is_above after p.key) h.pairs ≡ drop start h.pairs → count ≡ min most (length (drop start h.pairs)) → pairs ≡ take count (drop start h.pairs)
    → IsPage after most (record { present = true; head = head; pairs = pairs; more = nat_lt count (length (drop start h.pairs)) })
page_shape h after most count start pairs head sorted short is c p =
    let above = drop start h.pairs in
    let len = ap (λ (xs : List Pair). length xs) p ∙ length-take count above in
    record {
      within = omega (arith, len, c);
      rising = ap (rise_above after) p ∙ rise_take count after above (rise_sorted after above (sorted_drop start h.pairs sorted) (short_drop start h.pairs (short_at h.pairs short))
          (λ lt. first_above (λ (q : Pair). is_above after q.key) h.pairs above is lt));
      full = λ e. let lt = ltb-true count (length above) e in omega (arith, lt, len, c);
    }

-- the slice from a place on
pub tail_pairs : (n : ℕ) (xs : List Pair) → take (length xs - n) (drop n xs) ≡ drop n xs
tail_pairs n xs = ap (λ k. take k (drop n xs)) (sym (length-drop n xs)) ∙ take-length (drop n xs)

pub page_shape_of : (h : HeldObject) (after : Option (List ℕ)) (most count start : ℕ) (above pairs : List Pair) (head : Option (List ℕ)) → above ≡ drop start h.pairs → T (is_sorted bytes_cmp (entries_of h.pairs)) → IsShort (map_of h.pairs)
    → filter (λ (p : Pair). is_above after p.key) h.pairs ≡ drop start h.pairs → count ≡ min most (length above) → pairs ≡ take count above
    → IsPage after most (record { present = true; head = head; pairs = pairs; more = nat_lt count (length above) })
page_shape_of h after most count start above pairs head e sorted short is c p =
    subst (λ (xs : List Pair). count ≡ min most (length xs) → pairs ≡ take count xs → IsPage after most (record { present = true; head = head; pairs = pairs; more = nat_lt count (length xs) })) (sym e)
    (λ k q. page_shape h after most count start pairs head sorted short is k q) c p
