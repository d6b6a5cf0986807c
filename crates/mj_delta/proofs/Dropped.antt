-- The numbers of replies that an event drops, and the table without them.
use Rattle.std.proofs.Common.{◌≡◌, ℕ, ◌+◌, ◌<◌, ◌≤◌, ◌^◌, Bool, true, false, cond, T, List, [], ◌∷◌, length, map, Option, Some, None, refl, sym, ap, subst, ◌∙◌, inl, inr, arith}
use Rattle.std.specs.Prelude.{◌==◌, nat_lt}
use Rattle.std.specs.Option.{option_and_then, option_map_or}
use Rattle.std.specs.declared.cmp.Ordering.TheVariants.{Less, Equal, Greater}
use Rattle.std.specs.Ordering.{is_lt}
use Rattle.std.specs.FinMap.Entries.{is_sorted, below_all}
use Rattle.std.proofs.lemmas.Bool.{false≢true, cases_Bool, and_from}
use Rattle.std.proofs.lemmas.List.{length-map}
use Rattle.mj_base.specs.Reading.{is_above, all_follow}
use Rattle.mj_maps.specs.Map.{Map, entries, entries_sorted, get, insert, remove, retain, passed, len, count, passing, left_true, right_true}
use Rattle.mj_maps.specs.Orders.{nat_cmp, pair_cmp}
use Rattle.mj_maps.proofs.MapLaws.{exact_nat, exact_pair, none_some, some_same, remove_same, remove_other, cases_key, eq_false, get-retain, len-insert_new, len-insert_over, len-entries, count_all, count-collect, retain_passes, retain_fails}
use Rattle.mj_cells.specs.Table.{Table, overlay}
use Rattle.mj_event.specs.Writes.{replies_gone}
use Rattle.mj_event.specs.Event.{Numbers}
use Rattle.mj_delta.specs.Events.{tids}
use Rattle.mj_delta.proofs.Facts.{cases_option}
use Rattle.mj_delta.proofs.Lists.{Lies, in_map, to_map, entry_at, at_entry, lies_all}

abbrev pub without_all : Map pair_cmp ℕ → ℕ → List ℕ → Map pair_cmp ℕ
without_all m client [] = m
without_all m client (x ∷ xs) = without_all (remove m (client, x)) client xs

pub gone_is : (t : Table) (client : ℕ) (xs : List ℕ) → overlay t (replies_gone client xs) ≡ record t { done = without_all t.done client xs }
gone_is t client [] = refl
gone_is t client (x ∷ xs) = gone_is (record t { done = remove t.done (client, x) }) client xs

pub still_none : (m : Map pair_cmp ℕ) (client : ℕ) (xs : List ℕ) (k : ℕ × ℕ) → get m k ≡ None → get (without_all m client xs) k ≡ None
still_none m client [] k h = h
still_none m client (x ∷ xs) k h = still_none (remove m (client, x)) client xs k (elim (cases_key exact_pair k (client, x)) [
  | inl same ↦ ap (get (remove m (client, x))) same ∙ remove_same exact_pair m (client, x)
  | inr ne ↦ remove_other exact_pair m (client, x) k ne ∙ h
])

pub gone_in : (m : Map pair_cmp ℕ) (client : ℕ) (xs : List ℕ) (tid : ℕ) → Lies tid xs → get (without_all m client xs) (client, tid) ≡ None
gone_in m client [] tid l = absurd l
gone_in m client (x ∷ xs) tid (inl same) = still_none (remove m (client, x)) client xs (client, tid) (ap (λ n. get (remove m (client, x)) (client, n)) (sym same) ∙ remove_same exact_pair m (client, x))
gone_in m client (x ∷ xs) tid (inr l) = gone_in (remove m (client, x)) client xs tid l

pub gone_out : (m : Map pair_cmp ℕ) (client : ℕ) (xs : List ℕ) (k : ℕ × ℕ) → (k.0 ≡ client → Lies k.1 xs → ⊥) → get (without_all m client xs) k ≡ get m k
gone_out m client [] k h = refl
gone_out m client (x ∷ xs) k h =
    gone_out (remove m (client, x)) client xs k (λ e l. h e (inr l))
    ∙ remove_other exact_pair m (client, x) k (eq_false exact_pair k (client, x) (λ e. h (ap (λ (k : ℕ × ℕ). k.0) e) (inl (ap (λ (k : ℕ × ℕ). k.1) (sym e)))))

-- ---- the numbers of a map

pub tid_there : (m : Map nat_cmp ℕ) (tid i : ℕ) → get m tid ≡ Some i → Lies tid (tids m)
tid_there m tid i e = to_map (λ (e : ℕ × ℕ). e.0) (entries m) (tid, i) (at_entry exact_nat m tid i e)

pub there_tid : (m : Map nat_cmp ℕ) (tid : ℕ) → Lies tid (tids m) → (i : ℕ) × (get m tid ≡ Some i)
there_tid m tid l = let w = in_map (λ (e : ℕ × ℕ). e.0) (entries m) tid l in (w.0.1, ap (get m) (sym w.2) ∙ entry_at exact_nat m w.0 w.1)

pub tids_count : (m : Map nat_cmp ℕ) → length (tids m) ≡ len m
tids_count m = length-map (entries m) (λ (e : ℕ × ℕ). e.0) ∙ sym (len-entries m)

pub is_less : (x y : ℕ) → T (is_lt (nat_cmp x y)) → nat_lt x y ≡ true
is_less x y = elim (cases_Bool (nat_lt x y)) [
  | inl e ↦ λ _. e
  | inr e ↦ λ h. absurd (elim (x == y) as (λ b. T (is_lt (cond b Equal Greater)) → ⊥) [ true ↦ λ z. z | false ↦ λ z. z ] (subst (λ b. T (is_lt (cond b Less (cond (x == y) Equal Greater)))) e h))
]

abbrev Above : Option ℕ → List (ℕ × ℕ) → Type 0
Above None es = Unit {0}
Above (Some y) es = T (below_all nat_cmp y es)

first_above : (before : Option ℕ) (e : ℕ × ℕ) (es : List (ℕ × ℕ)) → Above before (e ∷ es) → is_above nat_lt before e.0 ≡ true
first_above None e es h = refl
first_above (Some y) e es h = is_less y e.0 (left_true _ _ h)

rise : (before : Option ℕ) (es : List (ℕ × ℕ)) → T (is_sorted nat_cmp es) → Above before es → all_follow (is_above nat_lt) before (map (λ (e : ℕ × ℕ). e.0) es) ≡ true
rise before [] s h = refl
rise before (e ∷ es) s h = and_from _ _ (first_above before e es h) (rise (Some e.0) es (right_true _ _ s) (left_true _ _ s))

-- they rise, and fit where each does
pub tids_rise : (m : Map nat_cmp ℕ) → ((tid i : ℕ) → get m tid ≡ Some i → tid < 2 ^ 64) → Numbers (tids m)
tids_rise m fit = (lies_all (λ n. n < 2 ^ 64) (tids m) (λ tid l. let w = there_tid m tid l in fit tid w.0 w.1), rise None (entries m) (entries_sorted m) tt)

-- ---- what is retained

pub retained : (p : ℕ → ℕ → Bool) (m : Map nat_cmp ℕ) (k v : ℕ) → get (retain p m) k ≡ Some v → (get m k ≡ Some v) × (p k v ≡ true)
retained p m k v e = elim (cases_option (get m k)) [
  | inl none ↦ absurd (none_some v (sym (get-retain exact_nat p m k ∙ ap (option_and_then (passed p k)) none) ∙ e))
  | inr w ↦ elim (cases_Bool (p k w.0)) [
    | inl passes_it ↦ let same = some_same w.0 v (sym (retain_passes exact_nat p m k w.0 w.1 passes_it) ∙ e) in (w.1 ∙ ap Some same, ap (p k) (sym same) ∙ passes_it)
    | inr fails ↦ absurd (none_some v (sym (retain_fails exact_nat p m k w.0 w.1 fails) ∙ e))
  ]
]

more_pass : (p q : ℕ × ℕ → Bool) → ((e : ℕ × ℕ) → p e ≡ true → q e ≡ true) → (es : List (ℕ × ℕ)) → passing p es ≤ passing q es
more_pass p q h [] = omega arith
more_pass p q h (e ∷ es) =
    let rest = more_pass p q h es in
    elim (cases_Bool (p e)) [
      | inl passes_it ↦
          let one : cond (p e) 1 0 ≡ 1 = ap (λ b. cond {A = ℕ} b 1 0) passes_it in
          let also : cond (q e) 1 0 ≡ 1 = ap (λ b. cond {A = ℕ} b 1 0) (h e passes_it) in
          omega (arith, rest, one, also)
      | inr no_pass ↦ let none : cond (p e) 1 0 ≡ 0 = ap (λ b. cond {A = ℕ} b 1 0) no_pass in omega (arith, rest, none)
    ]

-- what is retained is no more than what passes another test
pub retained_count : (p : ℕ → ℕ → Bool) (q : ℕ × ℕ → Bool) (m : Map nat_cmp ℕ) → ((e : ℕ × ℕ) → p e.0 e.1 ≡ true → q e ≡ true) → len (retain p m) ≤ count q m
retained_count p q m h =
    let all = count_all exact_nat (retain p m) in
    let same = count-collect exact_nat (passed p) (λ (_ : ℕ × ℕ). true) m in
    let less = more_pass (λ (e : ℕ × ℕ). option_map_or (λ _. true) (passed p e.0 e.1) false) q (λ e t. h e (passes (p e.0 e.1) e.1 t)) (entries m) in
    omega (arith, all, same, less)
  where
    passes : (b : Bool) (v : ℕ) → option_map_or (λ _. true) (cond b (Some v) None) false ≡ true → b ≡ true
    passes true v e = refl
    passes false v e = absurd (false≢true e)

pub all_count : (q : ℕ × ℕ → Bool) (m : Map nat_cmp ℕ) → count q m ≤ len m
all_count q m = let all = count_all exact_nat m in let less = more_pass q (λ (_ : ℕ × ℕ). true) (λ _ _. refl) (entries m) in omega (arith, all, less)

pub inserted_len : (m : Map nat_cmp ℕ) (k v : ℕ) → len (insert m k v) ≤ len m + 1
inserted_len m k v = elim (cases_option (get m k)) [
  | inl none ↦ omega (arith, len-insert_new exact_nat m k v none)
  | inr w ↦ omega (arith, len-insert_over exact_nat m k w.0 v w.1)
]
