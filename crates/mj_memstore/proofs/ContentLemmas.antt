-- Pairs of an object as a map, through what an act does.
use Rattle.std.proofs.Common.{◌≡◌, ℕ, ◌≤◌, true, false, not, T, List, [], ◌∷◌, ◌++◌, length, refl, sym, ap, subst, ◌∙◌, arith, inl, inr}
use Rattle.std.specs.Prelude.{is_some}
use Rattle.std.specs.List.{All}
use Rattle.std.specs.Ordering.{eq_by_cmp}
use Rattle.std.proofs.lemmas.List.Elements.{All-tail}
use Rattle.std.specs.FinMap.Entries.{put, where_key, is_sorted, is_sorted-put, is_sorted-where_key}
use Rattle.mj_maps.specs.Orders.{bytes_cmp}
use Rattle.mj_maps.specs.Map.{get, insert, remove, empty, from_entries}
use Rattle.mj_maps.proofs.MapLaws.{exact_bytes, cases_key, insert_other, remove_same, remove_other, get_empty, from_entries-put, from_entries-without}
use Rattle.mj_store.specs.declared.act.Pair.{Pair}
use Rattle.mj_store.specs.Object.{Pairs, all_set, dropped, longest_key}
use Rattle.mj_memstore.specs.Pairs.{entries_of}
use Rattle.mj_memstore.specs.Content.{map_of, IsShort}
use Rattle.mj_memstore.proofs.PairLemmas.{bytes_total}

-- ---- one after another

all_set-append : (xs ys : List Pair) (m : Pairs) → all_set (xs ++ ys) m ≡ all_set ys (all_set xs m)
all_set-append [] ys m = refl
all_set-append (x ∷ xs) ys m = all_set-append xs ys (insert m x.key x.value)

dropped-append : (xs ys : List (List ℕ)) (m : Pairs) → dropped (xs ++ ys) m ≡ dropped ys (dropped xs m)
dropped-append [] ys m = refl
dropped-append (x ∷ xs) ys m = dropped-append xs ys (remove m x)

pub set_one_more : (so_far : List Pair) (p : Pair) (ps qs : List Pair) (m : Pairs) → map_of ps ≡ all_set so_far m → entries_of qs ≡ put bytes_cmp p.key p.value (entries_of ps) → map_of qs ≡ all_set (so_far ++ p ∷ []) m
set_one_more so_far p ps qs m is e =
    ap (λ (es : List (List ℕ × List ℕ)). from_entries {R = bytes_cmp} es) e ∙ from_entries-put exact_bytes p.key p.value (entries_of ps)
    ∙ ap (λ (n : Pairs). insert n p.key p.value) is ∙ sym (all_set-append so_far (p ∷ []) m)

pub drop_one_more : (so_far : List (List ℕ)) (key : List ℕ) (ps qs : List Pair) (m : Pairs) → map_of ps ≡ dropped so_far m → entries_of qs ≡ where_key bytes_cmp (λ k. not (eq_by_cmp bytes_cmp key k)) (entries_of ps) → map_of qs ≡ dropped (so_far ++ key ∷ []) m
drop_one_more so_far key ps qs m is e =
    ap (λ (es : List (List ℕ × List ℕ)). from_entries {R = bytes_cmp} es) e ∙ from_entries-without exact_bytes key (entries_of ps)
    ∙ ap (λ (n : Pairs). remove n key) is ∙ sym (dropped-append so_far (key ∷ []) m)

pub sorted_put : (p : Pair) (ps qs : List Pair) → T (is_sorted bytes_cmp (entries_of ps)) → entries_of qs ≡ put bytes_cmp p.key p.value (entries_of ps) → T (is_sorted bytes_cmp (entries_of qs))
sorted_put p ps qs h e = subst (λ (es : List (List ℕ × List ℕ)). T (is_sorted bytes_cmp es)) (sym e) (is_sorted-put bytes_cmp bytes_total p.key p.value (entries_of ps) h)

pub sorted_without : (key : List ℕ) (ps qs : List Pair) → T (is_sorted bytes_cmp (entries_of ps)) → entries_of qs ≡ where_key bytes_cmp (λ k. not (eq_by_cmp bytes_cmp key k)) (entries_of ps) → T (is_sorted bytes_cmp (entries_of qs))
sorted_without key ps qs h e = subst (λ (es : List (List ℕ × List ℕ)). T (is_sorted bytes_cmp es)) (sym e) (is_sorted-where_key bytes_cmp (λ k. not (eq_by_cmp bytes_cmp key k)) (entries_of ps) h)

-- ---- short keys

pub short_empty : IsShort empty
short_empty key e = absurd (none_is_none (sym (ap is_some (get_empty bytes_cmp key)) ∙ e))
  where
    none_is_none : false ≡ true → ⊥
    none_is_none e = absurd cc

short_insert : (m : Pairs) (k v : List ℕ) → length k ≤ longest_key → IsShort m → IsShort (insert m k v)
short_insert m k v le short key e = elim (cases_key exact_bytes key k) [
  | inl is ↦ subst (λ (x : List ℕ). length x ≤ longest_key) (sym is) le
  | inr other ↦ short key (sym (ap is_some (insert_other exact_bytes m k v key other)) ∙ e)
]

short_remove : (m : Pairs) (k : List ℕ) → IsShort m → IsShort (remove m k)
short_remove m k short key e = elim (cases_key exact_bytes key k) [
  | inl is ↦ absurd (none_is_none (sym (ap is_some (ap (get (remove m k)) is ∙ remove_same exact_bytes m k)) ∙ e))
  | inr other ↦ short key (sym (ap is_some (remove_other exact_bytes m k key other)) ∙ e)
]
  where
    none_is_none : false ≡ true → ⊥
    none_is_none e = absurd cc

pub short_set : (set : List Pair) (m : Pairs) → All (λ (p : Pair). length p.key ≤ longest_key) set → IsShort m → IsShort (all_set set m)
short_set [] m all short = short
short_set (p ∷ ps) m all short = short_set ps (insert m p.key p.value) (All-tail (λ (q : Pair). length q.key ≤ longest_key) p ps all) (short_insert m p.key p.value (all 0 p (omega arith)) short)

pub short_dropped : (keys : List (List ℕ)) (m : Pairs) → IsShort m → IsShort (dropped keys m)
short_dropped [] m short = short
short_dropped (k ∷ ks) m short = short_dropped ks (remove m k) (short_remove m k short)
