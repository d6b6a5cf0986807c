-- Pairs whose keys rise, as the entries of a map.
use Rattle.std.proofs.Common.{◌≡◌, ℕ, ◌≤◌, Bool, true, false, T, List, [], ◌∷◌, length, Option, Some, None, refl, sym, ap, subst, ◌∙◌}
use Rattle.std.specs.Prelude.{is_some, nat_le, ◌&&◌}
use Rattle.std.proofs.lemmas.Bool.{and_from, and_parts, cond_both, leb-true}
use Rattle.std.specs.FinMap.{nat_cmp-IsAntisymmetric, slice_cmp-IsAntisymmetric}
use Rattle.std.specs.FinMap.Entries.{is_sorted, below_all, find}
use Rattle.std.specs.declared.cmp.Ordering.{Ordering}
use Rattle.std.specs.declared.cmp.Ordering.TheVariants.{Less, Equal, Greater}
use Rattle.std.specs.Ordering.{is_lt, is_eq}
use Rattle.mj_base.specs.declared.object.ObjectName.{ObjectName}
use Rattle.mj_maps.specs.Orders.{bytes_cmp}
use Rattle.mj_maps.proofs.MapLaws.{exact_bytes, get-from_entries}
use Rattle.mj_store.specs.declared.act.Pair.{Pair}
use Rattle.mj_store.specs.declared.held.HeldObject.{HeldObject}
use Rattle.mj_store.specs.Object.{longest_key}
use Rattle.mj_store.specs.Pages.{is_above, rise_above}
use Rattle.mj_memstore.specs.Pairs.{entries_of}
use Rattle.mj_memstore.specs.Content.{IsHeldAs}
use Rattle.mj_memstore.specs.Holding.{HasKeysInOrder}
use Rattle.mj_memstore.proofs.PairLemmas.{bytes_total}
use Rattle.mj_memstore.proofs.PageLemmas.{rise_sorted, short_at}

less_is : (r : Ordering) → is_lt r ≡ true → r ≡ Less
less_is Less e = refl
less_is Equal e = absurd cc
less_is Greater e = absurd cc

equal_is : (r : Ordering) → is_eq r ≡ true → r ≡ Equal
equal_is Less e = absurd cc
equal_is Equal e = refl
equal_is Greater e = absurd cc

t_and : (a b : Bool) → T a → T b → T (a && b)
t_and true b h k = k
t_and false b h k = absurd h

t_from : (b : Bool) → b ≡ true → T b
t_from true e = tt
t_from false e = absurd cc

-- the parts of a first pair that rises
record Rises (after : Option (List ℕ)) (p : Pair) (ps : List Pair) : Type 0 where
  above : is_above after p.key ≡ true
  short : nat_le (length p.key) longest_key ≡ true
  rest : rise_above (Some p.key) ps ≡ true

rises : (after : Option (List ℕ)) (p : Pair) (ps : List Pair) → rise_above after (p ∷ ps) ≡ true → Rises after p ps
rises after p ps h =
    let parts = and_parts (is_above after p.key && nat_le (length p.key) longest_key) (rise_above (Some p.key) ps) h in
    let front = and_parts (is_above after p.key) (nat_le (length p.key) longest_key) parts.0 in
    record { above = front.0; short = front.1; rest = parts.1 }

-- what rises from above a key rises from above a lower one
rise_lower : (k q : List ℕ) (ps : List Pair) → bytes_cmp k q ≡ Less → rise_above (Some q) ps ≡ true → rise_above (Some k) ps ≡ true
rise_lower k q [] lt h = refl
rise_lower k q (p ∷ ps) lt h =
    let r = rises (Some q) p ps h in
    and_from (is_lt (bytes_cmp k p.key) && nat_le (length p.key) longest_key) (rise_above (Some p.key) ps)
    (and_from (is_lt (bytes_cmp k p.key)) (nat_le (length p.key) longest_key) (ap is_lt (bytes_total.trans k q p.key lt (less_is (bytes_cmp q p.key) r.above))) r.short) r.rest

below_from_rise : (k : List ℕ) (ps : List Pair) → rise_above (Some k) ps ≡ true → T (below_all bytes_cmp k (entries_of ps))
below_from_rise k [] h = tt
below_from_rise k (p ∷ ps) h =
    let r = rises (Some k) p ps h in
    t_and (is_lt (bytes_cmp k p.key)) (below_all bytes_cmp k (entries_of ps)) (t_from (is_lt (bytes_cmp k p.key)) r.above)
    (below_from_rise k ps (rise_lower k p.key ps (less_is (bytes_cmp k p.key) r.above) r.rest))

sorted_from_rise : (after : Option (List ℕ)) (ps : List Pair) → rise_above after ps ≡ true → T (is_sorted bytes_cmp (entries_of ps))
sorted_from_rise after [] h = tt
sorted_from_rise after (p ∷ ps) h =
    let r = rises after p ps h in
    t_and (below_all bytes_cmp p.key (entries_of ps)) (is_sorted bytes_cmp (entries_of ps)) (below_from_rise p.key ps r.rest) (sorted_from_rise (Some p.key) ps r.rest)

short_found : (after : Option (List ℕ)) (ps : List Pair) (key : List ℕ) → rise_above after ps ≡ true → is_some (find bytes_cmp key (entries_of ps)) ≡ true → length key ≤ longest_key
short_found after [] key h e = absurd (none_is_none e)
  where
    none_is_none : false ≡ true → ⊥
    none_is_none e = absurd cc
short_found after (p ∷ ps) key h e =
    let r = rises after p ps h in
    cond_both (is_eq (bytes_cmp key p.key)) (Some p.value) (find bytes_cmp key (entries_of ps)) (λ (o : Option (List ℕ)). is_some o ≡ true → length key ≤ longest_key)
    (λ at f. subst (λ (k : List ℕ). length k ≤ longest_key) (sym (slice_cmp-IsAntisymmetric nat_cmp-IsAntisymmetric key p.key (equal_is (bytes_cmp key p.key) at))) (leb-true (length p.key) longest_key r.short))
    (λ off f. short_found (Some p.key) ps key r.rest f) e

pub sound_from_rise : (h : HeldObject) → HasKeysInOrder h → IsHeldAs h.name h
sound_from_rise h rise = record {
  named = refl;
  sorted = sorted_from_rise None h.pairs rise;
  short = λ key e. short_found None h.pairs key rise (sym (ap is_some (get-from_entries exact_bytes (entries_of h.pairs) key)) ∙ e);
}

pub rise_from_sound : (name : ObjectName) (h : HeldObject) → IsHeldAs name h → HasKeysInOrder h
rise_from_sound name h s = rise_sorted None h.pairs s.sorted (short_at h.pairs s.short) (λ lt. refl)
