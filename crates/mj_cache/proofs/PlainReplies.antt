-- The replies of a client stand together among replies in order.
use Rattle.std.proofs.Common.{◌≡◌, ℕ, zero, suc, ◌≤◌, ◌<◌, arith, true, false, cond, List, [], ◌∷◌, ◌++◌, append-nil, slice_index_or, drop, length, Some, None, T, refl, sym, ap, ◌∙◌}
use Rattle.std.specs.Prelude.{IsTrue, filter_map, nat_lt, ◌==◌}
use Rattle.std.specs.List.{cons_option, AllWithin}
use Rattle.std.specs.List.Sorted.{IsNonDecreasingBy}
use Rattle.std.specs.Cmp.{ranks}
use Rattle.std.specs.declared.cmp.Ordering.{Ordering}
use Rattle.std.specs.declared.cmp.Ordering.TheVariants.{Less, Equal, Greater}
use Rattle.std.specs.Ordering.{MatchOrdering, is_lt, ordering_then}
use Rattle.std.specs.FinMap.Entries.{is_sorted, below_all}
use Rattle.mj_maps.specs.Map.{left_true, right_true}
use Rattle.mj_maps.specs.Orders.{nat_cmp, pair_cmp}
use Rattle.mj_recovery.specs.Tree.{reply_of}
use Rattle.mj_recovery.proofs.Bools.{from_true}

-- ---- clients do not fall

first_le : (a b : ℕ) (o p : Ordering) → MatchOrdering o (a < b) (a ≡ b) (b < a) → T (is_lt (ordering_then o p)) → a ≤ b
first_le a b Less p r h = omega (arith, r)
first_le a b Equal p r h = omega (arith, r)
first_le a b Greater p r h = absurd h

client_le : (a b : ℕ × ℕ) → T (is_lt (pair_cmp a b)) → a.0 ≤ b.0
client_le a b h = first_le a.0 b.0 (nat_cmp a.0 b.0) (nat_cmp a.1 b.1) (ranks a.0 b.0) h

all_later : (k : ℕ × ℕ) (es : List ((ℕ × ℕ) × ℕ)) → T (below_all pair_cmp k es) → (j : ℕ) (d : (ℕ × ℕ) × ℕ) → j < length es → k.0 ≤ (slice_index_or es j d).0.0
all_later k [] h j d lt = absurd (omega (arith, lt))
all_later k (e ∷ es) h zero d lt = client_le k e.0 (left_true _ _ h)
all_later k (e ∷ es) h (suc j) d lt = all_later k es (right_true _ _ h) j d (omega (arith, lt))

in_order : (es : List ((ℕ × ℕ) × ℕ)) → T (is_sorted pair_cmp es) → (i j : ℕ) (d : (ℕ × ℕ) × ℕ) → i ≤ j → j < length es → (slice_index_or es i d).0.0 ≤ (slice_index_or es j d).0.0
in_order [] h i j d le lt = absurd (omega (arith, lt))
in_order (e ∷ es) h zero zero d le lt = omega arith
in_order (e ∷ es) h zero (suc j) d le lt = all_later e.0 es (left_true _ _ h) j d (omega (arith, lt))
in_order (e ∷ es) h (suc i) zero d le lt = absurd (omega (arith, le))
in_order (e ∷ es) h (suc i) (suc j) d le lt = in_order es (right_true _ _ h) i j d (omega (arith, le)) (omega (arith, lt))

pub clients_rise : (es : List ((ℕ × ℕ) × ℕ)) → IsTrue (is_sorted pair_cmp es) → IsNonDecreasingBy (λ (e : (ℕ × ℕ) × ℕ). e.0.0) es
clients_rise es h = in_order es (from_true _ h)

-- ---- none before, none after

pub lt_from : (a b : ℕ) → nat_lt a b ≡ true → a < b
lt_from a b h = grind (arith, h)

below_other : (a b : ℕ) → a < b → (a == b) ≡ false
below_other a b h = grind (arith, h)

above_other : (a b : ℕ) → b < a → (a == b) ≡ false
above_other a b h = grind (arith, h)

lt_of : (a b : ℕ) (o : Ordering) → MatchOrdering o (a < b) (a ≡ b) (b < a) → is_lt o ≡ true → a < b
lt_of a b Less r e = r
lt_of a b Equal r e = absurd cc
lt_of a b Greater r e = absurd cc

pub lt_ordered : (a b : ℕ) → is_lt (nat_cmp a b) ≡ true → a < b
lt_ordered a b e = lt_of a b (nat_cmp a b) (ranks a b) e

module _ (client : ℕ) where
  skips : (e : (ℕ × ℕ) × ℕ) (es : List ((ℕ × ℕ) × ℕ)) → (e.0.0 == client) ≡ false → filter_map (reply_of client) (e ∷ es) ≡ filter_map (reply_of client) es
  skips e es other = ap (λ b. cons_option (cond b (Some (e.0.1, e.1)) None) (filter_map (reply_of client) es)) other

  pub none_before : (i : ℕ) (es : List ((ℕ × ℕ) × ℕ)) → ((k : ℕ) (d : (ℕ × ℕ) × ℕ) → k < i → k < length es → (slice_index_or es k d).0.0 < client) → filter_map (reply_of client) (drop i es) ≡ filter_map (reply_of client) es
  none_before zero es h = refl
  none_before (suc i) [] h = refl
  none_before (suc i) (e ∷ es) h =
      none_before i es (λ k d lt in_es. h (suc k) d (omega (arith, lt)) (omega (arith, in_es)))
      ∙ sym (skips e es (below_other e.0.0 client (h zero e (omega arith) (omega arith))))

  none_later : (k : ℕ × ℕ) (es : List ((ℕ × ℕ) × ℕ)) → T (below_all pair_cmp k es) → client < k.0 → filter_map (reply_of client) es ≡ []
  none_later k [] h lt = refl
  none_later k (e ∷ es) h lt =
      let le = client_le k e.0 (left_true _ _ h) in
      skips e es (above_other e.0.0 client (omega (arith, le, lt))) ∙ none_later k es (right_true _ _ h) lt

  from_later : (i : ℕ) (es : List ((ℕ × ℕ) × ℕ)) (d : (ℕ × ℕ) × ℕ) → T (is_sorted pair_cmp es) → i < length es → client < (slice_index_or es i d).0.0 → filter_map (reply_of client) (drop i es) ≡ []
  from_later i [] d h lt later = absurd (omega (arith, lt))
  from_later zero (e ∷ es) d h lt later = skips e es (above_other e.0.0 client later) ∙ none_later e.0 es (left_true _ _ h) later
  from_later (suc i) (e ∷ es) d h lt later = from_later i es d (right_true _ _ h) (omega (arith, lt)) later

  pub none_from : (i : ℕ) (es : List ((ℕ × ℕ) × ℕ)) (d : (ℕ × ℕ) × ℕ) → IsTrue (is_sorted pair_cmp es) → i < length es → client < (slice_index_or es i d).0.0 → filter_map (reply_of client) (drop i es) ≡ []
  none_from i es d h lt later = from_later i es d (from_true _ h) lt later

  pub none_past : (i : ℕ) (es : List ((ℕ × ℕ) × ℕ)) → length es ≤ i → filter_map (reply_of client) (drop i es) ≡ []
  none_past zero [] h = refl
  none_past (suc i) [] h = refl
  none_past zero (e ∷ es) h = absurd (omega (arith, h))
  none_past (suc i) (e ∷ es) h = none_past i es (omega (arith, h))

  -- these are all replies, where none of the client's stands from here on
  pub all_found : (found : List (ℕ × ℕ)) (i : ℕ) (es : List ((ℕ × ℕ) × ℕ)) → found ++ filter_map (reply_of client) (drop i es) ≡ filter_map (reply_of client) es → filter_map (reply_of client) (drop i es) ≡ [] → found ≡ filter_map (reply_of client) es
  all_found found i es h none = sym (append-nil found) ∙ ap (λ (xs : List (ℕ × ℕ)). found ++ xs) (sym none) ∙ h
