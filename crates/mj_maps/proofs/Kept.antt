-- The entries of a `BTreeMap` against the finite map that they make.
use Rattle.std.proofs.Common.{Ordering, ◌≡◌, ℕ, cond, List, [], ◌∷◌, Some, None, refl, sym, ap, ◌∙◌}
use Rattle.std.specs.declared.cmp.Ordering.TheVariants.{Less, Equal, Greater}
use Rattle.std.specs.Prelude.{nat_eq, ◌&&◌}
use Rattle.std.specs.Cmp.{unsigned_ties, eq_by_cmp_equiv}
use Rattle.std.specs.Cmp.Lexicographic.{pointwise, texts_ties}
use Rattle.std.specs.Ordering.{eq_by_cmp, is_eq, ordering_then}
use Rattle.std.specs.BTreeMap.{is_at}
use Rattle.std.specs.Map.{lookup}
use Rattle.std.specs.FinMap.Entries.{find}
use Rattle.mj_maps.specs.Orders.{nat_cmp, bytes_cmp, place_cmp, pair_cmp}
use Rattle.mj_maps.specs.Map.{get, insert, remove, from_entries}
use Rattle.mj_maps.proofs.MapLaws.{Exact, get-from_entries, get-insert, get-remove, same_map}

module _ {K X : Type 0} {R : K → K → Ordering} (o : Exact R) where
  find_lookup : (es : List (K × X)) (q : K) → find R q es ≡ lookup (is_at (R q)) es
  find_lookup [] q = refl
  find_lookup (e ∷ es) q = ap (cond (eq_by_cmp R q e.0) (Some e.1)) (find_lookup es q)

  pub get_kept : (es : List (K × X)) (q : K) → get (from_entries {R = R} es) q ≡ lookup (is_at (R q)) es
  get_kept es q = get-from_entries o es q ∙ find_lookup es q

  -- entries that differ at one key make maps that differ there
  pub one_given : (es fs : List (K × X)) (k : K) (v : X) → ((q : K) → lookup (is_at (R q)) fs ≡ cond (is_at (R k) q) (Some v) (lookup (is_at (R q)) es)) → from_entries {R = R} fs ≡ insert (from_entries es) k v
  one_given es fs k v h = same_map o _ _ (λ q.
      get_kept fs q ∙ h q ∙ ap (λ b. cond b (Some v) (lookup (is_at (R q)) es)) ((eq_by_cmp_equiv o.total).symm k q)
      ∙ sym (get-insert o (from_entries es) k v q ∙ ap (cond (eq_by_cmp R q k) (Some v)) (get_kept es q)))

  -- entries that lack one key make the map without it
  pub one_taken : (es fs : List (K × X)) (k : K) → ((q : K) → lookup (is_at (R q)) fs ≡ cond (is_at (R k) q) None (lookup (is_at (R q)) es)) → from_entries {R = R} fs ≡ remove (from_entries es) k
  one_taken es fs k h = same_map o _ _ (λ q.
      get_kept fs q ∙ h q ∙ ap (λ b. cond b None (lookup (is_at (R q)) es)) ((eq_by_cmp_equiv o.total).symm k q)
      ∙ sym (get-remove o (from_entries es) k q ∙ ap (cond (eq_by_cmp R q k) None) (get_kept es q)))

eq_then : (a b : Ordering) → (is_eq a && is_eq b) ≡ is_eq (ordering_then a b)
eq_then Less b = refl
eq_then Equal b = refl
eq_then Greater b = refl

-- `==` on places
pub place_ties : (x q : ℕ × List ℕ) → (nat_eq x.0 q.0 && pointwise nat_eq x.1 q.1) ≡ eq_by_cmp place_cmp x q
place_ties x q = (λ i. unsigned_ties x.0 q.0 i && texts_ties x.1 q.1 i) ∙ eq_then (nat_cmp x.0 q.0) (bytes_cmp x.1 q.1)

-- `==` on pairs of numbers
pub pair_ties : (x q : ℕ × ℕ) → (nat_eq x.0 q.0 && nat_eq x.1 q.1) ≡ eq_by_cmp pair_cmp x q
pair_ties x q = (λ i. unsigned_ties x.0 q.0 i && unsigned_ties x.1 q.1 i) ∙ eq_then (nat_cmp x.0 q.0) (nat_cmp x.1 q.1)
