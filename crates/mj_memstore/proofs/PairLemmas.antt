-- What is set, put between and taken out of pairs in the order of their keys, as entries of a map.
use Rattle.std.proofs.Common.{◌≡◌, ℕ, zero, suc, ◌<◌, ◌≤◌, false, cond, not, T, List, [], ◌∷◌, ◌++◌, length, take, drop, set, get_or, insert, remove, refl, sym, ap, subst, ◌∙◌, arith, inl, inr}
use Rattle.std.specs.Prelude.{◌+◌, Result, Ok, Err, IfOk, IfErr}
use Rattle.std.specs.Ordering.{ordering_index}
use Rattle.std.specs.Cmp.Lexicographic.{nat_list_cmp_total}
use Rattle.std.specs.FinMap.{nat_cmp-IsAntisymmetric, slice_cmp-IsAntisymmetric}
use Rattle.std.specs.List.Sorted.{IsNonDecreasingBy, IsBinarySearchResult, IsSearchInRange}
use Rattle.std.proofs.lemmas.List.{map-set, take-map, drop-map, map-append, get_or-map, length-map}
use Rattle.std.proofs.lemmas.List.Sorted.{searchable_from_sorted}
use Rattle.std.proofs.lemmas.Bool.{cases_lt}
use Rattle.mj_maps.specs.Orders.{bytes_cmp}
use Rattle.mj_store.specs.declared.act.Pair.{Pair}
use Rattle.mj_memstore.specs.Pairs.{entry_of, entries_of, IsKeyAt, IsGapAt}
use Rattle.std.specs.declared.cmp.Ordering.{Ordering}
use Rattle.std.specs.declared.cmp.Ordering.TheVariants.{Less, Equal, Greater}
use Rattle.std.specs.Ordering.{eq_by_cmp, is_eq, is_lt, ordering_reverse}
use Rattle.std.specs.Cmp.{IsTotalOrder, tied_itself}
use Rattle.std.specs.FinMap.Entries.{put, where_key, is_sorted, below_all, by_order}
use Rattle.mj_maps.specs.Map.{left_true, right_true}

pub is_less : (r : Ordering) → T (is_lt r) → r ≡ Less
is_less Less h = refl
is_less Equal h = absurd h
is_less Greater h = absurd h

module _ {K X : Type 0} {R : K → K → Ordering} (o : IsTotalOrder R) where
  pub below_at : (k : K) (es : List (K × X)) (i : ℕ) (d : K × X) → T (below_all R k es) → i < length es → R k (get_or es i d).0 ≡ Less
  below_at k [] i d h lt = absurd (omega arith)
  below_at k (e ∷ es) zero d h lt = is_less (R k e.0) (left_true _ _ h)
  below_at k (e ∷ es) (suc i) d h lt = below_at k es i d (right_true _ _ h) (omega arith)

  -- the key stands at i
  pub put_at : (k : K) (v : X) (es : List (K × X)) (i : ℕ) (d : K × X) → T (is_sorted R es) → i < length es → (get_or es i d).0 ≡ k → put R k v es ≡ set es i (k, v)
  put_at k v [] i d h lt e = absurd (omega arith)
  put_at k v (x ∷ es) zero d h lt e =
      let tied : R k x.0 ≡ Equal = subst (λ y. R k y ≡ Equal) (sym e) (tied_itself o k) in
      ap (λ r. by_order r ((k, v) ∷ x ∷ es) ((x.0, v) ∷ es) (x ∷ put R k v es)) tied ∙ ap (λ (y : K). (y, v) ∷ es) e
  put_at k v (x ∷ es) (suc i) d h lt e =
      let low : R x.0 k ≡ Less = subst (λ y. R x.0 y ≡ Less) e (below_at x.0 es i d (left_true _ _ h) (omega arith)) in
      let high : R k x.0 ≡ Greater = o.antisymm k x.0 ∙ ap ordering_reverse low in
      ap (λ r. by_order r ((k, v) ∷ x ∷ es) ((x.0, v) ∷ es) (x ∷ put R k v es)) high ∙ ap (λ (rest : List (K × X)). x ∷ rest) (put_at k v es i d (right_true _ _ h) (omega arith) e)

  -- the key belongs between those before i and those from i on
  pub put_gap : (k : K) (v : X) (es : List (K × X)) (i : ℕ) → i ≤ length es → ((j : ℕ) (d : K × X) → j < i → R (get_or es j d).0 k ≡ Less) → ((j : ℕ) (d : K × X) → i ≤ j → j < length es → R (get_or es j d).0 k ≡ Greater)
      → put R k v es ≡ take i es ++ (k, v) ∷ drop i es
  put_gap k v [] zero le low high = refl
  put_gap k v [] (suc i) le low high = absurd (omega arith)
  put_gap k v (x ∷ es) zero le low high =
      let less : R k x.0 ≡ Less = o.antisymm k x.0 ∙ ap ordering_reverse (high zero x (omega arith) (omega arith)) in
      ap (λ r. by_order r ((k, v) ∷ x ∷ es) ((x.0, v) ∷ es) (x ∷ put R k v es)) less
  put_gap k v (x ∷ es) (suc i) le low high =
      let greater : R k x.0 ≡ Greater = o.antisymm k x.0 ∙ ap ordering_reverse (low zero x (omega arith)) in
      ap (λ r. by_order r ((k, v) ∷ x ∷ es) ((x.0, v) ∷ es) (x ∷ put R k v es)) greater
      ∙ ap (λ (rest : List (K × X)). x ∷ rest) (put_gap k v es i (omega arith) (λ j d lt. low (suc j) d (omega arith)) (λ j d ge lt. high (suc j) d (omega arith) (omega arith)))

  -- no key ties
  pub where_none : (k : K) (es : List (K × X)) → ((j : ℕ) (d : K × X) → j < length es → eq_by_cmp R k (get_or es j d).0 ≡ false) → where_key R (λ x. not (eq_by_cmp R k x)) es ≡ es
  where_none k [] h = refl
  where_none k (x ∷ es) h =
      ap (λ b. cond (not b) (x ∷ where_key R (λ y. not (eq_by_cmp R k y)) es) (where_key R (λ y. not (eq_by_cmp R k y)) es)) (h zero x (omega arith))
      ∙ ap (λ (rest : List (K × X)). x ∷ rest) (where_none k es (λ j d lt. h (suc j) d (omega arith)))

  -- the key stands at i
  pub where_at : (k : K) (es : List (K × X)) (i : ℕ) (d : K × X) → T (is_sorted R es) → i < length es → (get_or es i d).0 ≡ k → where_key R (λ x. not (eq_by_cmp R k x)) es ≡ take i es ++ drop (suc i) es
  where_at k [] i d h lt e = absurd (omega arith)
  where_at k (x ∷ es) zero d h lt e =
      let tied : R k x.0 ≡ Equal = subst (λ y. R k y ≡ Equal) (sym e) (tied_itself o k) in
      ap (λ r. cond (not (is_eq r)) (x ∷ where_key R (λ y. not (eq_by_cmp R k y)) es) (where_key R (λ y. not (eq_by_cmp R k y)) es)) tied
      ∙ where_none k es (λ j f lt. ap is_eq (subst (λ y. R y (get_or es j f).0 ≡ Less) e (below_at x.0 es j f (left_true _ _ h) lt)))
  where_at k (x ∷ es) (suc i) d h lt e =
      let low : R x.0 k ≡ Less = subst (λ y. R x.0 y ≡ Less) e (below_at x.0 es i d (left_true _ _ h) (omega arith)) in
      let high : R k x.0 ≡ Greater = o.antisymm k x.0 ∙ ap ordering_reverse low in
      ap (λ r. cond (not (is_eq r)) (x ∷ where_key R (λ y. not (eq_by_cmp R k y)) es) (where_key R (λ y. not (eq_by_cmp R k y)) es)) high
      ∙ ap (λ (rest : List (K × X)). x ∷ rest) (where_at k es i d (right_true _ _ h) (omega arith) e)

  -- it belongs there, so no key ties
  pub where_gap : (k : K) (es : List (K × X)) (i : ℕ) → ((j : ℕ) (d : K × X) → j < i → R (get_or es j d).0 k ≡ Less) → ((j : ℕ) (d : K × X) → i ≤ j → j < length es → R (get_or es j d).0 k ≡ Greater)
      → where_key R (λ x. not (eq_by_cmp R k x)) es ≡ es
  where_gap k es i low high = where_none k es (λ j d lt. elim (cases_lt j i) [
    | inl l ↦ ap is_eq (o.antisymm k (get_or es j d).0 ∙ ap ordering_reverse (low j d l))
    | inr g ↦ ap is_eq (o.antisymm k (get_or es j d).0 ∙ ap ordering_reverse (high j d g lt))
  ])

  -- each key is lower than the next
  pub rises_at : (es : List (K × X)) (i : ℕ) (d : K × X) → T (is_sorted R es) → i + 1 < length es → R (get_or es i d).0 (get_or es (i + 1) d).0 ≡ Less
  rises_at [] i d h lt = absurd (omega arith)
  rises_at (x ∷ es) zero d h lt = below_at x.0 es zero d (left_true _ _ h) (omega arith)
  rises_at (x ∷ es) (suc i) d h lt =
      let next : suc i + 1 ≡ suc (i + 1) = omega arith in
      subst (λ n. R (get_or es i d).0 (get_or (x ∷ es) n d).0 ≡ Less) (sym next) (rises_at es i d (right_true _ _ h) (omega arith))

-- ---- pairs

pub bytes_total : IsTotalOrder bytes_cmp
bytes_total = nat_list_cmp_total

abbrev pub some_pair : Pair
some_pair = record { key = []; value = [] }

pub entry_at : (ps : List Pair) (j : ℕ) (d : List ℕ × List ℕ) → j < length ps → (get_or (entries_of ps) j d).0 ≡ (get_or ps j some_pair).key
entry_at ps j d lt = ap (λ (e : List ℕ × List ℕ). e.0) (get_or-map entry_of ps j some_pair d lt)

not_lower : (a b : List ℕ) → bytes_cmp a b ≡ Less → is_lt (bytes_cmp b a) ≡ false
not_lower a b e = ap is_lt (bytes_total.antisymm b a ∙ ap ordering_reverse e)

pub length-entries : (ps : List Pair) → length (entries_of ps) ≡ length ps
length-entries ps = length-map ps entry_of

module _ (ps : List Pair) (sorted : T (is_sorted bytes_cmp (entries_of ps))) where
  searchable : (key : List ℕ) → IsNonDecreasingBy (λ (p : Pair). ordering_index (bytes_cmp p.key key)) ps
  searchable key = searchable_from_sorted bytes_total (λ (p : Pair). p.key) ps key (λ k d ge lt. same_key k d lt)
    where
      same_key : (k : ℕ) (d : Pair) → k + 1 < length ps → is_lt (bytes_cmp (get_or ps (k + 1) d).key (get_or ps k d).key) ≡ false
      same_key k d lt = not_lower (get_or ps k d).key (get_or ps (k + 1) d).key
          (subst (λ (e : List ℕ). bytes_cmp e (get_or ps (k + 1) d).key ≡ Less) (ap (λ (e : List ℕ × List ℕ). e.0) (get_or-map entry_of ps k d (entry_of d) (omega arith)))
          (subst (λ (e : List ℕ). bytes_cmp (get_or (entries_of ps) k (entry_of d)).0 e ≡ Less) (ap (λ (e : List ℕ × List ℕ). e.0) (get_or-map entry_of ps (k + 1) d (entry_of d) lt))
          (rises_at bytes_total (entries_of ps) k (entry_of d) sorted (omega (arith, length-entries ps)))))

  pub searched : (key : List ℕ) (r : Result ℕ ℕ) → IsSearchInRange r (length ps) → IsBinarySearchResult (λ (p : Pair). bytes_cmp p.key key) ps r → IfOk r (IsKeyAt ps key) × IfErr r (IsGapAt ps key)
  searched key (Ok i) bound at = ((bound, λ d. bytes_same (get_or ps i d).key key (at d)), tt)
    where
      bytes_same : (a b : List ℕ) → bytes_cmp a b ≡ Equal → a ≡ b
      bytes_same a b e = slice_cmp-IsAntisymmetric nat_cmp-IsAntisymmetric a b e
  searched key (Err i) bound at = let parts = at (searchable key) in (tt, (bound, parts.0, parts.1))

  pub put_found : (p : Pair) (i : ℕ) → IsKeyAt ps p.key i → entries_of (set ps i p) ≡ put bytes_cmp p.key p.value (entries_of ps)
  put_found p i at = map-set entry_of ps i p ∙ sym (put_at bytes_total p.key p.value (entries_of ps) i (entry_of some_pair) sorted (omega (arith, length-entries ps, at.0)) (entry_at ps i (entry_of some_pair) at.0 ∙ at.1 some_pair))

  low : (key : List ℕ) (i : ℕ) → IsGapAt ps key i → (j : ℕ) (d : List ℕ × List ℕ) → j < i → bytes_cmp (get_or (entries_of ps) j d).0 key ≡ Less
  low key i gap j d lt = subst (λ (k : List ℕ). bytes_cmp k key ≡ Less) (sym (entry_at ps j d (omega (arith, gap.0)))) (gap.1 j some_pair (omega arith) lt)

  high : (key : List ℕ) (i : ℕ) → IsGapAt ps key i → (j : ℕ) (d : List ℕ × List ℕ) → i ≤ j → j < length (entries_of ps) → bytes_cmp (get_or (entries_of ps) j d).0 key ≡ Greater
  high key i gap j d ge lt = let within : j < length ps = omega (arith, length-entries ps) in subst (λ (k : List ℕ). bytes_cmp k key ≡ Greater) (sym (entry_at ps j d within)) (gap.2 j some_pair ge within)

  pub put_missing : (p : Pair) (i : ℕ) → IsGapAt ps p.key i → entries_of (insert ps i p) ≡ put bytes_cmp p.key p.value (entries_of ps)
  put_missing p i gap =
      map-append entry_of (take i ps) (p ∷ drop i ps)
      ∙ (λ k. sym (take-map entry_of i ps) k ++ entry_of p ∷ sym (drop-map entry_of i ps) k)
      ∙ sym (put_gap bytes_total p.key p.value (entries_of ps) i (omega (arith, length-entries ps, gap.0)) (low p.key i gap) (high p.key i gap))

  pub without_found : (key : List ℕ) (i : ℕ) → IsKeyAt ps key i → entries_of (remove ps i) ≡ where_key bytes_cmp (λ k. not (eq_by_cmp bytes_cmp key k)) (entries_of ps)
  without_found key i at =
      map-append entry_of (take i ps) (drop (suc i) ps)
      ∙ (λ k. sym (take-map entry_of i ps) k ++ sym (drop-map entry_of (suc i) ps) k)
      ∙ sym (where_at bytes_total key (entries_of ps) i (entry_of some_pair) sorted (omega (arith, length-entries ps, at.0)) (entry_at ps i (entry_of some_pair) at.0 ∙ at.1 some_pair))

  pub without_missing : (key : List ℕ) (i : ℕ) → IsGapAt ps key i → entries_of ps ≡ where_key bytes_cmp (λ k. not (eq_by_cmp bytes_cmp key k)) (entries_of ps)
  without_missing key i gap = sym (where_gap bytes_total key (entries_of ps) i (low key i gap) (high key i gap))
