-- What lies in a list that is filtered or mapped, and in the entries of a map.
use Rattle.std.proofs.Common.{◌≡◌, ℕ, ◌+◌, Bool, true, false, cond, T, List, [], ◌∷◌, ◌++◌, map, Option, Some, None, refl, sym, ap, subst, ◌∙◌, ◌⊎◌, inl, inr, arith}
use Rattle.std.specs.declared.cmp.Ordering.{Ordering}
use Rattle.std.specs.Prelude.{nat_eq}
use Rattle.std.specs.Ordering.{eq_by_cmp, is_lt}
use Rattle.std.specs.Cmp.{nat_eq_equiv, tied_itself}
use Rattle.std.specs.List.{filter, filter_map, list_any, cons_option, AllByRecursion}
use Rattle.std.specs.Option.{option_map_or}
use Rattle.std.specs.FinMap.Entries.{find, below_all, is_sorted}
use Rattle.std.proofs.lemmas.Bool.{false≢true, or_left, or_right}
use Rattle.mj_maps.specs.Map.{Map, entries, entries_sorted, get, passing, left_true, right_true}
use Rattle.mj_maps.proofs.MapLaws.{Exact, cases_key, eq_same, eq_true, none_some, some_same, get-entries}
use Rattle.mj_recovery.specs.Tree.{is_among}

abbrev pub Lies : {A : Type 0} → A → List A → Type 0
Lies x [] = ⊥
Lies x (y ∷ ys) = (y ≡ x) ⊎ Lies x ys

pub no_items : {A : Type 0} (xs : List A) → ((x : A) → Lies x xs → ⊥) → xs ≡ []
no_items [] h = refl
no_items (x ∷ xs) h = absurd (h x (inl refl))

pub all_lies : {A : Type 0} (P : A → Type 0) (xs : List A) → AllByRecursion P xs → (x : A) → Lies x xs → P x
all_lies P [] h x l = absurd l
all_lies P (y ∷ ys) h x (inl e) = subst P e h.0
all_lies P (y ∷ ys) h x (inr l) = all_lies P ys h.1 x l

pub lies_all : {A : Type 0} (P : A → Type 0) (xs : List A) → ((x : A) → Lies x xs → P x) → AllByRecursion P xs
lies_all P [] h = tt
lies_all P (y ∷ ys) h = (h y (inl refl), lies_all P ys (λ x l. h x (inr l)))

pub in_append : {A : Type 0} (xs ys : List A) (x : A) → Lies x (xs ++ ys) → Lies x xs ⊎ Lies x ys
in_append [] ys x l = inr l
in_append (z ∷ xs) ys x (inl e) = inl (inl e)
in_append (z ∷ xs) ys x (inr l) = elim (in_append xs ys x l) [ inl m ↦ inl (inr m) | inr m ↦ inr m ]

pub in_map : {A B : Type 0} (f : A → B) (xs : List A) (y : B) → Lies y (map f xs) → (x : A) × Lies x xs × (f x ≡ y)
in_map f [] y l = absurd l
in_map f (x ∷ xs) y (inl e) = (x, inl refl, e)
in_map f (x ∷ xs) y (inr l) = let w = in_map f xs y l in (w.0, inr w.1, w.2)

pub to_map : {A B : Type 0} (f : A → B) (xs : List A) (x : A) → Lies x xs → Lies (f x) (map f xs)
to_map f [] x l = absurd l
to_map f (y ∷ ys) x (inl e) = inl (ap f e)
to_map f (y ∷ ys) x (inr l) = inr (to_map f ys x l)

pub in_filter : {A : Type 0} (p : A → Bool) (xs : List A) (x : A) → Lies x (filter p xs) → Lies x xs × (p x ≡ true)
in_filter p [] x = λ l. absurd l
in_filter p (y ∷ ys) x = elim (p y) as (λ b. p y ≡ b → Lies x (cond b (y ∷ filter p ys) (filter p ys)) → Lies x (y ∷ ys) × (p x ≡ true)) [
  | true ↦ λ e l. elim l [ inl same ↦ (inl same, ap p (sym same) ∙ e) | inr m ↦ let w = in_filter p ys x m in (inr w.0, w.1) ]
  | false ↦ λ e l. let w = in_filter p ys x l in (inr w.0, w.1)
] refl

pub in_filter_map : {A B : Type 0} (f : A → Option B) (xs : List A) (y : B) → Lies y (filter_map f xs) → (x : A) × Lies x xs × (f x ≡ Some y)
in_filter_map f [] y = λ l. absurd l
in_filter_map f (x ∷ xs) y = elim (f x) as (λ o. f x ≡ o → Lies y (cons_option o (filter_map f xs)) → (z : _) × Lies z (x ∷ xs) × (f z ≡ Some y)) [
  | None ↦ λ e l. let w = in_filter_map f xs y l in (w.0, inr w.1, w.2)
  | Some u ↦ λ e l. elim l [ inl same ↦ (x, inl refl, e ∙ ap Some same) | inr m ↦ let w = in_filter_map f xs y m in (w.0, inr w.1, w.2) ]
] refl

more_lies : {B : Type 0} (o : Option B) (ys : List B) (y : B) → Lies y ys → Lies y (cons_option o ys)
more_lies None ys y l = l
more_lies (Some z) ys y l = inr l

pub to_filter_map : {A B : Type 0} (f : A → Option B) (xs : List A) (x : A) (y : B) → Lies x xs → f x ≡ Some y → Lies y (filter_map f xs)
to_filter_map f [] x y l e = absurd l
to_filter_map f (z ∷ zs) x y (inl same) e = subst (λ o. Lies y (cons_option o (filter_map f zs))) (sym (ap f same ∙ e)) (inl refl)
to_filter_map f (z ∷ zs) x y (inr l) e = more_lies (f z) (filter_map f zs) y (to_filter_map f zs x y l e)

pub to_any : {A : Type 0} (p : A → Bool) (xs : List A) (x : A) → Lies x xs → p x ≡ true → list_any p xs ≡ true
to_any p [] x l e = absurd l
to_any p (y ∷ ys) x (inl same) e = or_left (p y) _ (ap p same ∙ e)
to_any p (y ∷ ys) x (inr l) e = or_right (p y) _ (to_any p ys x l e)

pub lies_among : (dirs : List ℕ) (d : ℕ) → Lies d dirs → is_among dirs d ≡ true
lies_among dirs d l = to_any (λ e. nat_eq e d) dirs d l (nat_eq_equiv.refl d)

-- ---- entries of maps

module _ {K X : Type 0} {R : K → K → Ordering} (o : Exact R) where
  below_at : (k : K) (es : List (K × X)) (e : K × X) → T (below_all R k es) → Lies e es → T (is_lt (R k e.0))
  below_at k [] e h l = absurd l
  below_at k (x ∷ es) e h (inl same) = subst (λ (y : K × X). T (is_lt (R k y.0))) same (left_true _ _ h)
  below_at k (x ∷ es) e h (inr l) = below_at k es e (right_true _ _ h) l

  other : (x e : K × X) → T (is_lt (R x.0 e.0)) → eq_by_cmp R e.0 x.0 ≡ false
  other x e lt = elim (cases_key o e.0 x.0) [
    | inl same ↦ absurd (subst (λ r. T (is_lt r)) (tied_itself o.total x.0) (subst (λ k. T (is_lt (R x.0 k))) same lt))
    | inr apart ↦ apart
  ]

  look : (es : List (K × X)) → T (is_sorted R es) → (e : K × X) → Lies e es → find R e.0 es ≡ Some e.1
  look [] s e l = absurd l
  look (x ∷ es) s e (inl same) =
      ap (λ b. cond b (Some x.1) (find R e.0 es)) (ap (λ (y : K × X). eq_by_cmp R e.0 y.0) same ∙ eq_same o e.0) ∙ ap (λ (y : K × X). Some y.1) same
  look (x ∷ es) s e (inr l) = ap (λ b. cond b (Some x.1) (find R e.0 es)) (other x e (below_at x.0 es e (left_true _ _ s) l)) ∙ look es (right_true _ _ s) e l

  found : (es : List (K × X)) (q : K) (v : X) → find R q es ≡ Some v → Lies (q, v) es
  found [] q v h = absurd (none_some v h)
  found (x ∷ es) q v h = elim (eq_by_cmp R q x.0) as (λ b. eq_by_cmp R q x.0 ≡ b → cond b (Some x.1) (find R q es) ≡ Some v → Lies (q, v) (x ∷ es)) [
    | true ↦ λ e f. let key : x.0 ≡ q = sym (eq_true o q x.0 e) in let value : x.1 ≡ v = some_same x.1 v f in inl (λ i. (key i, value i))
    | false ↦ λ e f. inr (found es q v f)
  ] refl h

  -- an entry of a map is what it has at the key
  pub entry_at : (m : Map R X) (e : K × X) → Lies e (entries m) → get m e.0 ≡ Some e.1
  entry_at m e l = get-entries m e.0 ∙ look (entries m) (entries_sorted m) e l

  pub at_entry : (m : Map R X) (q : K) (v : X) → get m q ≡ Some v → Lies (q, v) (entries m)
  at_entry m q v e = found (entries m) q v (sym (get-entries m q) ∙ e)

  -- in a list that need not be in order
  pub found_in : (es : List (K × X)) (q : K) (v : X) → find R q es ≡ Some v → Lies (q, v) es
  found_in = found

  pub found_some : (es : List (K × X)) (q : K) (v : X) → Lies (q, v) es → (w : X) × (find R q es ≡ Some w)
  found_some [] q v l = absurd l
  found_some (x ∷ es) q v l = elim (eq_by_cmp R q x.0) as (λ b. eq_by_cmp R q x.0 ≡ b → (w : X) × (cond b (Some x.1) (find R q es) ≡ Some w)) [
    | true ↦ λ e. (x.1, refl)
    | false ↦ λ e. elim l [
      | inl same ↦ absurd (false≢true (sym e ∙ ap (λ (y : K × X). eq_by_cmp R q y.0) same ∙ eq_same o q))
      | inr m ↦ found_some es q v m
    ]
  ] refl

pub passing_option : {A B : Type 0} (f : A → Option B) (p : B → Bool) (xs : List A) → passing p (filter_map f xs) ≡ passing (λ x. option_map_or p (f x) false) xs
passing_option f p [] = refl
passing_option f p (x ∷ xs) = elim (f x) as (λ o. passing p (cons_option o (filter_map f xs)) ≡ cond (option_map_or p o false) 1 0 + passing (λ x. option_map_or p (f x) false) xs) [
  | None ↦ let rest = passing_option f p xs in omega (arith, rest)
  | Some y ↦ ap (λ n. cond (p y) 1 0 + n) (passing_option f p xs)
]
