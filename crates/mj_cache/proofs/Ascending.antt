-- Ascending lists: what stands above an item, and the first of it.
use Rattle.std.proofs.Common.{◌≡◌, Bool, true, false, cond, List, [], ◌∷◌, Some, None, refl, sym, ap, subst, ◌∙◌, ◌⊎◌, inl, inr}
use Rattle.std.specs.List.{filter, AllByRecursion}
use Rattle.std.proofs.lemmas.Bool.{false≢true}
use Rattle.mj_maps.proofs.MapLaws.{some_same, none_some}
use Rattle.mj_delta.proofs.Lists.{Lies, all_lies}
use Rattle.mj_cells.specs.Next.{first_of}

-- each is below those after it
abbrev pub Ascends : {K : Type 0} → (K → K → Bool) → List K → Type 0
Ascends lt [] = Unit {0}
Ascends lt (k ∷ ks) = AllByRecursion (λ x. lt k x ≡ true) ks × Ascends lt ks

-- an order that no item is below itself in
pub record IsOrder {K : Type 0} (lt : K → K → Bool) : Type 0 where
  pub irreflexive : (a : K) → lt a a ≡ false
  pub transitive : (a b c : K) → lt a b ≡ true → lt b c ≡ true → lt a c ≡ true

module _ {K : Type 0} (lt : K → K → Bool) (o : IsOrder lt) where
  -- those above an item
  abbrev pub above : K → List K → List K
  above a ks = filter (λ k. lt a k) ks

  pub all_above : (a b : K) → lt a b ≡ true → (ks : List K) → AllByRecursion (λ x. lt b x ≡ true) ks → above a ks ≡ ks
  all_above a b ab [] h = refl
  all_above a b ab (k ∷ ks) h = ap (λ c. cond c (k ∷ above a ks) (above a ks)) (o.transitive a b k ab h.0) ∙ ap (λ xs. k ∷ xs) (all_above a b ab ks h.1)

  pub own_above : (k : K) (ks : List K) → AllByRecursion (λ x. lt k x ≡ true) ks → above k ks ≡ ks
  own_above k [] h = refl
  own_above k (x ∷ ks) h = ap (λ c. cond c (x ∷ above k ks) (above k ks)) h.0 ∙ ap (λ xs. x ∷ xs) (own_above k ks h.1)

  filter_all : (P : K → Type 0) (p : K → Bool) (ks : List K) → AllByRecursion P ks → AllByRecursion P (filter p ks)
  filter_all P p [] h = tt
  filter_all P p (k ∷ ks) h = elim (p k) as (λ b. AllByRecursion P (cond b (k ∷ filter p ks) (filter p ks))) [ true ↦ (h.0, filter_all P p ks h.1) | false ↦ filter_all P p ks h.1 ]

  not_above : (a b : K) → lt a b ≡ true → lt b a ≡ false
  not_above a b ab = elim (lt b a) as (λ c. lt b a ≡ c → c ≡ false) [ true ↦ λ e. absurd (false≢true (sym (o.irreflexive a) ∙ o.transitive a b a ab e)) | false ↦ λ e. refl ] refl

  -- what is above the first one above is the rest
  pub above_first : (a : K) (ks : List K) (y : K) (ys : List K) → Ascends lt ks → above a ks ≡ y ∷ ys → ys ≡ above y ks
  above_first a [] y ys h = λ e. absurd cc
  above_first a (k ∷ ks) y ys h =
      elim (lt a k) as (λ c. lt a k ≡ c → cond c (k ∷ above a ks) (above a ks) ≡ y ∷ ys → ys ≡ above y (k ∷ ks)) [
        | true ↦ λ up e.
            let head : k ≡ y = cc in
            let tail : above a ks ≡ ys = cc in
            sym tail ∙ all_above a k up ks h.0 ∙ sym (own_above k ks h.0) ∙ sym (ap (λ c. cond c (k ∷ above k ks) (above k ks)) (o.irreflexive k)) ∙ ap (λ z. above z (k ∷ ks)) head
        | false ↦ λ up e.
            let top : lt k y ≡ true = (subst (AllByRecursion (λ x. lt k x ≡ true)) e (filter_all (λ x. lt k x ≡ true) (λ x. lt a x) ks h.0)).0 in
            above_first a ks y ys h.1 e ∙ sym (ap (λ c. cond c (k ∷ above y ks) (above y ks)) (not_above k y top))
      ] refl

  -- what is above one of them, which is found as the first
  pub above_next : (a : K) (ks : List K) (y : K) → Ascends lt ks → first_of (above a ks) ≡ Some y → above a ks ≡ y ∷ above y ks
  above_next a ks y h f = elim (above a ks) as (λ xs. above a ks ≡ xs → first_of xs ≡ Some y → above a ks ≡ y ∷ above y ks) [
    | [] ↦ λ e f. absurd (none_some y f)
    | x ∷ xs ↦ λ e f. let same = some_same x y f in e ∙ (λ i. same i ∷ (above_first a ks x xs h e ∙ ap (λ z. above z ks) same) i)
  ] refl f

  pub above_end : (a : K) (ks : List K) → first_of (above a ks) ≡ None → above a ks ≡ []
  above_end a ks f = elim (above a ks) as (λ xs. first_of xs ≡ None → xs ≡ []) [ [] ↦ λ f. refl | x ∷ xs ↦ λ f. absurd (none_some x (sym f)) ] f

  pub above_none : (a : K) (ks : List K) → ((k : K) → Lies k ks → lt a k ≡ true → ⊥) → above a ks ≡ []
  above_none a [] h = refl
  above_none a (k ∷ ks) h = elim (lt a k) as (λ c. lt a k ≡ c → cond c (k ∷ above a ks) (above a ks) ≡ []) [
    | true ↦ λ e. absurd (h k (inl refl) e)
    | false ↦ λ e. above_none a ks (λ x l. h x (inr l))
  ] refl

  -- the least of those above is the first
  pub above_least : (a : K) (ks : List K) (y : K) → Ascends lt ks → Lies y ks → lt a y ≡ true → ((k : K) → Lies k ks → lt a k ≡ true → lt k y ≡ true → ⊥) → first_of (above a ks) ≡ Some y
  above_least a [] y h l up least = absurd l
  above_least a (k ∷ ks) y h l up least = elim (lt a k) as (λ c. lt a k ≡ c → first_of (cond c (k ∷ above a ks) (above a ks)) ≡ Some y) [
    | true ↦ λ e. elim l [
      | inl same ↦ ap Some same
      | inr m ↦ absurd (least k (inl refl) e (all_lies (λ x. lt k x ≡ true) ks h.0 y m))
    ]
    | false ↦ λ e. elim l [
      | inl same ↦ absurd (false≢true (sym e ∙ ap (lt a) same ∙ up))
      | inr m ↦ above_least a ks y h.1 m up (λ x l. least x (inr l))
    ]
  ] refl

  -- those from an item on: the item where it is there, and those above
  pub from_item : (a : K) (ks : List K) → Ascends lt ks → ((k : K) → Lies k ks → (k ≡ a) ⊎ (lt a k ≡ true)) → Lies a ks → ks ≡ a ∷ above a ks
  from_item a [] h all l = absurd l
  from_item a (k ∷ ks) h all l = elim (all k (inl refl)) [
    | inl same ↦
        let first : above k (k ∷ ks) ≡ ks = ap (λ c. cond c (k ∷ above k ks) (above k ks)) (o.irreflexive k) ∙ own_above k ks h.0 in
        (λ i. same i ∷ (sym first ∙ ap (λ z. above z (k ∷ ks)) same) i)
    | inr up ↦ elim l [
      | inl same ↦ absurd (false≢true (sym (o.irreflexive k) ∙ ap (λ z. lt z k) same ∙ up))
      | inr m ↦ absurd (false≢true (sym (o.irreflexive k) ∙ o.transitive k a k (all_lies (λ x. lt k x ≡ true) ks h.0 a m) up))
    ]
  ]

  pub all_items : (a : K) (ks : List K) → ((k : K) → Lies k ks → lt a k ≡ true) → above a ks ≡ ks
  all_items a [] h = refl
  all_items a (k ∷ ks) h = ap (λ c. cond c (k ∷ above a ks) (above a ks)) (h k (inl refl)) ∙ ap (λ xs. k ∷ xs) (all_items a ks (λ x l. h x (inr l)))
