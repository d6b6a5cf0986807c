-- The cell with the least key above another, that is there.
use Rattle.std.proofs.Common.{◌≡◌, ℕ, Bool, true, false, cond, ◌&&◌, T, List, [], ◌∷◌, Some, None, refl, sym, ap, subst, ◌∙◌, inl, inr}
use Rattle.std.specs.Prelude.{nat_lt, ◌==◌}
use Rattle.std.specs.declared.cmp.Ordering.{Ordering}
use Rattle.std.specs.declared.cmp.Ordering.TheVariants.{Less, Equal, Greater}
use Rattle.std.specs.List.{filter}
use Rattle.std.specs.Ordering.{is_lt, nat_cmp}
use Rattle.std.specs.Cmp.{tied_itself}
use Rattle.std.specs.FinMap.Entries.{below_all, is_sorted}
use Rattle.std.proofs.lemmas.Bool.{false≢true, and_parts, and_from}
use Rattle.mj_maps.specs.Map.{Map, entries, entries_sorted, get, left_true, right_true}
use Rattle.mj_maps.proofs.MapLaws.{Exact, none_some, some_same}
use Rattle.mj_cells.specs.declared.cell.CellKey.{CellKey}
use Rattle.mj_cells.specs.declared.cell.CellValue.{CellValue}
use Rattle.mj_cells.specs.Cell.{key_cmp}
use Rattle.mj_cells.specs.Next.{is_above, first_of}
use Rattle.mj_cells.proofs.Keys.{exact_key}
use Rattle.mj_tables.specs.Layered.{is_there, next_there}
use Rattle.mj_delta.proofs.Lists.{Lies, entry_at, at_entry}
use Rattle.mj_cache.proofs.Ascending.{IsOrder}

-- ---- orders

less_is : (r : Ordering) → is_lt r ≡ true → r ≡ Less
less_is Less e = refl
less_is Equal e = absurd (false≢true e)
less_is Greater e = absurd (false≢true e)

pub true_is : (b : Bool) → T b → b ≡ true
true_is true h = refl
true_is false h = absurd h

module _ {K : Type 0} {R : K → K → Ordering} (o : Exact R) where
  pub order_of : IsOrder (λ a b. is_lt (R a b))
  order_of = record {
    irreflexive = λ a. ap is_lt (tied_itself o.total a);
    transitive = λ a b c ab bc. ap is_lt (o.total.trans a b c (less_is (R a b) ab) (less_is (R b c) bc));
  }

pub less_number : (a b : ℕ) → is_lt (nat_cmp a b) ≡ nat_lt a b
less_number a b = elim (nat_lt a b) as (λ x. is_lt (cond x Less (cond (a == b) Equal Greater)) ≡ x) [
  | true ↦ refl
  | false ↦ elim (a == b) as (λ y. is_lt (cond y Equal Greater) ≡ false) [ true ↦ refl | false ↦ refl ]
]

-- ---- the first entry that passes

module _ {K X : Type 0} {R : K → K → Ordering} (o : Exact R) (p : K × X → Bool) where
  below_lies : (k : K) (es : List (K × X)) (e : K × X) → T (below_all R k es) → Lies e es → is_lt (R k e.0) ≡ true
  below_lies k [] e h l = absurd l
  below_lies k (x ∷ es) e h (inl same) = subst (λ (y : K × X). is_lt (R k y.0) ≡ true) same (true_is _ (left_true _ _ h))
  below_lies k (x ∷ es) e h (inr l) = below_lies k es e (right_true _ _ h) l

  pub record IsFirst (es : List (K × X)) (e : K × X) : Type 0 where
    pub lies : Lies e es
    pub passes : p e ≡ true
    pub least : (x : K × X) → Lies x es → p x ≡ true → is_lt (R x.0 e.0) ≡ true → ⊥

  pub first_is : (es : List (K × X)) (e : K × X) → T (is_sorted R es) → first_of (filter p es) ≡ Some e → IsFirst es e
  first_is [] e h f = absurd (none_some e f)
  first_is (x ∷ es) e h f = elim (p x) as (λ b. p x ≡ b → first_of (cond b (x ∷ filter p es) (filter p es)) ≡ Some e → IsFirst (x ∷ es) e) [
    | true ↦ λ up f.
        let same : x ≡ e = some_same x e f in record {
          lies = inl same;
          passes = ap p (sym same) ∙ up;
          least = λ y l _ lt. elim l [
            | inl is ↦ false≢true (sym ((order_of o).irreflexive e.0) ∙ ap (λ (z : K × X). is_lt (R z.0 e.0)) (sym same ∙ is) ∙ lt)
            | inr m ↦ false≢true (sym ((order_of o).irreflexive e.0) ∙ (order_of o).transitive e.0 y.0 e.0 (subst (λ (z : K × X). is_lt (R z.0 y.0) ≡ true) same (below_lies x.0 es y (left_true _ _ h) m)) lt)
          ];
        }
    | false ↦ λ down f.
        let rest = first_is es e (right_true _ _ h) f in record {
          lies = inr rest.lies;
          passes = rest.passes;
          least = λ y l up lt. elim l [
            | inl is ↦ false≢true (sym down ∙ ap p is ∙ up)
            | inr m ↦ rest.least y m up lt
          ];
        }
  ] refl f

  pub first_none : (es : List (K × X)) → first_of (filter p es) ≡ None → (x : K × X) → Lies x es → p x ≡ true → ⊥
  first_none [] f x l up = l
  first_none (y ∷ es) f x l up = elim (p y) as (λ b. p y ≡ b → first_of (cond b (y ∷ filter p es) (filter p es)) ≡ None → ⊥) [
    | true ↦ λ _ f. none_some y (sym f)
    | false ↦ λ down f. elim l [
      | inl is ↦ false≢true (sym down ∙ ap p is ∙ up)
      | inr m ↦ first_none es f x m up
    ]
  ] refl f

-- ---- the next cell that is there

pub record IsNext (m : Map key_cmp CellValue) (after : CellKey) (e : CellKey × CellValue) : Type 0 where
  pub cell : get m e.0 ≡ Some e.1
  pub above : is_lt (key_cmp after e.0) ≡ true
  pub there : is_there e.1 ≡ true
  pub least : (k : CellKey) (v : CellValue) → get m k ≡ Some v → is_lt (key_cmp after k) ≡ true → is_there v ≡ true → is_lt (key_cmp k e.0) ≡ true → ⊥

module _ (m : Map key_cmp CellValue) (after : CellKey) where
  abbrev passes : CellKey × CellValue → Bool
  passes e = is_above (Some after) e.0 && is_there e.1

  pub next_is : (e : CellKey × CellValue) → next_there m (Some after) ≡ Some e → IsNext m after e
  next_is e f =
      let w = first_is exact_key passes (entries m) e (entries_sorted m) f in
      let both = and_parts _ _ w.passes in
      record {
        cell = entry_at exact_key m e w.lies;
        above = both.0;
        there = both.1;
        least = λ k v at up there. w.least (k, v) (at_entry exact_key m k v at) (and_from _ _ up there);
      }

  pub next_none : next_there m (Some after) ≡ None → (k : CellKey) (v : CellValue) → get m k ≡ Some v → is_lt (key_cmp after k) ≡ true → is_there v ≡ true → ⊥
  next_none f k v at up there = first_none exact_key passes (entries m) f (k, v) (at_entry exact_key m k v at) (and_from _ _ up there)
