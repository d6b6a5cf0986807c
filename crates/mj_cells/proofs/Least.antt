-- The first cell above a key is the least.
use Rattle.std.proofs.Common.{◌≡◌, true, false, cond, T, List, [], ◌∷◌, Option, Some, None, refl, sym, ap, subst, ◌∙◌, inl, inr}
use Rattle.std.specs.declared.cmp.Ordering.{Ordering}
use Rattle.std.specs.declared.cmp.Ordering.TheVariants.{Less, Equal, Greater}
use Rattle.std.specs.List.{filter}
use Rattle.std.specs.Ordering.{is_lt, is_gt}
use Rattle.std.proofs.lemmas.Bool.{true≢false}
use Rattle.std.specs.Cmp.{tied_itself}
use Rattle.std.specs.FinMap.Entries.{find, below_all, is_sorted}
use Rattle.mj_maps.specs.Map.{Map, entries, entries_sorted, left_true, right_true}
use Rattle.mj_maps.proofs.MapLaws.{none_some, cases_key, eq_same, get-entries}
use Rattle.mj_cells.specs.declared.cell.CellKey.{CellKey}
use Rattle.mj_cells.specs.declared.cell.CellValue.{CellValue}
use Rattle.mj_cells.specs.Cell.{key_cmp, same_key}
use Rattle.mj_cells.specs.Next.{is_above, first_of, next_cell, IsLeastAbove}
use Rattle.mj_cells.proofs.Keys.{exact_key}

less_not_above : (o : Ordering) → T (is_lt o) → is_gt o ≡ false
less_not_above Less h = refl
less_not_above Equal h = refl
less_not_above Greater h = absurd h

same_not_above : (k : CellKey) → is_gt (key_cmp k k) ≡ false
same_not_above k = ap is_gt (tied_itself exact_key.total k)

-- a key that is found among entries is not below a key that is below them all
found_above : (x : CellKey) (es : List (CellKey × CellValue)) → T (below_all key_cmp x es) → (k : CellKey) (v : CellValue) → find key_cmp k es ≡ Some v → is_gt (key_cmp x k) ≡ false
found_above x [] h k v is = absurd (none_some v is)
found_above x (e ∷ es) h k v is = elim (cases_key exact_key k e.0) [
  | inl same ↦ subst (λ z. is_gt (key_cmp x z) ≡ false) (sym same) (less_not_above _ (left_true _ _ h))
  | inr other ↦ found_above x es (right_true _ _ h) k v (sym (ap (λ b. cond b (Some e.1) (find key_cmp k es)) other) ∙ is)
]

-- the same, among entries: what a search finds
abbrev Least : List (CellKey × CellValue) → Option CellKey → Option (CellKey × CellValue) → Type 0
Least es after None = (k : CellKey) (v : CellValue) → find key_cmp k es ≡ Some v → is_above after k ≡ false
Least es after (Some e) = (find key_cmp e.0 es ≡ Some e.1) × (is_above after e.0 ≡ true) × ((k : CellKey) (v : CellValue) → find key_cmp k es ≡ Some v → is_above after k ≡ true → is_gt (key_cmp e.0 k) ≡ false)

-- before entries goes one whose key is not above
past : (e : CellKey × CellValue) (es : List (CellKey × CellValue)) (after : Option CellKey) (r : Option (CellKey × CellValue)) → is_above after e.0 ≡ false → Least es after r → Least (e ∷ es) after r
past e es after None below h = λ k v is. elim (cases_key exact_key k e.0) [
  | inl same ↦ ap (is_above after) same ∙ below
  | inr other ↦ h k v (sym (ap (λ b. cond b (Some e.1) (find key_cmp k es)) other) ∙ is)
]
past e es after (Some x) below h =
    let apart : same_key x.0 e.0 ≡ false = elim (cases_key exact_key x.0 e.0) [ inl same ↦ absurd (true≢false (sym h.1 ∙ ap (is_above after) same ∙ below)) | inr other ↦ other ] in (
      ap (λ b. cond b (Some e.1) (find key_cmp x.0 es)) apart ∙ h.0,
      h.1,
      λ k v is up. elim (cases_key exact_key k e.0) [
        | inl same ↦ absurd (true≢false (sym up ∙ ap (is_above after) same ∙ below))
        | inr other ↦ h.2 k v (sym (ap (λ b. cond b (Some e.1) (find key_cmp k es)) other) ∙ is) up
      ],
    )

first_is_least : (es : List (CellKey × CellValue)) (after : Option CellKey) → T (is_sorted key_cmp es) → Least es after (first_of (filter (λ e. is_above after e.0) es))
first_is_least [] after h = λ k v is. absurd (none_some v is)
first_is_least (e ∷ es) after h =
    elim (is_above after e.0) as (λ b. is_above after e.0 ≡ b → Least (e ∷ es) after (first_of (cond b (e ∷ filter (λ x. is_above after x.0) es) (filter (λ x. is_above after x.0) es)))) [
      | true ↦ λ up. (
        ap (λ b. cond b (Some e.1) (find key_cmp e.0 es)) (eq_same exact_key e.0),
        up,
        λ k v is _. elim (cases_key exact_key k e.0) [
          | inl same ↦ subst (λ z. is_gt (key_cmp e.0 z) ≡ false) (sym same) (same_not_above e.0)
          | inr other ↦ found_above e.0 es (left_true _ _ h) k v (sym (ap (λ b. cond b (Some e.1) (find key_cmp k es)) other) ∙ is)
        ],
      )
      | false ↦ λ below. past e es after _ below (first_is_least es after (right_true _ _ h))
    ] refl

of_map : (m : Map key_cmp CellValue) (after : Option CellKey) (r : Option (CellKey × CellValue)) → Least (entries m) after r → IsLeastAbove m after r
of_map m after None h = λ k v is. h k v (sym (get-entries m k) ∙ is)
of_map m after (Some e) h = (get-entries m e.0 ∙ h.0, h.1, λ k v is up. h.2 k v (sym (get-entries m k) ∙ is) up)

pub next_is_least : (m : Map key_cmp CellValue) (after : Option CellKey) → IsLeastAbove m after (next_cell m after)
next_is_least m after = of_map m after _ (first_is_least (entries m) after (entries_sorted m))
