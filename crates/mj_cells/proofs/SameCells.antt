-- Cells written one after another to an empty table are the cells.
use Rattle.std.proofs.Common.{◌≡◌, cond, T, List, [], ◌∷◌, map, Option, Some, None, refl, sym, ap, subst, ◌∙◌, inl, inr}
use Rattle.std.specs.FinMap.Entries.{find, below_all, is_sorted}
use Rattle.mj_maps.specs.Map.{Map, get, insert, empty, from_entries, left_true, right_true}
use Rattle.mj_maps.proofs.MapLaws.{cases_key, eq_same, get-insert, get-from_entries, get_empty, same_map}
use Rattle.mj_cells.specs.declared.cell.CellKey.{CellKey}
use Rattle.mj_cells.specs.declared.cell.CellValue.{CellValue}
use Rattle.mj_cells.specs.Cell.{key_cmp, same_key}
use Rattle.mj_cells.specs.Table.{as_write, put_all}
use Rattle.mj_cells.proofs.Keys.{exact_key}
use Rattle.mj_cells.proofs.CellMaps.{not_below}

-- what was found, or what was there
abbrev or_held : Option CellValue → Option CellValue → Option CellValue
or_held (Some x) o = Some x
or_held None o = o

first_held : (k : CellKey) (x : CellValue) (o : Option CellValue) (es : List (CellKey × CellValue)) → T (below_all key_cmp k es) → or_held (find key_cmp k es) (cond (same_key k k) (Some x) o) ≡ or_held (cond (same_key k k) (Some x) (find key_cmp k es)) o
first_held k x o es h =
    ap (λ b. or_held (find key_cmp k es) (cond b (Some x) o)) (eq_same exact_key k) ∙ ap (λ f. or_held f (Some x)) (not_below k es h)
    ∙ sym (ap (λ b. or_held (cond b (Some x) (find key_cmp k es)) o) (eq_same exact_key k))

get-put_all : (es : List (CellKey × CellValue)) → T (is_sorted key_cmp es) → (m : Map key_cmp CellValue) (q : CellKey) → get (put_all m (map as_write es)) q ≡ or_held (find key_cmp q es) (get m q)
get-put_all [] h m q = refl
get-put_all (e ∷ es) h m q =
    get-put_all es (right_true _ _ h) (insert m e.0 e.1) q ∙ ap (or_held (find key_cmp q es)) (get-insert exact_key m e.0 e.1 q) ∙ elim (cases_key exact_key q e.0) [
      | inl is ↦ subst (λ z. or_held (find key_cmp z es) (cond (same_key z e.0) (Some e.1) (get m z)) ≡ or_held (cond (same_key z e.0) (Some e.1) (find key_cmp z es)) (get m z)) (sym is) (first_held e.0 e.1 (get m e.0) es (left_true _ _ h))
      | inr other ↦ ap (λ b. or_held (find key_cmp q es) (cond b (Some e.1) (get m q))) other ∙ sym (ap (λ b. or_held (cond b (Some e.1) (find key_cmp q es)) (get m q)) other)
    ]

nothing_held : (f : Option CellValue) → or_held f None ≡ f
nothing_held (Some x) = refl
nothing_held None = refl

pub put_all-entries : (es : List (CellKey × CellValue)) → T (is_sorted key_cmp es) → put_all empty (map as_write es) ≡ from_entries {R = key_cmp} es
put_all-entries es h = same_map exact_key _ _ (λ q.
    get-put_all es h empty q ∙ ap (or_held (find key_cmp q es)) (get_empty key_cmp q) ∙ nothing_held (find key_cmp q es) ∙ sym (get-from_entries exact_key es q))
