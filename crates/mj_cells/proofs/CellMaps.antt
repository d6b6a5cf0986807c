-- The table that cells by key make: what it shows, and what a write of a cell does to it.
use Rattle.std.proofs.Common.{◌≡◌, false, cond, T, List, [], ◌∷◌, ◌++◌, map, Option, Some, None, refl, sym, ap, subst, ◌∙◌, inl, inr}
use Rattle.std.specs.Prelude.{unwrap_or}
use Rattle.std.specs.declared.cmp.Ordering.{Ordering}
use Rattle.std.specs.declared.cmp.Ordering.TheVariants.{Less, Equal, Greater}
use Rattle.std.specs.Ordering.{is_eq, is_lt}
use Rattle.std.specs.FinMap.Entries.{find, below_all, is_sorted}
use Rattle.mj_maps.specs.Map.{Map, get, insert, remove, empty, entries, entries_sorted, left_true, right_true}
use Rattle.mj_maps.proofs.MapLaws.{cases_key, eq_same, get-entries, get-insert, get-remove, get_empty}
use Rattle.mj_cells.specs.declared.cell.CellKey.{CellKey}
use Rattle.mj_cells.specs.declared.cell.CellKey.TheVariants as key
use Rattle.mj_cells.specs.declared.cell.CellValue.{CellValue}
use Rattle.mj_cells.specs.declared.cell.CellValue.TheVariants.{Gone}
use Rattle.mj_cells.specs.declared.cell.CellWrite.{CellWrite}
use Rattle.mj_cells.specs.Cell.{key_cmp, same_key}
use Rattle.mj_cells.specs.Table.{no_cells, put_at, overlay, value_of, shown, last_of, table_of, as_write, put_all}
use Rattle.mj_cells.proofs.Keys.{exact_key}
use Rattle.mj_cells.proofs.Tables.{value_of-put_at, value_of-overlay, value_of-no_cells, same_table}

is_less : (r : Ordering) → T (is_lt r) → is_eq r ≡ false
is_less Less h = refl
is_less Equal h = absurd h
is_less Greater h = refl

pub not_below : (k : CellKey) (es : List (CellKey × CellValue)) → T (below_all key_cmp k es) → find key_cmp k es ≡ None
not_below k [] h = refl
not_below k (e ∷ es) h = rw (is_less (key_cmp k e.0) (left_true _ _ h)) (not_below k es (right_true _ _ h))

-- the cell, shown at its key, or what was there
abbrev shown_or : CellKey → CellValue → Option CellValue → CellValue
shown_or q v None = v
shown_or q v (Some x) = shown q x

first_entry : (k : CellKey) (x v : CellValue) (es : List (CellKey × CellValue)) → T (below_all key_cmp k es) → shown_or k (cond (same_key k k) (shown k x) v) (find key_cmp k es) ≡ shown_or k v (cond (same_key k k) (Some x) (find key_cmp k es))
first_entry k x v es h =
    ap (λ b. shown_or k (cond b (shown k x) v) (find key_cmp k es)) (eq_same exact_key k) ∙ ap (shown_or k (shown k x)) (not_below k es h)
    ∙ sym (ap (λ b. shown_or k v (cond b (Some x) (find key_cmp k es))) (eq_same exact_key k))

last_of-entries : (es : List (CellKey × CellValue)) → T (is_sorted key_cmp es) → (q : CellKey) (v : CellValue) → last_of q (map as_write es) v ≡ shown_or q v (find key_cmp q es)
last_of-entries [] h q v = refl
last_of-entries (e ∷ es) h q v =
    last_of-entries es (right_true _ _ h) q (cond (same_key q e.0) (shown e.0 e.1) v) ∙ elim (cases_key exact_key q e.0) [
      | inl is ↦ subst (λ z. shown_or z (cond (same_key z e.0) (shown e.0 e.1) v) (find key_cmp z es) ≡ shown_or z v (cond (same_key z e.0) (Some e.1) (find key_cmp z es))) (sym is) (first_entry e.0 e.1 v es (left_true _ _ h))
      | inr other ↦ ap (λ b. shown_or q (cond b (shown e.0 e.1) v) (find key_cmp q es)) other ∙ sym (ap (λ b. shown_or q v (cond b (Some e.1) (find key_cmp q es))) other)
    ]

pub shown-gone : (q : CellKey) → shown q Gone ≡ Gone
shown-gone (key.Dentry d n) = refl
shown-gone (key.DirHead d) = refl
shown-gone key.NextIno = refl
shown-gone (key.Session c) = refl
shown-gone (key.Done c t) = refl
shown-gone (key.OpenOf c i) = refl

shown-unwrap : (q : CellKey) (o : Option CellValue) → shown_or q Gone o ≡ shown q (unwrap_or o Gone)
shown-unwrap q None = sym (shown-gone q)
shown-unwrap q (Some x) = refl

-- at each key the table shows the cell
pub value_of-table_of : (m : Map key_cmp CellValue) (q : CellKey) → value_of (table_of m) q ≡ shown q (unwrap_or (get m q) Gone)
unfolding table_of
value_of-table_of m q =
    value_of-overlay no_cells (map as_write (entries m)) q ∙ last_of-entries (entries m) (entries_sorted m) q (value_of no_cells q)
    ∙ ap (λ v. shown_or q v (find key_cmp q (entries m))) (value_of-no_cells q) ∙ shown-unwrap q (find key_cmp q (entries m))
    ∙ ap (λ o. shown q (unwrap_or o Gone)) (sym (get-entries m q))

pub table_of-empty : table_of empty ≡ no_cells
table_of-empty = same_table _ _ (λ q. value_of-table_of empty q ∙ ap (λ (o : Option CellValue). shown q (unwrap_or o Gone)) (get_empty key_cmp q) ∙ shown-gone q ∙ sym (value_of-no_cells q))

chosen : (q k : CellKey) (v : CellValue) (o : Option CellValue) (x : Option CellValue) → unwrap_or x Gone ≡ v → shown q (unwrap_or (cond (same_key q k) x o) Gone) ≡ cond (same_key q k) (shown k v) (shown q (unwrap_or o Gone))
chosen q k v o x is = elim (cases_key exact_key q k) [
  | inl e ↦
      let here : shown k (unwrap_or (cond (same_key k k) x o) Gone) ≡ cond (same_key k k) (shown k v) (shown k (unwrap_or o Gone)) =
      ap (λ b. shown k (unwrap_or (cond b x o) Gone)) (eq_same exact_key k) ∙ ap (shown k) is ∙ sym (ap (λ b. cond b (shown k v) (shown k (unwrap_or o Gone))) (eq_same exact_key k)) in
      subst (λ z. shown z (unwrap_or (cond (same_key z k) x o) Gone) ≡ cond (same_key z k) (shown k v) (shown z (unwrap_or o Gone))) (sym e) here
  | inr other ↦ ap (λ b. shown q (unwrap_or (cond b x o) Gone)) other ∙ sym (ap (λ b. cond b (shown k v) (shown q (unwrap_or o Gone))) other)
]

-- a cell that is written is a write of the table, and one that goes is a write of `Gone`
pub table_of-insert : (m : Map key_cmp CellValue) (k : CellKey) (v : CellValue) → table_of (insert m k v) ≡ put_at (table_of m) k v
table_of-insert m k v = same_table _ _ (λ q.
    value_of-table_of (insert m k v) q ∙ ap (λ o. shown q (unwrap_or o Gone)) (get-insert exact_key m k v q) ∙ chosen q k v (get m q) (Some v) refl
    ∙ sym (value_of-put_at (table_of m) k v q ∙ ap (cond (same_key q k) (shown k v)) (value_of-table_of m q)))

pub table_of-remove : (m : Map key_cmp CellValue) (k : CellKey) → table_of (remove m k) ≡ put_at (table_of m) k Gone
table_of-remove m k = same_table _ _ (λ q.
    value_of-table_of (remove m k) q ∙ ap (λ o. shown q (unwrap_or o Gone)) (get-remove exact_key m k q) ∙ chosen q k Gone (get m q) None refl
    ∙ sym (value_of-put_at (table_of m) k Gone q ∙ ap (cond (same_key q k) (shown k Gone)) (value_of-table_of m q)))

pub table_of-put_all : (m : Map key_cmp CellValue) (ws : List CellWrite) → table_of (put_all m ws) ≡ overlay (table_of m) ws
table_of-put_all m [] = refl
table_of-put_all m (w ∷ ws) = table_of-put_all (insert m w.key w.value) ws ∙ ap (λ t. overlay t ws) (table_of-insert m w.key w.value)

pub put_all-push : (m : Map key_cmp CellValue) (ws : List CellWrite) (w : CellWrite) → put_all m (ws ++ w ∷ []) ≡ insert (put_all m ws) w.key w.value
put_all-push m [] w = refl
put_all-push m (x ∷ ws) w = put_all-push (insert m x.key x.value) ws w
