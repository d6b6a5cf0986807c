-- Going over cells with one more.
use Rattle.std.proofs.Common.{◌≡◌, ℕ, suc, ◌+◌, ◌<◌, ◌≤◌, Bool, true, false, List, [], ◌∷◌, ◌++◌, map, drop, drop-cons, add-one, slice_index_or, length, refl, sym, ap, ◌∙◌, append_assoc}
use Rattle.std.specs.declared.cmp.Ordering.{Ordering}
use Rattle.std.specs.declared.cmp.Ordering.TheVariants.{Less, Equal, Greater}
use Rattle.std.specs.FinMap.Entries.{by_order, put}
use Rattle.std.proofs.lemmas.List.{drop_all}
use Rattle.mj_maps.specs.Map.{Map, entries, insert}
use Rattle.mj_maps.proofs.MapLaws.{entries-insert}
use Rattle.mj_cells.specs.declared.cell.CellKey.{CellKey}
use Rattle.mj_cells.specs.declared.cell.CellValue.{CellValue}
use Rattle.mj_cells.specs.declared.cell.CellWrite.{CellWrite}
use Rattle.mj_cells.specs.declared.table.CellView.{CellView}
use Rattle.mj_cells.specs.Cell.{key_cmp}
use Rattle.mj_cells.specs.Next.{cell_of}
use Rattle.mj_cells.specs.Table.{put_all}
use Rattle.mj_cells.proofs.Keys.{exact_key}
use Rattle.mj_judge.specs.Parts.{Cell}
use Rattle.mj_index.specs.Placed.{around, not_after, standing, placed_by, rest_of}

pub views_push : (found : List CellView) (view : CellView) → map cell_of (found ++ view ∷ []) ≡ map cell_of found ++ cell_of view ∷ []
views_push [] view = refl
views_push (x ∷ found) view = ap (λ cs. cell_of x ∷ cs) (views_push found view)

stands : (o : Ordering) (k : CellKey) (v : CellValue) (c : Cell) (cs : List Cell) → around o k v c ++ rest_of (not_after o) k v cs ≡ by_order o ((k, v) ∷ c ∷ cs) ((c.0, v) ∷ cs) (c ∷ put key_cmp k v cs)
stands Less k v c cs = refl
stands Equal k v c cs = refl
stands Greater k v c cs = refl

one_on : (placed : Bool) (k : CellKey) (v : CellValue) (c : Cell) (cs : List Cell) → standing placed k v c ++ rest_of (placed_by placed k c) k v cs ≡ rest_of placed k v (c ∷ cs)
one_on true k v c cs = refl
one_on false k v c cs = stands (key_cmp k c.0) k v c cs

-- one step over the cells
pub step : (found : List Cell) (placed : Bool) (k : CellKey) (v : CellValue) (cells : List CellView) (i : ℕ) (c : CellView) → i < length cells → c ≡ slice_index_or cells i c
    → (found ++ standing placed k v (cell_of c)) ++ rest_of (placed_by placed k (cell_of c)) k v (map cell_of (drop (i + 1) cells)) ≡ found ++ rest_of placed k v (map cell_of (drop i cells))
step found placed k v cells i c h is =
    let next : drop i cells ≡ c ∷ drop (i + 1) cells = rw add-one (drop-cons cells i c h ∙ ap (λ (y : CellView). y ∷ drop (suc i) cells) (sym is)) in
    append_assoc found (standing placed k v (cell_of c)) _
    ∙ ap (λ (cs : List Cell). found ++ cs) (one_on placed k v (cell_of c) (map cell_of (drop (i + 1) cells)) ∙ ap (λ (xs : List CellView). rest_of placed k v (map cell_of xs)) (sym next))

-- ---- cells with some of the writes over them

-- these are the cells of a map that the writes from here on make into the map of all writes
abbrev pub Midway : List CellView → List CellWrite → Map key_cmp CellValue → Type 0
Midway cells left all = (m : Map key_cmp CellValue) × ((map cell_of cells ≡ entries m) × (put_all m left ≡ all))

pub one_write : (cells more : List CellView) (all : Map key_cmp CellValue) (ws : List CellWrite) (i : ℕ) (w : CellWrite) → i < length ws → w ≡ slice_index_or ws i w
    → map cell_of more ≡ put key_cmp w.key w.value (map cell_of cells) → Midway cells (drop i ws) all → Midway more (drop (i + 1) ws) all
one_write cells more all ws i w h is e (m, (was, leads)) =
    let next : drop i ws ≡ w ∷ drop (i + 1) ws = rw add-one (drop-cons ws i w h ∙ ap (λ (y : CellWrite). y ∷ drop (suc i) ws) (sym is)) in
    (insert m w.key w.value, (e ∙ ap (put key_cmp w.key w.value) was ∙ sym (entries-insert exact_key m w.key w.value), sym (ap (put_all m) next) ∙ leads))

-- once no write is left, these are the cells of the map of all writes
pub midway_ends : (cells : List CellView) (all : Map key_cmp CellValue) (ws : List CellWrite) (i : ℕ) → length ws ≤ i → Midway cells (drop i ws) all → map cell_of cells ≡ entries all
midway_ends cells all ws i past (m, (was, leads)) = was ∙ ap entries (sym (ap (put_all m) (drop_all i ws past)) ∙ leads)
