-- Cells that are in range stay so.
use Rattle.std.proofs.Common.{◌≡◌, List, [], ◌∷◌, Some, sym, ap, subst, ◌∙◌, inl, inr, cond}
use Rattle.std.specs.FinMap.Entries.{find}
use Rattle.std.specs.List.{AllByRecursion}
use Rattle.mj_maps.specs.Map.{Map, entries, get, insert}
use Rattle.mj_maps.proofs.MapLaws.{some_same, none_some, cases_key, eq_same, insert_same, insert_other, get-entries}
use Rattle.mj_cells.specs.declared.cell.CellKey.{CellKey}
use Rattle.mj_cells.specs.declared.cell.CellValue.{CellValue}
use Rattle.mj_cells.specs.declared.cell.CellWrite.{CellWrite}
use Rattle.mj_cells.specs.Cell.{key_cmp}
use Rattle.mj_cells.specs.Table.{put_all}
use Rattle.mj_cells.proofs.Keys.{exact_key}
use Rattle.mj_cache.specs.Ranges.{InRange, WriteInRange, CellInRange, AllInRange}

range-insert : (m : Map key_cmp CellValue) (k : CellKey) (v : CellValue) → AllInRange m → InRange k v → AllInRange (insert m k v)
range-insert m k v old new q x is = elim (cases_key exact_key q k) [
  | inl e ↦ subst (λ z. InRange z x) (sym e) (subst (InRange k) (some_same v x (sym (insert_same exact_key m k v) ∙ ap (get (insert m k v)) (sym e) ∙ is)) new)
  | inr other ↦ old q x (sym (insert_other exact_key m k v q other) ∙ is)
]

pub range-put_all : (m : Map key_cmp CellValue) (ws : List CellWrite) → AllInRange m → AllByRecursion WriteInRange ws → AllInRange (put_all m ws)
range-put_all m [] old all = old
range-put_all m (w ∷ ws) old all = range-put_all (insert m w.key w.value) ws (range-insert m w.key w.value old all.0) all.1

found : (k : CellKey) (v : CellValue) (es : List (CellKey × CellValue)) → AllByRecursion CellInRange es → find key_cmp k es ≡ Some v → InRange k v
found k v [] all is = absurd (none_some v is)
found k v (e ∷ es) all is = elim (cases_key exact_key k e.0) [
  | inl same ↦ subst (λ z. InRange z v) (sym same) (subst (InRange e.0) (some_same e.1 v (sym (first same) ∙ is)) all.0)
  | inr other ↦ found k v es all.1 (sym (ap (λ b. cond b (Some e.1) (find key_cmp k es)) other) ∙ is)
]
  where
    first : k ≡ e.0 → find key_cmp k (e ∷ es) ≡ Some e.1
    first same = subst (λ z. find key_cmp z (e ∷ es) ≡ Some e.1) (sym same) (ap (λ b. cond b (Some e.1) (find key_cmp e.0 es)) (eq_same exact_key e.0))

-- of each entry, and so of each key
pub range-entries : (m : Map key_cmp CellValue) → AllByRecursion CellInRange (entries m) → AllInRange m
range-entries m all k v is = found k v (entries m) all (sym (get-entries m k) ∙ is)
