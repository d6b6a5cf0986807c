-- Cells whose values fit their keys stay so.
use Rattle.std.proofs.Common.{sym, ap, subst, ◌∙◌, inl, inr, List, [], ◌∷◌}
use Rattle.mj_maps.specs.Map.{Map, get, insert, remove, empty}
use Rattle.mj_maps.proofs.MapLaws.{some_same, none_some, cases_key, insert_same, insert_other, remove_same, remove_other, get_empty}
use Rattle.mj_cells.specs.declared.cell.CellKey.{CellKey}
use Rattle.mj_cells.specs.declared.cell.CellValue.{CellValue}
use Rattle.std.specs.List.{AllByRecursion}
use Rattle.mj_cells.specs.declared.cell.CellWrite.{CellWrite}
use Rattle.mj_cells.specs.Cell.{key_cmp, Fits, WriteFits, AllFit}
use Rattle.mj_cells.specs.Table.{put_all}
use Rattle.mj_cells.proofs.Keys.{exact_key}

pub fit-empty : AllFit empty
fit-empty k v is = absurd (none_some v (sym (get_empty key_cmp k) ∙ is))

pub fit-insert : (m : Map key_cmp CellValue) (k : CellKey) (v : CellValue) → AllFit m → Fits k v → AllFit (insert m k v)
fit-insert m k v fit new q x is = elim (cases_key exact_key q k) [
  | inl e ↦ subst (λ z. Fits z x) (sym e) (subst (Fits k) (some_same v x (sym (insert_same exact_key m k v) ∙ ap (get (insert m k v)) (sym e) ∙ is)) new)
  | inr other ↦ fit q x (sym (insert_other exact_key m k v q other) ∙ is)
]

pub fit-remove : (m : Map key_cmp CellValue) (k : CellKey) → AllFit m → AllFit (remove m k)
fit-remove m k fit q x is = elim (cases_key exact_key q k) [
  | inl e ↦ absurd (none_some x (sym (remove_same exact_key m k) ∙ ap (get (remove m k)) (sym e) ∙ is))
  | inr other ↦ fit q x (sym (remove_other exact_key m k q other) ∙ is)
]

pub fit-put_all : (m : Map key_cmp CellValue) (ws : List CellWrite) → AllFit m → AllByRecursion WriteFits ws → AllFit (put_all m ws)
fit-put_all m [] fit all = fit
fit-put_all m (w ∷ ws) fit all = fit-put_all (insert m w.key w.value) ws (fit-insert m w.key w.value fit all.0) all.1
