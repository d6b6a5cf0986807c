-- Slots that hold safe values alone, through a write.
use Rattle.std.proofs.Common.{◌≡◌, None, refl, sym, ap, subst, ◌∙◌, inl, inr}
use Rattle.std.specs.Option.{option_and_then}
use Rattle.mj_maps.specs.Map.{insert}
use Rattle.mj_maps.proofs.MapLaws.{cases_key, insert_same, insert_other, collect-insert_some}
use Rattle.mj_cells.specs.declared.cell.CellKey.{CellKey}
use Rattle.mj_cells.specs.declared.cell.CellValue.{CellValue}
use Rattle.mj_cells.specs.Cell.{Fits, AllFit}
use Rattle.mj_cells.proofs.Keys.{exact_key}
use Rattle.mj_cells.proofs.Fitting.{fit-insert}
use Rattle.mj_tables.specs.declared.slot.Slot.{Slot}
use Rattle.mj_tables.specs.Slots.{Slots, safe_cells, safe_slot, ahead_at}
use Rattle.mj_tables.specs.Inside.{AllSafe}

module _ (m : Slots) (k : CellKey) (v : CellValue) where
  pub safe-written : safe_cells (insert m k (safe_slot v)) ≡ insert (safe_cells m) k v
  safe-written = collect-insert_some exact_key (λ q (s : Slot). s.safe) m k (safe_slot v) v refl

  none_ahead : ((q : CellKey) → ahead_at m q ≡ None) → (q : CellKey) → ahead_at (insert m k (safe_slot v)) q ≡ None
  none_ahead none q = elim (cases_key exact_key q k) [
    | inl e ↦ ap (ahead_at (insert m k (safe_slot v))) e ∙ ap (option_and_then (λ (s : Slot). s.ahead)) (insert_same exact_key m k (safe_slot v))
    | inr other ↦ ap (option_and_then (λ (s : Slot). s.ahead)) (insert_other exact_key m k (safe_slot v) q other) ∙ none q
  ]

  pub safe_put : AllSafe m → Fits k v → AllSafe (insert m k (safe_slot v))
  safe_put all fits = record {
    fit = subst AllFit (sym safe-written) (fit-insert (safe_cells m) k v all.fit fits);
    laid = record { ahead = none_ahead all.laid.ahead; rise = tt };
  }
