-- What is there where writes are the last, and the keys that go from the set.
use Rattle.std.proofs.Common.{◌≡◌, ℕ, Bool, true, false, cond, not, ◌&&◌, ◌||◌, List, ◌∷◌, Option, Some, None, refl, sym, ap, ◌∙◌}
use Rattle.std.specs.Prelude.{is_some}
use Rattle.std.specs.Option.{option_and_then, option_or}
use Rattle.std.specs.BTreeSet.{BTreeSet}
use Rattle.mj_maps.specs.Map.{get}
use Rattle.mj_maps.proofs.MapLaws.{none_some}
use Rattle.mj_cells.specs.declared.cell.CellKey.{CellKey}
use Rattle.mj_cells.specs.declared.cell.CellWrite.{CellWrite}
use Rattle.mj_cells.specs.Cell.{same_key}
use Rattle.mj_tables.specs.declared.slot.Ahead.{Ahead}
use Rattle.mj_tables.specs.declared.slot.Slot.{Slot}
use Rattle.mj_tables.specs.Layered.{is_there, writes_key, HasRoom}
use Rattle.mj_tables.specs.Slots.{Slots, value_ahead, if_there, there_in, rooms, ahead_at, ahead_by, last_write, all_projected}
use Rattle.mj_tables.specs.Listed.{has_key, there_at, AreLast}
use Rattle.mj_tables.proofs.Laid.{ahead-all_projected}
use Rattle.mj_tables.proofs.Writes.{unwritten}

there_ahead : (o : Option Slot) (a : Ahead) → option_and_then (λ (s : Slot). s.ahead) o ≡ Some a → option_and_then there_in o ≡ if_there a.value
there_ahead None a is = absurd (none_some a is)
there_ahead (Some s) a is = ap (λ x. option_and_then if_there (option_or (value_ahead x) s.safe)) is

-- once they are over what their keys hold
pub last_projected : (ends : ℕ) (m : Slots) (ws : List CellWrite) → HasRoom (rooms m) ws → AreLast (all_projected ends m ws) ws
last_projected ends m ws room k v is =
    there_ahead (get (all_projected ends m ws) k) (record { value = v; last = ends }) (ahead-all_projected ends m ws room k ∙ ap (λ o. option_or (ahead_by ends o) (ahead_at m k)) is)

module _ (m : Slots) (w : CellWrite) (ws : List CellWrite) (last : AreLast m (w ∷ ws)) where
  -- so are those after the first
  pub last_rest : AreLast m ws
  last_rest k v is = last k v (ap (λ o. option_or o (cond (same_key k w.key) (Some w.value) None)) is)

  -- the key of a write that is there is there, unless one is after it
  last_there : is_there w.value ≡ true → (q : CellKey) → same_key q w.key ≡ true → writes_key q ws ≡ false → is_some (there_at m q) ≡ true
  last_there there q same none_after =
      ap is_some (last q w.value (λ i. option_or (unwritten q ws (last_write q ws) refl none_after i) (cond (same i) (Some w.value) None)))
      ∙ ap (λ b. is_some (cond b (Some w.value) None)) there

  skipped : (h t a b : Bool) → (a ≡ true → b ≡ false → t ≡ true) → (h && (t || not b)) ≡ (h && (t || not (a || b)))
  skipped h t false b is = refl
  skipped h t true true is = refl
  skipped h t true false is = ap (λ x. h && (x || true)) (is refl refl) ∙ sym (ap (λ x. h && (x || false)) (is refl refl))

  -- so it need not be looked at
  pub one_more_there : (s : BTreeSet CellKey) → is_there w.value ≡ true → (q : CellKey) → (has_key s q && (is_some (there_at m q) || not (writes_key q ws))) ≡ (has_key s q && (is_some (there_at m q) || not (writes_key q (w ∷ ws))))
  one_more_there s there q = skipped (has_key s q) (is_some (there_at m q)) (same_key q w.key) (writes_key q ws) (last_there there q)
