-- The keys that are there, found along a hash map's entries.
use Rattle.std.proofs.Common.{◌≡◌, Bool, true, false, ◌||◌, List, [], ◌∷◌, Some, refl, sym, ap, ◌∙◌, ◌⊎◌, inl, inr}
use Rattle.std.specs.Prelude.{is_some}
use Rattle.std.specs.List.{All}
use Rattle.std.specs.Option.{option_and_then}
use Rattle.std.specs.BTreeSet.{BTreeSet}
use Rattle.std.specs.Map.{lookup}
use Rattle.std.proofs.lemmas.Bool.{true≢false, false≢true}
use Rattle.std.proofs.lemmas.List.Elements.{All-head, All-tail, All-weaker}
use Rattle.mj_maps.specs.Map.{get, from_entries}
use Rattle.mj_maps.proofs.MapLaws.{cases_key, eq_same, get_empty, insert_other}
use Rattle.mj_cells.specs.declared.cell.CellKey.{CellKey}
use Rattle.mj_cells.specs.Cell.{key_cmp, same_key}
use Rattle.mj_cells.proofs.Keys.{exact_key}
use Rattle.mj_cells.proofs.Kept.{hash_eq}
use Rattle.mj_tables.specs.declared.slot.Slot.{Slot}
use Rattle.mj_tables.specs.Slots.{Slots, there_in}
use Rattle.mj_tables.specs.Listed.{has_key, there_at, AreThere, Adds}
use Rattle.mj_tables.proofs.SlotHashes.{SlotEntries, get_hashed}

abbrev pub held_slots : SlotEntries → Slots
held_slots es = from_entries {R = key_cmp} es

abbrev pub IsHeld : SlotEntries → CellKey × Slot → Type 0
IsHeld es e = get (held_slots es) e.0 ≡ Some e.1

-- some of a hash map's entries are left, and of the others the set has the keys that are there
pub record AreFound (es : SlotEntries) (rest : SlotEntries) (s : BTreeSet CellKey) : Type 0 where
  pub held : All (IsHeld es) rest
  pub only : (q : CellKey) → has_key s q ≡ true → is_some (there_at (held_slots es) q) ≡ true
  pub each : (q : CellKey) → is_some (there_at (held_slots es) q) ≡ true → (has_key s q ≡ true) ⊎ (get (held_slots rest) q ≡ get (held_slots es) q)

pub found_start : (es : SlotEntries) (s : BTreeSet CellKey) → s.keys ≡ [] → All (λ (e : CellKey × Slot). lookup (hash_eq e.0) es ≡ Some e.1) es → AreFound es es s
found_start es s none held = record {
  held = All-weaker (λ (e : CellKey × Slot). lookup (hash_eq e.0) es ≡ Some e.1) (IsHeld es) (λ e is. get_hashed es e.0 ∙ is) es held;
  only = λ q has. absurd (false≢true (sym (ap (λ (ks : List CellKey). has_key (record { keys = ks }) q) none) ∙ has));
  each = λ q there. inr refl;
}

module _ (es rest : SlotEntries) (k : CellKey) (x : Slot) (s : BTreeSet CellKey) where
  at_entry : AreFound es ((k, x) ∷ rest) s → there_at (held_slots es) k ≡ there_in x
  at_entry found =
      let is : get (held_slots es) k ≡ Some x = All-head (IsHeld es) (k, x) rest found.held in
      ap (option_and_then there_in) is

  -- the entry's key is there, and goes into the set
  pub found_there : (n : BTreeSet CellKey) → AreFound es ((k, x) ∷ rest) s → is_some (there_in x) ≡ true → Adds s k n → AreFound es rest n
  found_there n found there adds = record {
    held = All-tail (IsHeld es) (k, x) rest found.held;
    only = λ q has. elim (cases_key exact_key q k) [
      | inl e ↦ ap (λ z. is_some (there_at (held_slots es) z)) e ∙ ap is_some (at_entry found) ∙ there
      | inr other ↦ found.only q (sym (adds q ∙ ap (λ b. b || has_key s q) other) ∙ has)
    ];
    each = λ q is. elim (cases_key exact_key q k) [
      | inl e ↦ inl (adds q ∙ ap (λ b. b || has_key s q) (ap (λ z. same_key z k) e ∙ eq_same exact_key k))
      | inr other ↦ elim (found.each q is) [
        | inl had ↦ inl (adds q ∙ ap (λ b. b || has_key s q) other ∙ had)
        | inr same ↦ inr (sym (insert_other exact_key (held_slots rest) k x q other) ∙ same)
      ]
    ];
  }

  -- it is not
  pub found_absent : AreFound es ((k, x) ∷ rest) s → is_some (there_in x) ≡ false → AreFound es rest s
  found_absent found absent = record {
    held = All-tail (IsHeld es) (k, x) rest found.held;
    only = found.only;
    each = λ q is. elim (cases_key exact_key q k) [
      | inl e ↦ absurd (true≢false (sym is ∙ ap (λ z. is_some (there_at (held_slots es) z)) e ∙ ap is_some (at_entry found) ∙ absent))
      | inr other ↦ elim (found.each q is) [
        | inl had ↦ inl had
        | inr same ↦ inr (sym (insert_other exact_key (held_slots rest) k x q other) ∙ same)
      ]
    ];
  }

same_bool : (a b : Bool) → (a ≡ true → b ≡ true) → (b ≡ true → a ≡ true) → a ≡ b
same_bool true b f g = sym (f refl)
same_bool false true f g = g refl
same_bool false false f g = refl

-- no entry is left
pub found_end : (es : SlotEntries) (s : BTreeSet CellKey) → AreFound es [] s → AreThere (held_slots es) s
found_end es s found q = same_bool (has_key s q) (is_some (there_at (held_slots es) q)) (found.only q) (λ is. elim (found.each q is) [
  | inl had ↦ had
  | inr same ↦ absurd (false≢true (ap (λ o. is_some (option_and_then there_in o)) (sym (get_empty key_cmp q) ∙ same) ∙ is))
])
