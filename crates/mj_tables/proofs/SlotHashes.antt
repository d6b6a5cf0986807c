-- The slots that a hash map holds, against the finite map that they make.
use Rattle.std.proofs.Common.{◌≡◌, Bool, cond, List, Option, Some, sym, ap, ◌∙◌}
use Rattle.std.specs.declared.cmp.Ordering.{Ordering}
use Rattle.std.specs.Ordering.{is_eq}
use Rattle.std.specs.BTreeMap.{is_at}
use Rattle.std.specs.Map.{lookup}
use Rattle.mj_maps.specs.Map.{get, insert, from_entries}
use Rattle.mj_maps.proofs.MapLaws.{same_map}
use Rattle.mj_cells.specs.declared.cell.CellKey.{CellKey}
use Rattle.mj_cells.specs.Cell.{key_cmp}
use Rattle.mj_cells.proofs.Keys.{exact_key}
use Rattle.mj_cells.proofs.Kept.{tree_cmp, tree_order, get_kept, one_given, hash_eq, hash_is}
use Rattle.mj_tables.specs.declared.slot.Slot.{Slot}
use Rattle.mj_tables.specs.Slots.{Slots, altered, altered_at}

abbrev pub SlotEntries : Type 0
SlotEntries = List (CellKey × Slot)

ties_alike : (q k : CellKey) → is_at (tree_cmp q) k ≡ hash_eq q k
ties_alike q k = ap (λ (r : CellKey → CellKey → Ordering). is_eq (r q k)) tree_order ∙ sym (hash_is q k)

by_hash : (q : CellKey) (es : SlotEntries) → lookup (is_at (tree_cmp q)) es ≡ lookup (hash_eq q) es
by_hash q es = ap (λ (test : CellKey → Bool). lookup test es) (λ i k. ties_alike q k i)

pub get_hashed : (es : SlotEntries) (q : CellKey) → get (from_entries {R = key_cmp} es) q ≡ lookup (hash_eq q) es
get_hashed es q = get_kept es q ∙ by_hash q es

-- entries that differ at one key make maps that differ there
pub one_hashed : (es fs : SlotEntries) (k : CellKey) (s : Slot) → ((q : CellKey) → lookup (hash_eq q) fs ≡ cond (hash_eq k q) (Some s) (lookup (hash_eq q) es)) → from_entries {R = key_cmp} fs ≡ insert (from_entries es) k s
one_hashed es fs k s h = one_given es fs k s (λ q. by_hash q fs ∙ h q ∙ (λ i. cond (sym (ties_alike k q) i) (Some s) (sym (by_hash q es) i)))

-- entries that show the same at each key make the same map
pub same_hashed : (es fs : SlotEntries) → ((q : CellKey) → lookup (hash_eq q) fs ≡ lookup (hash_eq q) es) → from_entries {R = key_cmp} fs ≡ from_entries es
same_hashed es fs h = same_map exact_key _ _ (λ q. get_hashed fs q ∙ h q ∙ sym (get_hashed es q))

pub found_slot : (es : SlotEntries) (k : CellKey) (o : Option Slot) → o ≡ lookup (hash_eq k) es → get (from_entries {R = key_cmp} es) k ≡ o
found_slot es k o e = get_hashed es k ∙ sym e

pub altered_is : (m : Slots) (k : CellKey) (f : Slot → Slot) (o : Option Slot) → get m k ≡ o → altered m k f ≡ altered_at m k f o
altered_is m k f o e = ap (altered_at m k f) e
