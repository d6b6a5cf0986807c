-- The dentries of a plan in order, and what a lump says of them.
use Rattle.std.proofs.Common.{◌≡◌, ℕ, List, [], ◌∷◌, ◌++◌, map, Option, Some, None, refl, ap, ◌∙◌, append-nil, append_assoc}
use Rattle.std.specs.Prelude.{filter_map}
use Rattle.std.specs.Option.{option_to_list}
use Rattle.std.specs.List.{cons_option}
use Rattle.std.specs.List.Sorted.{IsStrictlySortedBy}
use Rattle.mj_maps.specs.Map.{Map, entries, from_entries, collect, picked}
use Rattle.mj_maps.specs.Orders.{place_cmp}
use Rattle.mj_maps.proofs.MapLaws.{exact_place, entries-from_entries}
use Rattle.mj_cells.specs.Table.{Table}
use Rattle.mj_meta.specs.declared.HeadBit.{HeadBit}
use Rattle.mj_meta.specs.declared.DirLump.{DirLump}
use Rattle.mj_recovery.proofs.Merges.{sorted_keys}
use Rattle.mj_delta.specs.Events.{next_version}
use Rattle.mj_delta.specs.Plan.{Planned, full_bit, remote_bit_of, null_bit, lump_of}
use Rattle.mj_delta.specs.Plan.Naming.{Full, Remote}
use Rattle.mj_plan.specs.declared.dentry_plans.Naming.{Naming as Said}
use Rattle.mj_plan.specs.Planning.{planned, dentry_said, full_bit_at, remote_bit_at, null_bit_at}

entries-collect : (m : Map place_cmp (Option Said)) → entries (collect dentry_said m) ≡ picked dentry_said (entries m)
unfolding entries collect
entries-collect m = refl

picked_planned : (es : List ((ℕ × List ℕ) × Option Said)) → picked dentry_said es ≡ map planned es
picked_planned [] = refl
picked_planned (e ∷ es) = ap (λ xs. planned e ∷ xs) (picked_planned es)

pub entries_planned : (es : List ((ℕ × List ℕ) × Option Said)) → IsStrictlySortedBy place_cmp (map (λ e. e.0) es) → entries (collect dentry_said (from_entries {R = place_cmp} es)) ≡ map planned es
entries_planned es h = entries-collect (from_entries es) ∙ ap (picked dentry_said) (entries-from_entries exact_place es (sorted_keys place_cmp es h)) ∙ picked_planned es

pub pushed : {A : Type 0} (xs : List A) (o : Option A) (rest : List A) → (xs ++ option_to_list o) ++ rest ≡ xs ++ cons_option o rest
pushed xs None rest = ap (λ ys. ys ++ rest) (append-nil xs)
pushed xs (Some y) rest = append_assoc xs (y ∷ []) rest

full_alike : (t : Table) (d : ℕ) (e : Planned) → full_bit_at d (next_version t d) e ≡ full_bit t d e
full_alike t d (q, None) = refl
full_alike t d (q, Some (Full r)) = refl
full_alike t d (q, Some (Remote i kind)) = refl

remote_alike : (t : Table) (d : ℕ) (e : Planned) → remote_bit_at d (next_version t d) e ≡ remote_bit_of t d e
remote_alike t d (q, None) = refl
remote_alike t d (q, Some (Full r)) = refl
remote_alike t d (q, Some (Remote i kind)) = refl

null_alike : (t : Table) (d : ℕ) (e : Planned) → null_bit_at d (next_version t d) e ≡ null_bit t d e
null_alike t d (q, None) = refl
null_alike t d (q, Some (Full r)) = refl
null_alike t d (q, Some (Remote i kind)) = refl

pub lump_alike : (t : Table) (es : List Planned) (d : ℕ) (h : HeadBit) (version : ℕ) (lump : DirLump) → version ≡ next_version t d → lump.dir ≡ d → lump.head ≡ h
    → lump.full ≡ filter_map (full_bit_at d version) es → lump.remote ≡ filter_map (remote_bit_at d version) es → lump.null ≡ filter_map (null_bit_at d version) es → lump ≡ lump_of t es (d, h)
lump_alike t es d h version lump next dir head full remote null =
    let full_is = full ∙ ap (λ v. filter_map (full_bit_at d v) es) next ∙ (λ z. filter_map (λ e. full_alike t d e z) es) in
    let remote_is = remote ∙ ap (λ v. filter_map (remote_bit_at d v) es) next ∙ (λ z. filter_map (λ e. remote_alike t d e z) es) in
    let null_is = null ∙ ap (λ v. filter_map (null_bit_at d v) es) next ∙ (λ z. filter_map (λ e. null_alike t d e z) es) in
    λ z. record { dir = dir z; head = head z; full = full_is z; remote = remote_is z; null = null_is z }
