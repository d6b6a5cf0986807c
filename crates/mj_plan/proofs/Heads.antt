-- Heads of directories that are put one after another, each with its next version.
use Rattle.std.proofs.Common.{◌≡◌, ℕ, Bool, true, false, cond, ◌||◌, List, [], ◌∷◌, map, Option, Some, None, refl, sym, ap, ◌∙◌, inl, inr}
use Rattle.std.specs.Ordering.{eq_by_cmp}
use Rattle.std.specs.List.Sorted.{IsStrictlySortedBy}
use Rattle.mj_maps.specs.Map.{Map, entries, get, insert, from_entries, empty, collect}
use Rattle.mj_maps.specs.Orders.{nat_cmp, place_cmp}
use Rattle.mj_maps.proofs.MapLaws.{exact_nat, cases_key, eq_same, get-insert, get_empty, same_map}
use Rattle.mj_cells.specs.Table.{Table}
use Rattle.mj_meta.specs.declared.HeadBit.{HeadBit}
use Rattle.mj_meta.specs.declared.HeadBit.TheVariants as head
use Rattle.mj_delta.specs.Events.{next_version}
use Rattle.mj_delta.specs.Plan.{Planned, touched}
use Rattle.mj_delta.proofs.Facts.{cond_same}
use Rattle.mj_plan.specs.declared.dentry_plans.Naming.{Naming}
use Rattle.mj_plan.specs.Planning.{onto, planned, dentry_said}
use Rattle.mj_plan.proofs.Bits.{entries_planned}

module _ (t : Table) where
  abbrev next : ℕ → Option HeadBit
  next d = Some (head.At (next_version t d))

  abbrev is_touched : ℕ → List Planned → Bool
  is_touched q [] = false
  is_touched q (e ∷ es) = eq_by_cmp nat_cmp q e.0.0 || is_touched q es

  at_it : (q d : ℕ) → q ≡ d → eq_by_cmp nat_cmp q d ≡ true
  at_it q d same = ap (λ x. eq_by_cmp nat_cmp x d) same ∙ eq_same exact_nat d

  under : (q d : ℕ) (b : Bool) (o : Option HeadBit) → cond b (next q) (cond (eq_by_cmp nat_cmp q d) (next d) o) ≡ cond (eq_by_cmp nat_cmp q d || b) (next q) o
  under q d b o = elim (cases_key exact_nat q d) [
    | inl same ↦ ap (λ x. cond b (next q) (cond x (next d) o)) (at_it q d same) ∙ ap (λ x. cond b (next q) (next x)) (sym same) ∙ cond_same b (next q) ∙ sym (ap (λ x. cond (x || b) (next q) o) (at_it q d same))
    | inr other ↦ ap (λ x. cond b (next q) (cond x (next d) o)) other ∙ sym (ap (λ x. cond (x || b) (next q) o) other)
  ]

  over : (q d : ℕ) (b : Bool) (o : Option HeadBit) → cond (eq_by_cmp nat_cmp q d) (next d) (cond b (next q) o) ≡ cond (eq_by_cmp nat_cmp q d || b) (next q) o
  over q d b o = elim (cases_key exact_nat q d) [
    | inl same ↦ ap (λ x. cond x (next d) (cond b (next q) o)) (at_it q d same) ∙ ap next (sym same) ∙ sym (ap (λ x. cond (x || b) (next q) o) (at_it q d same))
    | inr other ↦ ap (λ x. cond x (next d) (cond b (next q) o)) other ∙ sym (ap (λ x. cond (x || b) (next q) o) other)
  ]

  get-onto : (m : Map nat_cmp HeadBit) (es : List Planned) (q : ℕ) → get (onto m (map (touched t) es)) q ≡ cond (is_touched q es) (next q) (get m q)
  get-onto m [] q = refl
  get-onto m (e ∷ es) q =
      let d = e.0.0 in
      get-onto (insert m d (head.At (next_version t d))) es q
      ∙ ap (cond (is_touched q es) (next q)) (get-insert exact_nat m d (head.At (next_version t d)) q)
      ∙ under q d (is_touched q es) (get m q)

  get-from : (es : List Planned) (q : ℕ) → get (from_entries {R = nat_cmp} (map (touched t) es)) q ≡ cond (is_touched q es) (next q) None
  get-from [] q = get_empty nat_cmp q
  get-from (e ∷ es) q =
      let d = e.0.0 in
      get-insert exact_nat (from_entries (map (touched t) es)) d (head.At (next_version t d)) q
      ∙ ap (cond (eq_by_cmp nat_cmp q d) (next d)) (get-from es q)
      ∙ over q d (is_touched q es) None

  -- those of one directory are all the same, so it does not matter which stands
  pub onto_all : (es : List Planned) → onto empty (map (touched t) es) ≡ from_entries (map (touched t) es)
  onto_all es = same_map exact_nat _ _ (λ q. get-onto empty es q ∙ ap (cond (is_touched q es) (next q)) (get_empty nat_cmp q) ∙ sym (get-from es q))

  -- so they are those of the plan's dentries
  pub touched_all : (es : List ((ℕ × List ℕ) × Option Naming)) (m : Map nat_cmp HeadBit) → IsStrictlySortedBy place_cmp (map (λ e. e.0) es) → m ≡ onto empty (map (touched t) (map planned es)) → m ≡ from_entries (map (touched t) (entries (collect dentry_said (from_entries {R = place_cmp} es))))
  touched_all es m h e = e ∙ onto_all (map planned es) ∙ ap (λ xs. from_entries (map (touched t) xs)) (sym (entries_planned es h))
