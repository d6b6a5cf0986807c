-- The first key of a set whose cell is there is the next cell that is there.
use Rattle.std.proofs.Common.{◌≡◌, Bool, true, false, cond, ◌&&◌, ◌||◌, List, [], ◌∷◌, map, Option, Some, None, refl, sym, ap, subst, ◌∙◌}
use Rattle.std.specs.Prelude.{is_some}
use Rattle.std.specs.List.{filter, list_any}
use Rattle.std.specs.List.Sorted.{IsStrictlySortedBy}
use Rattle.std.specs.Option.{option_and_then}
use Rattle.std.specs.Ordering.{is_lt}
use Rattle.std.specs.BTreeSet.{BTreeSet, keys_between}
use Rattle.std.specs.declared.cmp.Ordering.{Ordering}
use Rattle.std.specs.declared.collections.Bound.{Bound}
use Rattle.std.specs.declared.collections.Bound.TheVariants.{Unbounded}
use Rattle.std.proofs.lemmas.Bool.{true≢false}
use Rattle.mj_maps.specs.Map.{Map, get, entries, from_entries, collect, picked, with_some}
use Rattle.mj_maps.proofs.MapLaws.{get_empty, get-insert, get-collect, same_map}
use Rattle.mj_cells.specs.declared.cell.CellKey.{CellKey}
use Rattle.mj_cells.specs.declared.cell.CellValue.{CellValue}
use Rattle.mj_cells.specs.Cell.{key_cmp, same_key}
use Rattle.mj_cells.specs.Next.{is_above, bound_above, first_of}
use Rattle.mj_cells.proofs.Keys.{exact_key}
use Rattle.mj_cells.proofs.Kept.{tree_cmp, tree_order, entries_kept}
use Rattle.mj_tables.specs.Layered.{is_there, next_there}
use Rattle.mj_tables.specs.Slots.{Slots, if_there}
use Rattle.mj_tables.specs.Listed.{has_key, there_at, there_along, HasThere}
use Rattle.mj_tables.specs.There.{Rises}

-- ---- keys as a map

abbrev pub units : List CellKey → List (CellKey × Unit {0})
units [] = []
units (k ∷ ks) = (k, tt) ∷ units ks

abbrev pub as_map : List CellKey → Map key_cmp (Unit {0})
as_map ks = from_entries (units ks)

keys_of_units : (ks : List CellKey) → map (λ (e : CellKey × Unit {0}). e.0) (units ks) ≡ ks
keys_of_units [] = refl
keys_of_units (k ∷ ks) = ap (λ (xs : List CellKey). k ∷ xs) (keys_of_units ks)

entries_of_keys : (ks : List CellKey) → IsStrictlySortedBy tree_cmp ks → entries (as_map ks) ≡ units ks
entries_of_keys ks sorted = entries_kept (units ks) (subst (IsStrictlySortedBy tree_cmp) (sym (keys_of_units ks)) sorted)

some_if : (b : Bool) (o : Option (Unit {0})) → is_some (cond b (Some (tt {0})) o) ≡ (b || is_some o)
some_if true o = refl
some_if false o = refl

has_unit : (ks : List CellKey) (q : CellKey) → is_some (get (as_map ks) q) ≡ list_any (λ x. same_key q x) ks
has_unit [] q = ap is_some (get_empty key_cmp q)
has_unit (k ∷ ks) q = ap is_some (get-insert exact_key (as_map ks) k tt q) ∙ some_if (same_key q k) (get (as_map ks) q) ∙ ap (λ b. same_key q k || b) (has_unit ks q)

-- ---- what cells show along keys

abbrev pub shown : Map key_cmp CellValue → CellKey → Unit {0} → Option CellValue
shown cells k x = option_and_then if_there (get cells k)

abbrev pub along : Map key_cmp CellValue → List CellKey → List (CellKey × CellValue)
along cells ks = picked (shown cells) (units ks)

-- what slots show along keys, where at each key they show what the cells do
pub along_is : (m : Slots) (cells : Map key_cmp CellValue) → ((k : CellKey) → there_at m k ≡ option_and_then if_there (get cells k)) → (ks : List CellKey) → there_along m ks ≡ along cells ks
along_is m cells same [] = refl
along_is m cells same (k ∷ ks) = λ i. with_some k (same k i) (along_is m cells same ks i)

entries-collect : {X : Type 0} (f : CellKey → X → Option CellValue) (m : Map key_cmp X) → entries (collect f m) ≡ picked f (entries m)
unfolding entries collect
entries-collect f m = refl

absent : (cells : Map key_cmp CellValue) (s : BTreeSet CellKey) → HasThere cells s → (q : CellKey) (o : Option CellValue) → get cells q ≡ o → has_key s q ≡ false → None ≡ option_and_then if_there o
absent cells s has q None is lacks = refl
absent cells s has q (Some v) is lacks = elim (is_there v) as (λ b. is_there v ≡ b → None ≡ cond b (Some v) None) [
  | true ↦ λ there. absurd (true≢false (sym (has q v is there) ∙ lacks))
  | false ↦ λ gone. refl
] refl

at_key : (cells : Map key_cmp CellValue) (s : BTreeSet CellKey) → HasThere cells s → (q : CellKey) (o : Option (Unit {0})) → get (as_map s.keys) q ≡ o → option_and_then (shown cells q) o ≡ option_and_then (λ v. if_there v) (get cells q)
at_key cells s has q None is = absent cells s has q (get cells q) refl (sym (has_unit s.keys q) ∙ ap is_some is)
at_key cells s has q (Some x) is = refl

-- a set with each key that is there shows all cells that are there
set_shows : (cells : Map key_cmp CellValue) (s : BTreeSet CellKey) → HasThere cells s → collect (shown cells) (as_map s.keys) ≡ collect (λ k v. if_there v) cells
set_shows cells s has = same_map exact_key _ _ (λ q. get-collect exact_key (shown cells) (as_map s.keys) q ∙ at_key cells s has q (get (as_map s.keys) q) refl ∙ sym (get-collect exact_key (λ k v. if_there v) cells q))

all_along : (cells : Map key_cmp CellValue) (s : BTreeSet CellKey) → IsStrictlySortedBy tree_cmp s.keys → HasThere cells s → along cells s.keys ≡ picked (λ k v. if_there v) (entries cells)
all_along cells s sorted has =
    ap (picked (shown cells)) (sym (entries_of_keys s.keys sorted)) ∙ sym (entries-collect (shown cells) (as_map s.keys)) ∙ ap entries (set_shows cells s has) ∙ entries-collect (λ k v. if_there v) cells

-- ---- above a key

and-true : (b : Bool) → (b && true) ≡ b
and-true true = refl
and-true false = refl

and-false : (b : Bool) → (b && false) ≡ false
and-false true = refl
and-false false = refl

between_is : (s : BTreeSet CellKey) (after : Option CellKey) → keys_between tree_cmp (bound_above after) Unbounded s ≡ filter (is_above after) s.keys
between_is s None = refl
between_is s (Some k) = (λ i. filter (λ x. and-true (is_lt (tree_cmp k x)) i) s.keys) ∙ ap (λ (r : CellKey → CellKey → Ordering). filter (λ x. is_lt (r k x)) s.keys) tree_order

-- what is found along a tree above a key
pub above_is : (s : BTreeSet CellKey) (found : List CellKey) (after : Option CellKey) (start : Bound CellKey) → start ≡ bound_above after → found ≡ keys_between tree_cmp start Unbounded s → found ≡ filter (is_above after) s.keys
above_is s found after start is between = between ∙ ap (λ (b : Bound CellKey). keys_between tree_cmp b Unbounded s) is ∙ between_is s after

filter_units : (after : Option CellKey) (ks : List CellKey) → units (filter (is_above after) ks) ≡ filter (λ (e : CellKey × Unit {0}). is_above after e.0) (units ks)
filter_units after [] = refl
filter_units after (k ∷ ks) = elim (is_above after k) as (λ b. units (cond b (k ∷ filter (is_above after) ks) (filter (is_above after) ks)) ≡ cond b ((k, tt) ∷ filter (λ (e : CellKey × Unit {0}). is_above after e.0) (units ks)) (filter (λ (e : CellKey × Unit {0}). is_above after e.0) (units ks))) [
  | true ↦ ap (λ (xs : List (CellKey × Unit {0})). (k, tt) ∷ xs) (filter_units after ks)
  | false ↦ filter_units after ks
]

module _ {X : Type 0} (after : Option CellKey) (f : CellKey → X → Option CellValue) where
  filter_step : (e : CellKey × X) (es : List (CellKey × X)) (b : Bool) (o : Option CellValue) → is_above after e.0 ≡ b → f e.0 e.1 ≡ o
      → filter (λ (x : CellKey × CellValue). is_above after x.0) (picked f es) ≡ picked f (filter (λ (x : CellKey × X). is_above after x.0) es)
      → filter (λ (x : CellKey × CellValue). is_above after x.0) (with_some e.0 o (picked f es)) ≡ picked f (cond b (e ∷ filter (λ (x : CellKey × X). is_above after x.0) es) (filter (λ (x : CellKey × X). is_above after x.0) es))
  filter_step e es true None above none rest = rest ∙ sym (ap (λ o. with_some e.0 o (picked f (filter (λ (x : CellKey × X). is_above after x.0) es))) none)
  filter_step e es false None above none rest = rest
  filter_step e es true (Some v) above some rest =
      ap (λ b. cond b ((e.0, v) ∷ filter (λ (x : CellKey × CellValue). is_above after x.0) (picked f es)) (filter (λ (x : CellKey × CellValue). is_above after x.0) (picked f es))) above
      ∙ ap (λ (xs : List (CellKey × CellValue)). (e.0, v) ∷ xs) rest
      ∙ sym (ap (λ o. with_some e.0 o (picked f (filter (λ (x : CellKey × X). is_above after x.0) es))) some)
  filter_step e es false (Some v) above some rest =
      ap (λ b. cond b ((e.0, v) ∷ filter (λ (x : CellKey × CellValue). is_above after x.0) (picked f es)) (filter (λ (x : CellKey × CellValue). is_above after x.0) (picked f es))) above ∙ rest

  filter_picked : (es : List (CellKey × X)) → filter (λ (x : CellKey × CellValue). is_above after x.0) (picked f es) ≡ picked f (filter (λ (x : CellKey × X). is_above after x.0) es)
  filter_picked [] = refl
  filter_picked (e ∷ es) = filter_step e es (is_above after e.0) (f e.0 e.1) refl refl (filter_picked es)

filter_there : (after : Option CellKey) (es : List (CellKey × CellValue)) → filter (λ (e : CellKey × CellValue). is_above after e.0 && is_there e.1) es ≡ filter (λ (e : CellKey × CellValue). is_above after e.0) (picked (λ k v. if_there v) es)
filter_there after [] = refl
filter_there after (e ∷ es) = elim (is_there e.1) as (λ b. cond (is_above after e.0 && b) (e ∷ filter (λ (x : CellKey × CellValue). is_above after x.0 && is_there x.1) es) (filter (λ (x : CellKey × CellValue). is_above after x.0 && is_there x.1) es)
    ≡ filter (λ (x : CellKey × CellValue). is_above after x.0) (with_some e.0 (cond b (Some e.1) None) (picked (λ k v. if_there v) es))) [
      | true ↦ (λ i. cond (and-true (is_above after e.0) i) (e ∷ filter_there after es i) (filter_there after es i))
      | false ↦ ap (λ b. cond b (e ∷ filter (λ (x : CellKey × CellValue). is_above after x.0 && is_there x.1) es) (filter (λ (x : CellKey × CellValue). is_above after x.0 && is_there x.1) es)) (and-false (is_above after e.0)) ∙ filter_there after es
    ]

-- the first cell that is there along a set's keys above a key
pub next_is : (cells : Map key_cmp CellValue) (s : BTreeSet CellKey) (after : Option CellKey) → Rises s → HasThere cells s → first_of (along cells (filter (is_above after) s.keys)) ≡ next_there cells after
next_is cells s after rises has =
    ap first_of (ap (picked (shown cells)) (filter_units after s.keys) ∙ sym (filter_picked after (shown cells) (units s.keys)) ∙ ap (filter (λ (e : CellKey × CellValue). is_above after e.0)) (all_along cells s (subst (λ (r : CellKey → CellKey → Ordering). IsStrictlySortedBy r s.keys) (sym tree_order) rises) has) ∙ sym (filter_there after (entries cells)))
