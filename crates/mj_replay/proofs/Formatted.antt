-- What a formatted store holds is inside the format, and it is a new rank's table.
use Rattle.std.proofs.Common.{◌≡◌, ℕ, ◌≤◌, true, false, cond, List, [], ◌∷◌, None, Some, refl, sym, ap, subst, ◌∙◌}
use Rattle.std.specs.Prelude.{is_some}
use Rattle.std.specs.Option.{option_map, option_and_then}
use Rattle.std.specs.List.{filter, AllByRecursion}
use Rattle.std.proofs.lemmas.Bool.{eq-eqb}
use Rattle.mj_base.specs.declared.damage.Damage.TheVariants as damage
use Rattle.mj_base.specs.declared.object.ObjectName.{ObjectName}
use Rattle.mj_base.specs.declared.object.ObjectName.TheVariants.{File}
use Rattle.mj_maps.specs.Map.{entries, empty, get}
use Rattle.mj_store.specs.Object.{Contents, same_name}
use Rattle.mj_store.specs.declared.held.HeldObject.{HeldObject}
use Rattle.mj_store.proofs.Names.{same_is}
use Rattle.mj_layout.specs.Striping.{Striping, IsStriping}
use Rattle.mj_recovery.specs.Damage.{least}
use Rattle.mj_recovery.specs.Formatted.{formatted_objects}
use Rattle.mj_recovery.specs.Listed.{found, image_of}
use Rattle.mj_recovery.specs.ListedObjects.{listed_bad_table}
use Rattle.mj_recovery.specs.Objects.{Objects, content_of, objects_of}
use Rattle.mj_recovery.specs.Recovered.{stored_table, bad_table, bad_dirfrag, bad_key_of}
use Rattle.mj_recovery.specs.Stored.{bad_key}
use Rattle.mj_recovery.proofs.BadObjects.{table_is}
use Rattle.mj_recovery.proofs.Bools.{second}
use Rattle.mj_recovery.proofs.Formatting.{held}
use Rattle.mj_recovery.proofs.Stores.{image_is}
use Rattle.mj_delta.specs.Fresh.{fresh_table}
use Rattle.mj_delta.proofs.Fresh.{formatted_fresh}

-- objects inside the format, by name
abbrev IsInside : HeldObject → Type 0
IsInside h = bad_key h.name (content_of h) ≡ None

found_inside : (hs : List HeldObject) → AllByRecursion IsInside hs → (name : ObjectName) → option_and_then (bad_key name) (image_of hs name) ≡ None
found_inside [] all name = refl
found_inside (h ∷ hs) all name = elim (same_name name h.name) as (λ b. same_name name h.name ≡ b → option_and_then (bad_key name) (option_map content_of (cond b (Some h) (found name hs))) ≡ None) [
  | true ↦ λ e. subst (λ n. bad_key n (content_of h) ≡ None) (sym (same_is name h.name e)) all.0
  | false ↦ λ e. found_inside hs all.1 name
] refl

module _ (rank : ℕ) (small : rank ≤ 15) (layout : Striping) (sound : IsStriping layout) where
  abbrev objects : List HeldObject
  objects = formatted_objects rank layout

  abbrev m : Objects
  m = objects_of objects

  listed_tables : listed_bad_table rank objects ≡ None
  unfolding formatted_objects
  listed_tables = rw (eq-eqb rank rank refl) refl

  all_inside : AllByRecursion IsInside objects
  unfolding formatted_objects entries empty
  all_inside = (refl, (refl, (refl, (refl, (refl, tt)))))

  pub tables_inside : bad_table (get m) rank ≡ None
  tables_inside = sym (table_is objects (second _ _ (held rank small layout sound)) rank) ∙ listed_tables

  dir_inside : (d : ℕ) → bad_key_of (get m) d ≡ None
  dir_inside d = ap (λ (c : Contents). bad_key_of c d) (sym (image_is objects)) ∙ found_inside objects all_inside (File d 0)

  none_outside : (ds : List ℕ) → filter (λ d. is_some (bad_key_of (get m) d)) ds ≡ []
  none_outside [] = refl
  none_outside (d ∷ ds) = rw (dir_inside d) (none_outside ds)

  pub dirs_inside : (ds : List ℕ) → bad_dirfrag (get m) ds ≡ None
  dirs_inside ds = ap (λ xs. option_and_then (λ d. option_map (damage.DirfragBad d) (bad_key_of (get m) d)) (least xs)) (none_outside ds)

  pub stored_fresh : stored_table rank m ≡ fresh_table rank
  stored_fresh = formatted_fresh rank small layout sound
