-- Damaged objects of a list are those of its finite map.
use Rattle.std.proofs.Common.{◌≡◌, ℕ, Bool, true, false, cond, ◌||◌, List, [], ◌∷◌, ◌++◌, Option, Some, None, refl, sym, ap, ◌∙◌}
use Rattle.std.specs.Prelude.{IsTrue, is_none, is_some, filter, if◌then◌else◌}
use Rattle.std.specs.Option.{option_map, option_and_then}
use Rattle.std.specs.List.{list_all, cons_option}
use Rattle.std.specs.FinMap.Entries.{is_sorted}
use Rattle.mj_base.specs.declared.object.ObjectName.{ObjectName}
use Rattle.mj_base.specs.declared.object.ObjectName.TheVariants.{File, InoTable, SessionMap}
use Rattle.mj_base.specs.declared.damage.Damage.TheVariants as damage
use Rattle.mj_maps.specs.Map.{get}
use Rattle.mj_maps.specs.Orders.{bytes_cmp}
use Rattle.mj_maps.proofs.MapLaws.{exact_bytes, eq_true, some_same, none_some, entries-from_entries}
use Rattle.mj_store.specs.Object.{same_name}
use Rattle.mj_store.specs.declared.act.Pair.{Pair}
use Rattle.mj_store.specs.declared.held.HeldObject.{HeldObject}
use Rattle.mj_cells.specs.declared.cell.CellWrite.{CellWrite}
use Rattle.mj_recovery.specs.Objects.{pair_entries, content_of, objects_of}
use Rattle.mj_recovery.specs.Listed.{found, listed_bad}
use Rattle.mj_recovery.specs.Stored.{head_cell, bad_pair, bad_key}
use Rattle.mj_recovery.specs.Damage.{least, head_written, lump_dirs}
use Rattle.mj_recovery.specs.Recovered.{is_bad, lacks_head, bad_table, bad_key_of, bad_dirfrag}
use Rattle.mj_recovery.specs.ListedObjects.{inotable_bad, sessionmap_bad, listed_bad_table, listed_bad_key, listed_bad_dirfrag}
use Rattle.mj_recovery.proofs.Bools.{from_true, first, second}
use Rattle.mj_recovery.proofs.Stores.{exact_name, name_ties, image_is}

abbrev HasOrder : HeldObject → Bool
HasOrder h = is_sorted bytes_cmp (pair_entries h.pairs)

bad_parts : (name : ObjectName) (bytes : List ℕ) (head : Option (List ℕ)) (pairs : List Pair) → IsTrue (is_sorted bytes_cmp (pair_entries pairs))
    → bad_key name (content_of (record { name = name; bytes = bytes; head = head; pairs = pairs })) ≡ listed_bad (record { name = name; bytes = bytes; head = head; pairs = pairs })
bad_parts name bytes None pairs s = ap (bad_pair name) (entries-from_entries exact_bytes (pair_entries pairs) (from_true _ s))
bad_parts name bytes (Some head) pairs s = ap (λ o. if is_none (head_cell name head) then Some [] else o) (ap (bad_pair name) (entries-from_entries exact_bytes (pair_entries pairs) (from_true _ s)))

bad_is : (h : HeldObject) → IsTrue (HasOrder h) → bad_key h.name (content_of h) ≡ listed_bad h
bad_is h s = bad_parts h.name h.bytes h.head h.pairs s

found_named : (name : ObjectName) (hs : List HeldObject) → IsTrue (list_all HasOrder hs) → (h : HeldObject) → found name hs ≡ Some h → (name ≡ h.name) × IsTrue (HasOrder h)
found_named name [] s h e = absurd (none_some h e)
found_named name (g ∷ hs) s h e = elim (same_name name g.name) as (λ b. same_name name g.name ≡ b → cond b (Some g) (found name hs) ≡ Some h → (name ≡ h.name) × IsTrue (HasOrder h)) [
  | true ↦ λ t q.
      let same : g ≡ h = some_same g h q in
      (eq_true exact_name name g.name (sym (name_ties name g.name) ∙ t) ∙ ap (λ (x : HeldObject). x.name) same, sym (ap HasOrder same) ∙ first _ _ s)
  | false ↦ λ t q. found_named name hs (second _ _ s) h q
] refl e

-- what f says of an object's first wrong key, where there is an object
module _ (hs : List HeldObject) (s : IsTrue (list_all HasOrder hs)) where
  bad_found : (name : ObjectName) (o : Option HeldObject) → found name hs ≡ o → option_and_then (bad_key name) (option_map content_of o) ≡ option_and_then listed_bad o
  bad_found name None e = refl
  bad_found name (Some h) e = let f = found_named name hs s h e in ap (λ n. bad_key n (content_of h)) f.0 ∙ bad_is h f.1

  session_found : (name : ObjectName) (o : Option HeldObject) → found name hs ≡ o → is_bad name (option_map content_of o) ≡ sessionmap_bad o
  session_found name None e = refl
  session_found name (Some h) e = let f = found_named name hs s h e in ap is_some (ap (λ n. bad_key n (content_of h)) f.0 ∙ bad_is h f.1)

  ino_found : (name : ObjectName) (o : Option HeldObject) → found name hs ≡ o → (lacks_head (option_map content_of o) || is_bad name (option_map content_of o)) ≡ inotable_bad o
  ino_found name None e = refl
  ino_found name (Some h) e = let f = found_named name hs s h e in ap (λ b. is_none h.head || is_some b) (ap (λ n. bad_key n (content_of h)) f.0 ∙ bad_is h f.1)

  pub table_is : (rank : ℕ) → listed_bad_table rank hs ≡ bad_table (get (objects_of hs)) rank
  table_is rank =
      (λ i. if sym (ino_found (InoTable rank) (found (InoTable rank) hs) refl) i then Some (damage.TableBad (InoTable rank))
      else if sym (session_found (SessionMap rank) (found (SessionMap rank) hs) refl) i then Some (damage.TableBad (SessionMap rank)) else None)
      ∙ ap (λ image. bad_table image rank) (image_is hs)

  key_is : (d : ℕ) → listed_bad_key hs d ≡ bad_key_of (get (objects_of hs)) d
  key_is d = sym (bad_found (File d 0) (found (File d 0) hs) refl) ∙ ap (λ image. bad_key_of image d) (image_is hs)

  pub dirfrag_is : (dirs : List ℕ) → listed_bad_dirfrag hs dirs ≡ bad_dirfrag (get (objects_of hs)) dirs
  dirfrag_is dirs = λ i. option_and_then (λ d. option_map (damage.DirfragBad d) (key_is d i)) (least (filter (λ d. is_some (key_is d i)) dirs))

-- ---- lumps

pub lumps-append : (xs ys : List CellWrite) → lump_dirs (xs ++ ys) ≡ lump_dirs xs ++ lump_dirs ys
lumps-append [] ys = refl
lumps-append (x ∷ xs) ys = elim (head_written x) as (λ o. cons_option o (lump_dirs (xs ++ ys)) ≡ cons_option o (lump_dirs xs) ++ lump_dirs ys) [
  | None ↦ lumps-append xs ys
  | Some d ↦ ap (λ ds. d ∷ ds) (lumps-append xs ys)
]
