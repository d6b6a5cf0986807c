-- Files in a map by name.
use Rattle.std.proofs.Common.{◌≡◌, ℕ, Bool, true, false, cond, List, Option, Some, None, Vec, String, refl, ◌∙◌, ap}
use Rattle.std.specs.Prelude.{option_map, bytes_eq, string_bytes, IsSomeAnd, MatchOption, vec_len}
use Rattle.std.specs.List.{AllZip}
use Rattle.std.specs.Ordering.{nat_cmp}
use Rattle.std.specs.String.{string_cmp}
use Rattle.std.specs.Cmp.Lexicographic.{slice_cmp}
use Rattle.std.specs.BTreeMap.{BTreeMap, IsClone, UpdatesBy, get_by_text, is_at}
use Rattle.std.specs.declared.alloc.Global.{Global}
use Rattle.std.proofs.lemmas.Map.Text.{btree_map_updates_text}
use Rattle.std.proofs.lemmas.Map.Entries.{lookup_clone}
use Rattle.std.proofs.lemmas.List.Elements.{same_from_all_zip}
use mathlib.Core.Path.{fun_ext}
use Rattle.mj_base.specs.Files.{with_file}
use Rattle.mj_base.specs.Memory.{files_in}

abbrev pub Map : Type 0
Map = BTreeMap (String Global) (Vec ℕ Global)

abbrev pub items_of : Vec ℕ Global → List ℕ
items_of v = v.items

option_map-cond : (b : Bool) (x y : Option (Vec ℕ Global)) → option_map items_of (cond b x y) ≡ cond b (option_map items_of x) (option_map items_of y)
option_map-cond true x y = refl
option_map-cond false x y = refl

-- a map with one name set
pub files_in-insert : (m n : Map) (name bytes : List ℕ) (v : Vec ℕ Global) → v.items ≡ bytes → UpdatesBy string_cmp (λ k. slice_cmp nat_cmp name (string_bytes k)) m n (Some v) → files_in n ≡ with_file name bytes (files_in m)
files_in-insert m n name bytes v same updates = fun_ext (λ other.
    ap (option_map items_of) (btree_map_updates_text name m n (Some v) updates other)
    ∙ (option_map-cond (bytes_eq name other) (Some v) (get_by_text m other)
    ∙ ap (λ xs. cond (bytes_eq name other) (Some xs) (files_in m other)) same))

abbrev pub IsCloneOf : Vec ℕ Global → Vec ℕ Global → Type 0
IsCloneOf v w = AllZip (λ x y. y ≡ x) v.items w.items × (vec_len w ≡ vec_len v)

clone_items : (v w : Vec ℕ Global) → IsCloneOf v w → w.items ≡ v.items
clone_items v w clone = same_from_all_zip (λ x y. y ≡ x) v.items w.items clone.0 (λ x y e. e)

by_match : (o p : Option (Vec ℕ Global)) → MatchOption o (p ≡ None) (λ v. IsSomeAnd p (IsCloneOf v)) → option_map items_of p ≡ option_map items_of o
by_match None p e = ap (option_map items_of) e
by_match (Some v) None h = absurd h
by_match (Some v) (Some w) h = ap Some (clone_items v w h)

-- a clone of a map
pub files_in-clone : (m n : Map) → IsClone (λ s t. string_bytes t ≡ string_bytes s) IsCloneOf m n → files_in n ≡ files_in m
files_in-clone m n clone = fun_ext (λ name.
    by_match (get_by_text m name) (get_by_text n name)
    (lookup_clone (λ s t. string_bytes t ≡ string_bytes s) IsCloneOf (is_at (λ k. slice_cmp nat_cmp name (string_bytes k))) (λ x y e. ap (λ bytes. is_at (λ k. slice_cmp nat_cmp name k) bytes) e) m.entries n.entries clone))
