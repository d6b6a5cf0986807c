-- The objects of a store in memory, one of them changed.
use Rattle.std.proofs.Common.{◌≡◌, ℕ, ◌+◌, Bool, true, false, cond, [], ◌∷◌, Option, Some, None, Result, Ok, Err, refl, sym, ap, subst, ◌∙◌, arith}
use mathlib.Core.Path.{fun_ext}
use Rattle.std.specs.Prelude.{OnErr, OnOk, is_err, IfNone, IsSome, sum_by, option_map, unwrap_or}
use Rattle.std.specs.Option.{option_map_or}
use Rattle.std.specs.Map.{values_of, set_value, keys_of}
use Rattle.std.specs.Cmp.{eq_by_cmp_equiv}
use Rattle.std.specs.List.Sorted.{IsStrictlySortedBy}
use Rattle.std.proofs.lemmas.Map.{lookup-set_value}
use Rattle.std.proofs.lemmas.Map.Entries.{sum_by-set_value, sum_by-insert_entry}
use Rattle.std.proofs.lemmas.Map.Steps.{set_value_same}
use Rattle.std.proofs.lemmas.Bool.{cond-true, cond_both}
use Rattle.std.specs.declared.cmp.Ordering.TheVariants.{Less, Equal, Greater}
use Rattle.std.specs.Ordering.{is_eq, match_ordering}
use Rattle.std.specs.BTreeMap.{is_at, insert_entry}
use Rattle.mj_base.specs.ObjectName.{object_order}
use Rattle.mj_base.specs.ObjectOrder.{object_order_total}
use Rattle.mj_base.specs.declared.object.ObjectName.{ObjectName}
use Rattle.mj_store.specs.Object.{put}
use Rattle.mj_store.proofs.Names.{same_itself}
use Rattle.mj_memstore.specs.HeldView.{HeldView, object_of}
use Rattle.mj_memstore.specs.Memory.{Entries, found, absent, nothing, object_in, IsNamed, AreNamed, Changes, Places}
use Rattle.mj_memstore.proofs.OrderLemmas.{at_is_same, order_same}

pub on_err_then : {T E : Type 0} (r : Result T E) (P Q : Type 0) → (P → Q) → OnErr r P → OnErr r Q
on_err_then (Ok x) P Q f h = h
on_err_then (Err e) P Q f h = f h

pub if_none_then : {T : Type 0} (o : Option T) (P Q : Type 0) → (P → Q) → IfNone o P → IfNone o Q
if_none_then None P Q f h = f h
if_none_then (Some x) P Q f h = h

-- what was found is written back
pub written_back : (name : ObjectName) (es : Entries) (v w : HeldView) → found name es ≡ Some v → w ≡ v → set_value (is_at (object_order name)) es w ≡ es
written_back name es v w at e = set_value_same (is_at (object_order name)) es w (at ∙ ap (λ (x : HeldView). Some x) (sym e))

some_found : (o : Option HeldView) (v : HeldView) → o ≡ Some v → IsSome o
some_found o v e = subst (λ (p : Option HeldView). IsSome p) (sym e) refl

object_cond : (b : Bool) (o : Option HeldView) (v : HeldView) → option_map_or object_of (cond b (Some v) o) absent ≡ cond b (object_of v) (option_map_or object_of o absent)
object_cond true o v = refl
object_cond false o v = refl

-- ---- each under its own name

pub named_set : (name : ObjectName) (w : HeldView) (es : Entries) → IsNamed name w → AreNamed es → AreNamed (set_value (is_at (object_order name)) es w)
named_set name w [] n all = tt
named_set name w (e ∷ es) n all = cond_both (is_at (object_order name) e.0) ((e.0, w) ∷ es) (e ∷ set_value (is_at (object_order name)) es w) AreNamed
    (λ at. (subst (λ k. IsNamed k w) (order_same name e.0 at) n, all.1))
    (λ off. (all.0, named_set name w es n all.1))

pub named_insert : (name : ObjectName) (w : HeldView) (es : Entries) → IsNamed name w → AreNamed es → AreNamed (insert_entry object_order es name w)
named_insert name w [] n all = (n, tt)
named_insert name w (e ∷ es) n all = elim (object_order name e.0) as (λ o. object_order name e.0 ≡ o → AreNamed (match_ordering o ((name, w) ∷ e ∷ es) ((e.0, w) ∷ es) (e ∷ insert_entry object_order es name w))) [
  | Less ↦ λ o. (n, all)
  | Equal ↦ λ o. (subst (λ k. IsNamed k w) (order_same name e.0 (ap is_eq o)) n, all.1)
  | Greater ↦ λ o. (all.0, named_insert name w es n all.1)
] refl

pub named_found : (name : ObjectName) (es : Entries) (v : HeldView) → found name es ≡ Some v → AreNamed es → IsNamed name v
named_found name [] v e all = absurd cc
named_found name (x ∷ es) v e all = cond_both (is_at (object_order name) x.0) (Some x.1) (found name es) (λ (o : Option HeldView). o ≡ Some v → IsNamed name v)
    (λ at f. subst (IsNamed name) (some_is x.1 v f) (subst (λ k. IsNamed k x.1) (sym (order_same name x.0 at)) all.0))
    (λ off f. named_found name es v f all.1) e
  where
    some_is : (a b : HeldView) → Some a ≡ Some b → a ≡ b
    some_is a b e = cc

module _ (name : ObjectName) (v w : HeldView) (old new : Entries) (c : Changes name v w old new) where
  found_changed : (q : ObjectName) → found q new ≡ cond (is_at (object_order name) q) (Some w) (found q old)
  found_changed q = ap (found q) c.now
      ∙ lookup-set_value (eq_by_cmp_equiv object_order_total) (is_at (object_order name)) (λ x y e. ap (λ k. is_at (object_order k) y) (order_same name x e)) q w old (some_found (found name old) v c.was)

  -- at every name
  pub objects_changed : object_in new ≡ put (object_in old) name (object_of w)
  objects_changed = fun_ext (λ q. ap (λ (o : Option HeldView). option_map_or object_of o absent) (found_changed q) ∙ object_cond (is_at (object_order name) q) (found q old) w ∙ ap (λ b. cond b (object_of w) (object_in old q)) (at_is_same name q))

  -- of the object that it was
  pub object_was : object_in old name ≡ object_of v
  object_was = ap (λ (o : Option HeldView). option_map_or object_of o absent) c.was

  pub sums_changed : (f : HeldView → ℕ) → sum_by f (values_of new) + f v ≡ sum_by f (values_of old) + f w
  sums_changed f = ap (λ (es : Entries). sum_by f (values_of es) + f v) c.now ∙ sum_by-set_value f (is_at (object_order name)) old v w c.was

  pub named_changed : IsNamed name w → AreNamed old → AreNamed new
  named_changed n all = subst AreNamed (sym c.now) (named_set name w old n all)

-- a place that is made
absent_cond : (b : Bool) (o : Option HeldView) (name q : ObjectName) → (b ≡ true → o ≡ None) → option_map_or object_of (cond b (Some (nothing name)) o) absent ≡ option_map_or object_of o absent
absent_cond true o name q h = sym (ap (λ (p : Option HeldView). option_map_or object_of p absent) (h refl))
absent_cond false o name q h = refl

pub placed_there : (name : ObjectName) (old : Entries) → IsSome (found name old) → Places name old old
placed_there name old some = record { there = some; same = λ q. refl; sums = λ f z. refl; named = λ all. all }

pub placed_new : (name : ObjectName) (old new : Entries) → found name old ≡ None → new ≡ insert_entry object_order old name (nothing name) → IsStrictlySortedBy object_order (keys_of old)
    → ((q : ObjectName) → found q new ≡ cond (is_at (object_order name) q) (Some (nothing name)) (found q old)) → Places name old new
placed_new name old new none is sorted updates = record {
  there = subst (λ (o : Option HeldView). IsSome o) (sym (updates name ∙ cond-true (is_at (object_order name) name) (Some (nothing name)) (found name old) (at_is_same name name ∙ same_itself name))) refl;
  same = λ q. ap (λ (o : Option HeldView). option_map_or object_of o absent) (updates q) ∙ absent_cond (is_at (object_order name) q) (found q old) name q (λ e. ap (λ k. found k old) (sym (order_same name q e)) ∙ none);
  sums = λ f z.
      let s = ap (λ (es : Entries). sum_by f (values_of es)) is in
      let t = sum_by-insert_entry f object_order_total old name (nothing name) sorted in
      let u : unwrap_or (option_map f (found name old)) 0 ≡ 0 = ap (λ (o : Option HeldView). unwrap_or (option_map f o) 0) none in
      omega (arith, s, t, u, z);
  named = λ all. subst AreNamed (sym is) (named_insert name (nothing name) old (record { same = refl; sound = tt }) all);
}

pub on_ok_at : {T E : Type 0} (r : Result T E) (P : Type 0) → is_err r ≡ false → OnOk r P → P
on_ok_at (Ok x) P e h = h
on_ok_at (Err x) P e h = absurd cc

pub on_err_at : {T E : Type 0} (r : Result T E) (P : Type 0) → is_err r ≡ true → OnErr r P → P
on_err_at (Ok x) P e h = absurd cc
on_err_at (Err x) P e h = h
