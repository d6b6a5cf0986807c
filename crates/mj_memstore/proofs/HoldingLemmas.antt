-- Objects in order, and the store that holds them.
use Rattle.std.proofs.Common.{◌≡◌, ℕ, Bool, true, false, cond, List, [], ◌∷◌, ◌++◌, Option, Some, None, refl, sym, ap, subst, ◌∙◌, arith}
use mathlib.Core.Path.{fun_ext}
use Rattle.std.specs.Prelude.{sum_by, option_map}
use Rattle.std.specs.Option.{option_map_or}
use Rattle.std.specs.List.{AllByRecursion, cons_option}
use Rattle.std.specs.List.Sorted.{IsStrictlySortedBy}
use Rattle.std.proofs.lemmas.List.Sums.{sum_by-cons}
use Rattle.std.specs.Map.{values_of, keys_of}
use Rattle.std.specs.BTreeMap.{is_at, insert_entry}
use Rattle.std.specs.Cmp.{IsTotalOrder}
use Rattle.std.specs.declared.cmp.Ordering.{Ordering}
use Rattle.std.specs.declared.cmp.Ordering.TheVariants.{Less, Equal, Greater}
use Rattle.std.specs.Ordering.{is_lt, is_eq, match_ordering, ordering_reverse}
use Rattle.std.proofs.lemmas.Bool.{and_from, and_parts, cond-true, cond-false, cond_both}
use Rattle.mj_base.specs.InOrder.{is_rising}
use Rattle.mj_base.specs.ObjectName.{object_order}
use Rattle.mj_base.specs.ObjectOrder.{object_order_total}
use Rattle.mj_base.specs.declared.object.ObjectName.{ObjectName}
use Rattle.mj_store.specs.declared.held.HeldObject.{HeldObject}
use Rattle.mj_store.specs.declared.answer.Ack.{Ack}
use Rattle.mj_store.specs.Object.{same_name}
use Rattle.mj_store.specs.State.{Object, StoreState, contents}
use Rattle.mj_memstore.specs.Content.{held_content, IsHeldAs, IsSound}
use Rattle.mj_memstore.specs.HeldView.{HeldView, object_of}
use Rattle.mj_memstore.specs.Memory.{Entries, found, absent, object_in, state_of, held_objects, waits, waiting_count, IsNamed, AreNamed, IsMemory}
use Rattle.mj_memstore.specs.Holding.{named, contents_of, names_of, HasKeysInOrder, AreInOrder, AreAll, holding, resting, entries_holding}
use Rattle.mj_memstore.proofs.OrderLemmas.{at_is_same, order_same}
use Rattle.mj_memstore.proofs.RiseLemmas.{sound_from_rise, rise_from_sound}

-- ---- orders

less_is : (r : Ordering) → is_lt r ≡ true → r ≡ Less
less_is Less e = refl
less_is Equal e = absurd cc
less_is Greater e = absurd cc

module _ {A : Type 0} {R : A → A → Ordering} (o : IsTotalOrder R) where
  below_also : (x y : A) (ys : List A) → R x y ≡ Less → AllByRecursion (λ z. R y z ≡ Less) ys → AllByRecursion (λ z. R x z ≡ Less) ys
  below_also x y [] lt all = tt
  below_also x y (z ∷ zs) lt all = (o.trans x y z lt all.0, below_also x y zs lt all.1)

  pub sorted_from_rising : (xs : List A) → is_rising R xs ≡ true → IsStrictlySortedBy R xs
  unfolding IsStrictlySortedBy
  sorted_from_rising [] h = tt
  sorted_from_rising (x ∷ []) h = (tt, tt)
  sorted_from_rising (x ∷ y ∷ xs) h =
      let parts = and_parts (is_lt (R x y)) (is_rising R (y ∷ xs)) h in
      let rest = sorted_from_rising (y ∷ xs) parts.1 in
      let lt = less_is (R x y) parts.0 in
      ((lt, below_also x y xs lt rest.0), rest)

  pub rising_from_sorted : (xs : List A) → IsStrictlySortedBy R xs → is_rising R xs ≡ true
  unfolding IsStrictlySortedBy
  rising_from_sorted [] h = refl
  rising_from_sorted (x ∷ []) h = refl
  rising_from_sorted (x ∷ y ∷ xs) h = and_from (is_lt (R x y)) (is_rising R (y ∷ xs)) (ap is_lt h.0.0) (rising_from_sorted (y ∷ xs) h.1)

  -- a key that all others are below goes last
  insert_above : {X : Type 0} (k : A) (v : X) (es : List (A × X)) → AllByRecursion (λ (e : A × X). R e.0 k ≡ Less) es → insert_entry R es k v ≡ es ++ (k, v) ∷ []
  insert_above k v [] all = refl
  insert_above k v (e ∷ es) all =
      ap (λ r. match_ordering r ((k, v) ∷ e ∷ es) ((e.0, v) ∷ es) (e ∷ insert_entry R es k v)) (o.antisymm k e.0 ∙ ap ordering_reverse all.0)
      ∙ ap (λ (rest : List (A × _)). e ∷ rest) (insert_above k v es all.1)

-- ---- objects one after another

below_next : (ys rest : List HeldObject) (h : HeldObject) → IsStrictlySortedBy object_order (names_of (ys ++ h ∷ rest)) → AllByRecursion (λ (e : ObjectName × HeldView). object_order e.0 h.name ≡ Less) (entries_holding ys)
unfolding IsStrictlySortedBy
below_next [] rest h s = tt
below_next (y ∷ ys) rest h s = (here ys s.0, below_next ys rest h s.1)
  where
    here : (zs : List HeldObject) → AllByRecursion (λ (n : ObjectName). object_order y.name n ≡ Less) (names_of (zs ++ h ∷ rest)) → object_order y.name h.name ≡ Less
    here [] all = all.0
    here (z ∷ zs) all = here zs all.1

entries-more : (ys : List HeldObject) (h : HeldObject) → entries_holding (ys ++ h ∷ []) ≡ entries_holding ys ++ (h.name, resting h) ∷ []
entries-more [] h = refl
entries-more (y ∷ ys) h = ap (λ (es : Entries). (y.name, resting y) ∷ es) (entries-more ys h)

pub held_more : (hs ys rest : List HeldObject) (h : HeldObject) (old new : Entries) → AreInOrder hs → hs ≡ ys ++ h ∷ rest → old ≡ entries_holding ys → new ≡ insert_entry object_order old h.name (resting h) → new ≡ entries_holding (ys ++ h ∷ [])
held_more hs ys rest h old new o e was is =
    is ∙ ap (λ (es : Entries). insert_entry object_order es h.name (resting h)) was
    ∙ insert_above object_order_total h.name (resting h) (entries_holding ys) (below_next ys rest h (sorted_from_rising object_order_total (names_of (ys ++ h ∷ rest)) (subst (λ (xs : List HeldObject). is_rising object_order (names_of xs) ≡ true) e o.names)))
    ∙ sym (entries-more ys h)

-- ---- a store that holds them

found_holding : (name : ObjectName) (hs : List HeldObject) → found name (entries_holding hs) ≡ option_map resting (named name hs)
found_holding name [] = refl
found_holding name (h ∷ hs) =
    ap (λ b. cond b (Some (resting h)) (found name (entries_holding hs))) (at_is_same name h.name)
    ∙ ap (cond (same_name h.name name) (Some (resting h))) (found_holding name hs) ∙ sides (same_name h.name name) h (named name hs)
  where
    sides : (b : Bool) (h : HeldObject) (o : Option HeldObject) → cond b (Some (resting h)) (option_map resting o) ≡ option_map resting (cond b (Some h) o)
    sides true h o = refl
    sides false h o = refl

object_resting : (o : Option HeldObject) → option_map_or object_of (option_map resting o) absent ≡ record { held = held_content o; pending = []; blocked = false }
object_resting None = refl
object_resting (Some h) = refl

make_state : (ObjectName → Object) → List Ack → ℕ → StoreState
make_state objects acks next = record { objects = objects; completed = acks; next = next }

pub holding_state : (hs : List HeldObject) (es : Entries) (acks : List Ack) → es ≡ entries_holding hs → acks ≡ [] → state_of es acks 0 ≡ holding hs
holding_state hs es acks e none = rw (fun_ext each, none) refl
  where
    each : (name : ObjectName) → object_in es name ≡ record { held = contents_of hs name; pending = []; blocked = false }
    each name = ap (λ (xs : Entries). object_in xs name) e ∙ ap (λ (o : Option HeldView). option_map_or object_of o absent) (found_holding name hs) ∙ object_resting (named name hs)

pub holding_objects : (hs : List HeldObject) → held_objects (entries_holding hs) ≡ hs
holding_objects [] = refl
holding_objects (h ∷ hs) = ap (λ (xs : List HeldObject). h ∷ xs) (holding_objects hs)

none_waits : (f : HeldView → ℕ) → ((h : HeldObject) → f (resting h) ≡ 0) → (hs : List HeldObject) → sum_by f (values_of (entries_holding hs)) ≡ 0
none_waits f z [] = refl
none_waits f z (h ∷ hs) = let rest = none_waits f z hs in let here = z h in let cons = sum_by-cons f (resting h) (values_of (entries_holding hs)) in omega (arith, rest, here, cons)

all_named : (hs : List HeldObject) → AllByRecursion HasKeysInOrder hs → AreNamed (entries_holding hs)
all_named [] all = tt
all_named (h ∷ hs) all = (record { same = refl; sound = sound_from_rise h all.0 }, all_named hs all.1)

pub memory_new : (hs : List HeldObject) (es : Entries) (acks : List Ack) (faults room : ℕ) → AreInOrder hs → es ≡ entries_holding hs → acks ≡ [] → IsMemory es acks [] 0 faults room
memory_new hs es acks faults room o e none = subst (λ (xs : Entries). IsMemory xs acks [] 0 faults room) (sym e) (subst (λ (a : List Ack). IsMemory (entries_holding hs) a [] 0 faults room) (sym none) (record {
  named = all_named hs o.keys;
  each = λ op. let z = none_waits (waits op) (λ h. refl) hs in omega (arith, z);
  sizes = let z = none_waits waiting_count (λ h. refl) hs in omega (arith, z);
  space = omega arith;
  below = λ l i. absurd i;
  counts = λ l i. absurd i;
  failed = λ a i d l j k. absurd j;
}))

-- ---- all objects that are there

name_of : (name : ObjectName) (v : HeldView) (h : HeldObject) → IsNamed name v → v.object ≡ Some h → IsHeldAs name h
name_of name v h n is = subst (λ (o : Option HeldObject). IsSound name o) is (subst (λ k. IsSound k v.object) n.same n.sound)

above_all : (k : ObjectName) (es : Entries) → AllByRecursion (λ (q : ObjectName). object_order k q ≡ Less) (keys_of es) → AreNamed es → AllByRecursion (λ (q : ObjectName). object_order k q ≡ Less) (names_of (held_objects es))
above_all k [] all n = tt
above_all k (e ∷ es) all n = elim e.1.object as (λ o. e.1.object ≡ o → AllByRecursion (λ (q : ObjectName). object_order k q ≡ Less) (names_of (cons_option o (held_objects es)))) [
  | None ↦ λ is. above_all k es all.1 n.1
  | Some h ↦ λ is. (subst (λ q. object_order k q ≡ Less) (sym (name_of e.0 e.1 h n.0 is).named) all.0, above_all k es all.1 n.1)
] refl

sorted_names : (es : Entries) → IsStrictlySortedBy object_order (keys_of es) → AreNamed es → IsStrictlySortedBy object_order (names_of (held_objects es))
unfolding IsStrictlySortedBy
sorted_names [] s n = tt
sorted_names (e ∷ es) s n = elim e.1.object as (λ o. e.1.object ≡ o → IsStrictlySortedBy object_order (names_of (cons_option o (held_objects es)))) [
  | None ↦ λ is. sorted_names es s.1 n.1
  | Some h ↦ λ is. (subst (λ k. AllByRecursion (λ (q : ObjectName). object_order k q ≡ Less) (names_of (held_objects es))) (sym (name_of e.0 e.1 h n.0 is).named) (above_all e.0 es s.0 n.1), sorted_names es s.1 n.1)
] refl

keys_in_order : (es : Entries) → AreNamed es → AllByRecursion HasKeysInOrder (held_objects es)
keys_in_order [] n = tt
keys_in_order (e ∷ es) n = elim e.1.object as (λ o. e.1.object ≡ o → AllByRecursion HasKeysInOrder (cons_option o (held_objects es))) [
  | None ↦ λ is. keys_in_order es n.1
  | Some h ↦ λ is. (rise_from_sound e.0 h (name_of e.0 e.1 h n.0 is), keys_in_order es n.1)
] refl

-- a name below all is none of them
unnamed : (name : ObjectName) (hs : List HeldObject) → AllByRecursion (λ (q : ObjectName). object_order name q ≡ Less) (names_of hs) → named name hs ≡ None
unnamed name [] all = refl
unnamed name (h ∷ hs) all = cond-false (same_name h.name name) (Some h) (named name hs) (sym (at_is_same name h.name) ∙ ap is_eq all.0) ∙ unnamed name hs all.1

held_at : (name : ObjectName) (e : ObjectName × HeldView) (es : Entries) → IsNamed e.0 e.1 → AllByRecursion (λ (q : ObjectName). object_order e.0 q ≡ Less) (keys_of es) → AreNamed es → is_at (object_order name) e.0 ≡ true
    → held_content e.1.object ≡ contents_of (held_objects (e ∷ es)) name
held_at name e es n above rest at = elim e.1.object as (λ o. e.1.object ≡ o → held_content o ≡ contents_of (cons_option o (held_objects es)) name) [
  | None ↦ λ is. sym (ap held_content (unnamed name (held_objects es) (subst (λ k. AllByRecursion (λ (q : ObjectName). object_order k q ≡ Less) (names_of (held_objects es))) (sym (order_same name e.0 at)) (above_all e.0 es above rest))))
  | Some h ↦ λ is.
      let same : same_name h.name name ≡ true = ap (λ k. same_name k name) (name_of e.0 e.1 h n is).named ∙ sym (at_is_same name e.0) ∙ at in
      sym (ap held_content (cond-true (same_name h.name name) (Some h) (named name (held_objects es)) same))
] refl

held_off : (name : ObjectName) (e : ObjectName × HeldView) (es : Entries) → IsNamed e.0 e.1 → is_at (object_order name) e.0 ≡ false → contents_of (held_objects es) name ≡ contents_of (held_objects (e ∷ es)) name
held_off name e es n off = elim e.1.object as (λ o. e.1.object ≡ o → contents_of (held_objects es) name ≡ contents_of (cons_option o (held_objects es)) name) [
  | None ↦ λ is. refl
  | Some h ↦ λ is.
      let other : same_name h.name name ≡ false = ap (λ k. same_name k name) (name_of e.0 e.1 h n is).named ∙ sym (at_is_same name e.0) ∙ off in
      sym (ap held_content (cond-false (same_name h.name name) (Some h) (named name (held_objects es)) other))
] refl

all_contents : (es : Entries) → IsStrictlySortedBy object_order (keys_of es) → AreNamed es → (name : ObjectName) → (object_in es name).held ≡ contents_of (held_objects es) name
unfolding IsStrictlySortedBy
all_contents [] s n name = refl
all_contents (e ∷ es) s n name =
    cond_both (is_at (object_order name) e.0) (Some e.1) (found name es) (λ (o : Option HeldView). (option_map_or object_of o absent).held ≡ contents_of (held_objects (e ∷ es)) name)
    (λ at. held_at name e es n.0 s.0 n.1 at)
    (λ off. all_contents es s.1 n.1 name ∙ held_off name e es n.0 off)

pub all_there : (es : Entries) (acks : List Ack) (last : ℕ) → IsStrictlySortedBy object_order (keys_of es) → AreNamed es → AreAll (held_objects es) (contents (state_of es acks last))
all_there es acks last s n = record {
  each = all_contents es s n;
  ordered = record { names = rising_from_sorted object_order_total (names_of (held_objects es)) (sorted_names es s n); keys = keys_in_order es n };
}
