-- A restart of a store in memory.
use Rattle.std.proofs.Common.{◌≡◌, ℕ, ◌+◌, zero, false, List, [], ◌∷◌, length, Option, Some, None, refl, sym, ap, subst, ◌∙◌, arith}
use mathlib.Core.Path.{fun_ext}
use Rattle.std.specs.Prelude.{sum_by, option_map}
use Rattle.std.specs.Option.{option_map_or}
use Rattle.std.specs.Map.{values_of}
use Rattle.std.proofs.lemmas.List.Sums.{sum_by-cons}
use Rattle.std.proofs.lemmas.Map.Made.{lookup-map_values}
use Rattle.std.specs.BTreeMap.{is_at}
use Rattle.mj_base.specs.ObjectName.{object_order}
use Rattle.mj_base.specs.declared.object.ObjectName.{ObjectName}
use Rattle.mj_store.specs.declared.answer.Ack.{Ack}
use Rattle.mj_store.specs.State.{StoreState, Object, at_rest, contents}
use Rattle.mj_store.specs.Moves.{Restarts}
use Rattle.mj_store.specs.Causes.{Listed, In}
use Rattle.mj_memstore.specs.HeldView.{HeldView, object_of}
use Rattle.mj_memstore.specs.Memory.{Entries, found, absent, object_in, state_of, quiet, settled, waits, waiting_count, times_tried, times_listed, AreNamed, IsMemory}
use Rattle.mj_memstore.proofs.MemoryLemmas.{same_state}

found_settled : (name : ObjectName) (es : Entries) → found name (settled es) ≡ option_map quiet (found name es)
found_settled name es = lookup-map_values quiet (is_at (object_order name)) es

rest_of : Object → Object
rest_of o = record { held = o.held; pending = []; blocked = false }

object_settled : (o : Option HeldView) → option_map_or object_of (option_map quiet o) absent ≡ (let a = option_map_or object_of o absent in record { held = a.held; pending = []; blocked = false })
object_settled None = refl
object_settled (Some v) = refl

pub rest_state : (es new : Entries) (acks acks' : List Ack) (last : ℕ) → new ≡ settled es → acks' ≡ [] → state_of new acks' last ≡ at_rest (contents (state_of es acks last)) (state_of es acks last)
rest_state es new acks acks' last e none =
    same_state (object_in new) _ acks' [] (last + 1)
    (fun_ext (λ name. ap (λ (xs : Entries). option_map_or object_of (found name xs) absent) e ∙ ap (λ (o : Option HeldView). option_map_or object_of o absent) (found_settled name es) ∙ object_settled (found name es)))
    none

sum_settled : (f : HeldView → ℕ) (es : Entries) → ((v : HeldView) → f (quiet v) ≡ 0) → sum_by f (values_of (settled es)) ≡ 0
sum_settled f [] z = refl
sum_settled f (e ∷ es) z = let rest = sum_settled f es z in let here = z e.1 in let cons = sum_by-cons f (quiet e.1) (values_of (settled es)) in omega (arith, rest, here, cons)

named_settled : (es : Entries) → AreNamed es → AreNamed (settled es)
named_settled [] all = tt
named_settled (e ∷ es) all = (record { same = all.0.same; sound = all.0.sound }, named_settled es all.1)

pub memory_rest : (es new : Entries) (acks acks' : List Ack) (list list' : List Listed) (last faults faults' room : ℕ) → new ≡ settled es → acks' ≡ [] → list' ≡ [] → IsMemory es acks list last faults room → (room' : ℕ) → IsMemory new acks' list' last faults' room'
memory_rest es new acks acks' list list' last faults faults' room e none nil m room' =
    let len = ap (λ (xs : List Listed). length xs) nil in
    record {
      named = subst AreNamed (sym e) (named_settled es m.named);
      each = λ op.
          let a = ap (λ (xs : Entries). sum_by (waits op) (values_of xs)) e ∙ sum_settled (waits op) es (λ v. refl) in
          let b = ap (times_tried op) none in
          let c = ap (times_listed op) nil in
          omega (arith, a, b, c);
      sizes =
          let a = ap (λ (xs : Entries). sum_by waiting_count (values_of xs)) e ∙ sum_settled waiting_count es (λ v. refl) in
          let b = ap (λ (xs : List Ack). length xs) none in
          omega (arith, a, b, len);
      space = omega (arith, len);
      below = λ l i. absurd (subst (In l) nil i);
      counts = λ l i. absurd (subst (In l) nil i);
      failed = λ a i d l j k. absurd (subst (In l) nil j);
    }

pub restarts_now : (s t : StoreState) → t ≡ at_rest (contents s) s → Restarts (Some s) (Some t)
restarts_now s t e u told =
    let same : s ≡ u = some_is s u told in
    (contents u, record { fronts = []; found = tt; possible = (λ name. (zero, refl), tt); leads = ap (λ (x : StoreState). Some x) (e ∙ ap (λ (x : StoreState). at_rest (contents x) x) same) })
  where
    some_is : (a b : StoreState) → Some a ≡ Some b → a ≡ b
    some_is a b e = cc
