-- What a step of a store in memory does to its state.
use Rattle.std.proofs.Common.{◌≡◌, ◌⊎◌, ℕ, ◌+◌, ◌≤◌, Bool, true, false, List, [], ◌∷◌, ◌++◌, drop, Option, Some, None, refl, sym, ap, subst, ◌∙◌, inl, inr}
use Rattle.std.specs.Prelude.{not, option_to_list, is_some}
use Rattle.std.specs.Option.{option_map_or}
use Rattle.std.proofs.lemmas.Bool.{cond-true, cond_both}
use Rattle.mj_base.specs.declared.object.ObjectName.{ObjectName}
use Rattle.mj_store.specs.declared.answer.Ack.{Ack}
use Rattle.mj_store.specs.Object.{Content, applied, put}
use Rattle.mj_store.specs.State.{StoreState, Object, Pending, tried, failed, front_failed}
use Rattle.mj_store.specs.Events.{Event, Tried, Failed, Possible, after_events}
use Rattle.mj_store.specs.Moves.{Moved, Moves, Steps, IsIdle, IsReady}
use Rattle.mj_base.specs.Counts.{Rose}
use Rattle.mj_store.specs.Causes.{Listed, In}
use Rattle.mj_store.proofs.Counts.{rose_since}
use Rattle.mj_store.proofs.Rest.{tried_is, failed_is}
use Rattle.mj_memstore.specs.Content.{held_content}
use Rattle.mj_memstore.specs.HeldView.{HeldView, object_of}
use Rattle.mj_memstore.specs.Memory.{Entries, found, absent, object_in, state_of, TriesFirst, HasNoFirst, Changes}
use Rattle.mj_memstore.proofs.ObjectsLemmas.{objects_changed, object_was}
use Rattle.mj_memstore.proofs.MemoryLemmas.{same_state}

-- a store that applies nothing by itself
pub moved_now : (P : StoreState → Type 0) (events : List Event) (s t : StoreState) (new : Option StoreState) → P s → Possible events s → t ≡ after_events events s → new ≡ Some t → Moved P events s new
moved_now P events s t new p q e n = record { fronts = []; found = p; possible = q; leads = n ∙ ap (λ (u : StoreState). Some u) e }

same_told : (s t : StoreState) → Some s ≡ Some t → s ≡ t
same_told s t e = cc

pub moves_now : (P : StoreState → Type 0) (events : List Event) (s t : StoreState) → P s → Possible events s → t ≡ after_events events s → Moves P events (Some s) (Some t)
moves_now P events s t p q e u told = subst (λ (v : StoreState). Moved P events v (Some t)) (same_told s u told) (moved_now P events s t (Some t) p q e refl)

-- ---- what a step says

pub steps_tried : (name : ObjectName) (op : ℕ) (s t : StoreState) → IsReady name op s → t ≡ tried name s → Steps name (Some op) (Some s) (Some t)
steps_tried name op s t r e u told = inl (subst (λ (v : StoreState). Moved (IsReady name op) (Tried name ∷ []) v (Some t)) (same_told s u told) (moved_now (IsReady name op) (Tried name ∷ []) s t (Some t) r (tt, tt) e refl))

pub steps_failed : (name : ObjectName) (op : ℕ) (s t : StoreState) → IsReady name op s → t ≡ failed name s → Steps name (Some op) (Some s) (Some t)
steps_failed name op s t r e u told = inr (subst (λ (v : StoreState). Moved (IsReady name op) (Failed name ∷ []) v (Some t)) (same_told s u told) (moved_now (IsReady name op) (Failed name ∷ []) s t (Some t) r (tt, tt) e refl))

module _ (name : ObjectName) (v w : HeldView) (ack : Ack) (old new : Entries) (acks : List Ack) (last : ℕ) (t : TriesFirst v w ack) (c : Changes name v w old new) where
  abbrev p : Pending
  p = record { op = ack.op; act = t.first.act }

  free : (object_in old name).blocked ≡ false
  free = ap (λ (o : Object). o.blocked) (object_was name v w old new c) ∙ ap (λ (q : Option Pending). is_some q) t.first.free

  pending : (object_in old name).pending ≡ p ∷ drop 1 v.waiting
  pending = ap (λ (o : Object). o.pending) (object_was name v w old new c) ∙ ap (λ (q : Option Pending). option_to_list q ++ v.waiting) t.first.free ∙ t.first.first

  pub ready : IsReady name ack.op (state_of old acks last)
  ready = record { act = t.first.act; first = pending ∙ ap (λ (ps : List Pending). p ∷ ps) (sym (ap (λ (ps : List Pending). drop 1 ps) pending)); free = free }

  make_object : Option Content → List Pending → Bool → Object
  make_object held ps b = record { held = held; pending = ps; blocked = b }

  object_same : (h h' : Option Content) (q q' : List Pending) (b b' : Bool) → h ≡ h' → q ≡ q' → b ≡ b' → ◌≡◌ {A = Object} (record { held = h; pending = q; blocked = b }) (record { held = h'; pending = q'; blocked = b' })
  object_same h h' q q' b b' e f g = rw (e, f, g) refl

  pub tried_state : ack.done ≡ true → state_of new (acks ++ ack ∷ []) last ≡ tried name (state_of old acks last)
  tried_state done =
      let a = t.applied done in
      let was = object_was name v w old new c in
      same_state (object_in new) _ (acks ++ ack ∷ []) (acks ++ record { op = ack.op; done = true } ∷ []) (last + 1)
      (objects_changed name v w old new c ∙ ap (put (object_in old) name) (object_same _ _ _ _ _ _
      (a.object p t.first.first ∙ ap (λ (o : Object). applied t.first.act o.held) (sym was))
      (ap (λ (q : Option Pending). option_to_list q ++ w.waiting) a.failed ∙ a.waiting)
      (ap (λ (q : Option Pending). is_some q) a.failed)))
      (ap (λ (b : Bool). acks ++ record { op = ack.op; done = b } ∷ []) done)
      ∙ sym (tried_is (state_of old acks last) name p (drop 1 v.waiting) free pending)

  pub failed_state : ack.done ≡ false → state_of new (acks ++ ack ∷ []) last ≡ failed name (state_of old acks last)
  failed_state not =
      let f = t.failed not in
      let was = object_was name v w old new c in
      let this = f.failed p t.first.first in
      same_state (object_in new) _ (acks ++ ack ∷ []) (acks ++ record { op = ack.op; done = false } ∷ []) (last + 1)
      (objects_changed name v w old new c ∙ ap (put (object_in old) name) (object_same _ _ _ _ _ _
      (ap held_content f.object ∙ ap (λ (o : Object). o.held) (sym was))
      (ap (λ (q : Option Pending). option_to_list q ++ w.waiting) this ∙ ap (λ (ps : List Pending). p ∷ ps) f.waiting)
      (ap (λ (q : Option Pending). is_some q) this)))
      (ap (λ (b : Bool). acks ++ record { op = ack.op; done = b } ∷ []) not)
      ∙ sym (failed_is (state_of old acks last) name p (drop 1 v.waiting) free pending)

  pub steps : Steps name (Some ack.op) (Some (state_of old acks last)) (Some (state_of new (acks ++ ack ∷ []) last))
  steps = elim ack.done as (λ b. ack.done ≡ b → Steps name (Some ack.op) (Some (state_of old acks last)) (Some (state_of new (acks ++ ack ∷ []) last))) [
    | true ↦ λ d. steps_tried name ack.op (state_of old acks last) (state_of new (acks ++ ack ∷ []) last) ready (tried_state d)
    | false ↦ λ d. steps_failed name ack.op (state_of old acks last) (state_of new (acks ++ ack ∷ []) last) ready (failed_state d)
  ] refl

-- ---- nothing may be tried

idle_view : (v : HeldView) → HasNoFirst v → ((object_of v).pending ≡ []) ⊎ ((object_of v).blocked ≡ true)
idle_view v (inr some) = inr some
idle_view v (inl none) = elim v.failed as (λ (q : Option Pending). (option_to_list q ++ v.waiting ≡ []) ⊎ (is_some q ≡ true)) [
  | None ↦ inl none
  | Some x ↦ inr refl
]

pub idle : (name : ObjectName) (es : Entries) (acks : List Ack) (last : ℕ) → (found name es ≡ None) ⊎ ((v : HeldView) × (found name es ≡ Some v) × HasNoFirst v) → IsIdle name (state_of es acks last)
idle name es acks last (inl none) = inl (ap (λ (o : Option HeldView). (option_map_or object_of o absent).pending) none)
idle name es acks last (inr some) = subst (λ (o : Object). (o.pending ≡ []) ⊎ (o.blocked ≡ true)) (sym (ap (λ (o : Option HeldView). option_map_or object_of o absent) some.1)) (idle_view some.0 some.2)

pub failed_idle : (n : ObjectName) (s : StoreState) → IsIdle n s → failed n s ≡ s
failed_idle n s (inl none) = cond_both (s.objects n).blocked s (front_failed n s (s.objects n) (s.objects n).pending) (λ (t : StoreState). t ≡ s) (λ b. refl) (λ b. ap (front_failed n s (s.objects n)) none)
failed_idle n s (inr blocked) = cond-true (s.objects n).blocked s (front_failed n s (s.objects n) (s.objects n).pending) blocked

-- ---- a fault is counted where a call is to fail

not_at : (fails done : Bool) → done ≡ not fails → done ≡ false → fails ≡ true
not_at true done e f = refl
not_at false done e f = absurd cc

pub rose_all : (fails done : Bool) (before now : ℕ) (list : List Listed) → done ≡ not fails → (fails ≡ true → Rose before now) → ((l : Listed) → In l list → l.count ≤ before) → done ≡ false → (l : Listed) → In l list → Rose l.count now
rose_all fails done before now list e rose le d l i = rose_since l.count before now (le l i) (rose (not_at fails done e d))

pub done_by : (result planned done b : Bool) → result ≡ planned → done ≡ not result → planned ≡ b → done ≡ not b
done_by result planned done b e d p = d ∙ ap not (e ∙ p)
