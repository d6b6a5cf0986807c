-- A stop at any moment within a call leaves one of the images of the state before it with the call's operations added.
use Rattle.std.proofs.Common.{◌≡◌, inl, inr, ℕ, zero, suc, min, true, false, Option, List, [], ◌∷◌, ◌++◌, length, map, take, refl, sym, ◌∙◌, ap, arith, append_assoc}
use Rattle.std.proofs.lemmas.List.{append-nil, map-append, take-map, take-append-le, take_min}
use Rattle.std.proofs.lemmas.Bool.{cond_both}
use Rattle.mj_base.specs.declared.object.ObjectName.{ObjectName}
use Rattle.mj_store.specs.declared.act.ObjectAct.{ObjectAct}
use Rattle.mj_store.specs.declared.act.ObjectOp.{ObjectOp}
use Rattle.mj_store.specs.Object.{Content, Contents, applied, put}
use Rattle.mj_store.specs.State.{StoreState, Object, Pending, IsImage, MayHold, applied_all, with_op, submitted, added, tried, failed, reported, front_done, front_failed}
use Rattle.mj_store.specs.Events.{Event, Added, Tried, Failed, Reaped, Restarted, NoRestart, after_events, ops_of}
use Rattle.mj_store.proofs.Names.{at_put}

-- what operations do, by their acts alone
abbrev applied_acts : List ObjectAct → Option Content → Option Content
applied_acts [] held = held
applied_acts (a ∷ acts) held = applied_acts acts (applied a held)

abbrev act_of : Pending → ObjectAct
act_of p = p.act

by_acts : (ps : List Pending) (held : Option Content) → applied_all ps held ≡ applied_acts (map act_of ps) held
by_acts [] held = refl
by_acts (p ∷ ps) held = by_acts ps (applied p.act held)

abbrev acts_in : StoreState → ObjectName → List ObjectAct
acts_in s n = map act_of (s.objects n).pending

-- an image, by acts
abbrev ActImage : StoreState → Contents → Type 0
ActImage s image = (n : ObjectName) → (k : ℕ) × (image n ≡ applied_acts (take k (acts_in s n)) (s.objects n).held)

to_acts : (s : StoreState) (image : Contents) → IsImage s image → ActImage s image
to_acts s image im n = ((im n).0, (im n).1 ∙ (by_acts (take (im n).0 (s.objects n).pending) (s.objects n).held ∙ ap (λ acts. applied_acts acts (s.objects n).held) (sym (take-map act_of (im n).0 (s.objects n).pending))))

from_acts : (s : StoreState) (image : Contents) → ActImage s image → IsImage s image
from_acts s image im n = ((im n).0, (im n).1 ∙ (ap (λ acts. applied_acts acts (s.objects n).held) (take-map act_of (im n).0 (s.objects n).pending) ∙ sym (by_acts (take (im n).0 (s.objects n).pending) (s.objects n).held)))

-- Whatever t may leave, also after more acts, s may leave after these.
abbrev Covers : StoreState → StoreState → Type 0
Covers s t = (n : ObjectName) (more : List ObjectAct) (k : ℕ) → (j : ℕ) × (applied_acts (take k (acts_in t n ++ more)) (t.objects n).held ≡ applied_acts (take j (acts_in s n ++ more)) (s.objects n).held)

covers_itself : (s : StoreState) → Covers s s
covers_itself s n more k = (k, refl)

-- one object changes
covers_put : (s : StoreState) (c : StoreState) (n : ObjectName) (o : Object) → c.objects ≡ put s.objects n o
    → ((more : List ObjectAct) (k : ℕ) → (j : ℕ) × (applied_acts (take k (map act_of o.pending ++ more)) o.held ≡ applied_acts (take j (acts_in s n ++ more)) (s.objects n).held)) → Covers s c
covers_put s c n o e f m more k = elim (at_put s.objects n o m) [
  | inl same ↦
      let here : c.objects m ≡ o = ap (λ (g : ObjectName → Object). g m) e ∙ same.1 in
      let h = f more k in
      (h.0, ap (λ (p : Object). applied_acts (take k (map act_of p.pending ++ more)) p.held) here ∙ (h.1 ∙ ap (λ i. applied_acts (take h.0 (acts_in s i ++ more)) (s.objects i).held) (sym same.0)))
  | inr other ↦
      let here : c.objects m ≡ s.objects m = ap (λ (g : ObjectName → Object). g m) e ∙ other.1 in
      (k, ap (λ (p : Object). applied_acts (take k (map act_of p.pending ++ more)) p.held) here)
]

covers_done : (s : StoreState) (n : ObjectName) (ps : List Pending) → (s.objects n).pending ≡ ps → Covers s (front_done n s (s.objects n) ps)
covers_done s n [] e = covers_itself s
covers_done s n (p ∷ ps) e = covers_put s (front_done n s (s.objects n) (p ∷ ps)) n (record { held = applied p.act (s.objects n).held; pending = ps; blocked = false }) refl
    (λ more k. (suc k, ap (λ qs. applied_acts (take (suc k) (map act_of qs ++ more)) (s.objects n).held) (sym e)))

covers_front_failed : (s : StoreState) (n : ObjectName) (ps : List Pending) → (s.objects n).pending ≡ ps → Covers s (front_failed n s (s.objects n) ps)
covers_front_failed s n [] e = covers_itself s
covers_front_failed s n (p ∷ ps) e = covers_put s (front_failed n s (s.objects n) (p ∷ ps)) n (record { held = (s.objects n).held; pending = p ∷ ps; blocked = true }) refl
    (λ more k. (k, ap (λ qs. applied_acts (take k (map act_of qs ++ more)) (s.objects n).held) (sym e)))

covers_tried : (s : StoreState) (n : ObjectName) → Covers s (tried n s)
covers_tried s n = cond_both (s.objects n).blocked s (front_done n s (s.objects n) (s.objects n).pending) (Covers s) (λ b. covers_itself s) (λ b. covers_done s n (s.objects n).pending refl)

covers_failed : (s : StoreState) (n : ObjectName) → Covers s (failed n s)
covers_failed s n = cond_both (s.objects n).blocked s (front_failed n s (s.objects n) (s.objects n).pending) (Covers s) (λ b. covers_itself s) (λ b. covers_front_failed s n (s.objects n).pending refl)

-- the same submission, whatever its number
covers_submitted : (s t : StoreState) (op : ObjectOp) (a b : ℕ) → Covers s t → Covers (submitted op a s) (submitted op b t)
covers_submitted s t op a b f m more k = elim (at_put t.objects op.name (with_op (t.objects op.name) b op.act) m) [
  | inl same ↦
      let n = op.name in
      let left : (submitted op b t).objects m ≡ with_op (t.objects n) b op.act = same.1 in
      let right : (submitted op a s).objects m ≡ with_op (s.objects n) a op.act = put_here s n a op.act m same.0 in
      let h = f n (op.act ∷ more) k in (
        h.0,
        ap (λ (p : Object). applied_acts (take k (map act_of p.pending ++ more)) p.held) left
            ∙ (ap (λ acts. applied_acts (take k acts) (t.objects n).held) (ap (λ acts. acts ++ more) (map-append act_of (t.objects n).pending (record { op = b; act = op.act } ∷ [])) ∙ append_assoc (acts_in t n) (op.act ∷ []) more)
            ∙ (h.1
            ∙ sym (ap (λ (p : Object). applied_acts (take h.0 (map act_of p.pending ++ more)) p.held) right
            ∙ ap (λ acts. applied_acts (take h.0 acts) (s.objects n).held) (ap (λ acts. acts ++ more) (map-append act_of (s.objects n).pending (record { op = a; act = op.act } ∷ [])) ∙ append_assoc (acts_in s n) (op.act ∷ []) more)))),
      )
  | inr other ↦
      let left : (submitted op b t).objects m ≡ t.objects m = other.1 in
      let right : (submitted op a s).objects m ≡ s.objects m = put_there s op.name a op.act m other.0 in
      let h = f m more k in
      (h.0, ap (λ (p : Object). applied_acts (take k (map act_of p.pending ++ more)) p.held) left ∙ (h.1 ∙ sym (ap (λ (p : Object). applied_acts (take h.0 (map act_of p.pending ++ more)) p.held) right)))
]
  where
    put_here : (s : StoreState) (n : ObjectName) (a : ℕ) (act : ObjectAct) (m : ObjectName) → m ≡ n → put s.objects n (with_op (s.objects n) a act) m ≡ with_op (s.objects n) a act
    put_here s n a act m same = elim (at_put s.objects n (with_op (s.objects n) a act) m) [ inl here ↦ here.1 | inr there ↦ absurd (there.0 same) ]

    put_there : (s : StoreState) (n : ObjectName) (a : ℕ) (act : ObjectAct) (m : ObjectName) → (m ≡ n → ⊥) → put s.objects n (with_op (s.objects n) a act) m ≡ s.objects m
    put_there s n a act m other = elim (at_put s.objects n (with_op (s.objects n) a act) m) [ inl here ↦ absurd (other here.0) | inr there ↦ there.1 ]

covers_added : (ops : List ObjectOp) (s t : StoreState) → Covers s t → Covers (added ops s) (added ops t)
covers_added [] s t f = f
covers_added (op ∷ ops) s t f = covers_added ops (submitted op s.next s) (submitted op t.next t) (covers_submitted s t op s.next t.next f)

image_covered : (s t : StoreState) (image : Contents) → Covers s t → IsImage t image → IsImage s image
image_covered s t image f im = from_acts s image (λ n.
    let i = to_acts t image im n in
    let h = f n [] i.0 in
    (h.0, i.1 ∙ (ap (λ acts. applied_acts (take i.0 acts) (t.objects n).held) (sym (append-nil (acts_in t n))) ∙ (h.1 ∙ ap (λ acts. applied_acts (take h.0 acts) (s.objects n).held) (append-nil (acts_in s n))))))

-- a submission only widens what a stop may leave
pub widened : (s : StoreState) (op : ObjectOp) (number : ℕ) (image : Contents) → IsImage s image → IsImage (submitted op number s) image
widened s op number image im = from_acts (submitted op number s) image (λ m.
    let i = to_acts s image im m in
    elim (at_put s.objects op.name (with_op (s.objects op.name) number op.act) m) [
      | inl same ↦
          let here : (submitted op number s).objects m ≡ with_op (s.objects m) number op.act = same.1 ∙ ap (λ j. with_op (s.objects j) number op.act) (sym same.0) in
          let k = min i.0 (length (acts_in s m)) in (
            k,
            i.1 ∙ (ap (λ acts. applied_acts acts (s.objects m).held) (sym (take_min i.0 (acts_in s m)) ∙ (sym (take-append-le k (acts_in s m) (op.act ∷ []) (omega arith)) ∙ ap (take k) (sym (map-append act_of (s.objects m).pending (record { op = number; act = op.act } ∷ [])))))
                ∙ sym (ap (λ (p : Object). applied_acts (take k (map act_of p.pending)) p.held) here)),
          )
      | inr other ↦ (i.0, i.1 ∙ sym (ap (λ (p : Object). applied_acts (take i.0 (map act_of p.pending)) p.held) other.1))
    ])

pub widened_all : (ops : List ObjectOp) (s : StoreState) (image : Contents) → IsImage s image → MayHold s ops image
widened_all [] s image im = im
widened_all (op ∷ ops) s image im = widened_all ops (submitted op s.next s) image (widened s op s.next image im)

-- at each moment
pub each_moment_lem : (k : ℕ) (es : List Event) (s : StoreState) (image : Contents) → NoRestart es → IsImage (after_events (take k es) s) image → MayHold s (ops_of es) image
each_moment_lem zero es s image w im = widened_all (ops_of es) s image im
each_moment_lem (suc k) [] s image w im = im
each_moment_lem (suc k) (Added op number ∷ es) s image w im =
    image_covered (added (op ∷ ops_of es) s) (added (ops_of es) (submitted op number s)) image
    (covers_added (ops_of es) (submitted op s.next s) (submitted op number s) (covers_submitted s s op s.next number (covers_itself s)))
    (each_moment_lem k es (submitted op number s) image w im)
each_moment_lem (suc k) (Tried n ∷ es) s image w im =
    image_covered (added (ops_of es) s) (added (ops_of es) (tried n s)) image (covers_added (ops_of es) s (tried n s) (covers_tried s n)) (each_moment_lem k es (tried n s) image w im)
each_moment_lem (suc k) (Failed n ∷ es) s image w im =
    image_covered (added (ops_of es) s) (added (ops_of es) (failed n s)) image (covers_added (ops_of es) s (failed n s) (covers_failed s n)) (each_moment_lem k es (failed n s) image w im)
each_moment_lem (suc k) (Reaped ack ∷ es) s image w im =
    image_covered (added (ops_of es) s) (added (ops_of es) (reported s)) image (covers_added (ops_of es) s (reported s) (λ n more j. (j, refl))) (each_moment_lem k es (reported s) image w im)
each_moment_lem (suc k) (Restarted r ∷ es) s image w im = absurd w
