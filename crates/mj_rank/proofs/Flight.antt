-- What a mount has sent, through each event of its store.
use Rattle.std.proofs.Common.{◌≡◌, ◌⊎◌, inl, inr, ℕ, true, false, List, [], ◌∷◌, ◌++◌, Option, Some, None, drop, refl, sym, ap, subst, ◌∙◌}
use Rattle.std.proofs.lemmas.Bool.{cond_both}
use Rattle.mj_base.specs.declared.object.ObjectName.{ObjectName}
use Rattle.mj_store.specs.declared.act.ObjectOp.{ObjectOp}
use Rattle.mj_store.specs.declared.answer.Ack.{Ack}
use Rattle.mj_store.specs.Object.{applied, put}
use Rattle.mj_store.specs.State.{StoreState, Object, Pending, Quiet, with_op, submitted, tried, failed, reported, front_done, front_failed}
use Rattle.mj_store.specs.Along.{HasOp}
use Rattle.mj_store.specs.Causes.{In}
use Rattle.mj_store.specs.Events.{Tells}
use Rattle.mj_store.specs.Moves.{IsIdle, IsReady, Steps, Reaps, fronts_applied}
use Rattle.mj_store.proofs.Names.{at_put}
use Rattle.mj_store.proofs.Numbers.{append_has, append_last}
use Rattle.mj_store.proofs.Rest.{tried_is, failed_is}
use Rattle.mj_store.proofs.Paths.{kept_fronts}
use Rattle.mj_facts.proofs.WhileServing.{in_before, in_last}
use Rattle.mj_rank.specs.Flight.{HasAck, HasFailed, AreOut, HasCompleted}

-- ---- what is to be reported

ack_more : (op : ℕ) (acks : List Ack) (a : Ack) → HasAck op acks → HasAck op (acks ++ a ∷ [])
ack_more op acks a h = record { ack = h.ack; among = in_before h.ack acks (a ∷ []) h.among; number = h.number }

failed_more : (acks : List Ack) (a : Ack) → HasFailed acks → HasFailed (acks ++ a ∷ [])
failed_more acks a h = record { ack = h.ack; among = in_before h.ack acks (a ∷ []) h.among; failed = h.failed }

not_done : true ≡ false → ⊥
not_done e = absurd cc

-- the first of them is reported
failed_less : (acks : List Ack) (a : Ack) → acks ≡ a ∷ drop 1 acks → a.done ≡ true → HasFailed acks → HasFailed (drop 1 acks)
failed_less acks a first done h = elim (subst (In h.ack) first h.among) [
  | inl same ↦ absurd (not_done (sym done ∙ (ap (λ (x : Ack). x.done) same ∙ h.failed)))
  | inr i ↦ record { ack = h.ack; among = i; failed = h.failed }
]

ack_less : (op : ℕ) (acks : List Ack) (a : Ack) → acks ≡ a ∷ drop 1 acks → HasAck op acks → (op ≡ a.op) ⊎ HasAck op (drop 1 acks)
ack_less op acks a first h = elim (subst (In h.ack) first h.among) [
  | inl same ↦ inl (sym h.number ∙ ap (λ (x : Ack). x.op) (sym same))
  | inr i ↦ inr (record { ack = h.ack; among = i; number = h.number })
]

-- ---- through the events

abbrev Ops : Type 0
Ops = List (ℕ × ObjectName)

module _ (ops : Ops) (s : StoreState) (f : AreOut ops s) where
  -- the first pending operation of an object is tried
  module _ (name : ObjectName) (p : Pending) (ps : List Pending) (is : (s.objects name).pending ≡ p ∷ ps) where
    abbrev done : Ack
    done = record { op = p.op; done = true }

    abbrev not : Ack
    not = record { op = p.op; done = false }

    abbrev after : Object
    after = record { held = applied p.act (s.objects name).held; pending = ps; blocked = false }

    abbrev stuck : Object
    stuck = record { held = (s.objects name).held; pending = p ∷ ps; blocked = true }

    first_or_later : (op : ℕ) → HasOp op (p ∷ ps) → HasOp op ps ⊎ HasAck op (s.completed ++ done ∷ [])
    first_or_later op (inl e) = inr (record { ack = done; among = in_last done s.completed; number = e })
    first_or_later op (inr h) = inl h

    later : (op : ℕ × ObjectName) → HasOp op.0 (s.objects op.1).pending → HasOp op.0 (put s.objects name after op.1).pending ⊎ HasAck op.0 (s.completed ++ done ∷ [])
    later op h = elim (at_put s.objects name after op.1) [
      | inl here ↦ elim (first_or_later op.0 (subst (HasOp op.0) is (subst (λ (n : ObjectName). HasOp op.0 (s.objects n).pending) here.0 h))) [
        | inl still ↦ inl (subst (λ (o : Object). HasOp op.0 o.pending) (sym here.1) still)
        | inr acked ↦ inr acked
      ]
      | inr there ↦ inl (subst (λ (o : Object). HasOp op.0 o.pending) (sym there.1) h)
    ]

    free_after : (n : ObjectName) → (put s.objects name after n).blocked ≡ true → HasFailed (s.completed ++ done ∷ [])
    free_after n b = elim (at_put s.objects name after n) [
      | inl here ↦ absurd (not_done (sym b ∙ ap (λ (o : Object). o.blocked) here.1))
      | inr there ↦ failed_more s.completed done (f.free n (ap (λ (o : Object). o.blocked) (sym there.1) ∙ b))
    ]

    out_done : AreOut ops (record { objects = put s.objects name after; completed = s.completed ++ done ∷ []; next = s.next })
    out_done = record {
      each = λ op i. elim (f.each op i) [ inl h ↦ later op h | inr h ↦ inr (ack_more op.0 s.completed done h) ];
      free = free_after;
    }

    kept : (op : ℕ × ObjectName) → HasOp op.0 (s.objects op.1).pending → HasOp op.0 (put s.objects name stuck op.1).pending
    kept op h = elim (at_put s.objects name stuck op.1) [
      | inl here ↦ subst (λ (o : Object). HasOp op.0 o.pending) (sym here.1) (subst (HasOp op.0) is (subst (λ (n : ObjectName). HasOp op.0 (s.objects n).pending) here.0 h))
      | inr there ↦ subst (λ (o : Object). HasOp op.0 o.pending) (sym there.1) h
    ]

    out_not : AreOut ops (record { objects = put s.objects name stuck; completed = s.completed ++ not ∷ []; next = s.next })
    out_not = record {
      each = λ op i. elim (f.each op i) [ inl h ↦ inl (kept op h) | inr h ↦ inr (ack_more op.0 s.completed not h) ];
      free = λ n b. record { ack = not; among = in_last not s.completed; failed = refl };
    }

  by_done : (name : ObjectName) (ps : List Pending) → (s.objects name).pending ≡ ps → AreOut ops (front_done name s (s.objects name) ps)
  by_done name [] is = f
  by_done name (p ∷ ps) is = out_done name p ps is

  by_failed : (name : ObjectName) (ps : List Pending) → (s.objects name).pending ≡ ps → AreOut ops (front_failed name s (s.objects name) ps)
  by_failed name [] is = f
  by_failed name (p ∷ ps) is = out_not name p ps is

  pub out_tried : (name : ObjectName) → AreOut ops (tried name s)
  out_tried name = cond_both (s.objects name).blocked s (front_done name s (s.objects name) (s.objects name).pending) (AreOut ops) (λ b. f) (λ b. by_done name (s.objects name).pending refl)

  pub out_failed : (name : ObjectName) → AreOut ops (failed name s)
  out_failed name = cond_both (s.objects name).blocked s (front_failed name s (s.objects name) (s.objects name).pending) (AreOut ops) (λ b. f) (λ b. by_failed name (s.objects name).pending refl)

  -- one is reported as done, and the others are still out
  pub out_reported : (a : Ack) (left : Ops) → s.completed ≡ a ∷ drop 1 s.completed → a.done ≡ true → ((op : ℕ × ObjectName) → In op left → In op ops × (op.0 ≡ a.op → ⊥)) → AreOut left (reported s)
  out_reported a left first done less = record {
    each = λ op i. let was = less op i in elim (f.each op was.0) [
      | inl h ↦ inl h
      | inr h ↦ elim (ack_less op.0 s.completed a first h) [ inl same ↦ absurd (was.1 same) | inr still ↦ inr still ]
    ];
    free = λ n b. failed_less s.completed a first done (f.free n b);
  }

  -- one more is sent
  pub out_sent : (op : ObjectOp) (number : ℕ) (more : Ops) → ((x : ℕ × ObjectName) → In x more → In x ops ⊎ (x ≡ (number, op.name))) → AreOut more (submitted op number s)
  out_sent op number more each_is = record {
    each = λ x i. elim (each_is x i) [
      | inl was ↦ elim (f.each x was) [ inl h ↦ inl (longer x h) | inr h ↦ inr h ]
      | inr new ↦ inl (subst (λ (y : ℕ × ObjectName). HasOp y.0 (put s.objects op.name sent y.1).pending) (sym new) last)
    ];
    free = λ n b. elim (at_put s.objects op.name sent n) [
      | inl here ↦ f.free op.name (ap (λ (o : Object). o.blocked) (sym here.1) ∙ b)
      | inr there ↦ f.free n (ap (λ (o : Object). o.blocked) (sym there.1) ∙ b)
    ];
  }
    where
      sent : Object
      sent = with_op (s.objects op.name) number op.act

      longer : (x : ℕ × ObjectName) → HasOp x.0 (s.objects x.1).pending → HasOp x.0 (put s.objects op.name sent x.1).pending
      longer x h = elim (at_put s.objects op.name sent x.1) [
        | inl here ↦ subst (λ (o : Object). HasOp x.0 o.pending) (sym here.1) (append_has x.0 (s.objects op.name).pending _ (subst (λ (n : ObjectName). HasOp x.0 (s.objects n).pending) here.0 h))
        | inr there ↦ subst (λ (o : Object). HasOp x.0 o.pending) (sym there.1) h
      ]

      last : HasOp number (put s.objects op.name sent op.name).pending
      last = elim (at_put s.objects op.name sent op.name) [
        | inl here ↦ subst (λ (o : Object). HasOp number o.pending) (sym here.1) (append_last (s.objects op.name).pending (record { op = number; act = op.act }))
        | inr there ↦ absurd (there.0 refl)
      ]

-- nothing is sent yet
pub none_out : (s : StoreState) → Quiet s → AreOut [] s
none_out s q = record { each = λ op i. absurd i; free = λ n b. absurd (not_done (sym b ∙ q.free n)) }

-- ---- what is completed stays until it is reported

some_ack : (a : Ack) (acks : List Ack) → In a acks → (s : StoreState) → s.completed ≡ acks → HasCompleted s
some_ack a [] i s e = absurd i
some_ack a (x ∷ xs) i s e = record { ack = x; rest = xs; completed = e }

last_ack : (acks : List Ack) (a : Ack) (s : StoreState) → s.completed ≡ acks ++ a ∷ [] → HasCompleted s
last_ack [] a s e = record { ack = a; rest = []; completed = e }
last_ack (x ∷ xs) a s e = record { ack = x; rest = xs ++ a ∷ []; completed = e }

pub completed_more : (n : ObjectName) (s : StoreState) → HasCompleted s → HasCompleted (tried n s)
completed_more n s h = cond_both (s.objects n).blocked s (front_done n s (s.objects n) (s.objects n).pending) HasCompleted (λ b. h) (λ b. by_pending (s.objects n).pending)
  where
    by_pending : (ps : List Pending) → HasCompleted (front_done n s (s.objects n) ps)
    by_pending [] = h
    by_pending (p ∷ ps) = record { ack = h.ack; rest = h.rest ++ record { op = p.op; done = true } ∷ []; completed = ap (λ (acks : List Ack). acks ++ record { op = p.op; done = true } ∷ []) h.completed }

-- fronts leave it
pub completed_fronts : (fronts : List ObjectName) (s : StoreState) → HasCompleted s → HasCompleted (fronts_applied fronts s)
completed_fronts fronts s h = kept_fronts HasCompleted (λ n u c. completed_more n u c) fronts s h

-- so a mount does not wait then
pub completed_taken : {old new : Option StoreState} → Reaps None old new → Tells old HasCompleted → ⊥
completed_taken reaps t =
    let m = reaps t.now t.is in
    let h : HasCompleted (fronts_applied m.fronts t.now) = completed_fronts m.fronts t.now t.holds in
    none_first h.ack h.rest (sym m.found ∙ h.completed)
  where
    none_first : (a : Ack) (acks : List Ack) → [] ≡ a ∷ acks → ⊥
    none_first a acks e = absurd cc

-- ---- a step of an object completes what is out there

pub out_fronts : (ops : Ops) (fronts : List ObjectName) (s : StoreState) → AreOut ops s → AreOut ops (fronts_applied fronts s)
out_fronts ops fronts s f = kept_fronts (AreOut ops) (λ n u c. out_tried ops u c n) fronts s f

no_op : (op : ℕ) (ps : List Pending) → HasOp op ps → ps ≡ [] → ⊥
no_op op [] h e = h
no_op op (p ∷ ps) h e = absurd cc

-- where it is idle, it was completed before
idle_completed : (ops : Ops) (u : StoreState) → AreOut ops u → (op : ℕ × ObjectName) → In op ops → IsIdle op.1 u → HasCompleted u
idle_completed ops u f op i (inr blocked) = let h = f.free op.1 blocked in some_ack h.ack u.completed h.among u refl
idle_completed ops u f op i (inl none) = elim (f.each op i) [
  | inl h ↦ absurd (no_op op.0 (u.objects op.1).pending h none)
  | inr h ↦ some_ack h.ack u.completed h.among u refl
]

tried_completed : (u : StoreState) (name : ObjectName) (op : ℕ) → IsReady name op u → HasCompleted (tried name u)
tried_completed u name op r = let e = tried_is u name _ _ r.free r.first in last_ack u.completed (record { op = op; done = true }) (tried name u) (ap (λ (t : StoreState). t.completed) e)

failed_completed : (u : StoreState) (name : ObjectName) (op : ℕ) → IsReady name op u → HasCompleted (failed name u)
failed_completed u name op r = let e = failed_is u name _ _ r.free r.first in last_ack u.completed (record { op = op; done = false }) (failed name u) (ap (λ (t : StoreState). t.completed) e)

pub out_steps : (ops : Ops) (s : StoreState) → AreOut ops s → (op : ℕ × ObjectName) → In op ops → (n : Option ℕ) (old new : Option StoreState) → old ≡ Some s → Steps op.1 n old new → Tells new HasCompleted
out_steps ops s f op i None old new is steps =
    let w = steps s is in
    record { now = fronts_applied w.fronts s; is = w.leads; holds = idle_completed ops (fronts_applied w.fronts s) (out_fronts ops w.fronts s f) op i w.found }
out_steps ops s f op i (Some k) old new is steps = elim (steps s is) [
  | inl w ↦ record { now = tried op.1 (fronts_applied w.fronts s); is = w.leads; holds = tried_completed (fronts_applied w.fronts s) op.1 k w.found }
  | inr w ↦ record { now = failed op.1 (fronts_applied w.fronts s); is = w.leads; holds = failed_completed (fronts_applied w.fronts s) op.1 k w.found }
]
