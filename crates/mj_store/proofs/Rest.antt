-- A store in which nothing is pending, and one operation from its submission to its report.
use Rattle.std.proofs.Common.{◌≡◌, ◌≢◌, ◌⊎◌, inl, inr, ℕ, ◌≤◌, ◌+◌, ◌==◌, true, false, Option, Some, None, List, [], ◌∷◌, ◌++◌, drop, refl, sym, ◌∙◌, ap, subst, arith}
use Rattle.std.proofs.lemmas.Bool.{cond-true, cond-false, cond_both, eq-eqb}
use Rattle.mj_base.specs.declared.object.ObjectName.{ObjectName}
use Rattle.mj_base.specs.Counts.{Rose}
use Rattle.mj_store.specs.declared.act.ObjectOp.{ObjectOp}
use Rattle.mj_store.specs.declared.answer.Ack.{Ack}
use Rattle.mj_store.specs.Object.{applied, put}
use Rattle.mj_store.specs.State.{StoreState, Object, Pending, Quiet, contents, with_op, submitted, tried, failed, reported, front_done, front_failed}
use Rattle.mj_store.specs.Events.{Goes, Tells, Reaped}
use Rattle.mj_store.specs.Moves.{Moved, Anything, HasNoneCompleted, IsIdle, IsReady, Still, Submits, Reaps, Steps, fronts_applied}
use Rattle.mj_store.specs.Causes.{Listed, In, Counted, Reports, unlisted, with_listed}
use Rattle.mj_store.specs.Calls.{Performed}
use Rattle.mj_store.proofs.Names.{put_all, put_same, at_put}
use Rattle.mj_store.proofs.Paths.{goes_itself, goes_then, goes_reaps}
use Rattle.mj_store.proofs.Counts.{still_listed, in_unlisted, counted_reported, rose_since}

-- ---- what is tried

pub tried_idle : (n : ObjectName) (s : StoreState) → IsIdle n s → tried n s ≡ s
tried_idle n s (inl none) = cond_both (s.objects n).blocked s (front_done n s (s.objects n) (s.objects n).pending) (λ (t : StoreState). t ≡ s) (λ b. refl) (λ b. ap (front_done n s (s.objects n)) none)
tried_idle n s (inr blocked) = cond-true (s.objects n).blocked s (front_done n s (s.objects n) (s.objects n).pending) blocked

-- the state with the first pending operation applied
pub tried_is : (s : StoreState) (n : ObjectName) (p : Pending) (ps : List Pending) → (s.objects n).blocked ≡ false → (s.objects n).pending ≡ p ∷ ps
    → tried n s ≡ record { objects = put s.objects n (record { held = applied p.act (s.objects n).held; pending = ps; blocked = false }); completed = s.completed ++ record { op = p.op; done = true } ∷ []; next = s.next }
tried_is s n p ps free e = cond-false (s.objects n).blocked s (front_done n s (s.objects n) (s.objects n).pending) free ∙ ap (front_done n s (s.objects n)) e

-- the state with it failed
pub failed_is : (s : StoreState) (n : ObjectName) (p : Pending) (ps : List Pending) → (s.objects n).blocked ≡ false → (s.objects n).pending ≡ p ∷ ps
    → failed n s ≡ record { objects = put s.objects n (record { held = (s.objects n).held; pending = p ∷ ps; blocked = true }); completed = s.completed ++ record { op = p.op; done = false } ∷ []; next = s.next }
failed_is s n p ps free e = cond-false (s.objects n).blocked s (front_failed n s (s.objects n) (s.objects n).pending) free ∙ ap (front_failed n s (s.objects n)) e

pub still_fronts : (fronts : List ObjectName) (s : StoreState) → Still s → fronts_applied fronts s ≡ s
still_fronts [] s still = refl
still_fronts (n ∷ ns) s still = ap (fronts_applied ns) (still n) ∙ still_fronts ns s still

pub quiet_still : (s : StoreState) → Quiet s → Still s
quiet_still s q n = tried_idle n s (inl (q.pending n))

-- ---- one operation over a quiet store: pending, then done or failed

abbrev pub Sent : ObjectOp → ℕ → StoreState → StoreState → Type 0
Sent op number s t = t ≡ submitted op number s

-- it was tried, and is done
pub record Done (op : ObjectOp) (number : ℕ) (s t : StoreState) : Type 0 where
  pub held : (name : ObjectName) → contents t name ≡ put (contents s) op.name (applied op.act (contents s op.name)) name
  pub pending : (name : ObjectName) → (t.objects name).pending ≡ []
  pub free : (name : ObjectName) → (t.objects name).blocked ≡ false
  pub completed : t.completed ≡ record { op = number; done = true } ∷ []

-- it was tried, and failed
pub record NotDone (op : ObjectOp) (number : ℕ) (t : StoreState) : Type 0 where
  pub idle : (name : ObjectName) → IsIdle name t
  pub completed : t.completed ≡ record { op = number; done = false } ∷ []

module _ (op : ObjectOp) (number : ℕ) (s : StoreState) (q : Quiet s) where
  sent_object : (submitted op number s).objects op.name ≡ with_op (s.objects op.name) number op.act
  sent_object = put_same s.objects op.name (with_op (s.objects op.name) number op.act)

  sent_pending : ((submitted op number s).objects op.name).pending ≡ record { op = number; act = op.act } ∷ []
  sent_pending = ap (λ (o : Object). o.pending) sent_object ∙ ap (λ (ps : List Pending). ps ++ record { op = number; act = op.act } ∷ []) (q.pending op.name)

  sent_free : ((submitted op number s).objects op.name).blocked ≡ false
  sent_free = ap (λ (o : Object). o.blocked) sent_object ∙ q.free op.name

  -- the other objects are idle
  sent_others : (n : ObjectName) → n ≢ op.name → (submitted op number s).objects n ≡ s.objects n
  sent_others n ne = elim (at_put s.objects op.name (with_op (s.objects op.name) number op.act) n) [ inl same ↦ absurd (ne same.0) | inr other ↦ other.1 ]

  abbrev after : Object
  after = record { held = applied op.act ((submitted op number s).objects op.name).held; pending = []; blocked = false }

  done_is : tried op.name (submitted op number s) ≡ record { objects = put (submitted op number s).objects op.name after; completed = s.completed ++ record { op = number; done = true } ∷ []; next = number + 1 }
  done_is = tried_is (submitted op number s) op.name (record { op = number; act = op.act }) [] sent_free sent_pending

  held_after : (name : ObjectName) → (put (submitted op number s).objects op.name after name).held ≡ put (contents s) op.name (applied op.act (contents s op.name)) name
  held_after name = elim (at_put (submitted op number s).objects op.name after name) [
    | inl same ↦ ap (λ (o : Object). o.held) same.1 ∙ ap (λ (o : Object). applied op.act o.held) sent_object ∙ sym (subst (λ k. put (contents s) op.name (applied op.act (contents s op.name)) k ≡ applied op.act (contents s op.name)) (sym same.0) (put_same (contents s) op.name (applied op.act (contents s op.name))))
    | inr other ↦ ap (λ (o : Object). o.held) (other.1 ∙ sent_others name other.0) ∙ sym (elim (at_put (contents s) op.name (applied op.act (contents s op.name)) name) [ inl same ↦ absurd (other.0 same.0) | inr there ↦ there.1 ])
  ]

  pub tried_done : Done op number s (tried op.name (submitted op number s))
  tried_done = subst (Done op number s) (sym done_is) (record {
    held = held_after;
    pending = put_all (submitted op number s).objects op.name after (λ k o. o.pending ≡ []) refl (λ k ne. ap (λ (o : Object). o.pending) (sent_others k ne) ∙ q.pending k);
    free = put_all (submitted op number s).objects op.name after (λ k o. o.blocked ≡ false) refl (λ k ne. ap (λ (o : Object). o.blocked) (sent_others k ne) ∙ q.free k);
    completed = ap (λ (acks : List Ack). acks ++ record { op = number; done = true } ∷ []) q.completed;
  })

  abbrev blocked : Object
  blocked = record { held = ((submitted op number s).objects op.name).held; pending = record { op = number; act = op.act } ∷ []; blocked = true }

  pub failed_not_done : NotDone op number (failed op.name (submitted op number s))
  failed_not_done = subst (NotDone op number) (sym (failed_is (submitted op number s) op.name (record { op = number; act = op.act }) [] sent_free sent_pending)) (record {
    idle = put_all (submitted op number s).objects op.name blocked (λ k o. (o.pending ≡ []) ⊎ (o.blocked ≡ true)) (inr refl) (λ k ne. inl (ap (λ (o : Object). o.pending) (sent_others k ne) ∙ q.pending k));
    completed = ap (λ (acks : List Ack). acks ++ record { op = number; done = false } ∷ []) q.completed;
  })

  -- fronts apply it, or leave it pending
  pub fronts_sent : (fronts : List ObjectName) → (fronts_applied fronts (submitted op number s) ≡ submitted op number s) ⊎ (fronts_applied fronts (submitted op number s) ≡ tried op.name (submitted op number s))
  fronts_sent [] = inl refl
  fronts_sent (n ∷ ns) = elim (at_put s.objects op.name (with_op (s.objects op.name) number op.act) n) [
    | inl same ↦ inr (ap (λ k. fronts_applied ns (tried k (submitted op number s))) same.0 ∙ still_fronts ns (tried op.name (submitted op number s)) (λ k. tried_idle k _ (inl (tried_done.pending k))))
    | inr other ↦
        let same : tried n (submitted op number s) ≡ submitted op number s = tried_idle n (submitted op number s) (inl (ap (λ (o : Object). o.pending) (sent_others n other.0) ∙ q.pending n)) in
        elim (fronts_sent ns) [
          | inl e ↦ inl (ap (fronts_applied ns) same ∙ e)
          | inr e ↦ inr (ap (fronts_applied ns) same ∙ e)
        ]
  ]

  not_empty : (p : Pending) (ps : List Pending) → p ∷ ps ≡ [] → ⊥
  not_empty p ps e = absurd cc

  not_blocked : false ≡ true → ⊥
  not_blocked e = absurd cc

  sent_not_idle : IsIdle op.name (submitted op number s) → ⊥
  sent_not_idle (inl none) = not_empty (record { op = number; act = op.act }) [] (sym sent_pending ∙ none)
  sent_not_idle (inr blocked) = not_blocked (sym sent_free ∙ blocked)

  done_not_ready : (n : ℕ) (u : StoreState) → u ≡ tried op.name (submitted op number s) → IsReady op.name n u → ⊥
  done_not_ready n u e r = not_empty _ _ (sym r.first ∙ ap (λ (t : StoreState). (t.objects op.name).pending) e ∙ tried_done.pending op.name)

  -- a step of the object then leaves it done or failed
  pub stepped : (name : ObjectName) (n : Option ℕ) (old new : Option StoreState) → name ≡ op.name → old ≡ Some (submitted op number s) → Steps name n old new
      → Tells new (λ t. (t ≡ tried op.name (submitted op number s)) ⊎ (t ≡ failed op.name (submitted op number s)))
  stepped name None old new same is m =
      let w = m (submitted op number s) is in
      elim (fronts_sent w.fronts) [
        | inl e ↦ absurd (sent_not_idle (subst (λ k. IsIdle k (submitted op number s)) same (subst (IsIdle name) e w.found)))
        | inr e ↦ record { now = fronts_applied w.fronts (submitted op number s); is = w.leads; holds = inl e }
      ]
  stepped name (Some k) old new same is m = elim (m (submitted op number s) is) [
    | inl w ↦ elim (fronts_sent w.fronts) [
      | inl e ↦ record { now = tried name (fronts_applied w.fronts (submitted op number s)); is = w.leads; holds = inl (ap (tried name) e ∙ ap (λ j. tried j (submitted op number s)) same) }
      | inr e ↦ absurd (done_not_ready k _ e (subst (λ j. IsReady j k (fronts_applied w.fronts (submitted op number s))) same w.found))
    ]
    | inr w ↦ elim (fronts_sent w.fronts) [
      | inl e ↦ record { now = failed name (fronts_applied w.fronts (submitted op number s)); is = w.leads; holds = inr (ap (failed name) e ∙ ap (λ j. failed j (submitted op number s)) same) }
      | inr e ↦ absurd (done_not_ready k _ e (subst (λ j. IsReady j k (fronts_applied w.fronts (submitted op number s))) same w.found))
    ]
  ]

pub quiet_submits : (op : ObjectOp) (number : ℕ) (s : StoreState) (old new : Option StoreState) → Quiet s → old ≡ Some s → Submits op number old new → new ≡ Some (submitted op number s)
quiet_submits op number s old new q is m = let w = m s is in w.leads ∙ ap (λ (u : StoreState). Some (submitted op number u)) (still_fronts w.fronts s (quiet_still s q))

pub done_still : (op : ObjectOp) (number : ℕ) (s t : StoreState) → Done op number s t → Still t
done_still op number s t d n = tried_idle n t (inl (d.pending n))

pub not_done_still : (op : ObjectOp) (number : ℕ) (t : StoreState) → NotDone op number t → Still t
not_done_still op number t d n = tried_idle n t (d.idle n)

pub done_performed : (op : ObjectOp) (number : ℕ) (s t : StoreState) → Done op number s t → Performed op s (reported t)
done_performed op number s t d = record { held = d.held; quiet = record { pending = d.pending; free = d.free; completed = ap (drop 1) d.completed } }

-- ---- waiting for a report

-- one completed operation, which is reported
same_front : (a b : Ack) (xs : List Ack) → a ∷ xs ≡ b ∷ [] → a ≡ b
same_front a b xs e = cc

pub reaps_still : (s : StoreState) (ack a : Ack) (new : Option StoreState) → Still s → s.completed ≡ ack ∷ [] → Moved Anything (Reaped a ∷ []) s new → (a ≡ ack) × (new ≡ Some (reported s))
reaps_still s ack a new still e w =
    let same = still_fronts w.fronts s still in
    (same_front a ack _ (sym (w.possible.0) ∙ ap (λ (u : StoreState). u.completed) same ∙ e), w.leads ∙ ap (λ (u : StoreState). Some (reported u)) same)

none_completed : (ack : Ack) → [] ≡ ack ∷ [] → ⊥
none_completed ack e = absurd cc

pub reaps_none_still : (s : StoreState) (ack : Ack) (new : Option StoreState) → Still s → s.completed ≡ ack ∷ [] → Moved HasNoneCompleted [] s new → ⊥
reaps_none_still s ack new still e w = none_completed ack (sym w.found ∙ ap (λ (u : StoreState). u.completed) (still_fronts w.fronts s still) ∙ e)

-- other reports were taken
pub record Awaits (number : ℕ) (told told' : Option StoreState) (faults faults' : ℕ) (list list' : List Listed) : Type 0 where
  pub still : (s : StoreState) → told ≡ Some s → Still s → (ack : Ack) → s.completed ≡ ack ∷ [] → ack.op ≡ number → (told' ≡ Some s) × (list' ≡ list)
  pub goes : Goes told [] told'
  pub counted : (base : ℕ) → Counted base faults list → Counted base faults' list'
  pub waits : (count : ℕ) → In (record { op = number; count = count }) list → In (record { op = number; count = count }) list'
  pub since : (l : Listed) → In l list' → In l list
  pub later : faults ≤ faults'

pub awaits_begins : (number : ℕ) (told : Option StoreState) (faults : ℕ) (list : List Listed) → Awaits number told told faults faults list list
awaits_begins number told faults list = record { still = λ s is st ack e same. (is, refl); goes = goes_itself told; counted = λ base c. c; waits = λ count i. i; since = λ l i. i; later = omega arith }

module _ (number : ℕ) (told now next : Option StoreState) (faults faults' faults'' : ℕ) (list list' list'' : List Listed) (so_far : Awaits number told now faults faults' list list') where
  -- one more, of another operation
  pub awaits_more : (ack : Ack) → Reaps (Some ack) now next → Reports ack faults'' list' list'' → faults' ≤ faults'' → ack.op ≢ number → Awaits number told next faults faults'' list list''
  awaits_more ack m r later ne = record {
    still = λ s is st a e same.
        let was = so_far.still s is st a e same in
        let found = reaps_still s a ack next st e (m s was.0) in
        absurd (ne (ap (λ (x : Ack). x.op) found.0 ∙ same));
    goes = goes_then so_far.goes (goes_reaps (Some ack) m);
    counted = λ base c. counted_reported ack later r (so_far.counted base c);
    waits = λ count i. subst (In (record { op = number; count = count })) (sym r.rest) (still_listed ack.op (record { op = number; count = count }) list' (λ e. ne (sym e)) (so_far.waits count i));
    since = λ l i. so_far.since l (in_unlisted ack.op l list' (subst (In l) r.rest i));
    later = omega (arith, so_far.later, later);
  }

  -- it is the one
  pub awaits_found : (ack : Ack) → Reaps (Some ack) now next → Reports ack faults'' list' list'' → ack.op ≡ number → (s : StoreState) → told ≡ Some s → Still s → (a : Ack) → s.completed ≡ a ∷ [] → a.op ≡ number
      → (Some ack.done ≡ Some a.done) × (next ≡ Some (reported s)) × (list'' ≡ unlisted number list)
  awaits_found ack m r this s is st a e same =
      let was = so_far.still s is st a e same in
      let found = reaps_still s a ack next st e (m s was.0) in
      (ap (λ (x : Ack). Some x.done) found.0, found.1, r.rest ∙ ap (λ n. unlisted n list') this ∙ ap (unlisted number) was.1)

-- it is not done
pub awaits_cause : (number : ℕ) (told now : Option StoreState) (faults faults' faults'' : ℕ) (list list' list'' : List Listed) → Awaits number told now faults faults' list list' → (ack : Ack) → Reports ack faults'' list' list'' → ack.op ≡ number → ack.done ≡ false
    → (base : ℕ) → ((count : ℕ) → In (record { op = number; count = count }) list → base ≤ count) → Rose base faults''
awaits_cause number told now faults faults' faults'' list list' list'' so_far ack r this not base all =
    rose_since base r.count faults'' (all r.count (so_far.since (record { op = number; count = r.count }) (subst (λ (n : ℕ). In (record { op = n; count = r.count }) list') this r.was))) (r.cause not)

-- there is none
pub awaits_none : (number : ℕ) (told now next : Option StoreState) (faults faults' : ℕ) (list list' : List Listed) → Awaits number told now faults faults' list list' → Reaps None now next
    → (s : StoreState) → told ≡ Some s → Still s → (a : Ack) → s.completed ≡ a ∷ [] → a.op ≡ number → ⊥
awaits_none number told now next faults faults' list list' so_far m s is st a e same = let was = so_far.still s is st a e same in reaps_none_still s a next st e (m s was.0)

-- ---- the whole of it

-- Over a quiet store: it was submitted and its object was stepped, so it is completed, alone.
pub record TriedOnce (op : ObjectOp) (number : ℕ) (s : StoreState) (told : Option StoreState) : Type 0 where
  pub now : StoreState
  pub is : told ≡ Some now
  pub still : Still now
  pub ack : Ack
  pub completed : now.completed ≡ ack ∷ []
  pub this : ack.op ≡ number
  pub done : ack.done ≡ true → Done op number s now

not_true : (op : ObjectOp) (number : ℕ) (s t : StoreState) → false ≡ true → Done op number s t
not_true op number s t e = absurd cc

pub tried_once : (op : ObjectOp) (number : ℕ) (s : StoreState) (n : Option ℕ) (old sent told : Option StoreState) → Quiet s → old ≡ Some s → Submits op number old sent → Steps op.name n sent told → TriedOnce op number s told
tried_once op number s n old sent told q is m p =
    let w = stepped op number s q op.name n sent told refl (quiet_submits op number s old sent q is m) p in
    elim w.holds [
      | inl e ↦
          let d = subst (Done op number s) (sym e) (tried_done op number s q) in
          record { now = w.now; is = w.is; still = done_still op number s w.now d; ack = record { op = number; done = true }; completed = d.completed; this = refl; done = λ _. d }
      | inr e ↦
          let d = subst (NotDone op number) (sym e) (failed_not_done op number s q) in
          record { now = w.now; is = w.is; still = not_done_still op number w.now d; ack = record { op = number; done = false }; completed = d.completed; this = refl; done = not_true op number s w.now }
    ]

-- the list of a store that had none listed
pub unlisted_only : (number count : ℕ) (list new : List Listed) → list ≡ [] → new ≡ unlisted number (with_listed number count list) → new ≡ []
unlisted_only number count list new none e = e ∙ ap (λ (xs : List Listed). unlisted number (with_listed number count xs)) none ∙ cond-true (number == number) [] (record { op = number; count = count } ∷ []) (eq-eqb number number refl)
