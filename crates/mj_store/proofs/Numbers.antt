-- A store's numbers, through each event.
use Rattle.std.proofs.Common.{◌≡◌, ◌⊎◌, inl, inr, ℕ, ◌<◌, ◌≤◌, true, false, List, [], ◌∷◌, ◌++◌, drop, refl, sym, ◌∙◌, ap, subst, arith}
use Rattle.std.proofs.lemmas.Bool.{cond_both}
use Rattle.mj_base.specs.declared.object.ObjectName.{ObjectName}
use Rattle.mj_store.specs.declared.act.ObjectOp.{ObjectOp}
use Rattle.mj_store.specs.declared.answer.Ack.{Ack}
use Rattle.mj_store.specs.Object.{Contents, applied, put}
use Rattle.mj_store.specs.State.{StoreState, Object, Pending, with_op, submitted, tried, failed, reported, at_rest, front_done, front_failed}
use Rattle.mj_store.specs.Causes.{In}
use Rattle.mj_store.specs.Along.{HasOp, Once, Numbers}
use Rattle.mj_store.proofs.Names.{put_all, put_same, at_put}

pub has_append : (o : ℕ) (ps qs : List Pending) → HasOp o (ps ++ qs) → HasOp o ps ⊎ HasOp o qs
has_append o [] qs h = inr h
has_append o (p ∷ ps) qs (inl e) = inl (inl e)
has_append o (p ∷ ps) qs (inr h) = elim (has_append o ps qs h) [ inl a ↦ inl (inr a) | inr b ↦ inr b ]

pub append_has : (o : ℕ) (ps qs : List Pending) → HasOp o ps → HasOp o (ps ++ qs)
append_has o [] qs h = absurd h
append_has o (p ∷ ps) qs (inl e) = inl e
append_has o (p ∷ ps) qs (inr h) = inr (append_has o ps qs h)

pub append_last : (ps : List Pending) (q : Pending) → HasOp q.op (ps ++ q ∷ [])
append_last [] q = inl refl
append_last (p ∷ ps) q = inr (append_last ps q)

pub in_append : {A : Type 0} (x : A) (xs ys : List A) → In x (xs ++ ys) → In x xs ⊎ In x ys
in_append x [] ys h = inr h
in_append x (y ∷ xs) ys (inl e) = inl (inl e)
in_append x (y ∷ xs) ys (inr h) = elim (in_append x xs ys h) [ inl a ↦ inl (inr a) | inr b ↦ inr b ]

once_more : (ps : List Pending) (q : Pending) → Once ps → (HasOp q.op ps → ⊥) → Once (ps ++ q ∷ [])
once_more [] q o new = (λ h. h, tt)
once_more (p ∷ ps) q o new = (
  λ h. elim (has_append p.op ps (q ∷ []) h) [ inl a ↦ o.0 a | inr b ↦ elim b [ inl e ↦ new (inl (sym e)) | inr n ↦ absurd n ] ],
  once_more ps q o.1 (λ h. new (inr h)),
)

-- Each pending operation of the new state is one of the old state's at the same object, or it is new.
record Grows (s t : StoreState) (n : ObjectName) (new : ℕ) : Type 0 where
  pub was : (k : ObjectName) (o : ℕ) → HasOp o (t.objects k).pending → HasOp o (s.objects k).pending ⊎ ((o ≡ new) × (k ≡ n))

grown : (s : StoreState) (op : ObjectOp) (number : ℕ) → Grows s (submitted op number s) op.name number
grown s op number = record {
  was = λ k o h. elim (at_put s.objects op.name (with_op (s.objects op.name) number op.act) k) [
    | inl here ↦ split k o here.0 (has_append o (s.objects op.name).pending (record { op = number; act = op.act } ∷ []) (subst (λ (b : Object). HasOp o b.pending) here.1 h))
    | inr there ↦ inl (subst (λ (b : Object). HasOp o b.pending) there.1 h)
  ];
}
  where
    split : (k : ObjectName) (o : ℕ) → k ≡ op.name → HasOp o (s.objects op.name).pending ⊎ HasOp o (record { op = number; act = op.act } ∷ []) → HasOp o (s.objects k).pending ⊎ ((o ≡ number) × (k ≡ op.name))
    split k o e (inl h) = inl (subst (λ j. HasOp o (s.objects j).pending) (sym e) h)
    split k o e (inr (inl h)) = inr (sym h, e)
    split k o e (inr (inr h)) = absurd h

pub numbers_submitted : (s : StoreState) (op : ObjectOp) (number : ℕ) → s.next ≤ number → Numbers s → Numbers (submitted op number s)
numbers_submitted s op number h ns = record {
  fresh = λ k o p. elim ((grown s op number).was k o p) [ inl a ↦ omega (arith, ns.fresh k o a, h) | inr b ↦ omega (arith, b.0) ];
  old = λ a i. omega (arith, ns.old a i, h);
  done = λ a i d k p. elim ((grown s op number).was k a.op p) [ inl q ↦ ns.done a i d k q | inr b ↦ absurd (omega (arith, b.0, ns.old a i, h)) ];
  home = λ k j o p q. elim ((grown s op number).was k o p) [
    | inl a ↦ elim ((grown s op number).was j o q) [ inl c ↦ ns.home k j o a c | inr d ↦ absurd (omega (arith, d.0, ns.fresh k o a, h)) ]
    | inr b ↦ elim ((grown s op number).was j o q) [ inl c ↦ absurd (omega (arith, b.0, ns.fresh j o c, h)) | inr d ↦ b.1 ∙ sym d.1 ]
  ];
  once = put_all s.objects op.name (with_op (s.objects op.name) number op.act) (λ k o. Once o.pending)
      (once_more (s.objects op.name).pending (record { op = number; act = op.act }) (ns.once op.name) (λ q. omega (arith, ns.fresh op.name number q, h))) (λ k ne. ns.once k);
}

-- no more is pending than before
shrunk : (s : StoreState) (n : ObjectName) (o : Object) → ((q : ℕ) → HasOp q o.pending → HasOp q (s.objects n).pending) → (k : ObjectName) (q : ℕ) → HasOp q (put s.objects n o k).pending → HasOp q (s.objects k).pending
shrunk s n o sub k q h = elim (at_put s.objects n o k) [
  | inl here ↦ subst (λ j. HasOp q (s.objects j).pending) (sym here.0) (sub q (subst (λ (b : Object). HasOp q b.pending) here.1 h))
  | inr there ↦ subst (λ (b : Object). HasOp q b.pending) there.1 h
]

numbers_done : (s : StoreState) (n : ObjectName) (ps : List Pending) → (s.objects n).pending ≡ ps → Numbers s → Numbers (front_done n s (s.objects n) ps)
numbers_done s n [] e ns = ns
numbers_done s n (p ∷ ps) e ns =
    let o : Object = record { held = applied p.act (s.objects n).held; pending = ps; blocked = false } in
    let back : (q : ℕ) → HasOp q (p ∷ ps) → HasOp q (s.objects n).pending = λ q h. subst (HasOp q) (sym e) h in
    let less = shrunk s n o (λ q h. back q (inr h)) in
    let at_front : HasOp p.op (s.objects n).pending = back p.op (inl refl) in
    let apart : Once (p ∷ ps) = subst Once e (ns.once n) in
    record {
      fresh = λ k q h. ns.fresh k q (less k q h);
      old = λ a i. elim (in_append a s.completed (record { op = p.op; done = true } ∷ []) i) [
        | inl j ↦ ns.old a j
        | inr j ↦ elim j [ inl e ↦ subst (λ (b : Ack). b.op < s.next) e (ns.fresh n p.op at_front) | inr z ↦ absurd z ]
      ];
      done = λ a i d k h. elim (in_append a s.completed (record { op = p.op; done = true } ∷ []) i) [
        | inl j ↦ ns.done a j d k (less k a.op h)
        | inr j ↦ elim j [ inl e ↦ gone apart.0 k (subst (λ (b : Ack). HasOp b.op (put s.objects n o k).pending) (sym e) h) (ns.home k n p.op (less k p.op (subst (λ (b : Ack). HasOp b.op (put s.objects n o k).pending) (sym e) h)) at_front) | inr z ↦ absurd z ]
      ];
      home = λ k j q a b. ns.home k j q (less k q a) (less j q b);
      once = put_all s.objects n o (λ k b. Once b.pending) apart.1 (λ k ne. ns.once k);
    }
  where
    gone : (HasOp p.op ps → ⊥) → (k : ObjectName) → HasOp p.op (put s.objects n (record { held = applied p.act (s.objects n).held; pending = ps; blocked = false }) k).pending → k ≡ n → ⊥
    gone lacks k h same = lacks (subst (λ (b : Object). HasOp p.op b.pending) (put_same s.objects n (record { held = applied p.act (s.objects n).held; pending = ps; blocked = false })) (subst (λ j. HasOp p.op (put s.objects n (record { held = applied p.act (s.objects n).held; pending = ps; blocked = false }) j).pending) same h))

numbers_front_failed : (s : StoreState) (n : ObjectName) (ps : List Pending) → (s.objects n).pending ≡ ps → Numbers s → Numbers (front_failed n s (s.objects n) ps)
numbers_front_failed s n [] e ns = ns
numbers_front_failed s n (p ∷ ps) e ns =
    let o : Object = record { held = (s.objects n).held; pending = p ∷ ps; blocked = true } in
    let less = shrunk s n o (λ q h. subst (HasOp q) (sym e) h) in
    record {
      fresh = λ k q h. ns.fresh k q (less k q h);
      old = λ a i. elim (in_append a s.completed (record { op = p.op; done = false } ∷ []) i) [
        | inl j ↦ ns.old a j
        | inr j ↦ elim j [ inl e' ↦ subst (λ (b : Ack). b.op < s.next) e' (ns.fresh n p.op (subst (HasOp p.op) (sym e) (inl refl))) | inr z ↦ absurd z ]
      ];
      done = λ a i d k h. elim (in_append a s.completed (record { op = p.op; done = false } ∷ []) i) [
        | inl j ↦ ns.done a j d k (less k a.op h)
        | inr j ↦ elim j [ inl e' ↦ absurd (not_done (ap (λ (b : Ack). b.done) e' ∙ d)) | inr z ↦ absurd z ]
      ];
      home = λ k j q a b. ns.home k j q (less k q a) (less j q b);
      once = put_all s.objects n o (λ k b. Once b.pending) (subst Once e (ns.once n)) (λ k ne. ns.once k);
    }
  where
    not_done : false ≡ true → ⊥
    not_done e = absurd cc

pub numbers_tried : (s : StoreState) (n : ObjectName) → Numbers s → Numbers (tried n s)
numbers_tried s n ns = cond_both (s.objects n).blocked s (front_done n s (s.objects n) (s.objects n).pending) Numbers (λ b. ns) (λ b. numbers_done s n (s.objects n).pending refl ns)

pub numbers_failed : (s : StoreState) (n : ObjectName) → Numbers s → Numbers (failed n s)
numbers_failed s n ns = cond_both (s.objects n).blocked s (front_failed n s (s.objects n) (s.objects n).pending) Numbers (λ b. ns) (λ b. numbers_front_failed s n (s.objects n).pending refl ns)

-- what is left of a list is of the list
in_drop : {A : Type 0} (x : A) (xs : List A) → In x (drop 1 xs) → In x xs
in_drop x [] h = h
in_drop x (y ∷ xs) h = inr h

pub numbers_reported : (s : StoreState) → Numbers s → Numbers (reported s)
numbers_reported s ns = record {
  fresh = ns.fresh;
  old = λ b i. ns.old b (in_drop b s.completed i);
  done = λ b i. ns.done b (in_drop b s.completed i);
  home = ns.home;
  once = ns.once;
}

-- what is reported as done is pending nowhere
pub reported_done : (s : StoreState) (a : Ack) → s.completed ≡ a ∷ drop 1 s.completed → Numbers s → a.done ≡ true → (n : ObjectName) → HasOp a.op (s.objects n).pending → ⊥
reported_done s a e ns d n h = ns.done a (subst (In a) (sym e) (inl refl)) d n h

pub numbers_rest : (m : Contents) (s : StoreState) → Numbers (at_rest m s)
numbers_rest m s = record { fresh = λ n o h. absurd h; old = λ a h. absurd h; done = λ a i d n h. absurd h; home = λ n k o h i. absurd h; once = λ n. tt }
