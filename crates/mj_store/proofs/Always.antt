-- What holds of objects at each moment, through each event of a store.
use Rattle.std.proofs.Common.{◌≡◌, ◌≢◌, inr, ℕ, zero, suc, true, false, Option, List, [], ◌∷◌, ◌++◌, take, refl, sym, subst}
use Rattle.std.proofs.lemmas.Bool.{cond_both}
use Rattle.mj_base.specs.declared.object.ObjectName.{ObjectName}
use Rattle.mj_store.specs.declared.act.ObjectOp.{ObjectOp}
use Rattle.mj_store.specs.Object.{Content, Contents, applied}
use Rattle.mj_store.specs.State.{StoreState, Pending, IsImage, applied_all, with_op, submitted, tried, failed, reported, at_rest, front_done, front_failed}
use Rattle.mj_store.specs.Along.{Along, Always, HasOp}
use Rattle.mj_store.proofs.Names.{put_all}

pub along_now : (P : Option Content → List Pending → Type 0) (held : Option Content) (ps : List Pending) → Along P held ps → P held ps
along_now P held [] a = a
along_now P held (p ∷ ps) a = a.0

pub along_map : (P Q : Option Content → List Pending → Type 0) (held : Option Content) (ps : List Pending)
    → ((h : Option Content) (rest : List Pending) → ((o : ℕ) → HasOp o rest → HasOp o ps) → P h rest → Q h rest) → Along P held ps → Along Q held ps
along_map P Q held [] f a = f held [] (λ o h. h) a
along_map P Q held (p ∷ ps) f a = (f held (p ∷ ps) (λ o h. h) a.0, along_map P Q (applied p.act held) ps (λ h rest sub. f h rest (λ o i. inr (sub o i))) a.1)

pub along_more : (P Q : Option Content → List Pending → Type 0) (q : Pending) (held : Option Content) (ps : List Pending)
    → ((h : Option Content) (rest : List Pending) → ((o : ℕ) → HasOp o rest → HasOp o ps) → P h rest → Q h (rest ++ q ∷ []))
    → ((h : Option Content) → P h [] → Q (applied q.act h) []) → Along P held ps → Along Q held (ps ++ q ∷ [])
along_more P Q q held [] f last a = (f held [] (λ o h. h) a, last held a)
along_more P Q q held (p ∷ ps) f last a = (f held (p ∷ ps) (λ o h. h) a.0, along_more P Q q (applied p.act held) ps (λ h rest sub. f h rest (λ o i. inr (sub o i))) last a.1)

pub along_image : (P : Option Content → List Pending → Type 0) (k : ℕ) (held : Option Content) (ps : List Pending) → Along P held ps → (rest : List Pending) × P (applied_all (take k ps) held) rest
along_image P zero held ps a = (ps, along_now P held ps a)
along_image P (suc k) held [] a = ([], a)
along_image P (suc k) held (p ∷ ps) a = along_image P k (applied p.act held) ps a.1

-- ---- each object

-- of an image
pub always_image : (P : ObjectName → Option Content → List Pending → Type 0) (s : StoreState) (m : Contents) → Always P s → IsImage s m → (n : ObjectName) → (rest : List Pending) × P n (m n) rest
always_image P s m a im n =
    let r = along_image (P n) (im n).0 (s.objects n).held (s.objects n).pending (a n) in
    (r.0, subst (λ h. P n h r.0) (sym (im n).1) r.1)

-- of the present contents
pub always_now : (P : ObjectName → Option Content → List Pending → Type 0) (s : StoreState) → Always P s → (n : ObjectName) → P n (s.objects n).held (s.objects n).pending
always_now P s a n = along_now (P n) (s.objects n).held (s.objects n).pending (a n)

pub always_map : (P Q : ObjectName → Option Content → List Pending → Type 0) (s : StoreState)
    → ((n : ObjectName) (h : Option Content) (rest : List Pending) → ((o : ℕ) → HasOp o rest → HasOp o (s.objects n).pending) → P n h rest → Q n h rest) → Always P s → Always Q s
always_map P Q s f a n = along_map (P n) (Q n) (s.objects n).held (s.objects n).pending (f n) (a n)

-- An operation is submitted: at its object each moment gets it, and there is one moment more.
pub always_submitted : (P Q : ObjectName → Option Content → List Pending → Type 0) (s : StoreState) (op : ObjectOp) (number : ℕ)
    → ((k : ObjectName) → k ≢ op.name → (h : Option Content) (rest : List Pending) → ((o : ℕ) → HasOp o rest → HasOp o (s.objects k).pending) → P k h rest → Q k h rest)
    → ((h : Option Content) (rest : List Pending) → ((o : ℕ) → HasOp o rest → HasOp o (s.objects op.name).pending) → P op.name h rest → Q op.name h (rest ++ record { op = number; act = op.act } ∷ []))
    → ((h : Option Content) → P op.name h [] → Q op.name (applied op.act h) []) → Always P s → Always Q (submitted op number s)
always_submitted P Q s op number others early last a = put_all s.objects op.name (with_op (s.objects op.name) number op.act) (λ k o. Along (Q k) o.held o.pending)
    (along_more (P op.name) (Q op.name) (record { op = number; act = op.act }) (s.objects op.name).held (s.objects op.name).pending early last (a op.name))
    (λ k ne. along_map (P k) (Q k) (s.objects k).held (s.objects k).pending (others k ne) (a k))

done_front : (P : ObjectName → Option Content → List Pending → Type 0) (s : StoreState) (n : ObjectName) (ps : List Pending) → (s.objects n).pending ≡ ps → Always P s → Always P (front_done n s (s.objects n) ps)
done_front P s n [] e a = a
done_front P s n (p ∷ ps) e a = put_all s.objects n (record { held = applied p.act (s.objects n).held; pending = ps; blocked = false }) (λ k o. Along (P k) o.held o.pending)
    (here (subst (Along (P n) (s.objects n).held) e (a n))) (λ k ne. a k)
  where
    here : Along (P n) (s.objects n).held (p ∷ ps) → Along (P n) (applied p.act (s.objects n).held) ps
    here h = h.1

failed_front : (P : ObjectName → Option Content → List Pending → Type 0) (s : StoreState) (n : ObjectName) (ps : List Pending) → (s.objects n).pending ≡ ps → Always P s → Always P (front_failed n s (s.objects n) ps)
failed_front P s n [] e a = a
failed_front P s n (p ∷ ps) e a = put_all s.objects n (record { held = (s.objects n).held; pending = p ∷ ps; blocked = true }) (λ k o. Along (P k) o.held o.pending)
    (subst (Along (P n) (s.objects n).held) e (a n)) (λ k ne. a k)

pub always_tried : (P : ObjectName → Option Content → List Pending → Type 0) (s : StoreState) (n : ObjectName) → Always P s → Always P (tried n s)
always_tried P s n a = cond_both (s.objects n).blocked s (front_done n s (s.objects n) (s.objects n).pending) (Always P) (λ b. a) (λ b. done_front P s n (s.objects n).pending refl a)

pub always_failed : (P : ObjectName → Option Content → List Pending → Type 0) (s : StoreState) (n : ObjectName) → Always P s → Always P (failed n s)
always_failed P s n a = cond_both (s.objects n).blocked s (front_failed n s (s.objects n) (s.objects n).pending) (Always P) (λ b. a) (λ b. failed_front P s n (s.objects n).pending refl a)

pub always_reported : (P : ObjectName → Option Content → List Pending → Type 0) (s : StoreState) → Always P s → Always P (reported s)
always_reported P s a n = a n

-- of a store at rest, what holds of its contents
pub always_rest : (P : ObjectName → Option Content → List Pending → Type 0) (m : Contents) (s : StoreState) → ((n : ObjectName) → P n (m n) []) → Always P (at_rest m s)
always_rest P m s f n = f n
