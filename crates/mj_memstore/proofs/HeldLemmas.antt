-- The operations that wait for an object, and their room.
use Rattle.std.proofs.Common.{◌≡◌, ℕ, ◌+◌, ◌≤◌, ◌<◌, List, [], ◌∷◌, ◌++◌, length, drop, map, get_or, Option, Some, None, refl, sym, ap, subst, arith}
use Rattle.std.specs.Prelude.{vec_capacity, is_some, option_map, false}
use Rattle.mj_store.specs.declared.act.ObjectAct.{ObjectAct}
use Rattle.mj_store.specs.declared.act.ObjectAct.TheVariants.{Write, Truncate, Remove, Keys}
use Rattle.mj_memstore.specs.declared.queued.Queued.{Queued}
use Rattle.mj_memstore.specs.Content.{set_count, HasRoom}
use Rattle.mj_memstore.specs.HeldView.{pending_of, IsProvided, AreProvided, all_set_count}

has_room_less : (act : ObjectAct) (m n b p : ℕ) → n ≤ m → HasRoom act m b p → HasRoom act n b p
has_room_less (Write at new) m n b p le h = h
has_room_less (Truncate len) m n b p le h = h
has_room_less Remove m n b p le h = h
has_room_less (Keys set drops head) m n b p le h = omega (arith, h, le)

-- with fewer pairs there is room too
pub provided_less : (m n : ℕ) (q : Queued) → n ≤ m → IsProvided m q → IsProvided n q
provided_less m n q le p = record { empty = p.empty; keys = p.keys; room = has_room_less q.act m n (vec_capacity q.room.bytes) (vec_capacity q.room.pairs) le p.room }

pub all_provided_less : (m n : ℕ) (qs : List Queued) → n ≤ m → AreProvided m qs → AreProvided n qs
all_provided_less m n [] le p = tt
all_provided_less m n (q ∷ qs) le p = (provided_less m n q le p.0, all_provided_less (m + set_count q.act) (n + set_count q.act) qs (omega (arith, le)) p.1)

pub provided_more : (n : ℕ) (qs : List Queued) (q : Queued) → AreProvided n qs → IsProvided (n + all_set_count qs) q → AreProvided n (qs ++ q ∷ [])
provided_more n [] q all p = (provided_less (n + 0) n q (omega arith) p, tt)
provided_more n (x ∷ qs) q all p = (all.0, provided_more (n + set_count x.act) qs q all.1 (provided_less (n + (set_count x.act + all_set_count qs)) (n + set_count x.act + all_set_count qs) q (omega arith) p))

pub all_set_count-more : (qs : List Queued) (q : Queued) → all_set_count (qs ++ q ∷ []) ≡ all_set_count qs + set_count q.act
all_set_count-more [] q = omega arith
all_set_count-more (x ∷ qs) q = let n = all_set_count-more qs q in omega (arith, n)

-- the first of those that wait
pub first_of : (qs : List Queued) (q : Queued) → 0 < length qs → q ≡ get_or qs 0 q → qs ≡ q ∷ drop 1 qs
first_of [] q lt e = absurd (omega arith)
first_of (x ∷ qs) q lt e = ap (λ y. y ∷ qs) (sym e)

pub first_pending : (qs : List Queued) (q : Queued) → qs ≡ q ∷ drop 1 qs → map pending_of qs ≡ pending_of q ∷ drop 1 (map pending_of qs)
first_pending [] q e = absurd cc
first_pending (x ∷ qs) q e = ap (λ y. pending_of y ∷ map pending_of qs) (front x q qs e)
  where
    front : (x q : Queued) (qs : List Queued) → x ∷ qs ≡ q ∷ qs → x ≡ q
    front x q qs e = cc

-- what is behind the first is provided where it is not applied, and where it is
pub provided_rest : (n : ℕ) (qs rest : List Queued) → rest ≡ drop 1 qs → AreProvided n qs → AreProvided n rest
provided_rest n [] rest e p = subst (AreProvided n) (sym e) tt
provided_rest n (q ∷ qs) rest e p = subst (AreProvided n) (sym e) (all_provided_less (n + set_count q.act) n qs (omega arith) p.1)

pub count_rest : (qs rest : List Queued) → rest ≡ drop 1 qs → all_set_count rest ≤ all_set_count qs
count_rest [] rest e = omega (arith, ap all_set_count e)
count_rest (q ∷ qs) rest e = omega (arith, ap all_set_count e)

pub provided_applied : (n m : ℕ) (q : Queued) (qs rest : List Queued) → qs ≡ q ∷ rest → m ≤ n + set_count q.act → AreProvided n qs → AreProvided m rest
provided_applied n m q qs rest e le p = all_provided_less (n + set_count q.act) m rest le (subst (AreProvided n) e p).1

pub provided_first : (n : ℕ) (q : Queued) (qs rest : List Queued) → qs ≡ q ∷ rest → AreProvided n qs → IsProvided n q
provided_first n q qs rest e p = (subst (AreProvided n) e p).0

pub no_failed : (failed : Option Queued) → is_some failed ≡ false → option_map pending_of failed ≡ None
no_failed None e = refl
no_failed (Some q) e = absurd cc
