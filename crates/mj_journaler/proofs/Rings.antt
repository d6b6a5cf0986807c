-- Operations in slots: what is out, and numbers that rise.
use Rattle.std.proofs.Common.{◌≡◌, inl, inr, ℕ, zero, suc, ◌+◌, ◌<◌, ◌≤◌, Bool, true, false, cond, List, [], ◌∷◌, ◌++◌, length, get_or, set, refl, sym, ◌∙◌, ap, subst, Option, None, Some, arith}
use Rattle.std.proofs.lemmas.Bool.{eq-eqb, ne_eqb, cases_lt, cond_both, le-leb}
use Rattle.std.proofs.lemmas.List.{append-nil, get_or-map, length-map, map-set, set-get_or}
use Rattle.mj_store.specs.Causes.{In}
use Rattle.std.specs.Prelude.{nat_le, IfSome, if◌then◌else◌}
use Rattle.mj_journaler.specs.Outstanding.{Rises, Follow, lowest, found, without, older, oldest}
use Rattle.mj_journaler.specs.Ring.{numbers, out_of, Ascends, BeginsOut, EndsOut}
use Rattle.mj_journaler.specs.declared.sent.Sent.{Sent}
use Rattle.mj_journaler.specs.declared.sent.Slot.{Slot}

-- ---- rising numbers

pub rises_ascend : (n : ℕ) (ns : List ℕ) → Rises n ns → Ascends ns
rises_ascend n [] h = tt
rises_ascend n (m ∷ ns) h = h.1

pub rises_each : (n : ℕ) (ns : List ℕ) (i : ℕ) → Rises n ns → i < length ns → n < get_or ns i 0
rises_each n [] i h l = absurd (omega arith)
rises_each n (m ∷ ns) zero h l = h.0
rises_each n (m ∷ ns) (suc i) h l = omega (arith, h.0, rises_each m ns i h.1 (omega arith))

pub ascends_each : (ns : List ℕ) (i j : ℕ) → Ascends ns → i < j → j < length ns → get_or ns i 0 < get_or ns j 0
ascends_each [] i j h lt l = absurd (omega arith)
ascends_each (n ∷ ns) i zero h lt l = absurd (omega arith)
ascends_each (n ∷ ns) zero (suc j) h lt l = rises_each n ns j h (omega arith)
ascends_each (n ∷ ns) (suc i) (suc j) h lt l = ascends_each ns i j (rises_ascend n ns h) (omega arith) (omega arith)

numbers_long : (ss : List Slot) → length (numbers ss) ≡ length ss
numbers_long ss = length-map ss (λ (s : Slot). s.sent.op)

-- each number up to one that is below this, and each from one on that is above it
pub ascends_up : (ss : List Slot) (m k op : ℕ) → Ascends (numbers ss) → m < length ss → get_or (numbers ss) m 0 < op → k < m + 1 → get_or (numbers ss) k 0 < op
ascends_up ss m k op h l b lt =
    elim (cases_lt k m) as (λ _. get_or (numbers ss) k 0 < op) [
      | inl less ↦ omega (arith, b, ascends_each (numbers ss) k m h less (omega (arith, l, numbers_long ss)))
      | inr more ↦ subst (λ n. get_or (numbers ss) n 0 < op) (omega (arith, lt, more)) b
    ]

pub ascends_down : (ss : List Slot) (m k op : ℕ) → Ascends (numbers ss) → k < length ss → op < get_or (numbers ss) m 0 → m ≤ k → op < get_or (numbers ss) k 0
ascends_down ss m k op h l b le =
    elim (cases_lt m k) as (λ _. op < get_or (numbers ss) k 0) [
      | inl less ↦ omega (arith, b, ascends_each (numbers ss) m k h less (omega (arith, l, numbers_long ss)))
      | inr more ↦ subst (λ n. op < get_or (numbers ss) n 0) (omega (arith, le, more)) b
    ]

rises_front : (n : ℕ) (xs ys : List Slot) → Rises n (numbers (xs ++ ys)) → Rises n (numbers xs)
rises_front n [] ys h = tt
rises_front n (x ∷ xs) ys h = (h.0, rises_front x.sent.op xs ys h.1)

pub ascends_front : (xs ys : List Slot) → Ascends (numbers (xs ++ ys)) → Ascends (numbers xs)
ascends_front [] ys h = tt
ascends_front (x ∷ xs) ys h = rises_front x.sent.op xs ys h

pub begins_front : (xs ys : List Slot) → BeginsOut (xs ++ ys) → BeginsOut xs
begins_front [] ys h = tt
begins_front (x ∷ xs) ys h = h

pub begins_pushed : (xs : List Slot) (s : Slot) → BeginsOut xs → s.done ≡ false → BeginsOut (xs ++ s ∷ [])
begins_pushed [] s h e = e
begins_pushed (x ∷ xs) s h e = h

pub ends_pushed : (xs : List Slot) (s : Slot) → s.done ≡ false → EndsOut (xs ++ s ∷ [])
ends_pushed [] s e = e
ends_pushed (x ∷ []) s e = e
ends_pushed (x ∷ y ∷ ys) s e = ends_pushed (y ∷ ys) s e

-- ---- what is out

pub out_at : (s : Slot) (ss : List Slot) → s.done ≡ false → out_of (s ∷ ss) ≡ s.sent ∷ out_of ss
out_at s ss e = ap (λ b. cond b (out_of ss) (s.sent ∷ out_of ss)) e

pub out_past : (s : Slot) (ss : List Slot) → s.done ≡ true → out_of (s ∷ ss) ≡ out_of ss
out_past s ss e = ap (λ b. cond b (out_of ss) (s.sent ∷ out_of ss)) e

joins : (b : Bool) (x : Sent) (xs ys zs : List Sent) → zs ≡ xs ++ ys → cond b zs (x ∷ zs) ≡ cond b xs (x ∷ xs) ++ ys
joins true x xs ys zs e = e
joins false x xs ys zs e = ap (λ (m : List Sent). x ∷ m) e

pub out_append : (xs ys : List Slot) → out_of (xs ++ ys) ≡ out_of xs ++ out_of ys
out_append [] ys = refl
out_append (x ∷ xs) ys = joins x.done x.sent (out_of xs) (out_of ys) (out_of (xs ++ ys)) (out_append xs ys)

in_out : (b : Bool) (x : Sent) (xs : List Sent) (w : Sent) → In w xs → In w (cond b xs (x ∷ xs))
in_out true x xs w i = i
in_out false x xs w i = inr i

-- ---- a new one behind

rises_pushed : (n : ℕ) (x : Slot) (xs : List Slot) (s : Slot) → n < x.sent.op → Rises x.sent.op (numbers xs) → EndsOut (x ∷ xs) → ((w : Sent) → In w (out_of (x ∷ xs)) → w.op < s.sent.op)
    → Rises n (numbers ((x ∷ xs) ++ s ∷ []))
rises_pushed n x [] s l h e below = (l, (below x.sent (subst (λ (m : List Sent). In x.sent m) (sym (out_at x [] e)) (inl refl)), tt))
rises_pushed n x (y ∷ ys) s l h e below = (l, rises_pushed x.sent.op y ys s h.0 h.1 e (λ w i. below w (in_out x.done x.sent (out_of (y ∷ ys)) w i)))

pub ascends_pushed : (xs : List Slot) (s : Slot) → Ascends (numbers xs) → EndsOut xs → ((w : Sent) → In w (out_of xs) → w.op < s.sent.op) → Ascends (numbers (xs ++ s ∷ []))
ascends_pushed [] s h e below = tt
ascends_pushed (x ∷ []) s h e below = (below x.sent (subst (λ (m : List Sent). In x.sent m) (sym (out_at x [] e)) (inl refl)), tt)
ascends_pushed (x ∷ y ∷ ys) s h e below = rises_pushed x.sent.op y ys s h.0 h.1 e (λ w i. below w (in_out x.done x.sent (out_of (y ∷ ys)) w i))

-- ---- one is done

pub number_at : (ss : List Slot) (i : ℕ) (s : Slot) → i < length ss → s ≡ get_or ss i s → get_or (numbers ss) i 0 ≡ s.sent.op
number_at ss i s h e = get_or-map (λ (t : Slot). t.sent.op) ss i s 0 h ∙ ap (λ (t : Slot). t.sent.op) (sym e)

without_other : (b : Bool) (op : ℕ) (x : Sent) (xs : List Sent) → (x.op ≡ op → ⊥) → without op (cond b xs (x ∷ xs)) ≡ cond b (without op xs) (x ∷ without op xs)
without_other true op x xs ne = refl
without_other false op x xs ne = ap (λ b. cond b (without op xs) (x ∷ without op xs)) (ne_eqb x.op op ne)

found_other : (b : Bool) (op : ℕ) (x : Sent) (xs : List Sent) → (x.op ≡ op → ⊥) → found op (cond b xs (x ∷ xs)) ≡ found op xs
found_other true op x xs ne = refl
found_other false op x xs ne = ap (λ b. cond b (Some x) (found op xs)) (ne_eqb x.op op ne)

-- no slot has the number
pub absent : (ss : List Slot) (op : ℕ) → ((k : ℕ) → k < length ss → get_or (numbers ss) k 0 ≡ op → ⊥) → (without op (out_of ss) ≡ out_of ss) × (found op (out_of ss) ≡ None)
absent [] op h = (refl, refl)
absent (s ∷ ss) op h =
    let rest = absent ss op (λ k l e. h (suc k) (omega arith) e) in
    let ne : s.sent.op ≡ op → ⊥ = λ e. h 0 (omega arith) e in (
      without_other s.done op s.sent (out_of ss) ne ∙ ap (λ (m : List Sent). cond s.done m (s.sent ∷ m)) rest.0,
      found_other s.done op s.sent (out_of ss) ne ∙ rest.1,
    )

risen : (n : ℕ) (ss : List Slot) → Rises n (numbers ss) → (k : ℕ) → k < length ss → get_or (numbers ss) k 0 ≡ n → ⊥
risen n [] h k l e = absurd (omega arith)
risen n (s ∷ ss) h k l e = absurd (omega (arith, at n (s ∷ ss) k h l, e))
  where
    at : (n : ℕ) (ss : List Slot) (k : ℕ) → Rises n (numbers ss) → k < length ss → n < get_or (numbers ss) k 0
    at n [] k h l = absurd (omega arith)
    at n (s ∷ ss) zero h l = h.0
    at n (s ∷ ss) (suc k) h l = omega (arith, h.0, at s.sent.op ss k h.1 (omega arith))

taken_out : (b : Bool) (op : ℕ) (x : Sent) (xs : List Sent) → x.op ≡ op → without op xs ≡ xs → xs ≡ without op (cond b xs (x ∷ xs))
taken_out true op x xs e h = sym h
taken_out false op x xs e h = sym (ap (λ b. cond b (without op xs) (x ∷ without op xs)) (eq-eqb x.op op e) ∙ h)

-- one that is marked is out no more
pub marked : (ss : List Slot) (i op : ℕ) (s : Slot) → Ascends (numbers ss) → i < length ss → get_or (numbers ss) i 0 ≡ op → s.done ≡ true → out_of (set ss i s) ≡ without op (out_of ss)
marked [] i op s h l e d = absurd (omega arith)
marked (x ∷ xs) zero op s h l e d = out_past s xs d ∙ taken_out x.done op x.sent (out_of xs) e (absent xs op (subst (λ n. (k : ℕ) → k < length xs → get_or (numbers xs) k 0 ≡ n → ⊥) e (risen x.sent.op xs h))).0
marked (x ∷ xs) (suc i) op s h l e d =
    let ne : x.sent.op ≡ op → ⊥ = λ q. risen x.sent.op xs h i (omega arith) (e ∙ sym q) in
    ap (λ (m : List Sent). cond x.done m (x.sent ∷ m)) (marked xs i op s (rises_ascend x.sent.op (numbers xs) h) (omega arith) e d)
    ∙ sym (without_other x.done op x.sent (out_of xs) ne)

-- it is found where it is out
pub found_at : (ss : List Slot) (i op : ℕ) (s : Slot) → Ascends (numbers ss) → i < length ss → get_or (numbers ss) i 0 ≡ op → s ≡ get_or ss i s → found op (out_of ss) ≡ cond s.done None (Some s.sent)
found_at [] i op s h l n e = absurd (omega arith)
found_at (x ∷ xs) zero op s h l n e =
    subst (λ (t : Slot). found op (cond x.done (out_of xs) (x.sent ∷ out_of xs)) ≡ cond t.done None (Some t.sent)) (sym e)
    (here x.done op x.sent (out_of xs) n (absent xs op (subst (λ m. (k : ℕ) → k < length xs → get_or (numbers xs) k 0 ≡ m → ⊥) n (risen x.sent.op xs h))).1)
  where
    here : (b : Bool) (op : ℕ) (x : Sent) (xs : List Sent) → x.op ≡ op → found op xs ≡ None → found op (cond b xs (x ∷ xs)) ≡ cond b None (Some x)
    here true op x xs e h = h
    here false op x xs e h = ap (λ b. cond b (Some x) (found op xs)) (eq-eqb x.op op e)
found_at (x ∷ xs) (suc i) op s h l n e =
    let ne : x.sent.op ≡ op → ⊥ = λ q. risen x.sent.op xs h i (omega arith) (n ∙ sym q) in
    found_other x.done op x.sent (out_of xs) ne ∙ found_at xs i op s (rises_ascend x.sent.op (numbers xs) h) (omega arith) n e

-- ---- the lowest

lowest_above : (from : ℕ) (ws : List Sent) (end : ℕ) → Follow from ws end → from ≤ lowest ws end
lowest_above from [] end h = h
lowest_above from (w ∷ ws) end h = omega (arith, h.0, h.1, lowest_above w.to ws end h.2)

pub lowest_first : (from : ℕ) (w : Sent) (ws : List Sent) (end : ℕ) → Follow from (w ∷ ws) end → lowest (w ∷ ws) end ≡ w.from
lowest_first from w ws end h = omega (arith, h.0, h.1, lowest_above w.to ws end h.2)

pub first_out : (ss : List Slot) (s : Slot) (end : ℕ) → 0 < length ss → s ≡ get_or ss 0 s → BeginsOut ss → Follow 0 (out_of ss) end → s.sent.from ≡ lowest (out_of ss) end
first_out [] s end l e b h = absurd (omega arith)
first_out (x ∷ xs) s end l e b h =
    let now : out_of (x ∷ xs) ≡ x.sent ∷ out_of xs = out_at x xs b in
    ap (λ (t : Slot). t.sent.from) e
    ∙ (sym (lowest_first 0 x.sent (out_of xs) end (subst (λ (m : List Sent). Follow 0 m end) now h)) ∙ ap (λ (m : List Sent). lowest m end) (sym now))

-- ---- at the ends

pub out_dropped : (xs ys : List Slot) (s : Slot) → ys ≡ xs ++ s ∷ [] → s.done ≡ true → out_of xs ≡ out_of ys
out_dropped xs ys s e d = sym (ap out_of e ∙ (out_append xs (s ∷ []) ∙ (ap (λ (m : List Sent). out_of xs ++ m) (out_past s [] d) ∙ append-nil (out_of xs))))

pub out_pushed : (xs ys : List Slot) (s : Slot) → ys ≡ xs ++ s ∷ [] → s.done ≡ false → out_of ys ≡ out_of xs ++ s.sent ∷ []
out_pushed xs ys s e d = ap out_of e ∙ (out_append xs (s ∷ []) ∙ ap (λ (m : List Sent). out_of xs ++ m) (out_at s [] d))

pub numbers_set : (ss : List Slot) (i : ℕ) (s t : Slot) → i < length ss → t ≡ get_or ss i t → s.sent ≡ t.sent → numbers (set ss i s) ≡ numbers ss
numbers_set ss i s t h e same =
    map-set (λ (u : Slot). u.sent.op) ss i s
    ∙ (ap (λ n. set (numbers ss) i n) (ap (λ (w : Sent). w.op) same ∙ sym (number_at ss i t h e)) ∙ set-get_or (numbers ss) i 0)

-- ---- the least number

older_above : (n : ℕ) (x : Sent) (o : Option Sent) → n < x.op → IfSome o (λ v. n < v.op) → n < (older x o).op
older_above n x None h k = h
older_above n x (Some v) h k = cond_both (nat_le x.op v.op) x v (λ (w : Sent). n < w.op) (λ b. h) (λ b. k)

least_by : (b : Bool) (n : ℕ) (x : Sent) (xs : List Sent) → n < x.op → IfSome (oldest xs) (λ v. n < v.op) → IfSome (oldest (cond b xs (x ∷ xs))) (λ v. n < v.op)
least_by true n x xs h k = k
least_by false n x xs h k = older_above n x (oldest xs) h k

least_later : (n m : ℕ) (o : Option Sent) → n ≤ m → IfSome o (λ v. m < v.op) → IfSome o (λ v. n < v.op)
least_later n m None h k = tt
least_later n m (Some v) h k = omega (arith, h, k)

least_above : (n : ℕ) (ss : List Slot) → Rises n (numbers ss) → IfSome (oldest (out_of ss)) (λ v. n < v.op)
least_above n [] r = tt
least_above n (s ∷ ss) r = least_by s.done n s.sent (out_of ss) r.0 (least_later n s.sent.op (oldest (out_of ss)) (omega (arith, r.0)) (least_above s.sent.op ss r.1))

older_first : (w : Sent) (o : Option Sent) → IfSome o (λ v. w.op < v.op) → older w o ≡ w
older_first w None h = refl
older_first w (Some v) h = ap (λ b. if b then w else v) (le-leb w.op v.op (omega (arith, h)))

-- the first slot has it
pub first_oldest : (ss : List Slot) (s : Slot) → 0 < length ss → s ≡ get_or ss 0 s → Ascends (numbers ss) → BeginsOut ss → Some s.sent ≡ oldest (out_of ss)
first_oldest [] s l e a b = absurd (omega arith)
first_oldest (x ∷ xs) s l e a b =
    ap (λ (t : Slot). Some t.sent) e ∙ (sym (ap (λ (w : Sent). Some w) (older_first x.sent (oldest (out_of xs)) (least_above x.sent.op xs a))) ∙ ap oldest (sym (out_at x xs b)))

-- ---- the greatest number

in_either : (b : Bool) (x : Sent) (xs : List Sent) (w : Sent) → In w (cond b xs (x ∷ xs)) → In w (x ∷ xs)
in_either true x xs w i = inr i
in_either false x xs w i = i

-- no number that is out is above the last slot's
pub last_most : (ss : List Slot) (s : Slot) (i : ℕ) → i < length ss → length ss ≤ i + 1 → s ≡ get_or ss i s → Ascends (numbers ss) → (w : Sent) → In w (out_of ss) → w.op ≤ s.sent.op
last_most [] s i l m e a w o = absurd (omega arith)
last_most (x ∷ []) s zero l m e a w o = elim (in_either x.done x.sent [] w o) [ inl same ↦ omega (arith, ap (λ (v : Sent). v.op) same, ap (λ (t : Slot). t.sent.op) e) | inr none ↦ absurd none ]
last_most (x ∷ []) s (suc i) l m e a w o = absurd (omega arith)
last_most (x ∷ y ∷ ys) s zero l m e a w o = absurd (omega arith)
last_most (x ∷ y ∷ ys) s (suc i) l m e a w o = elim (in_either x.done x.sent (out_of (y ∷ ys)) w o) [
  | inl same ↦ omega (arith, ap (λ (v : Sent). v.op) same, rises_each x.sent.op (numbers (y ∷ ys)) i a (omega (arith, numbers_long (y ∷ ys))), number_at (y ∷ ys) i s (omega arith) e)
  | inr there ↦ last_most (y ∷ ys) s i (omega arith) (omega arith) e (rises_ascend x.sent.op (numbers (y ∷ ys)) a) w there
]

-- and that is one of them
pub last_out : (ss : List Slot) (s : Slot) (i : ℕ) → i < length ss → length ss ≤ i + 1 → s ≡ get_or ss i s → EndsOut ss → In s.sent (out_of ss)
last_out [] s i l m e d = absurd (omega arith)
last_out (x ∷ []) s zero l m e d = subst (λ (t : Slot). In t.sent (out_of (x ∷ []))) (sym e) (subst (λ (m : List Sent). In x.sent m) (sym (out_at x [] d)) (inl refl))
last_out (x ∷ []) s (suc i) l m e d = absurd (omega arith)
last_out (x ∷ y ∷ ys) s zero l m e d = absurd (omega arith)
last_out (x ∷ y ∷ ys) s (suc i) l m e d = in_out x.done x.sent (out_of (y ∷ ys)) s.sent (last_out (y ∷ ys) s i (omega arith) (omega arith) e d)
