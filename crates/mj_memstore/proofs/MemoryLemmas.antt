-- What a store in memory keeps, event by event, and what it then tells.
use Rattle.std.proofs.Common.{◌≡◌, ℕ, ◌+◌, ◌<◌, ◌≤◌, ◌==◌, Bool, true, false, cond, List, [], ◌∷◌, ◌++◌, length, drop, refl, sym, ap, subst, ◌∙◌, inl, inr, arith, length-append, append_assoc}
use Rattle.std.specs.Prelude.{option_to_list, is_some}
use Rattle.std.proofs.lemmas.Bool.{cases_eq, eq-eqb, ne_eqb, cond-true, cond-false}
use Rattle.mj_base.specs.Counts.{Rose}
use Rattle.mj_base.specs.declared.object.ObjectName.{ObjectName}
use Rattle.mj_maps.specs.Map.{passing}
use Rattle.mj_store.specs.declared.act.ObjectAct.{ObjectAct}
use Rattle.mj_store.specs.declared.answer.Ack.{Ack}
use Rattle.mj_store.specs.Object.{put}
use Rattle.mj_store.specs.State.{StoreState, Object, Pending, with_op, submitted}
use Rattle.mj_store.specs.Causes.{Listed, In, Reports, with_listed, unlisted}
use Rattle.mj_store.proofs.Numbers.{in_append}
use Rattle.mj_store.proofs.Counts.{in_listed, in_unlisted, length-unlisted, rose_later}
use Rattle.mj_memstore.specs.HeldView.{HeldView, object_of}
use Rattle.mj_memstore.specs.Memory.{Entries, object_in, state_of, waits, waiting_count, times_tried, times_listed, IsMemory, TriesFirst, Changes, Places}
use Rattle.mj_memstore.proofs.ObjectsLemmas.{objects_changed, object_was, sums_changed, named_changed, named_found}

passing-append : {A : Type 0} (p : A → Bool) (xs ys : List A) → passing p (xs ++ ys) ≡ passing p xs + passing p ys
passing-append p [] ys = omega arith
passing-append p (x ∷ xs) ys = let n = passing-append p xs ys in omega (arith, n)

abbrev one_if : Bool → ℕ
one_if b = cond b 1 0

is_one : (b : Bool) → b ≡ true → one_if b ≡ 1
is_one true e = refl
is_one false e = absurd cc

is_none : (b : Bool) → b ≡ false → one_if b ≡ 0
is_none true e = absurd cc
is_none false e = refl

-- ---- listed numbers

counted_in : (op : ℕ) (list : List Listed) → 0 < times_listed op list → (count : ℕ) × In (record { op = op; count = count }) list
counted_in op [] lt = absurd (omega arith)
counted_in op (l ∷ list) lt = elim (cases_eq l.op op) [
  | inl e ↦ (l.count, inl (ap (λ (n : ℕ). let m : Listed = record { op = n; count = l.count } in m) e))
  | inr ne ↦
      let here = is_none (l.op == op) (ne_eqb l.op op ne) in
      let rest = counted_in op list (omega (arith, lt, here)) in
      (rest.0, inr rest.1)
]

unlisted_times : (op n : ℕ) (list : List Listed) → 0 < times_listed op list → times_listed n (unlisted op list) + cond (op == n) 1 0 ≡ times_listed n list
unlisted_times op n [] lt = absurd (omega arith)
unlisted_times op n (l ∷ list) lt = elim (cases_eq l.op op) [
  | inl e ↦
      ap (λ (xs : List Listed). times_listed n xs + cond (op == n) 1 0) (cond-true (l.op == op) list (l ∷ unlisted op list) (eq-eqb l.op op e))
      ∙ ap (λ k. times_listed n list + cond (k == n) 1 0) (sym e) ∙ omega arith
  | inr ne ↦
      let here = is_none (l.op == op) (ne_eqb l.op op ne) in
      let rest = unlisted_times op n list (omega (arith, lt, here)) in
      ap (λ (xs : List Listed). times_listed n xs + cond (op == n) 1 0) (cond-false (l.op == op) list (l ∷ unlisted op list) (ne_eqb l.op op ne)) ∙ omega (arith, rest)
]

-- ---- events

-- faults are counted
pub memory_counted : (es : Entries) (acks : List Ack) (list : List Listed) (last faults faults' room : ℕ) → faults ≤ faults' → IsMemory es acks list last faults room → IsMemory es acks list last faults' room
memory_counted es acks list last faults faults' room le m = record {
  named = m.named;
  each = m.each;
  sizes = m.sizes;
  space = m.space;
  below = m.below;
  counts = λ l i. omega (arith, m.counts l i, le);
  failed = λ a i d l j k. rose_later l.count faults faults' le (m.failed a i d l j k);
}

-- the room stays
pub memory_room : (es : Entries) (acks : List Ack) (list : List Listed) (last faults room room' : ℕ) → room' ≡ room → IsMemory es acks list last faults room → IsMemory es acks list last faults room'
memory_room es acks list last faults room room' e m = subst (IsMemory es acks list last faults) (sym e) m

-- a place is made, and room
pub memory_placed : (name : ObjectName) (old new : Entries) (acks : List Ack) (list : List Listed) (last faults room room' : ℕ) → Places name old new → room ≤ room' → IsMemory old acks list last faults room → IsMemory new acks list last faults room'
memory_placed name old new acks list last faults room room' p le m = record {
  named = p.named m.named;
  each = λ op. ap (λ k. k + times_tried op acks) (p.sums (waits op) refl) ∙ m.each op;
  sizes = ap (λ k. k + length acks) (p.sums waiting_count refl) ∙ m.sizes;
  space = omega (arith, m.space, le);
  below = m.below;
  counts = m.counts;
  failed = m.failed;
}

abbrev pub waiting_more : HeldView → ℕ → ObjectAct → HeldView
waiting_more v op act = record v { waiting = v.waiting ++ record { op = op; act = act } ∷ [] }

-- an operation is submitted
pub memory_submitted : (name : ObjectName) (v : HeldView) (act : ObjectAct) (old new : Entries) (acks : List Ack) (list : List Listed) (last faults room : ℕ) → Changes name v (waiting_more v (last + 1) act) old new → length list + 1 ≤ room
    → IsMemory old acks list last faults room → IsMemory new acks (with_listed (last + 1) faults list) (last + 1) faults room
memory_submitted name v act old new acks list last faults room c le m =
    let w = waiting_more v (last + 1) act in
    let p : Pending = record { op = last + 1; act = act } in
    let entry : Listed = record { op = last + 1; count = faults } in
    record {
      named = let n = named_found name old v c.was m.named in named_changed name v w old new c (record { same = n.same; sound = n.sound }) m.named;
      each = λ op.
          let s = sums_changed name v w old new c (waits op) in
          let q = passing-append (λ (x : Pending). x.op == op) v.waiting (p ∷ []) in
          let t = passing-append (λ (x : Listed). x.op == op) list (entry ∷ []) in
          omega (arith, s, q, t, m.each op);
      sizes =
          let s = sums_changed name v w old new c waiting_count in
          let q = length-append v.waiting (p ∷ []) in
          let t = length-append list (entry ∷ []) in
          omega (arith, s, q, t, m.sizes);
      space = let t = length-append list (entry ∷ []) in omega (arith, t, le);
      below = λ l i. elim (in_listed (last + 1) faults l list i) [ inl j ↦ omega (arith, m.below l j) | inr e ↦ let f = ap (λ (x : Listed). x.op) e in omega (arith, f) ];
      counts = λ l i. elim (in_listed (last + 1) faults l list i) [ inl j ↦ m.counts l j | inr e ↦ let f = ap (λ (x : Listed). x.count) e in omega (arith, f) ];
      failed = λ a i d l j k. elim (in_listed (last + 1) faults l list j) [
        | inl h ↦ m.failed a i d l h k
        | inr e ↦ let f = ap (λ (x : Listed). x.op) e in absurd (tried_below a i (omega (arith, f, k)))
      ];
    }
  where
    some_tried : (acks : List Ack) (a : Ack) → In a acks → 0 < times_tried a.op acks
    some_tried [] a i = absurd i
    some_tried (x ∷ acks) a (inl e) = let t = is_one (x.op == a.op) (eq-eqb x.op a.op (ap (λ (y : Ack). y.op) e)) in omega (arith, t)
    some_tried (x ∷ acks) a (inr i) = let t = some_tried acks a i in omega (arith, t)

    tried_below : (a : Ack) → In a acks → last + 1 ≤ a.op → ⊥
    tried_below a i ge =
        let some = some_tried acks a i in
        let each = m.each a.op in
        let listed = counted_in a.op list (omega (arith, some, each)) in
        let lt = m.below (record { op = a.op; count = listed.0 }) listed.1 in
        omega (arith, lt, ge)

-- ---- a first operation is tried

waiting_first : (v w : HeldView) (op : ℕ) (act : ObjectAct) → v.waiting ≡ record { op = op; act = act } ∷ drop 1 v.waiting → w.waiting ≡ drop 1 v.waiting → (n : ℕ) → waits n v ≡ cond (op == n) 1 0 + waits n w
waiting_first v w op act e f n = ap (passing (λ (p : Pending). p.op == n)) e ∙ ap (λ (ps : List Pending). cond (op == n) 1 0 + passing (λ (p : Pending). p.op == n) ps) (sym f)

count_first : (v w : HeldView) (op : ℕ) (act : ObjectAct) → v.waiting ≡ record { op = op; act = act } ∷ drop 1 v.waiting → w.waiting ≡ drop 1 v.waiting → waiting_count v ≡ waiting_count w + 1
count_first v w op act e f = let a = ap (λ (ps : List Pending). length ps) e in let b = ap (λ (ps : List Pending). length ps) f in omega (arith, a, b)

-- the waiting list and the name, whether it is applied or fails
pub tried_parts : (v w : HeldView) (ack : Ack) → TriesFirst v w ack → (w.waiting ≡ drop 1 v.waiting) × (w.name ≡ v.name)
tried_parts v w ack t = elim ack.done as (λ b. ack.done ≡ b → (w.waiting ≡ drop 1 v.waiting) × (w.name ≡ v.name)) [
  | true ↦ λ e. let a = t.applied e in (a.waiting, a.name)
  | false ↦ λ e. let f = t.failed e in (f.waiting, f.name)
] refl

pub memory_tried : (name : ObjectName) (v w : HeldView) (ack : Ack) (old new : Entries) (acks : List Ack) (list : List Listed) (last faults room : ℕ) → TriesFirst v w ack → Changes name v w old new
    → (ack.done ≡ false → (l : Listed) → In l list → Rose l.count faults) → IsMemory old acks list last faults room → IsMemory new (acks ++ ack ∷ []) list last faults room
memory_tried name v w ack old new acks list last faults room t c rises m =
    let parts = tried_parts v w ack t in
    record {
      named = named_changed name v w old new c (record { same = parts.1 ∙ (named_found name old v c.was m.named).same; sound = t.sound }) m.named;
      each = λ op.
          let s = sums_changed name v w old new c (waits op) in
          let f = waiting_first v w ack.op t.first.act t.first.first parts.0 op in
          let q = passing-append (λ (a : Ack). a.op == op) acks (ack ∷ []) in
          omega (arith, s, f, q, m.each op);
      sizes =
          let s = sums_changed name v w old new c waiting_count in
          let f = count_first v w ack.op t.first.act t.first.first parts.0 in
          let q = length-append acks (ack ∷ []) in
          omega (arith, s, f, q, m.sizes);
      space = m.space;
      below = m.below;
      counts = m.counts;
      failed = λ a i d l j k. elim (in_append a acks (ack ∷ []) i) [
        | inl h ↦ m.failed a h d l j k
        | inr h ↦ elim h [ inl e ↦ rises (ap (λ (x : Ack). x.done) e ∙ d) l j | inr z ↦ absurd z ]
      ];
    }

-- there was room for its report
pub tried_room : (name : ObjectName) (v w : HeldView) (ack : Ack) (old new : Entries) (acks : List Ack) (list : List Listed) (last faults room : ℕ) → TriesFirst v w ack → Changes name v w old new → IsMemory old acks list last faults room → length acks < room
tried_room name v w ack old new acks list last faults room t c m =
    let parts = tried_parts v w ack t in
    let s = sums_changed name v w old new c waiting_count in
    let f = count_first v w ack.op t.first.act t.first.first parts.0 in
    omega (arith, s, f, m.sizes, m.space)

-- ---- a report is taken

in_rest : (a ack : Ack) (acks rest : List Ack) → acks ≡ ack ∷ rest → In a rest → In a acks
in_rest a ack acks rest e i = subst (In a) (sym e) (inr i)

first_tried : (ack : Ack) (acks rest : List Ack) → acks ≡ ack ∷ rest → (n : ℕ) → times_tried n acks ≡ cond (ack.op == n) 1 0 + times_tried n rest
first_tried ack acks rest e n = ap (times_tried n) e

report_listed : (es : Entries) (ack : Ack) (acks rest : List Ack) (list : List Listed) (last faults room : ℕ) → acks ≡ ack ∷ rest → IsMemory es acks list last faults room → 0 < times_listed ack.op list
report_listed es ack acks rest list last faults room e m =
    let f = first_tried ack acks rest e ack.op in
    let one = is_one (ack.op == ack.op) (eq-eqb ack.op ack.op refl) in
    omega (arith, f, one, m.each ack.op)

pub memory_reports : (es : Entries) (ack : Ack) (acks rest : List Ack) (list : List Listed) (last faults room : ℕ) → acks ≡ ack ∷ rest → IsMemory es acks list last faults room → Reports ack faults list (unlisted ack.op list)
memory_reports es ack acks rest list last faults room e m =
    let was = counted_in ack.op list (report_listed es ack acks rest list last faults room e m) in
    record {
      count = was.0;
      was = was.1;
      cause = λ d. m.failed ack (subst (In ack) (sym e) (inl refl)) d (record { op = ack.op; count = was.0 }) was.1 (omega arith);
      rest = refl;
    }

pub memory_reaped : (es : Entries) (ack : Ack) (acks rest : List Ack) (list : List Listed) (last faults room : ℕ) → acks ≡ ack ∷ rest → IsMemory es acks list last faults room → IsMemory es rest (unlisted ack.op list) last faults room
memory_reaped es ack acks rest list last faults room e m =
    let listed = report_listed es ack acks rest list last faults room e m in
    let was = counted_in ack.op list listed in
    let len = length-unlisted ack.op was.0 list was.1 in
    record {
      named = m.named;
      each = λ n.
          let f = first_tried ack acks rest e n in
          let u = unlisted_times ack.op n list listed in
          omega (arith, f, u, m.each n);
      sizes = let a = ap (λ (xs : List Ack). length xs) e in omega (arith, a, len, m.sizes);
      space = omega (arith, len, m.space);
      below = λ l i. m.below l (in_unlisted ack.op l list i);
      counts = λ l i. m.counts l (in_unlisted ack.op l list i);
      failed = λ a i d l j k. m.failed a (in_rest a ack acks rest e i) d l (in_unlisted ack.op l list j) k;
    }

-- ---- what it tells

abbrev make_state : (ObjectName → Object) → List Ack → ℕ → StoreState
make_state objects acks next = record { objects = objects; completed = acks; next = next }

pub same_state : (f g : ObjectName → Object) (a b : List Ack) (n : ℕ) → f ≡ g → a ≡ b → make_state f a n ≡ make_state g b n
same_state f g a b n e h = rw (e, h) refl

asked_is : (v : HeldView) (op : ℕ) (act : ObjectAct) → object_of (waiting_more v op act) ≡ with_op (object_of v) op act
asked_is v op act = ap (λ (ps : List Pending). let o : Object = record { held = (object_of v).held; pending = ps; blocked = is_some v.failed } in o) (sym (append_assoc (option_to_list v.failed) v.waiting (record { op = op; act = act } ∷ [])))

pub submitted_state : (name : ObjectName) (v : HeldView) (act : ObjectAct) (old mid new : Entries) (acks acks' : List Ack) (last : ℕ) → Changes name v (waiting_more v (last + 1) act) mid new → object_in mid ≡ object_in old → acks' ≡ acks
    → state_of new acks' (last + 1) ≡ submitted (record { name = name; act = act }) (last + 1) (state_of old acks last)
submitted_state name v act old mid new acks acks' last c same done =
    same_state (object_in new) _ acks' acks (last + 1 + 1)
    (objects_changed name v (waiting_more v (last + 1) act) mid new c
    ∙ ap (put (object_in mid) name) (asked_is v (last + 1) act ∙ ap (λ (o : Object). with_op o (last + 1) act) (sym (object_was name v (waiting_more v (last + 1) act) mid new c)))
    ∙ ap (λ (f : ObjectName → Object). put f name (with_op (f name) (last + 1) act)) same)
    done
