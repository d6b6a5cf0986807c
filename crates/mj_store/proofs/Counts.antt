-- What is known of listed operations and of counted faults, call by call.
use Rattle.std.proofs.Common.{◌≡◌, ◌≢◌, ◌⊎◌, inl, inr, ℕ, ◌<◌, ◌≤◌, ◌+◌, ◌==◌, false, List, [], ◌∷◌, length, refl, sym, ◌∙◌, ap, subst, arith}
use Rattle.std.proofs.lemmas.Bool.{cases_eq, eq-eqb, ne_eqb, cond-true, cond-false}
use Rattle.mj_base.specs.Counts.{Rose}
use Rattle.mj_store.specs.declared.answer.Ack.{Ack}
use Rattle.mj_store.specs.Causes.{Listed, In, Reports, Counted, AllBelow, with_listed, unlisted}
use Rattle.mj_store.proofs.Numbers.{in_append}

-- ---- lists

unlisted_here : (op : ℕ) (l : Listed) (list : List Listed) → l.op ≡ op → unlisted op (l ∷ list) ≡ list
unlisted_here op l list e = cond-true (l.op == op) list (l ∷ unlisted op list) (eq-eqb l.op op e)

unlisted_there : (op : ℕ) (l : Listed) (list : List Listed) → l.op ≢ op → unlisted op (l ∷ list) ≡ l ∷ unlisted op list
unlisted_there op l list e = cond-false (l.op == op) list (l ∷ unlisted op list) (ne_eqb l.op op e)

-- what stays listed was listed
pub in_unlisted : (op : ℕ) (l : Listed) (list : List Listed) → In l (unlisted op list) → In l list
in_unlisted op l [] h = h
in_unlisted op l (x ∷ list) h = elim (cases_eq x.op op) [
  | inl e ↦ inr (subst (In l) (unlisted_here op x list e) h)
  | inr ne ↦ elim (subst (In l) (unlisted_there op x list ne) h) [ inl e ↦ inl e | inr i ↦ inr (in_unlisted op l list i) ]
]

-- another number stays listed
pub still_listed : (op : ℕ) (l : Listed) (list : List Listed) → l.op ≢ op → In l list → In l (unlisted op list)
still_listed op l [] ne h = h
still_listed op l (x ∷ list) ne h = elim (cases_eq x.op op) [
  | inl e ↦ subst (In l) (sym (unlisted_here op x list e)) (elim h [ inl is ↦ absurd (ne (ap (λ (y : Listed). y.op) (sym is) ∙ e)) | inr i ↦ i ])
  | inr other ↦ subst (In l) (sym (unlisted_there op x list other)) (elim h [ inl is ↦ inl is | inr i ↦ inr (still_listed op l list ne i) ])
]

-- one is taken out
pub length-unlisted : (op count : ℕ) (list : List Listed) → In (record { op = op; count = count }) list → length (unlisted op list) + 1 ≡ length list
length-unlisted op count [] h = absurd h
length-unlisted op count (x ∷ list) h = elim (cases_eq x.op op) [
  | inl e ↦ ap (λ (xs : List Listed). length xs + 1) (unlisted_here op x list e) ∙ (omega arith)
  | inr ne ↦ ap (λ (xs : List Listed). length xs + 1) (unlisted_there op x list ne)
      ∙ elim h as (λ z. length (x ∷ unlisted op list) + 1 ≡ length (x ∷ list)) [
        | inl is ↦ absurd (ne (ap (λ (y : Listed). y.op) is))
        | inr i ↦ let n = length-unlisted op count list i in omega (arith, n)
      ]
]

pub shorter_reported : (ack : Ack) (now : ℕ) (old new : List Listed) → Reports ack now old new → length new + 1 ≡ length old
shorter_reported ack now old new r = ap (λ (xs : List Listed). length xs + 1) r.rest ∙ length-unlisted ack.op r.count old r.was

pub in_listed : (op count : ℕ) (l : Listed) (list : List Listed) → In l (with_listed op count list) → In l list ⊎ (l ≡ record { op = op; count = count })
in_listed op count l list h = elim (in_append l list (record { op = op; count = count } ∷ []) h) [ inl a ↦ inl a | inr b ↦ elim b [ inl e ↦ inr (sym e) | inr z ↦ absurd z ] ]

pub listed_in : (op count : ℕ) (l : Listed) (list : List Listed) → In l list → In l (with_listed op count list)
listed_in op count l [] h = absurd h
listed_in op count l (x ∷ list) (inl e) = inl e
listed_in op count l (x ∷ list) (inr i) = inr (listed_in op count l list i)

pub listed_last : (op count : ℕ) (list : List Listed) → In (record { op = op; count = count }) (with_listed op count list)
listed_last op count [] = inl refl
listed_last op count (x ∷ list) = inr (listed_last op count list)

-- Numbers rise where each is listed above all before it, and then what is reported is listed no more.
abbrev pub Rising : List Listed → Type 0
Rising [] = Unit {0}
Rising (l ∷ list) = ((m : Listed) → In m list → l.op < m.op) × Rising list

pub rising_listed : (op count : ℕ) (list : List Listed) → AllBelow op list → Rising list → Rising (with_listed op count list)
rising_listed op count [] below r = (λ m h. absurd h, tt)
rising_listed op count (l ∷ list) below r = (
  λ m h. elim (in_listed op count m list h) [ inl i ↦ r.0 m i | inr e ↦ subst (λ (x : Listed). l.op < x.op) (sym e) (below l (inl refl)) ],
  rising_listed op count list (λ m i. below m (inr i)) r.1,
)

pub rising_unlisted : (op : ℕ) (list : List Listed) → Rising list → Rising (unlisted op list)
rising_unlisted op [] r = r
rising_unlisted op (l ∷ list) r = elim (cases_eq l.op op) [
  | inl e ↦ subst Rising (sym (unlisted_here op l list e)) r.1
  | inr ne ↦ subst Rising (sym (unlisted_there op l list ne)) (λ m i. r.0 m (in_unlisted op m list i), rising_unlisted op list r.1)
]

pub not_listed : (op : ℕ) (list : List Listed) → Rising list → (l : Listed) → In l (unlisted op list) → l.op ≢ op
not_listed op [] r l h e = h
not_listed op (x ∷ list) r l h e = elim (cases_eq x.op op) [
  | inl is ↦ let i = subst (In l) (unlisted_here op x list is) h in omega (arith, r.0 l i, is, e)
  | inr ne ↦ elim (subst (In l) (unlisted_there op x list ne) h) [
    | inl is ↦ ne (ap (λ (y : Listed). y.op) is ∙ e)
    | inr i ↦ not_listed op list r.1 l i e
  ]
]

-- the number that is listed last was not listed before
pub only_new : (number faults before : ℕ) (list : List Listed) → AllBelow number list → before ≤ faults → (count : ℕ) → In (record { op = number; count = count }) (with_listed number faults list) → before ≤ count
only_new number faults before list below le count i = elim (in_listed number faults (record { op = number; count = count }) list i) [
  | inl old ↦ absurd (omega (arith, below (record { op = number; count = count }) old))
  | inr is ↦ subst (λ n. before ≤ n) (sym (ap (λ (l : Listed). l.count) is)) le
]

-- ---- counts

pub rose_since : (base before now : ℕ) → base ≤ before → Rose before now → Rose base now
rose_since base before now le r = omega (arith, le, r)

pub rose_later : (before now later : ℕ) → now ≤ later → Rose before now → Rose before later
rose_later before now later le r = omega (arith, le, r)

pub counted_same : {base faults faults' : ℕ} {list list' : List Listed} → faults ≤ faults' → list' ≡ list → Counted base faults list → Counted base faults' list'
counted_same {base = base} {list' = list'} le same c = record { later = omega (arith, c.later, le); since = λ l i. c.since l (subst (In l) same i) }

pub counted_listed : {base faults faults' : ℕ} {list list' : List Listed} (op : ℕ) → faults ≤ faults' → list' ≡ with_listed op faults' list → Counted base faults list → Counted base faults' list'
counted_listed {base = base} {faults' = faults'} {list = list} op le is c = record {
  later = omega (arith, c.later, le);
  since = λ l i. elim (in_listed op faults' l list (subst (In l) is i)) [ inl j ↦ c.since l j | inr e ↦ subst (λ (x : Listed). base ≤ x.count) (sym e) (omega (arith, c.later, le)) ];
}

pub counted_reported : {base faults faults' : ℕ} {list list' : List Listed} (ack : Ack) → faults ≤ faults' → Reports ack faults' list list' → Counted base faults list → Counted base faults' list'
counted_reported {list = list} ack le r c = record {
  later = omega (arith, c.later, le);
  since = λ l i. c.since l (in_unlisted ack.op l list (subst (In l) r.rest i));
}

pub counted_none : {base faults faults' : ℕ} {list list' : List Listed} → faults ≤ faults' → list' ≡ [] → Counted base faults list → Counted base faults' list'
counted_none le is c = record { later = omega (arith, c.later, le); since = λ l i. absurd (subst (In l) is i) }

-- at the start of what is counted
pub counted_begins : (faults : ℕ) → Counted faults faults []
counted_begins faults = record { later = omega arith; since = λ l i. absurd i }

-- what is not done has its cause since then
pub cause_reported : {base faults faults' : ℕ} {list list' : List Listed} (ack : Ack) → Reports ack faults' list list' → Counted base faults list → ack.done ≡ false → Rose base faults'
cause_reported {base = base} {faults' = faults'} ack r c not = rose_since base r.count faults' (c.since (record { op = ack.op; count = r.count }) r.was) (r.cause not)
