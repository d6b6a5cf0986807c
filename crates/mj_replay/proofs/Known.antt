-- Directories that are the root, stray or given, and those of the lumps of writes.
use Rattle.std.proofs.Common.{◌≡◌, ◌≢◌, ℕ, ◌+◌, ◌==◌, ◌<◌, ◌≤◌, Bool, true, false, cond, ◌&&◌, ◌||◌, not, List, [], ◌∷◌, ◌++◌, append-nil, drop, get_or, length, Option, Some, None, refl, sym, ap, subst, ◌∙◌, inl, inr, arith}
use Rattle.std.specs.Prelude.{nat_lt, nat_le}
use Rattle.std.specs.List.{filter, list_all, cons_option}
use Rattle.std.proofs.Math.Bool.{and_assoc, and-true}
use Rattle.std.proofs.lemmas.Bool.{and_parts, eq-eqb, ne_eqb, lt-ltb, le-leb, lt-leb, ltb-true}
use Rattle.std.proofs.lemmas.List.{at_drop_more}
use Rattle.std.proofs.lemmas.Grind.{flat_map-append}
use Rattle.std.proofs.lemmas.List.Folds.{list_all-append}
use Rattle.mj_base.specs.ObjectName.{stray_ino, first_ino}
use Rattle.mj_tree.specs.State.{root}
use Rattle.mj_cells.specs.declared.cell.CellWrite.{CellWrite}
use Rattle.mj_event.specs.Writes.{writes_of}
use Rattle.mj_recovery.specs.declared.journal.LiveEvent.{LiveEvent}
use Rattle.mj_recovery.specs.Damage.{head_written, is_given, is_known, lump_dirs}
use Rattle.mj_recovery.specs.Journal.{journal_writes}
use Rattle.mj_recovery.specs.Orderly.{IsOwn}
use Rattle.mj_recovery.proofs.BadObjects.{lumps-append}
use Rattle.mj_delta.proofs.Lists.{Lies}
use Rattle.mj_replay.specs.Lumps.{lumps_known}

-- ---- all of a list

pub all_at : (p : ℕ → Bool) (xs : List ℕ) → list_all p xs ≡ true → (x : ℕ) → Lies x xs → p x ≡ true
all_at p [] e x l = absurd l
all_at p (y ∷ ys) e x (inl same) = subst (λ z. p z ≡ true) same (and_parts (p y) (list_all p ys) e).0
all_at p (y ∷ ys) e x (inr l) = all_at p ys (and_parts (p y) (list_all p ys) e).1 x l

pub at_all : (p : ℕ → Bool) (xs : List ℕ) → ((x : ℕ) → Lies x xs → p x ≡ true) → list_all p xs ≡ true
at_all p [] h = refl
at_all p (x ∷ xs) h = rw (h x (inl refl)) (at_all p xs (λ y l. h y (inr l)))

pub none_out : (p : ℕ → Bool) (xs : List ℕ) → list_all p xs ≡ true → filter (λ x. not (p x)) xs ≡ []
none_out p [] e = refl
none_out p (x ∷ xs) e = let b = and_parts (p x) (list_all p xs) e in rw b.0 (none_out p xs b.1)

pub all_in : (p : ℕ → Bool) (xs : List ℕ) → filter (λ x. not (p x)) xs ≡ [] → list_all p xs ≡ true
all_in p [] = λ e. refl
all_in p (x ∷ xs) = elim (p x) as (λ b. cond (not b) (x ∷ filter (λ x. not (p x)) xs) (filter (λ x. not (p x)) xs) ≡ [] → (b && list_all p xs) ≡ true) [
  | true ↦ λ e. all_in p xs e
  | false ↦ λ e. absurd cc
]

-- ---- what is known

second_of : (a c : Bool) → (a || true || c) ≡ true
second_of true c = refl
second_of false c = refl

third_of : (a b : Bool) → (a || b || true) ≡ true
third_of true b = refl
third_of false true = refl
third_of false false = refl

given_is : (rank next d : ℕ) → first_ino rank ≤ d → d < next → is_given rank next d ≡ true
given_is rank next d le lt = λ i. le-leb (first_ino rank) d le i && lt-ltb d next lt i

pub own_known : (rank next d : ℕ) → IsOwn rank next d → is_known rank next d ≡ true
own_known rank next d (inl e) = rw (eq-eqb d root e) refl
own_known rank next d (inr (inl e)) = ap (λ b. (d == root) || b || is_given rank next d) (eq-eqb d (stray_ino rank) e) ∙ second_of (d == root) (is_given rank next d)
own_known rank next d (inr (inr g)) = ap (λ b. (d == root) || (d == stray_ino rank) || b) (given_is rank next d g.0 g.1) ∙ third_of (d == root) (d == stray_ino rank)

pub low_unknown : (rank next d : ℕ) → d ≢ root → d ≢ stray_ino rank → d < first_ino rank → is_known rank next d ≡ false
low_unknown rank next d a b lt = λ i. ne_eqb d root a i || ne_eqb d (stray_ino rank) b i || (not_le i && nat_lt d next)
  where
    not_le : nat_le (first_ino rank) d ≡ false
    not_le = lt-leb (first_ino rank) d lt

pub high_known : (rank next d : ℕ) → d ≢ root → d ≢ stray_ino rank → first_ino rank ≤ d → is_known rank next d ≡ nat_lt d next
high_known rank next d a b le = λ i. ne_eqb d root a i || ne_eqb d (stray_ino rank) b i || (le-leb (first_ino rank) d le i && nat_lt d next)

-- ---- the greatest of two

pub upper_below : (a b next : ℕ) → a < b → nat_lt b next ≡ (nat_lt b next && nat_lt a next)
upper_below a b next h = elim (nat_lt b next) as (λ x. nat_lt b next ≡ x → x ≡ (x && nat_lt a next)) [
  | true ↦ λ e. let l = ltb-true b next e in sym (lt-ltb a next (omega (arith, l, h)))
  | false ↦ λ e. refl
] refl

pub lower_below : (a b next : ℕ) → b ≤ a → nat_lt a next ≡ (nat_lt b next && nat_lt a next)
lower_below a b next h = elim (nat_lt a next) as (λ x. nat_lt a next ≡ x → x ≡ (nat_lt b next && x)) [
  | true ↦ λ e. let l = ltb-true a next e in sym (ap (λ y. y && true) (lt-ltb b next (omega (arith, l, h))))
  | false ↦ λ e. none (nat_lt b next)
] refl
  where
    none : (y : Bool) → false ≡ (y && false)
    none true = refl
    none false = refl

-- ---- one write

pub known_head : (rank next d : ℕ) (w : CellWrite) → Some d ≡ head_written w → is_known rank next d ≡ lumps_known rank next (w ∷ [])
known_head rank next d w e = sym (ap (λ (o : Option ℕ). list_all (is_known rank next) (cons_option o [])) (sym e) ∙ and-true (is_known rank next d))

pub known_other : (rank next : ℕ) (w : CellWrite) → None ≡ head_written w → true ≡ lumps_known rank next (w ∷ [])
known_other rank next w e = ap (λ (o : Option ℕ). list_all (is_known rank next) (cons_option o [])) e

-- ---- writes one behind the other

pub known_both : (rank next : ℕ) (xs ys : List CellWrite) → lumps_known rank next (xs ++ ys) ≡ (lumps_known rank next xs && lumps_known rank next ys)
known_both rank next xs ys = ap (list_all (is_known rank next)) (lumps-append xs ys) ∙ list_all-append (is_known rank next) (lump_dirs xs) (lump_dirs ys)

pub write_more : (rank next : ℕ) (ws : List CellWrite) (i : ℕ) (w : CellWrite) (old new all : Bool) → i < length ws → w ≡ get_or ws i w → new ≡ (old && lumps_known rank next (w ∷ []))
    → (old && lumps_known rank next (drop i ws)) ≡ all → (new && lumps_known rank next (drop (i + 1) ws)) ≡ all
write_more rank next ws i w old new all lt at is h =
    let rest = drop (i + 1) ws in
    ap (λ b. b && lumps_known rank next rest) is ∙ and_assoc old (lumps_known rank next (w ∷ [])) (lumps_known rank next rest)
    ∙ ap (λ b. old && b) (sym (known_both rank next (w ∷ []) rest) ∙ sym (at_drop_more (lumps_known rank next) ws i w lt ∙ ap (λ x. lumps_known rank next (x ∷ rest)) (sym at))) ∙ h

-- an event behind others
pub event_behind : (events : List LiveEvent) (e : LiveEvent) → journal_writes (events ++ e ∷ []) ≡ journal_writes events ++ writes_of e.event
event_behind events e = flat_map-append (λ (x : LiveEvent). writes_of x.event) events (e ∷ []) ∙ ap (λ (ws : List CellWrite). journal_writes events ++ ws) (append-nil (writes_of e.event))
