-- Full dentries of which no two carry one inode.
use Rattle.std.proofs.Common.{◌≡◌, ℕ, ◌+◌, ◌≤◌, arith, Bool, true, false, cond, ◌&&◌, ◌||◌, List, [], ◌∷◌, length, Option, Some, None, refl, sym, ap, subst, ◌∙◌}
use Rattle.std.specs.Prelude.{filter, filter_map, ◌==◌, nat_lt}
use Rattle.std.specs.List.{cons_option}
use Rattle.std.specs.Cmp.{unsigned_ties}
use Rattle.std.proofs.lemmas.Bool.{true≢false, eqb-true}
use Rattle.mj_base.specs.Record.{same_kind}
use Rattle.mj_base.specs.declared.record.Kind.{Kind}
use Rattle.mj_base.specs.declared.record.InodeRecord.{InodeRecord}
use Rattle.mj_maps.specs.Map.{get, entries, empty, count}
use Rattle.mj_maps.specs.Orders.{nat_cmp}
use Rattle.mj_maps.proofs.MapLaws.{exact_nat, get-insert, get_empty, count-insert_new}
use Rattle.mj_tree.specs.State.{root}
use Rattle.mj_recovery.specs.Tree.{is_among, by_inode}
use Rattle.mj_recovery.specs.Damage.{inos, times, twice, least, is_full_of}
use Rattle.mj_judge.specs.Rows.{if_kind}
use Rattle.mj_judge.proofs.Alike.{least_none, among-filter, times_among}

eq_sym : (a b : ℕ) → (a == b) ≡ (b == a)
eq_sym a b = grind arith

tied : (n : ℕ) → (n == n) ≡ true
tied n = grind arith

and-true : (b : Bool) → (b && true) ≡ b
and-true true = refl
and-true false = refl

and-false : (b : Bool) → (b && false) ≡ false
and-false true = refl
and-false false = refl

or-false : (b : Bool) → (b || false) ≡ b
or-false true = refl
or-false false = refl

right_false : (a b : Bool) → (a || b) ≡ false → b ≡ false
right_false true b e = absurd (true≢false e)
right_false false b e = e

above : (n : ℕ) → nat_lt 0 (n + 1) ≡ true
above n = grind arith

counted_or : (i n : ℕ) (xs : List ℕ) (rest : Bool) → nat_lt 0 (times i xs) ≡ rest → nat_lt 0 (times i (n ∷ xs)) ≡ (((n == i) && true) || rest)
counted_or i n xs rest h = elim (i == n) as (λ b. (i == n) ≡ b → nat_lt 0 (cond b (times i xs + 1) (times i xs)) ≡ (((n == i) && true) || rest)) [
  | true ↦ λ e. above (times i xs) ∙ sym (ap (λ b. (b && true) || rest) (eq_sym n i ∙ e))
  | false ↦ λ e. h ∙ sym (ap (λ b. (b && true) || rest) (eq_sym n i ∙ e))
] refl

passing_none : (p : ℕ → Bool) → count (λ (e : ℕ × InodeRecord). p e.0) (by_inode []) ≡ 0
unfolding entries empty
passing_none p = refl

-- no inode stands there twice
abbrev pub AreDistinct : List ℕ → Type 0
AreDistinct xs = (n : ℕ) → times n xs ≤ 1

at_most_one : (n : ℕ) → nat_lt 0 n ≡ false → n ≤ 1
at_most_one n h = grind (arith, h)

-- where the row finds none, no two are of one inode
pub distinct : (xs : List ℕ) → least (twice xs) ≡ None → AreDistinct xs
distinct xs none n =
    let out : ((n == root) || nat_lt 1 (times n xs)) && is_among xs n ≡ false = sym (among-filter (λ i. (i == root) || nat_lt 1 (times i xs)) xs n) ∙ ap (λ (ys : List ℕ). is_among ys n) (least_none (twice xs) none) in
    elim (is_among xs n) as (λ b. is_among xs n ≡ b → times n xs ≤ 1) [
      | true ↦ λ e.
          let not_twice : nat_lt 1 (times n xs) ≡ false = right_false (n == root) (nat_lt 1 (times n xs)) (sym (ap (λ b. ((n == root) || nat_lt 1 (times n xs)) && b) e ∙ and-true _) ∙ out) in
          grind (arith, not_twice)
      | false ↦ λ e. let none : nat_lt 0 (times n xs) ≡ false = times_among n xs ∙ e in at_most_one (times n xs) none
    ] refl

later_distinct : (x : ℕ) (xs : List ℕ) → AreDistinct (x ∷ xs) → AreDistinct xs
later_distinct x xs h n = elim (n == x) as (λ b. (n == x) ≡ b → times n xs ≤ 1) [
  | true ↦ λ e. let k : times n xs + 1 ≤ 1 = subst (λ b. cond b (times n xs + 1) (times n xs) ≤ 1) e (h n) in omega (arith, k)
  | false ↦ λ e. subst (λ b. cond b (times n xs + 1) (times n xs) ≤ 1) e (h n)
] refl

-- the first does not stand there again
not_again : (x : ℕ) (xs : List ℕ) → AreDistinct (x ∷ xs) → times x xs ≡ 0
not_again x xs h = let k : times x xs + 1 ≤ 1 = subst (λ b. cond b (times x xs + 1) (times x xs) ≤ 1) (tied x) (h x) in omega (arith, k)

-- ---- a kind

abbrev pub kind_in : Kind → Option InodeRecord → Bool
kind_in kind None = false
kind_in kind (Some r) = same_kind r.kind kind

-- how often the kind's inodes stand there, and whether there is one
pub kind_times : (kind : Kind) (i : ℕ) (rs : List InodeRecord) → nat_lt 0 (times i (filter_map (if_kind kind) rs)) ≡ is_full_of i kind rs
kind_times kind i [] = refl
kind_times kind i (r ∷ rs) = elim (same_kind r.kind kind) as (λ b. nat_lt 0 (times i (cons_option (cond b (Some r.ino) None) (filter_map (if_kind kind) rs))) ≡ (((r.ino == i) && b) || is_full_of i kind rs)) [
  | true ↦ counted_or i r.ino (filter_map (if_kind kind) rs) (is_full_of i kind rs) (kind_times kind i rs)
  | false ↦ kind_times kind i rs ∙ sym (ap (λ b. b || is_full_of i kind rs) (and-false (r.ino == i)))
]

no_kind_times : (kind : Kind) (i : ℕ) (rs : List InodeRecord) → times i (inos rs) ≡ 0 → is_full_of i kind rs ≡ false
no_kind_times kind i [] h = refl
no_kind_times kind i (r ∷ rs) h = elim (i == r.ino) as (λ b. (i == r.ino) ≡ b → cond b (times i (inos rs) + 1) (times i (inos rs)) ≡ 0 → is_full_of i kind (r ∷ rs) ≡ false) [
  | true ↦ λ _ k. absurd (omega (arith, k))
  | false ↦ λ e k. ap (λ b. (b && same_kind r.kind kind) || is_full_of i kind rs) (eq_sym r.ino i ∙ e) ∙ no_kind_times kind i rs k
] refl h

-- of inodes that stand there once, the kind is that of the record by inode
pub kind_by_inode : (kind : Kind) (i : ℕ) (rs : List InodeRecord) → AreDistinct (inos rs) → is_full_of i kind rs ≡ kind_in kind (get (by_inode rs) i)
kind_by_inode kind i [] h = sym (ap (kind_in kind) (get_empty nat_cmp i))
kind_by_inode kind i (r ∷ rs) h = elim (i == r.ino) as (λ b. (i == r.ino) ≡ b → is_full_of i kind (r ∷ rs) ≡ kind_in kind (get (by_inode (r ∷ rs)) i)) [
  | true ↦ λ e.
      ap (λ b. (b && same_kind r.kind kind) || is_full_of i kind rs) (eq_sym r.ino i ∙ e)
      ∙ ap (λ b. same_kind r.kind kind || b) (no_kind_times kind i rs (ap (λ (n : ℕ). times n (inos rs)) (eqb-true i r.ino e) ∙ not_again r.ino (inos rs) h))
      ∙ or-false (same_kind r.kind kind)
      ∙ sym (ap (kind_in kind) (get-insert exact_nat (by_inode rs) r.ino r i ∙ ap (λ b. cond b (Some r) (get (by_inode rs) i)) (sym (unsigned_ties i r.ino) ∙ e)))
  | false ↦ λ e.
      ap (λ b. (b && same_kind r.kind kind) || is_full_of i kind rs) (eq_sym r.ino i ∙ e)
      ∙ kind_by_inode kind i rs (later_distinct r.ino (inos rs) h)
      ∙ sym (ap (kind_in kind) (get-insert exact_nat (by_inode rs) r.ino r i ∙ ap (λ b. cond b (Some r) (get (by_inode rs) i)) (sym (unsigned_ties i r.ino) ∙ e)))
] refl

-- ---- how many are kept

absent_by_inode : (i : ℕ) (rs : List InodeRecord) → times i (inos rs) ≡ 0 → get (by_inode rs) i ≡ None
absent_by_inode i [] h = get_empty nat_cmp i
absent_by_inode i (r ∷ rs) h = elim (i == r.ino) as (λ b. (i == r.ino) ≡ b → cond b (times i (inos rs) + 1) (times i (inos rs)) ≡ 0 → get (by_inode (r ∷ rs)) i ≡ None) [
  | true ↦ λ _ k. absurd (omega (arith, k))
  | false ↦ λ e k. get-insert exact_nat (by_inode rs) r.ino r i ∙ ap (λ b. cond b (Some r) (get (by_inode rs) i)) (sym (unsigned_ties i r.ino) ∙ e) ∙ absent_by_inode i rs k
] refl h

-- of inodes that stand there once, as many pass as are kept in the map by inode
pub count_by_inode : (p : ℕ → Bool) (rs : List InodeRecord) → AreDistinct (inos rs) → count (λ (e : ℕ × InodeRecord). p e.0) (by_inode rs) ≡ length (filter p (inos rs))
count_by_inode p [] h = passing_none p
count_by_inode p (r ∷ rs) h =
    let rest = count_by_inode p rs (later_distinct r.ino (inos rs) h) in
    let new = count-insert_new exact_nat (λ (e : ℕ × InodeRecord). p e.0) (by_inode rs) r.ino r (absent_by_inode r.ino rs (not_again r.ino (inos rs) h)) in
    elim (p r.ino) as (λ b. p r.ino ≡ b → count (λ (e : ℕ × InodeRecord). p e.0) (by_inode (r ∷ rs)) ≡ length (cond b (r.ino ∷ filter p (inos rs)) (filter p (inos rs)))) [
      | true ↦ λ e. let one = ap (λ b. count (λ (x : ℕ × InodeRecord). p x.0) (by_inode rs) + cond b 1 0) e in omega (arith, rest, new, one)
      | false ↦ λ e. let one = ap (λ b. count (λ (x : ℕ × InodeRecord). p x.0) (by_inode rs) + cond b 1 0) e in omega (arith, rest, new, one)
    ] refl
