-- The list of reachable directories holds just those that can be reached.
use Rattle.std.proofs.Common.{◌≡◌, ℕ, zero, suc, ◌+◌, ◌≤◌, ◌⊎◌, inl, inr, Bool, true, false, cond, ◌&&◌, ◌||◌, not, List, [], ◌∷◌, ◌++◌, length, Option, Some, None, T, refl, sym, ap, subst, ◌∙◌, arith}
use Rattle.std.specs.Prelude.{nat_eq, if◌then◌else◌}
use Rattle.std.specs.Option.{option_and_then}
use Rattle.std.specs.Cmp.{nat_eq_equiv, tied_itself}
use Rattle.std.specs.List.{list_all, cons_option}
use Rattle.std.specs.Ordering.{eq_by_cmp, is_lt}
use Rattle.std.specs.FinMap.Entries.{find, below_all, is_sorted}
use Rattle.std.proofs.lemmas.Bool.{eqb-true}
use Rattle.mj_maps.specs.Map.{entries, entries_sorted, get, passing, left_true, right_true}
use Rattle.mj_maps.specs.Orders.{place_cmp}
use Rattle.mj_maps.proofs.MapLaws.{exact_place, cases_key, eq_same, eq_true, none_some, some_same, get-entries}
use Rattle.mj_tree.specs.State.{root}
use Rattle.mj_cells.specs.Table.{Dentry, Table}
use Rattle.mj_recovery.specs.Tree.{Entry, subdir, IsReachable, is_among, dir_below, dirs_below, with_new, all_new, reached, reachable}
use Rattle.mj_recovery.specs.Tree.IsReachable.{at_root, below}

-- ---- tests

or_left : (a b : Bool) → a ≡ true → (a || b) ≡ true
or_left true b e = refl
or_left false b e = absurd cc

pub or_right : (a b : Bool) → b ≡ true → (a || b) ≡ true
or_right true b e = refl
or_right false b e = e

pub or_cases : (a b : Bool) → (a || b) ≡ true → (a ≡ true) ⊎ (b ≡ true)
or_cases true b e = inl refl
or_cases false b e = inr e

-- ---- with those that are new

among-append : (xs ys : List ℕ) (d : ℕ) → is_among (xs ++ ys) d ≡ (is_among xs d || is_among ys d)
among-append [] ys d = refl
among-append (x ∷ xs) ys d = elim (nat_eq x d) as (λ b. (b || is_among (xs ++ ys) d) ≡ ((b || is_among xs d) || is_among ys d)) [
  | true ↦ refl
  | false ↦ among-append xs ys d
]

itself : (d : ℕ) → nat_eq d d ≡ true
itself d = nat_eq_equiv.refl d

keeps : (dirs : List ℕ) (n d : ℕ) → is_among dirs d ≡ true → is_among (with_new dirs n) d ≡ true
keeps dirs n d h = elim (is_among dirs n) as (λ b. is_among (if b then dirs else dirs ++ n ∷ []) d ≡ true) [
  | true ↦ h
  | false ↦ among-append dirs (n ∷ []) d ∙ or_left _ _ h
]

has : (dirs : List ℕ) (n : ℕ) → is_among (with_new dirs n) n ≡ true
has dirs n = elim (is_among dirs n) as (λ b. is_among dirs n ≡ b → is_among (if b then dirs else dirs ++ n ∷ []) n ≡ true) [
  | true ↦ λ e. e
  | false ↦ λ e. among-append dirs (n ∷ []) n ∙ or_right _ _ (or_left _ _ (itself n))
] refl

has_only : (dirs : List ℕ) (n d : ℕ) → is_among (with_new dirs n) d ≡ true → (is_among dirs d ≡ true) ⊎ (nat_eq n d ≡ true)
has_only dirs n d = elim (is_among dirs n) as (λ b. is_among (if b then dirs else dirs ++ n ∷ []) d ≡ true → (is_among dirs d ≡ true) ⊎ (nat_eq n d ≡ true)) [
  | true ↦ λ h. inl h
  | false ↦ λ h. elim (or_cases _ _ (sym (among-append dirs (n ∷ []) d) ∙ h)) [
    | inl e ↦ inl e
    | inr e ↦ elim (or_cases _ _ e) [ inl f ↦ inr f | inr f ↦ absurd cc ]
  ]
]

grows : (dirs ds : List ℕ) (d : ℕ) → is_among dirs d ≡ true → is_among (all_new dirs ds) d ≡ true
grows dirs [] d h = h
grows dirs (n ∷ ds) d h = grows (with_new dirs n) ds d (keeps dirs n d h)

takes : (dirs ds : List ℕ) (d : ℕ) → is_among ds d ≡ true → is_among (all_new dirs ds) d ≡ true
takes dirs [] d h = absurd cc
takes dirs (n ∷ ds) d h = elim (or_cases _ _ h) [
  | inl e ↦ grows (with_new dirs n) ds d (subst (λ m. is_among (with_new dirs n) m ≡ true) (eqb-true n d e) (has dirs n))
  | inr e ↦ takes (with_new dirs n) ds d e
]

only : (dirs ds : List ℕ) (d : ℕ) → is_among (all_new dirs ds) d ≡ true → (is_among dirs d ≡ true) ⊎ (is_among ds d ≡ true)
only dirs [] d h = inl h
only dirs (n ∷ ds) d h = elim (only (with_new dirs n) ds d h) [
  | inl e ↦ elim (has_only dirs n d e) [ inl f ↦ inl f | inr f ↦ inr (or_left _ _ f) ]
  | inr e ↦ inr (or_right _ _ e)
]

settled : (dirs ds : List ℕ) → list_all (is_among dirs) ds ≡ true → all_new dirs ds ≡ dirs
settled dirs [] h = refl
settled dirs (n ∷ ds) h = elim (is_among dirs n) as (λ b. (b && list_all (is_among dirs) ds) ≡ true → all_new (if b then dirs else dirs ++ n ∷ []) ds ≡ dirs) [
  | true ↦ λ e. settled dirs ds e
  | false ↦ λ e. absurd cc
] h

-- ---- the directories below

abbrev pub Lies : Entry → List Entry → Type 0
Lies e [] = ⊥
Lies e (x ∷ xs) = (x ≡ e) ⊎ Lies e xs

-- an entry of a directory of these that names this one
record Named (dirs : List ℕ) (es : List Entry) (i : ℕ) : Type 0 where
  entry : Entry
  lies : Lies entry es
  dir : is_among dirs entry.0.0 ≡ true
  names : subdir entry.1 ≡ Some i

later : (dirs : List ℕ) (x : Entry) (es : List Entry) (i : ℕ) → Named dirs es i → Named dirs (x ∷ es) i
later dirs x es i n = record { entry = n.entry; lies = inr n.lies; dir = n.dir; names = n.names }

from_below : (dirs : List ℕ) (es : List Entry) (i : ℕ) → is_among (dirs_below dirs es) i ≡ true → Named dirs es i
from_below dirs [] i h = absurd cc
from_below dirs (x ∷ es) i h =
    elim (is_among dirs x.0.0) as (λ b. is_among dirs x.0.0 ≡ b → is_among (cons_option (if b then subdir x.1 else None) (dirs_below dirs es)) i ≡ true → Named dirs (x ∷ es) i) [
      | false ↦ λ p q. later dirs x es i (from_below dirs es i q)
      | true ↦ λ p. elim (subdir x.1) as (λ o. subdir x.1 ≡ o → is_among (cons_option o (dirs_below dirs es)) i ≡ true → Named dirs (x ∷ es) i) [
        | None ↦ λ s q. later dirs x es i (from_below dirs es i q)
        | Some j ↦ λ s q. elim (or_cases (nat_eq j i) (is_among (dirs_below dirs es) i) q) [
          | inl e ↦ record { entry = x; lies = inl refl; dir = p; names = s ∙ ap Some (eqb-true j i e) }
          | inr e ↦ later dirs x es i (from_below dirs es i e)
        ]
      ] refl
    ] refl h

cons_keeps : (o : Option ℕ) (ds : List ℕ) (i : ℕ) → is_among ds i ≡ true → is_among (cons_option o ds) i ≡ true
cons_keeps None ds i h = h
cons_keeps (Some d) ds i h = or_right _ _ h

gives : (dirs : List ℕ) (e : Entry) (i : ℕ) → is_among dirs e.0.0 ≡ true → subdir e.1 ≡ Some i → dir_below dirs e ≡ Some i
gives dirs e i p s = ap (λ b. if b then subdir e.1 else None) p ∙ s

to_below : (dirs : List ℕ) (es : List Entry) (e : Entry) (i : ℕ) → Lies e es → is_among dirs e.0.0 ≡ true → subdir e.1 ≡ Some i → is_among (dirs_below dirs es) i ≡ true
to_below dirs [] e i l p s = absurd l
to_below dirs (x ∷ es) e i (inl same) p s =
    ap (λ y. is_among (cons_option (dir_below dirs y) (dirs_below dirs es)) i) same ∙ ap (λ o. is_among (cons_option o (dirs_below dirs es)) i) (gives dirs e i p s) ∙ or_left _ _ (itself i)
to_below dirs (x ∷ es) e i (inr l) p s = cons_keeps (dir_below dirs x) (dirs_below dirs es) i (to_below dirs es e i l p s)

-- ---- each turn finds a directory, or none is left

abbrev lacks : List ℕ → Option ℕ → Bool
lacks dirs None = false
lacks dirs (Some i) = not (is_among dirs i)

-- the directory that an entry names is not there yet
abbrev missing : List ℕ → Entry → Bool
missing dirs e = lacks dirs (subdir e.1)

abbrev turn : List Entry → List ℕ → List ℕ
turn es dirs = all_new dirs (dirs_below dirs es)

-- what an entry counts
abbrev one : Bool → ℕ
one b = cond b 1 0

fewer_one : (a b : Bool) (m n : ℕ) → (a ≡ true → b ≡ true) → m ≤ n → cond a 1 0 + m ≤ cond b 1 0 + n
fewer_one true true m n f le = omega arith
fewer_one true false m n f le = absurd (let e = f refl in cc)
fewer_one false true m n f le = omega arith
fewer_one false false m n f le = omega arith

fewer : (p q : Entry → Bool) (es : List Entry) → ((x : Entry) → p x ≡ true → q x ≡ true) → passing p es ≤ passing q es
fewer p q [] f = omega arith
fewer p q (x ∷ es) f = fewer_one (p x) (q x) _ _ (f x) (fewer p q es f)

less : (p q : Entry → Bool) (es : List Entry) (e : Entry) → ((x : Entry) → p x ≡ true → q x ≡ true) → Lies e es → p e ≡ false → q e ≡ true → passing p es + 1 ≤ passing q es
less p q [] e f l p_fails q_holds = absurd l
less p q (x ∷ es) e f (inl same) p_fails q_holds =
    let rest = fewer p q es f in
    let here : one (p x) ≡ 0 = ap one (ap p same ∙ p_fails) in
    let there : one (q x) ≡ 1 = ap one (ap q same ∙ q_holds) in
    omega arith
less p q (x ∷ es) e f (inr l) p_fails q_holds =
    let rest = less p q es e f l p_fails q_holds in
    let here : cond (p x) 1 0 + (passing p es + 1) ≤ cond (q x) 1 0 + passing q es = fewer_one (p x) (q x) (passing p es + 1) (passing q es) (f x) rest in
    omega arith

at_most : (p : Entry → Bool) (es : List Entry) → passing p es ≤ length es
at_most p [] = omega arith
at_most p (x ∷ es) = let rest = at_most p es in elim (p x) as (λ b. cond b 1 0 + passing p es ≤ suc (length es)) [ true ↦ omega arith | false ↦ omega arith ]

record Failing (p : ℕ → Bool) (ds : List ℕ) : Type 0 where
  number : ℕ
  lies : is_among ds number ≡ true
  fails : p number ≡ false

failing : (p : ℕ → Bool) (ds : List ℕ) → list_all p ds ≡ false → Failing p ds
failing p [] h = absurd cc
failing p (d ∷ ds) h = elim (p d) as (λ b. p d ≡ b → (b && list_all p ds) ≡ false → Failing p (d ∷ ds)) [
  | true ↦ λ e q. let f = failing p ds q in record { number = f.number; lies = or_right _ _ f.lies; fails = f.fails }
  | false ↦ λ e q. record { number = d; lies = or_left _ _ (itself d); fails = e }
] refl h

not_lacking : (dirs : List ℕ) (o : Option ℕ) (i : ℕ) → o ≡ Some i → is_among dirs i ≡ true → lacks dirs o ≡ false
not_lacking dirs o i e h = ap (lacks dirs) e ∙ ap not h

lacking : (dirs : List ℕ) (o : Option ℕ) (i : ℕ) → o ≡ Some i → is_among dirs i ≡ false → lacks dirs o ≡ true
lacking dirs o i e h = ap (lacks dirs) e ∙ ap not h

still : (dirs ds : List ℕ) (o : Option ℕ) → lacks (all_new dirs ds) o ≡ true → lacks dirs o ≡ true
still dirs ds None h = absurd cc
still dirs ds (Some i) h = elim (is_among dirs i) as (λ b. is_among dirs i ≡ b → not b ≡ true) [
  | true ↦ λ e. sym (ap not (grows dirs ds i e)) ∙ h
  | false ↦ λ e. refl
] refl

either : (es : List Entry) (dirs : List ℕ) → (turn es dirs ≡ dirs) ⊎ (passing (missing (turn es dirs)) es + 1 ≤ passing (missing dirs) es)
either es dirs = elim (list_all (is_among dirs) (dirs_below dirs es)) as (λ b. list_all (is_among dirs) (dirs_below dirs es) ≡ b → (turn es dirs ≡ dirs) ⊎ (passing (missing (turn es dirs)) es + 1 ≤ passing (missing dirs) es)) [
  | true ↦ λ e. inl (settled dirs (dirs_below dirs es) e)
  | false ↦ λ e.
      let f = failing (is_among dirs) (dirs_below dirs es) e in
      let n = from_below dirs es f.number f.lies in
      inr (less (missing (turn es dirs)) (missing dirs) es n.entry (λ x. still dirs (dirs_below dirs es) (subdir x.1)) n.lies
      (not_lacking (turn es dirs) (subdir n.entry.1) f.number n.names (takes dirs (dirs_below dirs es) f.number f.lies))
      (lacking dirs (subdir n.entry.1) f.number n.names f.fails))
] refl

turned : (n : ℕ) (es : List Entry) → (turn es (reached n es) ≡ reached n es) ⊎ (passing (missing (reached n es)) es + n ≤ length es)
turned zero es = let le = at_most (missing (reached zero es)) es in inr (omega arith)
turned (suc n) es = elim (turned n es) [
  | inl e ↦ inl (ap (turn es) e)
  | inr le ↦ elim (either es (reached n es)) [
    | inl e ↦ inl (ap (turn es) e)
    | inr lt ↦ inr (omega arith)
  ]
]

closed : (es : List Entry) → turn es (reached (length es) es) ≡ reached (length es) es
closed es = elim (turned (length es) es) [
  | inl e ↦ e
  | inr le ↦ elim (either es (reached (length es) es)) [ inl e ↦ e | inr lt ↦ absurd (omega arith) ]
]

-- ---- entries and look-ups

below_at : (k : ℕ × List ℕ) (es : List Entry) (e : Entry) → T (below_all place_cmp k es) → Lies e es → T (is_lt (place_cmp k e.0))
below_at k [] e h l = absurd l
below_at k (x ∷ es) e h (inl same) = subst (λ (y : Entry). T (is_lt (place_cmp k y.0))) same (left_true _ _ h)
below_at k (x ∷ es) e h (inr l) = below_at k es e (right_true _ _ h) l

other : (x e : Entry) → T (is_lt (place_cmp x.0 e.0)) → eq_by_cmp place_cmp e.0 x.0 ≡ false
other x e lt = elim (cases_key exact_place e.0 x.0) [
  | inl same ↦ absurd (subst (λ o. T (is_lt o)) (tied_itself exact_place.total x.0) (subst (λ k. T (is_lt (place_cmp x.0 k))) same lt))
  | inr apart ↦ apart
]

pub look : (es : List Entry) → T (is_sorted place_cmp es) → (e : Entry) → Lies e es → find place_cmp e.0 es ≡ Some e.1
look [] s e l = absurd l
look (x ∷ es) s e (inl same) =
    ap (λ b. cond b (Some x.1) (find place_cmp e.0 es)) (ap (λ (y : Entry). eq_by_cmp place_cmp e.0 y.0) same ∙ eq_same exact_place e.0) ∙ ap (λ (y : Entry). Some y.1) same
look (x ∷ es) s e (inr l) = ap (λ b. cond b (Some x.1) (find place_cmp e.0 es)) (other x e (below_at x.0 es e (left_true _ _ s) l)) ∙ look es (right_true _ _ s) e l

pub found_lies : (es : List Entry) (q : ℕ × List ℕ) (v : Dentry) → find place_cmp q es ≡ Some v → Lies (q, v) es
found_lies [] q v h = absurd (none_some v h)
found_lies (x ∷ es) q v h = elim (eq_by_cmp place_cmp q x.0) as (λ b. eq_by_cmp place_cmp q x.0 ≡ b → cond b (Some x.1) (find place_cmp q es) ≡ Some v → Lies (q, v) (x ∷ es)) [
  | true ↦ λ e f. let key : x.0 ≡ q = sym (eq_true exact_place q x.0 e) in let value : x.1 ≡ v = some_same x.1 v f in inl (λ i. (key i, value i))
  | false ↦ λ e f. inr (found_lies es q v f)
] refl h

-- ---- both ways

module _ (t : Table) where
  abbrev es : List Entry
  es = entries t.dentries

  sound : (n d : ℕ) → is_among (reached n es) d ≡ true → IsReachable t d
  sound zero d h = elim (or_cases (nat_eq root d) false h) [
    | inl e ↦ subst (IsReachable t) (eqb-true root d e) at_root
    | inr e ↦ absurd cc
  ]
  sound (suc n) d h = elim (only (reached n es) (dirs_below (reached n es) es) d h) [
    | inl e ↦ sound n d e
    | inr e ↦
        let b = from_below (reached n es) es d e in
        let at : get t.dentries b.entry.0 ≡ Some b.entry.1 = get-entries t.dentries b.entry.0 ∙ look es (entries_sorted t.dentries) b.entry b.lies in
        below b.entry.0.0 b.entry.0.1 d (sound n b.entry.0.0 b.dir) (ap (option_and_then subdir) at ∙ b.names)
  ]

  abbrev all : List ℕ
  all = reached (length es) es

  root_there : (n : ℕ) → is_among (reached n es) root ≡ true
  root_there zero = refl
  root_there (suc n) = grows (reached n es) (dirs_below (reached n es) es) root (root_there n)

  step : (q : ℕ × List ℕ) (i : ℕ) (o : Option Dentry) → get t.dentries q ≡ o → option_and_then subdir o ≡ Some i → is_among all q.0 ≡ true → is_among all i ≡ true
  step q i None e s h = absurd (none_some i s)
  step q i (Some v) e s h =
      let lies = found_lies es q v (sym (get-entries t.dentries q) ∙ e) in
      ap (λ ds. is_among ds i) (sym (closed es)) ∙ takes all (dirs_below all es) i (to_below all es (q, v) i lies h s)

  complete : (d : ℕ) → IsReachable t d → is_among all d ≡ true
  complete _ at_root = root_there (length es)
  complete _ (below d name i r e) = step (d, name) i (get t.dentries (d, name)) refl e (complete d r)

  pub reached_sound : (d : ℕ) → is_among (reachable t) d ≡ true → IsReachable t d
  unfolding reachable
  reached_sound d h = sound (length es) d h

  pub reached_complete : (d : ℕ) → IsReachable t d → is_among (reachable t) d ≡ true
  unfolding reachable
  reached_complete d r = complete d r
