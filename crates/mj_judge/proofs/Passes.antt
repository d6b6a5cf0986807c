-- Passes over edges reach what can be reached.
use Rattle.std.proofs.Common.{◌≡◌, ℕ, suc, ◌+◌, ◌≤◌, ◌<◌, Bool, true, false, cond, ◌||◌, List, [], ◌∷◌, ◌++◌, drop, drop-cons, add-one, slice_index_or, length, Option, Some, None, refl, sym, ap, subst, ◌∙◌, ◌⊎◌, inl, inr, arith}
use Rattle.std.specs.Prelude.{nat_eq, filter_map}
use Rattle.std.specs.Option.{option_map, option_and_then}
use Rattle.std.specs.List.{cons_option, list_any}
use Rattle.std.specs.BTreeMap.{is_at}
use Rattle.std.specs.declared.cmp.Ordering.TheVariants.{Less, Equal, Greater}
use Rattle.std.specs.Ordering.{match_ordering}
use Rattle.std.specs.Cmp.{unsigned_ties, eq_by_cmp_equiv}
use Rattle.std.specs.BTreeSet.{insert_key}
use Rattle.std.proofs.lemmas.Bool.{true≢false, eqb-true}
use Rattle.mj_maps.specs.Map.{Map, entries, get, entries_sorted}
use Rattle.mj_maps.specs.Orders.{nat_cmp}
use Rattle.mj_maps.proofs.MapLaws.{exact_nat, get-entries, some_same, none_some}
use Rattle.mj_tree.specs.State.{root}
use Rattle.mj_cells.specs.declared.cell.CellValue.{CellValue}
use Rattle.mj_cells.specs.Cell.{key_cmp}
use Rattle.mj_cells.specs.Table.{Dentry, Table, table_of}
use Rattle.mj_recovery.specs.Tree.{Entry, subdir, is_among, reachable, IsReachable}
use Rattle.mj_recovery.specs.Tree.IsReachable.{at_root, below}
use Rattle.mj_recovery.proofs.Reaching.{or_right, or_cases, Lies, look, found_lies, reached_sound, reached_complete}
use Rattle.mj_judge.specs.Parts.{Cell, dentry_entry}
use Rattle.mj_judge.specs.Reached.{Edge, with_edge, unled, edge_to, edge_of, pass_dirs, pass_left, Leads, AreReached, AreDirs}
use Rattle.mj_judge.proofs.PartMaps.{dentries_are}

-- ---- a set's keys

swap_or : (a b c : Bool) → (a || (b || c)) ≡ (b || (a || c))
swap_or true true c = refl
swap_or true false c = refl
swap_or false b c = refl

twice_or : (a b : Bool) → (a || b) ≡ (a || (a || b))
twice_or true b = refl
twice_or false b = refl

pub among-insert_key : (xs : List ℕ) (k d : ℕ) → is_among (insert_key nat_cmp xs k) d ≡ (nat_eq k d || is_among xs d)
among-insert_key [] k d = refl
among-insert_key (x ∷ xs) k d = elim (nat_cmp k x) as (λ o. nat_cmp k x ≡ o → is_among (match_ordering o (k ∷ x ∷ xs) (x ∷ xs) (x ∷ insert_key nat_cmp xs k)) d ≡ (nat_eq k d || is_among (x ∷ xs) d)) [
  | Less ↦ λ _. refl
  | Equal ↦ λ e. twice_or (nat_eq x d) (is_among xs d) ∙ ap (λ (n : ℕ). nat_eq n d || is_among (x ∷ xs) d) (sym (exact_nat.same k x e))
  | Greater ↦ λ _. ap (λ b. nat_eq x d || b) (among-insert_key xs k d) ∙ swap_or (nat_eq x d) (nat_eq k d) (is_among xs d)
] refl

-- what a set of directories answers
pub contains_is : (xs : List ℕ) (d : ℕ) → is_among xs d ≡ list_any (is_at (nat_cmp d)) xs
contains_is [] d = refl
contains_is (x ∷ xs) d = λ i. (unsigned_ties x d ∙ (eq_by_cmp_equiv exact_nat.total).symm x d) i || contains_is xs d i

itself : (d : ℕ) → nat_eq d d ≡ true
itself d = grind arith

-- ---- one pass

edge_grows : (dirs : List ℕ) (e : Edge) (d : ℕ) → is_among dirs d ≡ true → is_among (with_edge dirs e) d ≡ true
edge_grows dirs e d h = elim (is_among dirs e.0) as (λ b. is_among (cond b (insert_key nat_cmp dirs e.1) dirs) d ≡ true) [
  | true ↦ among-insert_key dirs e.1 d ∙ or_right (nat_eq e.1 d) _ h
  | false ↦ h
]

pass_grows : (dirs : List ℕ) (es : List Edge) (d : ℕ) → is_among dirs d ≡ true → is_among (pass_dirs dirs es) d ≡ true
pass_grows dirs [] d h = h
pass_grows dirs (e ∷ es) d h = pass_grows (with_edge dirs e) es d (edge_grows dirs e d h)

edge_only : (p : ℕ → Bool) (dirs : List ℕ) (e : Edge) → ((d : ℕ) → is_among dirs d ≡ true → p d ≡ true) → (p e.0 ≡ true → p e.1 ≡ true) → (d : ℕ) → is_among (with_edge dirs e) d ≡ true → p d ≡ true
edge_only p dirs e all step d = elim (is_among dirs e.0) as (λ b. is_among dirs e.0 ≡ b → is_among (cond b (insert_key nat_cmp dirs e.1) dirs) d ≡ true → p d ≡ true) [
  | true ↦ λ there h. elim (or_cases (nat_eq e.1 d) (is_among dirs d) (sym (among-insert_key dirs e.1 d) ∙ h)) [
    | inl same ↦ subst (λ n. p n ≡ true) (eqb-true e.1 d same) (step (all e.0 there))
    | inr old ↦ all d old
  ]
  | false ↦ λ _ h. all d h
] refl

pass_only : (p : ℕ → Bool) (dirs : List ℕ) (es : List Edge) → ((d : ℕ) → is_among dirs d ≡ true → p d ≡ true) → ((e : Edge) → Leads e es → p e.0 ≡ true → p e.1 ≡ true) → (d : ℕ) → is_among (pass_dirs dirs es) d ≡ true → p d ≡ true
pass_only p dirs [] all step d h = all d h
pass_only p dirs (e ∷ es) all step d h = pass_only p (with_edge dirs e) es (edge_only p dirs e all (step e (inl refl))) (λ x l. step x (inr l)) d h

-- an edge is left, or where it leads is known
pass_takes : (dirs : List ℕ) (es : List Edge) (e : Edge) → Leads e es → Leads e (pass_left dirs es) ⊎ (is_among (pass_dirs dirs es) e.1 ≡ true)
pass_takes dirs [] e l = absurd l
pass_takes dirs (x ∷ es) e (inl same) = elim (is_among dirs x.0) as (λ b. Leads e (cond b [] (x ∷ []) ++ pass_left (cond b (insert_key nat_cmp dirs x.1) dirs) es) ⊎ (is_among (pass_dirs (cond b (insert_key nat_cmp dirs x.1) dirs) es) e.1 ≡ true)) [
  | true ↦ inr (pass_grows (insert_key nat_cmp dirs x.1) es e.1 (among-insert_key dirs x.1 e.1 ∙ ap (λ (n : ℕ). nat_eq n e.1 || is_among dirs e.1) (ap (λ (y : Edge). y.1) same) ∙ ap (λ b. b || is_among dirs e.1) (itself e.1)))
  | false ↦ inl (inl same)
]
pass_takes dirs (x ∷ es) e (inr l) = elim (is_among dirs x.0) as (λ b. Leads e (cond b [] (x ∷ []) ++ pass_left (cond b (insert_key nat_cmp dirs x.1) dirs) es) ⊎ (is_among (pass_dirs (cond b (insert_key nat_cmp dirs x.1) dirs) es) e.1 ≡ true)) [
  | true ↦ pass_takes (insert_key nat_cmp dirs x.1) es e l
  | false ↦ elim (pass_takes dirs es e l) [ inl k ↦ inl (inr k) | inr k ↦ inr k ]
]

first_or : (x e : Edge) (ks bs : List Edge) → (Leads e ks → Leads e bs) → Leads e (x ∷ ks) → Leads e (x ∷ bs)
first_or x e ks bs f (inl same) = inl same
first_or x e ks bs f (inr l) = inr (f l)

pass_from : (dirs : List ℕ) (es : List Edge) (e : Edge) → Leads e (pass_left dirs es) → Leads e es
pass_from dirs [] e l = l
pass_from dirs (x ∷ es) e l = elim (is_among dirs x.0) as (λ b. Leads e (cond b [] (x ∷ []) ++ pass_left (cond b (insert_key nat_cmp dirs x.1) dirs) es) → Leads e (x ∷ es)) [
  | true ↦ λ k. inr (pass_from (insert_key nat_cmp dirs x.1) es e k)
  | false ↦ λ k. first_or x e (pass_left dirs es) es (pass_from dirs es e) k
] l

pub pass_fewer : (dirs : List ℕ) (es : List Edge) → length (pass_left dirs es) ≤ length es
pass_fewer dirs [] = omega arith
pass_fewer dirs (x ∷ es) = elim (is_among dirs x.0) as (λ b. length (cond b [] (x ∷ []) ++ pass_left (cond b (insert_key nat_cmp dirs x.1) dirs) es) ≤ suc (length es)) [
  | true ↦ let rest = pass_fewer (insert_key nat_cmp dirs x.1) es in omega (arith, rest)
  | false ↦ let rest = pass_fewer dirs es in omega (arith, rest)
]

-- where all are left, none led from a known directory
pub record AllLeft (dirs : List ℕ) (es : List Edge) : Type 0 where
  pub dirs_are : pass_dirs dirs es ≡ dirs
  pub unknown : (e : Edge) → Leads e es → is_among dirs e.0 ≡ false

unknown_at : (dirs : List ℕ) (x : Edge) (es : List Edge) (e : Edge) → is_among dirs x.0 ≡ false → ((y : Edge) → Leads y es → is_among dirs y.0 ≡ false) → Leads e (x ∷ es) → is_among dirs e.0 ≡ false
unknown_at dirs x es e none rest (inl same) = ap (λ (y : Edge). is_among dirs y.0) (sym same) ∙ none
unknown_at dirs x es e none rest (inr l) = rest e l

all_left : (dirs : List ℕ) (es : List Edge) → length (pass_left dirs es) ≡ length es → AllLeft dirs es
all_left dirs [] h = record { dirs_are = refl; unknown = λ e l. absurd l }
all_left dirs (x ∷ es) h = elim (is_among dirs x.0) as (λ b. is_among dirs x.0 ≡ b → length (cond b [] (x ∷ []) ++ pass_left (cond b (insert_key nat_cmp dirs x.1) dirs) es) ≡ suc (length es) → AllLeft dirs (x ∷ es)) [
  | true ↦ λ _ k. let rest = pass_fewer (insert_key nat_cmp dirs x.1) es in absurd (omega (arith, rest, k))
  | false ↦ λ none k.
      let rest = all_left dirs es (omega (arith, k)) in
      record {
        dirs_are = ap (λ b. pass_dirs (cond b (insert_key nat_cmp dirs x.1) dirs) es) none ∙ rest.dirs_are;
        unknown = λ e l. unknown_at dirs x es e none rest.unknown l;
      }
] refl h

-- ---- pass by pass

pub record SoFar (edges : List Edge) (dirs : List ℕ) (left : List Edge) : Type 0 where
  pub root_there : is_among dirs 1 ≡ true
  pub only : (p : ℕ → Bool) → p 1 ≡ true → ((e : Edge) → Leads e edges → p e.0 ≡ true → p e.1 ≡ true) → (d : ℕ) → is_among dirs d ≡ true → p d ≡ true
  pub takes : (e : Edge) → Leads e edges → Leads e left ⊎ (is_among dirs e.1 ≡ true)
  pub from : (e : Edge) → Leads e left → Leads e edges

only_root : (p : ℕ → Bool) (d : ℕ) → p 1 ≡ true → is_among (1 ∷ []) d ≡ true → p d ≡ true
only_root p d h l = elim (or_cases (nat_eq 1 d) (is_among [] d) l) [ inl same ↦ subst (λ n. p n ≡ true) (eqb-true 1 d same) h | inr none ↦ absurd (true≢false (sym none)) ]

pub starts : (edges : List Edge) (dirs : List ℕ) → dirs ≡ 1 ∷ [] → SoFar edges dirs edges
starts edges dirs is = subst (λ (ds : List ℕ). SoFar edges ds edges) (sym is) (record {
  root_there = refl;
  only = λ p h step d l. only_root p d h l;
  takes = λ e l. inl l;
  from = λ e l. l;
})

pub passes_on : (edges : List Edge) (dirs : List ℕ) (left : List Edge) → SoFar edges dirs left → SoFar edges (pass_dirs dirs left) (pass_left dirs left)
passes_on edges dirs left was = record {
  root_there = pass_grows dirs left 1 was.root_there;
  only = λ p h step. pass_only p dirs left (was.only p h step) (λ e l. step e (was.from e l));
  takes = λ e l. elim (was.takes e l) [ inl k ↦ pass_takes dirs left e k | inr k ↦ inr (pass_grows dirs left e.1 k) ];
  from = λ e l. was.from e (pass_from dirs left e l);
}

pub ends : (edges : List Edge) (dirs : List ℕ) (left : List Edge) → SoFar edges dirs left → length (pass_left dirs left) ≡ length left → AreReached edges (pass_dirs dirs left)
ends edges dirs left was same =
    let all = all_left dirs left same in
    subst (AreReached edges) (sym all.dirs_are) (record {
      root_there = was.root_there;
      only = was.only;
      closed = λ e l known. elim (was.takes e l) [ inl k ↦ absurd (true≢false (sym known ∙ all.unknown e k)) | inr k ↦ k ];
    })

-- ---- the edges of a table

edges_are : (cs : List Cell) → filter_map edge_of cs ≡ filter_map edge_to (filter_map dentry_entry cs)
edges_are [] = refl
edges_are (c ∷ cs) = elim (dentry_entry c) as (λ o. cons_option (option_and_then edge_to o) (filter_map edge_of cs) ≡ filter_map edge_to (cons_option o (filter_map dentry_entry cs))) [
  | None ↦ edges_are cs
  | Some e ↦ ap (cons_option (edge_to e)) (edges_are cs)
]

-- an edge comes from a dentry of the list
pub record ByEntry (es : List Entry) (x : Edge) : Type 0 where
  pub at : Entry
  pub lies : Lies at es
  pub dir : at.0.0 ≡ x.0
  pub names : subdir at.1 ≡ Some x.1

later : (y : Entry) (es : List Entry) (x : Edge) → ByEntry es x → ByEntry (y ∷ es) x
later y es x b = record { at = b.at; lies = inr b.lies; dir = b.dir; names = b.names }

in_cons : (o : Option ℕ) (y : Entry) (es : List Entry) (x : Edge) → subdir y.1 ≡ o → (Leads x (filter_map edge_to es) → ByEntry es x) → Leads x (cons_option (option_map (λ i. (y.0.0, i)) o) (filter_map edge_to es)) → ByEntry (y ∷ es) x
in_cons None y es x is rest l = later y es x (rest l)
in_cons (Some i) y es x is rest (inl same) = record { at = y; lies = inl refl; dir = ap (λ (z : Edge). z.0) same; names = is ∙ ap (λ (z : Edge). Some z.1) same }
in_cons (Some i) y es x is rest (inr l) = later y es x (rest l)

by_entry : (es : List Entry) (x : Edge) → Leads x (filter_map edge_to es) → ByEntry es x
by_entry [] x l = absurd l
by_entry (y ∷ es) x l = in_cons (subdir y.1) y es x refl (by_entry es x) l

cons_later : (o : Option Edge) (xs : List Edge) (x : Edge) → Leads x xs → Leads x (cons_option o xs)
cons_later None xs x l = l
cons_later (Some y) xs x l = inr l

cons_here : (o : Option ℕ) (d i : ℕ) (xs : List Edge) → o ≡ Some i → Leads (d, i) (cons_option (option_map (λ n. (d, n)) o) xs)
cons_here None d i xs is = absurd (none_some i is)
cons_here (Some n) d i xs is = inl (ap (λ (m : ℕ). (d, m)) (some_same n i is))

leads : (es : List Entry) (e : Entry) (i : ℕ) → Lies e es → subdir e.1 ≡ Some i → Leads (e.0.0, i) (filter_map edge_to es)
leads [] e i l is = absurd l
leads (y ∷ es) e i (inl same) is = subst (λ (z : Entry). Leads (z.0.0, i) (filter_map edge_to (y ∷ es))) same (cons_here (subdir y.1) y.0.0 i (filter_map edge_to es) (ap (λ (z : Entry). subdir z.1) same ∙ is))
leads (y ∷ es) e i (inr l) is = cons_later (edge_to y) (filter_map edge_to es) (e.0.0, i) (leads es e i l is)

-- ---- both ways

module _ (t : Table) (dirs : List ℕ) (reached : AreReached (filter_map edge_to (entries t.dentries)) dirs) where
  goes_on : (x : Edge) → Leads x (filter_map edge_to (entries t.dentries)) → is_among (reachable t) x.0 ≡ true → is_among (reachable t) x.1 ≡ true
  goes_on x l h =
      let b = by_entry (entries t.dentries) x l in
      let at : get t.dentries b.at.0 ≡ Some b.at.1 = get-entries t.dentries b.at.0 ∙ look (entries t.dentries) (entries_sorted t.dentries) b.at b.lies in
      reached_complete t x.1 (below b.at.0.0 b.at.0.1 x.1 (reached_sound t b.at.0.0 (ap (is_among (reachable t)) b.dir ∙ h)) (ap (option_and_then subdir) at ∙ b.names))

  sound : (d : ℕ) → is_among dirs d ≡ true → is_among (reachable t) d ≡ true
  sound = reached.only (is_among (reachable t)) (reached_complete t root at_root) goes_on

  step : (q : ℕ × List ℕ) (i : ℕ) (o : Option Dentry) → get t.dentries q ≡ o → option_and_then subdir o ≡ Some i → is_among dirs q.0 ≡ true → is_among dirs i ≡ true
  step q i None is names h = absurd (none_some i names)
  step q i (Some v) is names h = reached.closed (q.0, i) (leads (entries t.dentries) (q, v) i (found_lies (entries t.dentries) q v (sym (get-entries t.dentries q) ∙ is)) names) h

  complete : (d : ℕ) → IsReachable t d → is_among dirs d ≡ true
  complete d at_root = reached.root_there
  complete d (below e name i r is) = step (e, name) i (get t.dentries (e, name)) refl is (complete e r)

  both_ways : (a b : Bool) → (a ≡ true → b ≡ true) → (b ≡ true → a ≡ true) → a ≡ b
  both_ways true b f g = sym (f refl)
  both_ways false true f g = g refl
  both_ways false false f g = refl

  pub all_dirs : AreDirs t dirs
  all_dirs d = both_ways _ _ (sound d) (λ h. complete d (reached_sound t d h))

pub dirs_of_cells : (m : Map key_cmp CellValue) (dirs : List ℕ) → AreReached (filter_map edge_of (entries m)) dirs → AreDirs (table_of m) dirs
dirs_of_cells m dirs reached = all_dirs (table_of m) dirs (subst (λ (es : List Edge). AreReached es dirs) (edges_are (entries m) ∙ ap (filter_map edge_to) (sym (dentries_are m))) reached)

pub pass_more : (edges : List Edge) (dirs : List ℕ) (i : ℕ) (e : Edge) → i < length edges → e ≡ slice_index_or edges i e → (pass_dirs dirs (drop i edges) ≡ pass_dirs (with_edge dirs e) (drop (i + 1) edges)) × (pass_left dirs (drop i edges) ≡ unled dirs e ++ pass_left (with_edge dirs e) (drop (i + 1) edges))
pass_more edges dirs i e h is =
    let next : drop i edges ≡ e ∷ drop (i + 1) edges = rw add-one (drop-cons edges i e h ∙ ap (λ (y : Edge). y ∷ drop (suc i) edges) (sym is)) in
    (ap (pass_dirs dirs) next, ap (pass_left dirs) next)
