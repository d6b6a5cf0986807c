-- An index that follows a gentle group stands for the cells with it.
use Rattle.std.proofs.Common.{arith, ◌≡◌, ℕ, ◌+◌, ◌<◌, Bool, true, false, cond, not, ◌&&◌, ◌||◌, List, [], ◌∷◌, length, drop, slice_index_or, Option, Some, None, refl, sym, ap, subst, ◌∙◌, ◌⊎◌, inl, inr}
use Rattle.std.specs.Global.{Vec}
use Rattle.std.specs.Vec.{vec_len}
use Rattle.std.specs.Prelude.{is_some, nat_eq, map, filter_map, ◌==◌}
use Rattle.std.specs.Option.{option_map, option_and_then}
use Rattle.std.specs.List.{AllByRecursion, cons_option, list_any}
use Rattle.std.specs.BTreeMap.{is_at}
use Rattle.std.specs.BTreeSet.{BTreeSet, contains}
use Rattle.std.specs.declared.cmp.Ordering.{Ordering}
use Rattle.std.specs.Ordering.{eq_by_cmp, is_eq}
use Rattle.std.proofs.lemmas.Bool.{true≢false, eqb-true}
use Rattle.mj_base.specs.ObjectName.{stray_ino}
use Rattle.mj_base.specs.declared.record.InodeRecord.{InodeRecord}
use Rattle.mj_maps.specs.Map.{Map, get, insert, count}
use Rattle.mj_maps.specs.Orders.{nat_cmp}
use Rattle.mj_maps.proofs.MapLaws.{exact_nat, cases_key, eq_same, eq_true, count_some, insert_same, some_same, none_some}
use Rattle.mj_cells.specs.declared.cell.CellKey.{CellKey}
use Rattle.mj_cells.specs.declared.cell.CellKey.TheVariants as key
use Rattle.mj_cells.specs.declared.cell.CellValue.{CellValue}
use Rattle.mj_cells.specs.declared.cell.CellWrite.{CellWrite}
use Rattle.mj_cells.specs.Cell.{key_cmp, same_key}
use Rattle.mj_cells.specs.Table.Dentry.{Full, Remote}
use Rattle.mj_base.specs.Record.{same_kind}
use Rattle.mj_base.specs.declared.record.Kind.TheVariants.{Dir}
use Rattle.mj_cells.specs.Table.{Dentry, Table, table_of, dentry_of, put_all}
use Rattle.mj_cells.proofs.Keys.{exact_key}
use Rattle.mj_cells.proofs.Kept.{tree_cmp, tree_order}
use Rattle.mj_recovery.specs.Tree.{Entry, subdir, is_among, reachable, IsReachable}
use Rattle.mj_recovery.specs.Tree.IsReachable.{below}
use Rattle.mj_recovery.proofs.Reaching.{reached_sound, reached_complete}
use Rattle.mj_judge.specs.Own.{own_damage}
use Rattle.mj_judge.specs.Parts.{pair_of, dentry_at, dir_at}
use Rattle.mj_judge.proofs.PartMaps.{get-dentries, dentry_only}
use Rattle.mj_tables.specs.Layered.{Layered, early_cells, writes_key}
use Rattle.mj_index.specs.declared.known.Known.{Known}
use Rattle.mj_index.specs.declared.index.Index.{Index}
use Rattle.mj_index.specs.Places.{dentry_key}
use Rattle.mj_index.specs.Known.{Inodes, nothing, known_at, is_dir_at, held_by, altered, as_dir}
use Rattle.mj_index.specs.Said.{is_the, is_dentry_in, named_in, dir_named, record_of, record_held, full_inode, value_or_gone, cell_before, cell_after, left_dirs, led_dirs, written_dirs}
use Rattle.mj_index.specs.Indexed.{place_key, full_at, IsMidway, IsIndexed}
use Rattle.mj_index.specs.Following.{HasRoom, HasRoomFor, HasRoomAt, early_value, taken, put_in, followed, all_followed, all_dirs_set, SameIndex}
use Rattle.mj_index.specs.Changes.{Change, where_said, changes_over, changed_key, dirs_out, all_changed}
use Rattle.mj_index.specs.Course.{AreOnce, AreSingle, HasCounts, IsOnCourse}
use Rattle.mj_index.specs.Gentle.{LeadsTo, IsNamed, IsBare, HasKeptWay, IsGentle}
use Rattle.mj_index.specs.Gentle.HasKeptWay.{goes_down}
use Rattle.mj_index.specs.Grouped.{HasSpare}
use Rattle.mj_index.specs.Turning.{turned, has_key, AreKeysOf, HasPlaceKept, is_written, all_pass, is_bare, leaves_well, LeadsWell, IsGentleTurn}
use Rattle.mj_index.proofs.Altered.{known-altered_same, known-altered_other, room-altered, kept}
use Rattle.mj_index.proofs.Effects.{tied}
use Rattle.mj_index.proofs.Writes.{next_item}
use Rattle.mj_index.proofs.Course.{key_symm, itself, pair, not_written, same_midway, course_run, course_ends, rooms_stay}
use Rattle.mj_index.proofs.IndexIs.{single}
use Rattle.mj_index.proofs.Gentle.{dirs_after}

-- ---- writes of a list

abbrev IsIn : CellWrite → List CellWrite → Type 0
IsIn w [] = ⊥
IsIn w (x ∷ xs) = (x ≡ w) ⊎ IsIn w xs

or_cases : (a b : Bool) → (a || b) ≡ true → (a ≡ true) ⊎ (b ≡ true)
or_cases true b e = inl refl
or_cases false b e = inr e

or_left : (a b : Bool) → a ≡ true → (a || b) ≡ true
or_left true b e = refl
or_left false b e = absurd (true≢false (sym e))

or_right : (a b : Bool) → b ≡ true → (a || b) ≡ true
or_right true b e = refl
or_right false b e = e

and_left : (a b : Bool) → (a && b) ≡ true → a ≡ true
and_left true b e = refl
and_left false b e = absurd (true≢false (sym e))

and_right : (a b : Bool) → (a && b) ≡ true → b ≡ true
and_right true b e = e
and_right false b e = absurd (true≢false (sym e))

both_cases : (a : Bool) → (a ≡ true) ⊎ (a ≡ false)
both_cases true = inl refl
both_cases false = inr refl

among_to : (f : CellWrite → Option ℕ) (ws : List CellWrite) (w : CellWrite) (i : ℕ) → IsIn w ws → f w ≡ Some i → is_among (filter_map f ws) i ≡ true
among_to f [] w i in_it is = absurd in_it
among_to f (x ∷ ws) w i in_it is = elim in_it [
  | inl same ↦ ap (λ o. is_among (cons_option o (filter_map f ws)) i) (ap f same ∙ is) ∙ or_left (nat_eq i i) (is_among (filter_map f ws) i) (itself i)
  | inr rest ↦ elim (f x) as (λ o. is_among (cons_option o (filter_map f ws)) i ≡ true) [ None ↦ among_to f ws w i rest is | Some j ↦ or_right (nat_eq j i) _ (among_to f ws w i rest is) ]
]

record HasWrite (f : CellWrite → Option ℕ) (ws : List CellWrite) (i : ℕ) : Type 0 where
  w : CellWrite
  in_it : IsIn w ws
  is : f w ≡ Some i

among_from : (f : CellWrite → Option ℕ) (ws : List CellWrite) (i : ℕ) → is_among (filter_map f ws) i ≡ true → HasWrite f ws i
among_from f [] i t = absurd (true≢false (sym t))
among_from f (x ∷ ws) i t = elim (f x) as (λ o. f x ≡ o → is_among (cons_option o (filter_map f ws)) i ≡ true → HasWrite f (x ∷ ws) i) [
  | None ↦ λ _ t. let rest = among_from f ws i t in record { w = rest.w; in_it = inr rest.in_it; is = rest.is }
  | Some j ↦ λ is t. elim (or_cases (nat_eq j i) (is_among (filter_map f ws) i) t) [
    | inl same ↦ record { w = x; in_it = inl refl; is = is ∙ ap Some (eqb-true j i same) }
    | inr there ↦ let rest = among_from f ws i there in record { w = rest.w; in_it = inr rest.in_it; is = rest.is }
  ]
] refl t

in_written : (ws : List CellWrite) (w : CellWrite) → IsIn w ws → writes_key w.key ws ≡ true
in_written [] w in_it = absurd in_it
in_written (x ∷ ws) w in_it = elim in_it [
  | inl same ↦ or_left (same_key w.key x.key) (writes_key w.key ws) (ap (λ (z : CellWrite). same_key w.key z.key) same ∙ eq_same exact_key w.key)
  | inr rest ↦ or_right (same_key w.key x.key) (writes_key w.key ws) (in_written ws w rest)
]

record HasKey (k : CellKey) (ws : List CellWrite) : Type 0 where
  w : CellWrite
  in_it : IsIn w ws
  is : w.key ≡ k

written_in : (ws : List CellWrite) (k : CellKey) → writes_key k ws ≡ true → HasKey k ws
written_in [] k t = absurd (true≢false (sym t))
written_in (x ∷ ws) k t = elim (or_cases (same_key k x.key) (writes_key k ws) t) [
  | inl same ↦ record { w = x; in_it = inl refl; is = sym (eq_true exact_key k x.key same) }
  | inr there ↦ let rest = written_in ws k there in record { w = rest.w; in_it = inr rest.in_it; is = rest.is }
]

last_is : (m : Map key_cmp CellValue) (ws : List CellWrite) (w : CellWrite) → AreOnce ws → IsIn w ws → get (put_all m ws) w.key ≡ Some w.value
last_is m [] w once in_it = absurd in_it
last_is m (x ∷ ws) w once in_it = elim in_it [
  | inl same ↦ subst (λ (z : CellWrite). get (put_all (insert m x.key x.value) ws) z.key ≡ Some z.value) same (not_written (insert m x.key x.value) ws x.key once.0 ∙ insert_same exact_key m x.key x.value)
  | inr rest ↦ last_is (insert m x.key x.value) ws w once.1 rest
]

all_in : (P : CellWrite → Type 0) (ws : List CellWrite) (w : CellWrite) → AllByRecursion P ws → IsIn w ws → P w
all_in P [] w all in_it = absurd in_it
all_in P (x ∷ ws) w all in_it = elim in_it [ inl same ↦ subst P same all.0 | inr rest ↦ all_in P ws w all.1 rest ]

pass_among : (p : ℕ → Bool) (xs : List ℕ) (i : ℕ) → all_pass p xs ≡ true → is_among xs i ≡ true → p i ≡ true
pass_among p [] i all t = absurd (true≢false (sym t))
pass_among p (x ∷ xs) i all t = elim (or_cases (nat_eq x i) (is_among xs i) t) [
  | inl same ↦ ap p (sym (eqb-true x i same)) ∙ and_left (p x) (all_pass p xs) all
  | inr rest ↦ pass_among p xs i (and_right (p x) (all_pass p xs) all) rest
]

-- ---- what a cell names

record IsNaming (D : ℕ → Bool) (k : CellKey) (v : CellValue) (i : ℕ) : Type 0 where
  q : ℕ × List ℕ
  key_is : k ≡ dentry_key q
  dir : D q.0 ≡ true
  leads : option_and_then subdir (dentry_of v) ≡ Some i

naming_parts : (D : ℕ → Bool) (k : CellKey) (v : CellValue) (i : ℕ) (a : Option (ℕ × List ℕ)) (d : Option Dentry) → dentry_at k ≡ a → dentry_of v ≡ d → option_and_then (named_in D) (pair_of a d) ≡ Some i → IsNaming D k v i
naming_parts D k v i None d at of is = absurd (none_some i is)
naming_parts D k v i (Some q) None at of is = absurd (none_some i is)
naming_parts D k v i (Some q) (Some d) at of is = elim (D q.0) as (λ b. D q.0 ≡ b → cond b (subdir d) None ≡ Some i → IsNaming D k v i) [
  | true ↦ λ t is. record { q = q; key_is = dentry_only k q at; dir = t; leads = ap (option_and_then subdir) of ∙ is }
  | false ↦ λ _ none. absurd (none_some i none)
] refl is

naming : (D : ℕ → Bool) (k : CellKey) (v : CellValue) (i : ℕ) → dir_named D (k, v) ≡ Some i → IsNaming D k v i
naming D k v i is = naming_parts D k v i (dentry_at k) (dentry_of v) refl refl is

named_entry : (D : ℕ → Bool) (q : ℕ × List ℕ) (o : Option Dentry) → D q.0 ≡ true → option_and_then (named_in D) (pair_of (Some q) o) ≡ option_and_then subdir o
named_entry D q None here = refl
named_entry D q (Some d) here = ap (λ b. cond b (subdir d) None) here

or_gone : (o : Option CellValue) → dentry_of (value_or_gone o) ≡ option_and_then dentry_of o
or_gone None = refl
or_gone (Some v) = refl

by_subdir : (q : ℕ × List ℕ) (o : Option Dentry) (i : ℕ) → option_and_then subdir o ≡ Some i → option_map (λ (r : InodeRecord). r.ino) (option_and_then (record_held (λ _. true)) (pair_of (Some q) o)) ≡ Some i
by_subdir q None i e = absurd (none_some i e)
by_subdir q (Some (Remote v j kind)) i e = absurd (none_some i e)
by_subdir q (Some (Full v r)) i e = elim (same_kind r.kind Dir) as (λ b. cond b (Some r.ino) None ≡ Some i → Some r.ino ≡ Some i) [ true ↦ λ is. is | false ↦ λ none. absurd (none_some i none) ] e

-- ---- the directories afterwards

and_kept : (b : Bool) → ((b && true) || false) ≡ b
and_kept true = refl
and_kept false = refl

abbrev dir_after : Bool → Bool → Bool → Bool
dir_after reached left led = (reached && (led || not left)) || led

set_twice : (a b reached : Bool) → cond a true (cond b false reached) ≡ dir_after reached b a
set_twice true true true = refl
set_twice true true false = refl
set_twice true false true = refl
set_twice true false false = refl
set_twice false true true = refl
set_twice false true false = refl
set_twice false false true = refl
set_twice false false false = refl

cond_or : (a b : Bool) (x z : Bool) → cond a x (cond b x z) ≡ cond (b || a) x z
cond_or true true x z = refl
cond_or true false x z = refl
cond_or false true x z = refl
cond_or false false x z = refl

stay-dirs : {A : Type 0} (g : Inodes → A) → ((b : Bool) (m : Inodes) (i : ℕ) → g (altered m i (as_dir b)) ≡ g m) → (b : Bool) (ds : List ℕ) (x : Index) → g (all_dirs_set b ds x).known ≡ g x.known
stay-dirs g h b [] x = refl
stay-dirs g h b (d ∷ ds) x = stay-dirs g h b ds (record x { known = altered x.known d (as_dir b) }) ∙ h b x.known d

sum-dirs : {A : Type 0} (g : Index → A) → ((x : Index) (m : Inodes) → g (record x { known = m }) ≡ g x) → (b : Bool) (ds : List ℕ) (x : Index) → g (all_dirs_set b ds x) ≡ g x
sum-dirs g h b [] x = refl
sum-dirs g h b (d ∷ ds) x = sum-dirs g h b ds (record x { known = altered x.known d (as_dir b) }) ∙ h x _

-- making one a directory no more leaves nothing as nothing
still : (m : Inodes) (b : Bool) (d : ℕ) → (b ≡ false) ⊎ (is_some (get m d) ≡ true) → (as_dir b nothing ≡ nothing) ⊎ (is_some (get m d) ≡ true)
still m b d fits = elim fits [ inl f ↦ inl (ap (λ c. as_dir c nothing) f) | inr room ↦ inr room ]

one_set : (b : Bool) (m : Inodes) (d j : ℕ) → (b ≡ false) ⊎ (is_some (get m d) ≡ true) → is_dir_at (altered m d (as_dir b)) j ≡ cond (nat_eq d j) b (is_dir_at m j)
one_set b m d j fits = elim (cases_key exact_nat j d) [
  | inl same ↦ ap (λ z. is_dir_at (altered m d (as_dir b)) z) same ∙ ap (λ (k : Known). k.is_dir) (known-altered_same m d (as_dir b) (still m b d fits))
      ∙ ap (λ c. cond c b (is_dir_at m j)) (sym (tied d j ∙ ap (λ z. eq_by_cmp nat_cmp z d) same ∙ eq_same exact_nat d))
  | inr other ↦ ap (λ (k : Known). k.is_dir) (known-altered_other m d (as_dir b) j other) ∙ ap (λ c. cond c b (is_dir_at m j)) (sym (tied d j ∙ other))
]

all_set : (b : Bool) (ds : List ℕ) (x : Index) (j : ℕ) → ((d : ℕ) → is_among ds d ≡ true → (b ≡ false) ⊎ (is_some (get x.known d) ≡ true)) → is_dir_at (all_dirs_set b ds x).known j ≡ cond (is_among ds j) b (is_dir_at x.known j)
all_set b [] x j fits = refl
all_set b (d ∷ ds) x j fits =
    let next : Index = record x { known = altered x.known d (as_dir b) } in
    all_set b ds next j (λ e there. elim (fits e (or_right (nat_eq d e) (is_among ds e) there)) [ inl f ↦ inl f | inr room ↦ inr (room-altered x.known d (as_dir b) e ∙ room) ])
    ∙ ap (cond (is_among ds j) b) (one_set b x.known d j (fits d (or_left (nat_eq d d) (is_among ds d) (itself d))))
    ∙ cond_or (is_among ds j) (nat_eq d j) b (is_dir_at x.known j)

-- ---- a way that is kept

key_of_dir : (k : CellKey) (d : ℕ) (a : Option (ℕ × List ℕ)) → dentry_at k ≡ a → option_map (λ (q : ℕ × List ℕ). q.0) a ≡ Some d → (name : List ℕ) × (k ≡ key.Dentry d name)
key_of_dir k d None at is = absurd (none_some d is)
key_of_dir k d (Some q) at is = (q.1, dentry_only k q at ∙ ap (λ n. key.Dentry n q.1) (some_same q.0 d is))

pub place_kept : (m : Map key_cmp CellValue) (is_in : CellKey → Bool) (k : CellKey) (v : CellValue) (parent dir : ℕ) → is_in k ≡ false → get m k ≡ Some v → dir_at k ≡ Some parent → option_and_then subdir (dentry_of v) ≡ Some dir
    → HasPlaceKept (table_of m) (λ q. is_in (dentry_key q)) dir parent
place_kept m is_in k v parent dir free there at named =
    let place = key_of_dir k parent (dentry_at k) refl at in
    record {
      name = place.0;
      unwritten = ap is_in (sym place.1) ∙ free;
      leads = ap (option_and_then subdir) (get-dentries m (parent, place.0) ∙ ap (option_and_then dentry_of) (ap (get m) (sym place.1) ∙ there)) ∙ named;
    }

pub one_up : (t : Table) (w : ℕ × List ℕ → Bool) (i d : ℕ) → HasPlaceKept t w i d → HasKeptWay t w d → HasKeptWay t w i
one_up t w i d place way = goes_down (d, place.name) i way place.unwritten place.leads

-- ---- sets of keys

set_is : (s : BTreeSet CellKey) (k : CellKey) → contains tree_cmp s k ≡ has_key s k
set_is s k = ap (λ (r : CellKey → CellKey → Ordering). list_any (λ x. is_eq (r k x)) s.keys) tree_order

true_or : (a b : Bool) → cond a true b ≡ (a || b)
true_or true b = refl
true_or false b = refl

pub set_more : (old new : BTreeSet CellKey) (k : CellKey) → ((q : CellKey) → contains tree_cmp new q ≡ cond (is_at (tree_cmp k) q) true (contains tree_cmp old q)) → (q : CellKey) → has_key new q ≡ (same_key q k || has_key old q)
set_more old new k more q = sym (set_is new q) ∙ more q ∙ true_or (is_at (tree_cmp k) q) (contains tree_cmp old q)
    ∙ (λ i. (ap (λ (r : CellKey → CellKey → Ordering). is_eq (r k q)) tree_order ∙ key_symm k q) i || set_is old q i)

not_true : (b : Bool) → true ≡ not b → b ≡ false
not_true true e = absurd (true≢false e)
not_true false e = refl

pub set_lacks : (s : BTreeSet CellKey) (k : CellKey) → true ≡ not (contains tree_cmp s k) → has_key s k ≡ false
set_lacks s k e = sym (set_is s k) ∙ not_true (contains tree_cmp s k) e

pub keys_more : (ws : List CellWrite) (j i : ℕ) (w : CellWrite) (k : CellKey) (old new : BTreeSet CellKey) → j + 1 ≡ i → j < length ws → w ≡ slice_index_or ws j w → k ≡ w.key → AreKeysOf old (drop i ws) → has_key old k ≡ false
    → ((q : CellKey) → has_key new q ≡ (same_key q k || has_key old q)) → AreKeysOf new (drop j ws)
keys_more ws j i w k old new next within is copied keys lacks more =
    let left : drop j ws ≡ w ∷ drop i ws = next_item ws j w within is ∙ ap (λ n. w ∷ drop n ws) next in
    subst (AreKeysOf new) (sym left) (record {
      once = (sym (keys.are w.key) ∙ ap (has_key old) (sym copied) ∙ lacks, keys.once);
      are = λ q. more q ∙ (λ n. same_key q (copied n) || keys.are q n);
    })

pub leads_along : (m : Inodes) (t : Table) (ws : List CellWrite) (w v : ℕ × List ℕ → Bool) (a b c d : ℕ → Bool) → w ≡ v → a ≡ b → c ≡ d → AllByRecursion (LeadsWell m t w a c) ws → AllByRecursion (LeadsWell m t v b d) ws
leads_along m t ws w v a b c d e f g all =
    subst (λ (z : ℕ → Bool). AllByRecursion (LeadsWell m t v b z) ws) g (subst (λ (z : ℕ → Bool). AllByRecursion (LeadsWell m t v z c) ws) f (subst (λ (z : ℕ × List ℕ → Bool). AllByRecursion (LeadsWell m t z a c) ws) e all))

-- ---- the group

module _ (rank : ℕ) (l : Layered) (ws : List CellWrite) (x : Index) (left led : List ℕ) (turn : IsGentleTurn x.known l ws left led) (mid : IsIndexed rank (early_cells l) x)
    (none : own_damage rank (table_of (early_cells l)) ≡ None) (none_after : own_damage rank (table_of (put_all (early_cells l) ws)) ≡ None) where
  abbrev m : Map key_cmp CellValue
  m = early_cells l

  abbrev all : Map key_cmp CellValue
  all = put_all (early_cells l) ws

  abbrev t : Table
  t = table_of (early_cells l)

  abbrev after : Table
  after = table_of (put_all (early_cells l) ws)

  abbrev D : ℕ → Bool
  D = is_among (reachable (table_of (early_cells l)))

  abbrev E : ℕ → Bool
  E = is_among (reachable (table_of (put_all (early_cells l) ws)))

  known_dirs : is_dir_at x.known ≡ D
  known_dirs = λ i d. mid.dir d i

  left_is : left ≡ left_dirs D (early_value l) ws
  left_is = turn.left_is ∙ ap (λ (h : ℕ → Bool). left_dirs h (early_value l) ws) known_dirs

  led_is : led ≡ led_dirs D ws
  led_is = turn.led_is ∙ ap (λ (h : ℕ → Bool). led_dirs h ws) known_dirs

  before_at : (q : ℕ × List ℕ) → get t.dentries q ≡ dentry_of (early_value l (dentry_key q))
  before_at q = get-dentries m q ∙ sym (or_gone (get m (dentry_key q)))

  after_at : (q : ℕ × List ℕ) → get after.dentries q ≡ option_and_then dentry_of (get all (dentry_key q))
  after_at q = get-dentries all q

  after_by : (q : ℕ × List ℕ) (w : CellWrite) → IsIn w ws → w.key ≡ dentry_key q → get after.dentries q ≡ dentry_of w.value
  after_by q w in_it is = after_at q ∙ ap (option_and_then dentry_of) (ap (get all) (sym is) ∙ last_is m ws w turn.once in_it)

  others : (q : ℕ × List ℕ) → is_written ws q ≡ false → get after.dentries q ≡ get t.dentries q
  others q free = after_at q ∙ ap (option_and_then dentry_of) (not_written m ws (dentry_key q) free) ∙ sym (get-dentries m q)

  reached : (d : ℕ) → IsReachable t d → D d ≡ true
  reached d r = reached_complete t d r

  left_all : (q : ℕ × List ℕ) (i : ℕ) → is_written ws q ≡ true → IsReachable t q.0 → LeadsTo t q i → is_among left i ≡ true
  left_all q i written r leads =
      let has = written_in ws (dentry_key q) written in
      ap (λ (ds : List ℕ). is_among ds i) left_is ∙ among_to (λ w. dir_named D (cell_before (early_value l) w)) ws has.w i has.in_it
      (ap (λ k. dir_named D (k, early_value l k)) has.is ∙ named_entry D q (dentry_of (early_value l (dentry_key q))) (reached q.0 r) ∙ ap (option_and_then subdir) (sym (before_at q)) ∙ leads)

  led_all : (q : ℕ × List ℕ) (i : ℕ) → is_written ws q ≡ true → IsReachable t q.0 → LeadsTo after q i → is_among led i ≡ true
  led_all q i written r leads =
      let has = written_in ws (dentry_key q) written in
      ap (λ (ds : List ℕ). is_among ds i) led_is ∙ among_to (λ w. dir_named D (cell_after w)) ws has.w i has.in_it
      (ap (λ k. dir_named D (k, has.w.value)) has.is ∙ named_entry D q (dentry_of has.w.value) (reached q.0 r) ∙ ap (option_and_then subdir) (sym (after_by q has.w has.in_it has.is)) ∙ leads)

  record IsLeft (i : ℕ) : Type 0 where
    w : CellWrite
    in_it : IsIn w ws
    named : IsNaming D w.key (early_value l w.key) i

  record IsLed (i : ℕ) : Type 0 where
    w : CellWrite
    in_it : IsIn w ws
    said : dir_named (is_dir_at x.known) (cell_after w) ≡ Some i
    named : IsNaming D w.key w.value i

  left_by : (i : ℕ) → is_among left i ≡ true → IsLeft i
  left_by i there =
      let has = among_from (λ w. dir_named D (cell_before (early_value l) w)) ws i (sym (ap (λ (ds : List ℕ). is_among ds i) left_is) ∙ there) in
      record { w = has.w; in_it = has.in_it; named = naming D has.w.key (early_value l has.w.key) i has.is }

  led_by : (i : ℕ) → is_among led i ≡ true → IsLed i
  led_by i there =
      let has = among_from (λ w. dir_named D (cell_after w)) ws i (sym (ap (λ (ds : List ℕ). is_among ds i) led_is) ∙ there) in
      record { w = has.w; in_it = has.in_it; said = ap (λ (h : ℕ → Bool). dir_named h (cell_after has.w)) known_dirs ∙ has.is; named = naming D has.w.key has.w.value i has.is }

  written_at : (w : CellWrite) (q : ℕ × List ℕ) → IsIn w ws → w.key ≡ dentry_key q → is_written ws q ≡ true
  written_at w q in_it is = ap (λ k. writes_key k ws) (sym is) ∙ in_written ws w in_it

  left_from : (i : ℕ) → is_among left i ≡ true → IsNamed t (is_written ws) t i
  left_from i there =
      let by = left_by i there in
      record {
        place = by.named.q;
        written = written_at by.w by.named.q by.in_it by.named.key_is;
        reached = reached_sound t by.named.q.0 by.named.dir;
        leads = ap (option_and_then subdir) (before_at by.named.q ∙ ap (λ k. dentry_of (early_value l k)) (sym by.named.key_is)) ∙ by.named.leads;
      }

  led_leads : (i : ℕ) (by : IsLed i) → LeadsTo after by.named.q i
  led_leads i by = ap (option_and_then subdir) (after_by by.named.q by.w by.in_it by.named.key_is) ∙ by.named.leads

  led_from : (i : ℕ) → is_among led i ≡ true → IsNamed t (is_written ws) after i
  led_from i there =
      let by = led_by i there in
      record { place = by.named.q; written = written_at by.w by.named.q by.in_it by.named.key_is; reached = reached_sound t by.named.q.0 by.named.dir; leads = led_leads i by }

  -- ---- bare directories

  no_dentry : (i : ℕ) (name : List ℕ) (o : Option CellValue) → count (is_dentry_in i) m ≡ 0 → get m (key.Dentry i name) ≡ o → option_and_then dentry_of o ≡ None
  no_dentry i name None zero is = refl
  no_dentry i name (Some v) zero is = elim (dentry_of v) as (λ d. dentry_of v ≡ d → d ≡ None) [
    | None ↦ λ _. refl
    | Some d ↦ λ there.
        let some = count_some exact_key (is_dentry_in i) m (key.Dentry i name) v is (ap (λ z. is_the i (option_map (λ (e : Entry). e.0.0) (pair_of (Some (i, name)) z))) there ∙ itself i) in
        absurd (omega (arith, some, zero))
  ] refl

  bare_of : (i : ℕ) → is_bare x.known (is_among (written_dirs ws)) i ≡ true → IsBare t (is_written ws) i
  bare_of i bare =
      let zero : count (is_dentry_in i) m ≡ 0 = sym (mid.dentries_in i) ∙ eqb-true _ 0 (and_left _ _ bare) in
      let free = and_right ((known_at x.known i).dentries == 0) (not (is_among (written_dirs ws) i)) bare in
      record {
        empty = λ name. get-dentries m (i, name) ∙ no_dentry i name (get m (key.Dentry i name)) zero refl;
        unwritten = λ name. elim (both_cases (writes_key (key.Dentry i name) ws)) [
          | inl written ↦
              let has = written_in ws (key.Dentry i name) written in
              let there = among_to (λ (w : CellWrite). dir_at w.key) ws has.w i has.in_it (ap dir_at has.is) in
              absurd (true≢false (sym free ∙ ap not there))
          | inr f ↦ f
        ];
      }

  lead_well : (i : ℕ) (by : IsLed i) → LeadsWell x.known t (is_written ws) (is_among (written_dirs ws)) (is_among left) by.w
  lead_well i by = all_in _ ws by.w turn.leads by.in_it

  bare_both : (i : ℕ) (b : Bool) → is_among led i ≡ b → is_among left i ≡ not b → IsBare t (is_written ws) i
  bare_both i true is_led not_left = let by = led_by i is_led in bare_of i ((lead_well i by).begins i by.said not_left)
  bare_both i false not_led is_left =
      let well = pass_among (leaves_well x.known (is_among (written_dirs ws)) (is_among led)) left i turn.leaves is_left in
      bare_of i (ap (λ b. b || is_bare x.known (is_among (written_dirs ws)) i) (sym not_led) ∙ well)

  moved_way : (i : ℕ) (by : IsLed i) → is_among left i ≡ true → HasKeptWay t (is_written ws) by.named.q.0
  moved_way i by is_left = (lead_well i by).moves by.named.q.0 i (ap dir_at by.named.key_is) by.said is_left

  pub gentle : IsGentle rank t after (is_written ws) (is_among left) (is_among led)
  gentle = record {
    undamaged = none;
    others = others;
    left_all = left_all;
    led_all = led_all;
    left_from = left_from;
    led_from = led_from;
    bare = λ i differ. bare_both i (is_among led i) refl differ;
    moved = λ i is_left is_led. let by = led_by i is_led in record { place = by.named.q; way = moved_way i by is_left; leads = led_leads i by };
  }

  dirs_are : (d : ℕ) → E d ≡ dir_after (D d) (is_among left d) (is_among led d)
  dirs_are d = dirs_after rank t after (is_written ws) (is_among left) (is_among led) gentle d

  left_reached : (d : ℕ) → is_among left d ≡ true → D d ≡ true
  left_reached d there = let from = left_from d there in reached d (below from.place.0 from.place.1 d from.reached from.leads)

  same_or_bare : (d : ℕ) (a b : Bool) → is_among left d ≡ a → is_among led d ≡ b → (E d ≡ D d) ⊎ IsBare t (is_written ws) d
  same_or_bare d true true is_left is_led = inl (dirs_are d ∙ (λ j. dir_after (left_reached d is_left j) (is_left j) (is_led j)) ∙ sym (left_reached d is_left))
  same_or_bare d false false is_left is_led = inl (dirs_are d ∙ (λ j. dir_after (D d) (is_left j) (is_led j)) ∙ and_kept (D d))
  same_or_bare d true false is_left is_led = inr (bare_both d false is_led is_left)
  same_or_bare d false true is_left is_led = inr (bare_both d true is_led is_left)

  -- a dentry that is there afterwards is in a directory of both or of neither
  same_held : (q : ℕ × List ℕ) (d : Dentry) → get after.dentries q ≡ Some d → held_by rank E q.0 ≡ held_by rank D q.0
  same_held q d there = elim (same_or_bare q.0 (is_among left q.0) (is_among led q.0) refl refl) [
    | inl same ↦ ap (λ b. nat_eq (stray_ino rank) q.0 || b) same
    | inr bare ↦ absurd (none_some d (sym (others q (bare.unwritten q.1) ∙ bare.empty q.1) ∙ there))
  ]

  said_alike : (k : CellKey) (v : CellValue) (a : Option (ℕ × List ℕ)) (d : Option Dentry) → dentry_at k ≡ a → dentry_of v ≡ d → value_or_gone (get all k) ≡ v → option_and_then (record_held (held_by rank E)) (pair_of a d) ≡ option_and_then (record_held (held_by rank D)) (pair_of a d)
  said_alike k v None d at of is = refl
  said_alike k v (Some q) None at of is = refl
  said_alike k v (Some q) (Some d) at of is =
      let there : get after.dentries q ≡ Some d = after_at q ∙ sym (or_gone (get all (dentry_key q))) ∙ ap (λ z. dentry_of (value_or_gone (get all z))) (sym (dentry_only k q at)) ∙ ap dentry_of is ∙ of in
      ap (λ b. cond b (record_of d) None) (same_held q d there)

  full_alike : (k : CellKey) → full_at (held_by rank E) all k ≡ full_at (held_by rank D) all k
  full_alike k = said_alike k (value_or_gone (get all k)) (dentry_at k) (dentry_of (value_or_gone (get all k))) refl refl refl

  single_still : AreSingle (held_by rank D) all
  single_still a b r s ra sb = single rank all none_after a b r s (full_alike a ∙ ra) (full_alike b ∙ sb)

  module _ (y : Index) (same : SameIndex x y) (room : HasRoom y.known ws) (counts : HasCounts m (length ws)) where
    mid_y : IsMidway rank D m [] y
    mid_y = same_midway rank D m [] x y same mid

    course : IsOnCourse rank D (early_value l) all ws y
    course = record {
      m = m;
      midway = record {
        dir = mid_y.dir;
        dentries_in = mid_y.dentries_in;
        opens_of_each = mid_y.opens_of_each;
        all_dentries = mid_y.all_dentries;
        all_opens = mid_y.all_opens;
        all_sessions = mid_y.all_sessions;
        sound = mid_y.sound;
        whole = λ k r free is. mid_y.whole k r refl is;
      };
      ends = refl;
      olds = λ k written. refl;
      once = turn.once;
      single = single_still;
      counts = counts;
    }

    abbrev x1 : Index
    x1 = all_followed rank (early_value l) ws y

    mid1 : IsMidway rank D all [] x1
    mid1 = course_ends rank D (early_value l) all x1 (course_run rank D (early_value l) all ws y course room)

    abbrev x2 : Index
    x2 = all_dirs_set false left x1

    abbrev x3 : Index
    x3 = all_dirs_set true led x2

    full_said_any : (w : CellWrite) (i : ℕ) → IsNaming D w.key w.value i → full_inode (λ _. true) (cell_after w) ≡ Some i
    full_said_any w i named = ap (λ k. full_inode (λ _. true) (k, w.value)) named.key_is ∙ by_subdir named.q (dentry_of w.value) i named.leads

    room_led : (d : ℕ) → is_among led d ≡ true → is_some (get x2.known d) ≡ true
    room_led d there =
        let by = led_by d there in
        let has = all_in (λ w. HasRoomFor y.known (cell_after w)) ws by.w room by.in_it in
        stay-dirs (λ n. is_some (get n d)) (λ b n i. room-altered n i (as_dir b) d) false left x1
        ∙ rooms_stay rank (early_value l) ws y d
        ∙ subst (HasRoomAt y.known) (full_said_any by.w d by.named) has.full

    dir3 : (d : ℕ) → is_dir_at x3.known d ≡ E d
    dir3 d = all_set true led x2 d (λ e there. inr (room_led e there))
        ∙ ap (cond (is_among led d) true) (all_set false left x1 d (λ e there. inl refl) ∙ ap (cond (is_among left d) false) (mid1.dir d))
        ∙ set_twice (is_among led d) (is_among left d) (D d) ∙ sym (dirs_are d)

    stays3 : {A : Type 0} (g : Known → A) → ((b : Bool) (k : Known) → g (as_dir b k) ≡ g k) → (j : ℕ) → g (known_at x3.known j) ≡ g (known_at x1.known j)
    stays3 g h j = stay-dirs (λ n. g (known_at n j)) (λ b. kept g (as_dir b) (h b) j) true led x2 ∙ stay-dirs (λ n. g (known_at n j)) (λ b. kept g (as_dir b) (h b) j) false left x1

    sums3 : {A : Type 0} (g : Index → A) → ((z : Index) (n : Inodes) → g (record z { known = n }) ≡ g z) → g x3 ≡ g x1
    sums3 g h = sum-dirs g h true led x2 ∙ sum-dirs g h false left x1

    pub group_follows : IsIndexed rank all x3
    group_follows = record {
      dir = dir3;
      dentries_in = λ d. stays3 (λ k. k.dentries) (λ b k. refl) d ∙ mid1.dentries_in d;
      opens_of_each = λ i. stays3 (λ k. k.opens) (λ b k. refl) i ∙ mid1.opens_of_each i;
      all_dentries = sums3 (λ z. z.dentries) (λ z n. refl) ∙ mid1.all_dentries;
      all_opens = sums3 (λ z. z.opens) (λ z n. refl) ∙ mid1.all_opens;
      all_sessions = sums3 (λ z. z.sessions) (λ z n. refl) ∙ mid1.all_sessions;
      sound = λ i p is. ap (option_map pair) (full_alike p.key) ∙ mid1.sound i p (sym (stays3 (λ k. k.full) (λ b k. refl) i) ∙ is);
      whole = λ k r free is. ap place_key (stays3 (λ k. k.full) (λ b k. refl) r.ino) ∙ mid1.whole k r free (sym (full_alike k) ∙ is);
    }

counts_spare : (m : Map key_cmp CellValue) (x : Index) (rank : ℕ) (dirs : ℕ → Bool) (more : ℕ) → IsMidway rank dirs m [] x → HasSpare x more → HasCounts m more
counts_spare m x rank dirs more mid spare =
    let a = mid.all_dentries in
    let b = mid.all_opens in
    let c = mid.all_sessions in
    let d = spare.dentries in
    let e = spare.opens in
    let f = spare.sessions in
    record { dentries = omega (arith, a, d); opens = omega (arith, b, e); sessions = omega (arith, c, f) }

-- ---- changes

said_named : (dirs : ℕ → Bool) (old : CellKey → CellValue) (k : CellKey) → dir_named dirs (k, where_said old k) ≡ dir_named dirs (k, old k)
said_named dirs old (key.Dentry d n) = refl
said_named dirs old (key.DirHead d) = refl
said_named dirs old key.NextIno = refl
said_named dirs old (key.Session c) = refl
said_named dirs old (key.Done c t) = refl
said_named dirs old (key.OpenOf c i) = refl

said_taken : (rank : ℕ) (old : CellKey → CellValue) (k : CellKey) (x : Index) → taken rank (k, where_said old k) x ≡ taken rank (k, old k) x
said_taken rank old (key.Dentry d n) x = refl
said_taken rank old (key.DirHead d) x = refl
said_taken rank old key.NextIno x = refl
said_taken rank old (key.Session c) x = refl
said_taken rank old (key.Done c t) x = refl
said_taken rank old (key.OpenOf c i) x = refl

left_over : (dirs : ℕ → Bool) (old : CellKey → CellValue) (ws : List CellWrite) → dirs_out dirs (changes_over (where_said old) ws) ≡ left_dirs dirs old ws
left_over dirs old [] = refl
left_over dirs old (w ∷ ws) = λ i. cons_option (said_named dirs old w.key i) (left_over dirs old ws i)

changed_over : (rank : ℕ) (old : CellKey → CellValue) (ws : List CellWrite) (x : Index) → all_changed rank (changes_over (where_said old) ws) x ≡ all_followed rank old ws x
changed_over rank old [] x = refl
changed_over rank old (w ∷ ws) x = ap (λ (y : Index). all_changed rank (changes_over (where_said old) ws) (put_in rank (cell_after w) y)) (said_taken rank old w.key x) ∙ changed_over rank old ws (followed rank old w x)

keys_over : (old : CellKey → CellValue) (ws : List CellWrite) → map changed_key (changes_over old ws) ≡ map (λ (w : CellWrite). w.key) ws
keys_over old [] = refl
keys_over old (w ∷ ws) = ap (λ ks. w.key ∷ ks) (keys_over old ws)

pub left_changes : (dirs : ℕ → Bool) (old : CellKey → CellValue) (ws : List CellWrite) (cs : List Change) → cs ≡ changes_over (where_said old) ws → dirs_out dirs cs ≡ left_dirs dirs old ws
left_changes dirs old ws cs over = ap (dirs_out dirs) over ∙ left_over dirs old ws

pub keys_changes : (old : CellKey → CellValue) (ws : List CellWrite) (cs : List Change) → cs ≡ changes_over old ws → map changed_key cs ≡ map (λ (w : CellWrite). w.key) ws
keys_changes old ws cs over = ap (map changed_key) over ∙ keys_over old ws

-- the index that followed a gentle group
pub group_done : (rank : ℕ) (l : Layered) (ws : List CellWrite) (cs : List Change) (x y z : Index) (left led : List ℕ) → IsGentleTurn x.known l ws left led → IsIndexed rank (early_cells l) x
    → own_damage rank (table_of (early_cells l)) ≡ None → own_damage rank (table_of (put_all (early_cells l) ws)) ≡ None → SameIndex x y → HasRoom y.known ws → HasSpare x (length ws)
    → cs ≡ changes_over (where_said (early_value l)) ws → SameIndex (turned rank cs left led y) z → IsIndexed rank (put_all (early_cells l) ws) z
group_done rank l ws cs x y z left led turn mid none none_after same room spare over follows =
    same_midway rank (is_among (reachable (table_of (put_all (early_cells l) ws)))) (put_all (early_cells l) ws) [] (all_dirs_set true led (all_dirs_set false left (all_followed rank (early_value l) ws y))) z
    (subst (λ (v : Index). SameIndex (all_dirs_set true led (all_dirs_set false left v)) z) (ap (λ (ds : List Change). all_changed rank ds y) over ∙ changed_over rank (early_value l) ws y) follows)
    (group_follows rank l ws x left led turn mid none none_after y same room (counts_spare (early_cells l) x rank _ (length ws) mid spare))

-- ---- where no write names a directory

no_length : (ds : List ℕ) → length ds ≡ 0 → ds ≡ []
no_length [] none = refl
no_length (d ∷ ds) none = absurd (omega (arith, none))

pub no_items : (v : Vec ℕ) → (vec_len v == 0) ≡ true → v.items ≡ []
no_items v none = no_length v.items (sym v.ok.0 ∙ eqb-true (vec_len v) 0 none)

no_dir_named : (o : Option ℕ) (ds : List ℕ) → cons_option o ds ≡ [] → (o ≡ None) × (ds ≡ [])
no_dir_named None ds is = (refl, is)
no_dir_named (Some d) ds is = let longer : length (d ∷ ds) ≡ 0 = ap length is in absurd (omega (arith, longer))

quiet_leads : (m : Inodes) (t : Table) (w : ℕ × List ℕ → Bool) (a b : ℕ → Bool) (ws : List CellWrite) → led_dirs (is_dir_at m) ws ≡ [] → AllByRecursion (LeadsWell m t w a b) ws
quiet_leads m t w a b [] is = tt
quiet_leads m t w a b (v ∷ ws) is =
    let none = no_dir_named (dir_named (is_dir_at m) (cell_after v)) (led_dirs (is_dir_at m) ws) is in (
      record {
        moves = λ d i _ named _. absurd (none_some i (sym none.0 ∙ named));
        begins = λ i named _. absurd (none_some i (sym none.0 ∙ named));
      },
      quiet_leads m t w a b ws none.1,
    )

-- writes that name no directory, before or after, are gentle where no key is written twice
pub quiet_turn : (m : Inodes) (l : Layered) (ws : List CellWrite) (left led : List ℕ) → AreOnce ws → left ≡ left_dirs (is_dir_at m) (early_value l) ws → led ≡ led_dirs (is_dir_at m) ws → left ≡ [] → led ≡ [] → IsGentleTurn m l ws left led
quiet_turn m l ws left led once left_is led_is no_left no_led = record {
  once = once;
  left_is = left_is;
  led_is = led_is;
  leaves = ap (all_pass (leaves_well m (is_among (written_dirs ws)) (is_among led))) no_left;
  leads = quiet_leads m (table_of (early_cells l)) (is_written ws) (is_among (written_dirs ws)) (is_among left) ws (sym led_is ∙ no_led);
}
