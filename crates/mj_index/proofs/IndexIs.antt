-- What an index that stands for cells without damage says of their tree.
use Rattle.std.proofs.Common.{arith, ◌≡◌, ℕ, ◌+◌, ◌≤◌, Bool, true, false, cond, ◌&&◌, ◌||◌, List, [], ◌∷◌, length, map, T, Option, Some, None, refl, sym, ap, subst, ◌∙◌, ◌⊎◌, inl, inr}
use Rattle.std.specs.Prelude.{is_some, unwrap_or, find, filter_map, ◌==◌, nat_lt}
use Rattle.std.specs.Option.{option_map, option_and_then, option_map_or}
use Rattle.std.specs.declared.cmp.Ordering.{Ordering}
use Rattle.std.specs.declared.cmp.Ordering.TheVariants.{Less, Equal, Greater}
use Rattle.std.specs.Ordering.{eq_by_cmp, is_lt, is_eq}
use Rattle.std.specs.Cmp.{unsigned_ties}
use Rattle.std.specs.FinMap.Entries as fin
use Rattle.std.specs.FinMap.Entries.{is_sorted, below_all}
use Rattle.std.proofs.lemmas.Bool.{true≢false, eqb-true}
use Rattle.mj_base.specs.declared.record.InodeRecord.{InodeRecord}
use Rattle.mj_base.specs.declared.damage.Damage.TheVariants.{DirfragMissing, TwoPrimaries, NoPrimary, BadLinks, BadNext, BadSession, OverLimit}
use Rattle.mj_maps.specs.Map.{Map, get, entries, entries_sorted, len, count, collect, left_true, right_true}
use Rattle.mj_maps.specs.Orders.{nat_cmp, place_cmp}
use Rattle.mj_maps.proofs.MapLaws.{Exact, exact_nat, exact_place, cases_key, eq_same, get-entries, get-collect, get-insert, get_empty, count_cases, count_some, count-collect, count_all, same_map, some_same, none_some}
use Rattle.mj_tree.specs.State.{attributes_of, is_file, is_kept, link_count, open_count, entry_count}
use Rattle.mj_cells.specs.declared.cell.CellKey.{CellKey}
use Rattle.mj_cells.specs.declared.cell.CellValue.{CellValue}
use Rattle.mj_cells.specs.Cell.{key_cmp}
use Rattle.mj_cells.specs.Table.{Dentry, table_of, dentry_of}
use Rattle.mj_cells.specs.Table.Dentry.{Full, Remote}
use Rattle.mj_cells.proofs.Keys.{exact_key}
use Rattle.mj_recovery.specs.Tree.{Entry, is_among, full_record, reachable, holding, by_inode, bare_tree, record_in, tree_of}
use Rattle.mj_recovery.specs.Damage.{first_some, least, times, inos, headless, twice, lone_remote, miscounted, out_of_range, first_open, bad_opens, bad_replies, over_limit, cell_dirs, tree_damage}
use Rattle.mj_judge.specs.Own.{own_damage}
use Rattle.mj_judge.specs.Parts.{Cell, pair_of, dentry_at, dentry_entry, session_entry, open_place}
use Rattle.mj_judge.specs.Reached.{AreDirs}
use Rattle.mj_judge.specs.Rows.{full_ino, link_dir, link_from, miscounted_ino, if_other}
use Rattle.mj_judge.specs.Judged.{held, link_times}
use Rattle.mj_judge.proofs.Alike.{filter_map_map, least_none}
use Rattle.mj_judge.proofs.Distinct.{AreDistinct, distinct}
use Rattle.mj_judge.proofs.PartMaps.{get-dentries, dentry_only}
use Rattle.mj_judge.proofs.FoundRows.{rs, fulls_are, link_at, open_at, entry_at, counts_is, sessions_are_many, opens_are_many}
use Rattle.mj_index.specs.declared.known.FullPlace.{FullPlace}
use Rattle.mj_index.specs.declared.known.Known.{Known}
use Rattle.mj_index.specs.declared.index.Index.{Index}
use Rattle.mj_index.specs.Places.{is_full_at, full_place, dentry_key}
use Rattle.mj_index.specs.Known.{nothing, known_at, keeps, keeps_at, keeps_entry, held_by}
use Rattle.mj_index.specs.Said.{is_the, is_dentry_in, record_held, full_said, full_inode, open_inode, value_or_gone}
use Rattle.mj_index.specs.Indexed.{place_key, entries_known, full_at, IsMidway, IsIndexOf}
use Rattle.mj_index.specs.Course.{AreSingle}
use Rattle.mj_index.proofs.CellCounts.{times_the, length_some, passing_alike, passing_both, one_cell, full_gone}
use Rattle.mj_index.proofs.Course.{itself, named, pair, ino_of_record, with_key}

-- ---- a record of some directories, by a list and by a test

full_alike : (dirs : List ℕ) (h : ℕ → Bool) → ((d : ℕ) → is_among dirs d ≡ h d) → (o : Option Entry) → option_and_then (full_record dirs) o ≡ option_and_then (record_held h) o
full_alike dirs h is None = refl
full_alike dirs h is (Some ((d, name), Full v r)) = ap (λ b. cond b (Some r) None) (is d)
full_alike dirs h is (Some ((d, name), Remote v i k)) = λ j. cond (is d j) None None

-- ---- damage that is none

second_none : {A : Type 0} (a b : Option A) (os : List (Option A)) → first_some (a ∷ b ∷ os) ≡ None → b ≡ None
second_none None None os e = refl
second_none None (Some y) os e = absurd (none_some y (sym e))
second_none (Some x) b os e = absurd (none_some x (sym e))

fourth_none : {A : Type 0} (a b c d : Option A) (os : List (Option A)) → first_some (a ∷ b ∷ c ∷ d ∷ os) ≡ None → d ≡ None
fourth_none None None None None os e = refl
fourth_none None None None (Some y) os e = absurd (none_some y (sym e))
fourth_none None None (Some y) d os e = absurd (none_some y (sym e))
fourth_none None (Some y) c d os e = absurd (none_some y (sym e))
fourth_none (Some y) b c d os e = absurd (none_some y (sym e))

map_none : {A : Type 0} (f : ℕ → A) (o : Option ℕ) → option_map f o ≡ None → o ≡ None
map_none f None e = refl
map_none f (Some n) e = absurd (none_some _ (sym e))

-- ---- the first of a list in order

is_less : (r : Ordering) → T (is_lt r) → is_eq r ≡ false
is_less Less h = refl
is_less Equal h = absurd h
is_less Greater h = refl

module _ {K X : Type 0} {R : K → K → Ordering} (o : Exact R) (p : K × X → Bool) where
  not_below : (k : K) (es : List (K × X)) → T (below_all R k es) → fin.find R k es ≡ None
  not_below k [] h = refl
  not_below k (e ∷ es) h = rw (is_less (R k e.0) (left_true _ _ h)) (not_below k es (right_true _ _ h))

  first_there : (es : List (K × X)) → T (is_sorted R es) → (e : K × X) → find p es ≡ Some e → (fin.find R e.0 es ≡ Some e.1) × (p e ≡ true)
  first_there [] h e is = absurd (none_some e is)
  first_there (x ∷ es) h e is = elim (p x) as (λ b. p x ≡ b → cond b (Some x) (find p es) ≡ Some e → (fin.find R e.0 (x ∷ es) ≡ Some e.1) × (p e ≡ true)) [
    | true ↦ λ t is. subst (λ (z : K × X). (fin.find R z.0 (x ∷ es) ≡ Some z.1) × (p z ≡ true)) (some_same x e is) (ap (λ b. cond b (Some x.1) (fin.find R x.0 es)) (eq_same o x.0), t)
    | false ↦ λ _ is.
        let rest = first_there es (right_true _ _ h) e is in
        elim (cases_key o e.0 x.0) [
          | inl same ↦ absurd (none_some e.1 (sym (not_below x.0 es (left_true _ _ h)) ∙ ap (λ k. fin.find R k es) (sym same) ∙ rest.0))
          | inr other ↦ (ap (λ b. cond b (Some x.1) (fin.find R e.0 es)) other ∙ rest.0, rest.1)
        ]
  ] refl is

  none_first : (es : List (K × X)) → find p es ≡ None → (q : K) (d : X) → fin.find R q es ≡ Some d → p (q, d) ≡ false
  none_first [] none q d is = absurd (none_some d is)
  none_first (x ∷ es) none q d is = elim (p x) as (λ b. p x ≡ b → cond b (Some x) (find p es) ≡ None → p (q, d) ≡ false) [
    | true ↦ λ _ none. absurd (none_some x (sym none))
    | false ↦ λ f none. elim (cases_key o q x.0) [
      | inl same ↦
          let value : x.1 ≡ d = some_same x.1 d (sym (ap (λ b. cond b (Some x.1) (fin.find R q es)) (ap (λ z. eq_by_cmp R z x.0) same ∙ eq_same o x.0)) ∙ is) in
          (λ i. p (same i, sym value i)) ∙ f
      | inr other ↦ none_first es none q d (sym (ap (λ b. cond b (Some x.1) (fin.find R q es)) other) ∙ is)
    ]
  ] refl none

-- ---- where the full dentry of an inode stands

pub record IsFullAt (held : ℕ → Bool) (k : CellKey) (v : CellValue) (r : InodeRecord) : Type 0 where
  pub q : ℕ × List ℕ
  pub version : ℕ
  pub key_is : k ≡ dentry_key q
  pub in_held : held q.0 ≡ true
  pub value_is : dentry_of v ≡ Some (Full version r)

by_parts : (held : ℕ → Bool) (k : CellKey) (v : CellValue) (r : InodeRecord) (a : Option (ℕ × List ℕ)) (d : Option Dentry) → dentry_at k ≡ a → dentry_of v ≡ d → option_and_then (record_held held) (pair_of a d) ≡ Some r → IsFullAt held k v r
by_parts held k v r None d at of is = absurd (none_some r is)
by_parts held k v r (Some q) None at of is = absurd (none_some r is)
by_parts held k v r (Some q) (Some (Remote w i kind)) at of is = elim (held q.0) as (λ b. cond b None None ≡ Some r → IsFullAt held k v r) [ true ↦ λ none. absurd (none_some r none) | false ↦ λ none. absurd (none_some r none) ] is
by_parts held k v r (Some q) (Some (Full w s)) at of is = elim (held q.0) as (λ b. held q.0 ≡ b → cond b (Some s) None ≡ Some r → IsFullAt held k v r) [
  | true ↦ λ t is. record { q = q; version = w; key_is = dentry_only k q at; in_held = t; value_is = of ∙ ap (λ (z : InodeRecord). Some (Full w z)) (some_same s r is) }
  | false ↦ λ _ none. absurd (none_some r none)
] refl is

pub full_parts : (held : ℕ → Bool) (k : CellKey) (v : CellValue) (r : InodeRecord) → full_said held (k, v) ≡ Some r → IsFullAt held k v r
full_parts held k v r is = by_parts held k v r (dentry_at k) (dentry_of v) refl refl is

-- ---- cells that are there

value_there : (held : ℕ → Bool) (k : CellKey) (o : Option CellValue) (r : InodeRecord) → full_said held (k, value_or_gone o) ≡ Some r → (v : CellValue) × (o ≡ Some v) × (full_said held (k, v) ≡ Some r)
value_there held k None r is = absurd (none_some r (sym (full_gone held k) ∙ is))
value_there held k (Some v) r is = (v, refl, is)

there_value : (o : Option CellValue) (d : Dentry) → option_and_then dentry_of o ≡ Some d → (v : CellValue) × (o ≡ Some v) × (dentry_of v ≡ Some d)
there_value None d is = absurd (none_some d is)
there_value (Some v) d is = (v, refl, is)

inode_is : (held : ℕ → Bool) (c : Cell) (r : InodeRecord) → full_said held c ≡ Some r → is_the r.ino (full_inode held c) ≡ true
inode_is held c r is = ap (λ o. is_the r.ino (ino_of_record o)) is ∙ itself r.ino

record HasFull (held : ℕ → Bool) (c : Cell) (i : ℕ) : Type 0 where
  r : InodeRecord
  is : full_said held c ≡ Some r
  ino : r.ino ≡ i

has_full : (held : ℕ → Bool) (c : Cell) (i : ℕ) (o : Option InodeRecord) → full_said held c ≡ o → is_the i (ino_of_record o) ≡ true → HasFull held c i
has_full held c i None said t = absurd (true≢false (sym t))
has_full held c i (Some r) said t = record { r = r; is = said; ino = eqb-true r.ino i t }

no_and : (b : Bool) → (b && false) ≡ false
no_and true = refl
no_and false = refl

above : (n : ℕ) → nat_lt 0 (n + 1) ≡ true
above n = grind arith

more_sum : (a b : ℕ) → nat_lt 0 a ≡ true → nat_lt 0 (a + b) ≡ true
more_sum a b t = grind (arith, t)

none_sum : (a b : ℕ) → nat_lt 0 a ≡ false → b ≡ a + b
none_sum a b f = grind (arith, f)

above_sum : (a b : ℕ) → (nat_lt 0 a || nat_lt 0 b) ≡ nat_lt 0 (a + b)
above_sum a b = elim (nat_lt 0 a) as (λ c. nat_lt 0 a ≡ c → (c || nat_lt 0 b) ≡ nat_lt 0 (a + b)) [ true ↦ λ t. sym (more_sum a b t) | false ↦ λ f. ap (nat_lt 0) (none_sum a b f) ] refl

-- ---- counts of what is kept by inode

some_by_inode : (i : ℕ) (rs : List InodeRecord) → is_some (get (by_inode rs) i) ≡ nat_lt 0 (times i (inos rs))
some_by_inode i [] = ap is_some (get_empty nat_cmp i)
some_by_inode i (r ∷ rs) = ap is_some (get-insert exact_nat (by_inode rs) r.ino r i) ∙ ap (λ b. is_some (cond b (Some r) (get (by_inode rs) i))) (sym (unsigned_ties i r.ino))
    ∙ elim (i == r.ino) as (λ b. is_some (cond b (Some r) (get (by_inode rs) i)) ≡ nat_lt 0 (cond b (times i (inos rs) + 1) (times i (inos rs)))) [ true ↦ sym (above (times i (inos rs))) | false ↦ some_by_inode i rs ]

abbrev marked : Bool → Option (Unit {0})
marked b = cond b (Some tt) None

one_side : (o : Option Known) → option_and_then (λ (k : Known). marked (keeps k)) o ≡ marked (keeps (unwrap_or o nothing))
one_side None = refl
one_side (Some k) = refl

other_side : (b : Bool) (o : Option InodeRecord) → marked (is_some o && b) ≡ option_and_then (λ (r : InodeRecord). marked b) o
other_side b None = refl
other_side b (Some r) = refl

counted_one : (b : Bool) → option_map_or (λ (u : Unit {0}). true) (marked b) false ≡ b
counted_one true = refl
counted_one false = refl

kept_counted : (b : Bool) (r : InodeRecord) → b ≡ option_map_or (λ _. true) (cond b (Some (attributes_of r)) None) false
kept_counted true r = refl
kept_counted false r = refl

count_len : {X : Type 0} (p : ℕ → X → Bool) (m : Map nat_cmp X) → count (λ (e : ℕ × X). p e.0 e.1) m ≡ len (collect (λ i y. marked (p i y)) m)
count_len p m = (λ j. count (λ e. sym (counted_one (p e.0 e.1)) j) m) ∙ sym (count-collect exact_nat (λ i y. marked (p i y)) (λ _. true) m) ∙ count_all exact_nat (collect (λ i y. marked (p i y)) m)

module _ (rank : ℕ) (m : Map key_cmp CellValue) (none : own_damage rank (table_of m) ≡ None) where
  abbrev dirs : List ℕ
  dirs = reachable (table_of m)

  abbrev D : ℕ → Bool
  D = is_among (reachable (table_of m))

  abbrev H : ℕ → Bool
  H = held_by rank (is_among (reachable (table_of m)))

  themselves : AreDirs (table_of m) dirs
  themselves d = refl

  abbrev records : List InodeRecord
  records = rs rank m dirs themselves

  none_twice : AreDistinct (inos records)
  unfolding tree_damage
  none_twice = distinct (inos records) (map_none TwoPrimaries _ (second_none _ _ _ none))

  none_miscounted : miscounted (link_count (tree_of rank (table_of m))) records ≡ []
  unfolding tree_damage
  none_miscounted = least_none _ (map_none BadLinks _ (fourth_none
      (option_map DirfragMissing (least (headless (get (table_of m).heads) (holding rank (table_of m)))))
      (option_map TwoPrimaries (least (twice (inos records))))
      (option_map NoPrimary (least (filter_map (lone_remote dirs records) (entries (table_of m).dentries))))
      (option_map BadLinks (least (miscounted (link_count (tree_of rank (table_of m))) records)))
      (option_map BadNext (least (out_of_range rank (unwrap_or (table_of m).next 0) (inos records) (cell_dirs (table_of m)) (entries (table_of m).dentries)))
      ∷ first_open (bad_opens (get (table_of m).sessions) (is_file (tree_of rank (table_of m))) (map (λ (o : (ℕ × ℕ) × Unit {0}). o.0) (entries (table_of m).opens)))
      ∷ option_map BadSession (least (bad_replies (get (table_of m).sessions) (entries (table_of m).done)))
      ∷ option_map OverLimit (over_limit (tree_of rank (table_of m)) dirs)
      ∷ []) none))

  full_ino_is : (c : Cell) → full_ino (held rank dirs) c ≡ full_inode H c
  full_ino_is c = ap ino_of_record (full_alike (held rank dirs) H (λ d. refl) (dentry_entry c))

  -- how many full dentries an inode has
  abbrev names : ℕ → Cell → Bool
  names i c = is_the i (full_inode H c)

  named_times : (i : ℕ) → times i (inos records) ≡ count (names i) m
  named_times i = ap (times i) (sym (fulls_are rank m dirs themselves)) ∙ times_the i (full_ino (held rank dirs)) (entries m) ∙ passing_alike _ _ (λ c. ap (is_the i) (full_ino_is c)) (entries m)

  named_once : (i : ℕ) → count (names i) m ≤ 1
  named_once i = subst (λ n. n ≤ 1) (named_times i) (none_twice i)

  pub single : AreSingle H m
  single a b r s ra sb same =
      let x = value_there H a (get m a) r ra in
      let y = value_there H b (get m b) s sb in
      one_cell (names r.ino) m (named_once r.ino) a b x.0 y.0 x.1 y.1 (inode_is H (a, x.0) r x.2) (ap (λ (n : ℕ). is_the n (full_inode H (b, y.0))) same ∙ inode_is H (b, y.0) s y.2)

  -- ---- links are counted

  other_ino_is : (c : Cell) → is_some (miscounted_ino (held rank dirs) (link_times (entries m) dirs) c) ≡ is_some (option_and_then (if_other (link_times (entries m) dirs)) (full_said H c))
  other_ino_is c = ap (λ o. is_some (option_and_then (if_other (link_times (entries m) dirs)) o)) (full_alike (held rank dirs) H (λ d. refl) (dentry_entry c))

  abbrev is_miscounted : Cell → Bool
  is_miscounted c = is_some (option_and_then (if_other (link_times (entries m) dirs)) (full_said H c))

  count_miscounted : count is_miscounted m ≡ 0
  count_miscounted = sym (length_some (miscounted_ino (held rank dirs) (link_times (entries m) dirs)) (entries m) ∙ passing_alike _ _ other_ino_is (entries m))
      ∙ ap length (counts_is rank m dirs themselves ∙ none_miscounted)

  same_links : (r : InodeRecord) → is_some (if_other (link_times (entries m) dirs) r) ≡ false → r.links ≡ link_times (entries m) dirs r.ino
  same_links r = elim (r.links == link_times (entries m) dirs r.ino) as (λ b. (r.links == link_times (entries m) dirs r.ino) ≡ b → is_some (cond b None (Some r.ino)) ≡ false → r.links ≡ link_times (entries m) dirs r.ino) [
    | true ↦ λ t _. eqb-true _ _ t
    | false ↦ λ _ e. absurd (true≢false e)
  ] refl

  not_miscounted : (k : CellKey) (v : CellValue) → get m k ≡ Some v → (b : Bool) → is_miscounted (k, v) ≡ b → b ≡ false
  not_miscounted k v there true is = let some = count_some exact_key is_miscounted m k v there is in let zero = count_miscounted in absurd (omega (arith, some, zero))
  not_miscounted k v there false is = refl

  links_are : (k : CellKey) (v : CellValue) (r : InodeRecord) → get m k ≡ Some v → full_said H (k, v) ≡ Some r → r.links ≡ link_count (tree_of rank (table_of m)) r.ino
  links_are k v r there is =
      let fine : is_miscounted (k, v) ≡ false = not_miscounted k v there (is_miscounted (k, v)) refl in
      same_links r (sym (ap (λ o. is_some (option_and_then (if_other (link_times (entries m) dirs)) o)) is) ∙ fine) ∙ link_at rank m dirs themselves r.ino

  module _ (x : Index) (mid : IsMidway rank D m [] x) where
    abbrev full_of : ℕ → Option FullPlace
    full_of i = (known_at x.known i).full

    -- an inode has a full dentry just where one is known
    none_known : (i : ℕ) → count (names i) m ≡ 0 → (o : Option FullPlace) → full_of i ≡ o → o ≡ None
    none_known i zero None is = refl
    none_known i zero (Some p) is =
        let at = named i p.links (full_at H m p.key) (mid.sound i p is) in
        let h = has_full H (p.key, value_or_gone (get m p.key)) i (full_at H m p.key) refl at in
        let there = value_there H p.key (get m p.key) h.r h.is in
        let some = count_some exact_key (names i) m p.key there.0 there.1 (ap (λ (n : ℕ). is_the n (full_inode H (p.key, there.0))) (sym h.ino) ∙ inode_is H (p.key, there.0) h.r there.2) in
        absurd (omega (arith, some, zero))

    record IsPlaced (i : ℕ) : Type 0 where
      k : CellKey
      v : CellValue
      r : InodeRecord
      there : get m k ≡ Some v
      said : full_said H (k, v) ≡ Some r
      ino : r.ino ≡ i
      known : place_key (full_of i) ≡ Some k

    placed : (i : ℕ) → (count (names i) m ≡ 0) ⊎ IsPlaced i
    placed i = elim (count_cases exact_key (names i) m) [
      | inl zero ↦ inl zero
      | inr (k, v, there, is) ↦
          let h = has_full H (k, v) i (full_said H (k, v)) refl is in
          inr (record {
            k = k;
            v = v;
            r = h.r;
            there = there;
            said = h.is;
            ino = h.ino;
            known = subst (λ n. place_key (full_of n) ≡ Some k) h.ino (mid.whole k h.r refl (ap (λ o. full_said H (k, value_or_gone o)) there ∙ h.is));
          })
    ]

    -- ---- the key

    abbrev es : List Entry
    es = entries (table_of m).dentries

    abbrev test : ℕ → Entry → Bool
    test i = is_full_at (holding rank (table_of m)) i

    place_at : (q : ℕ × List ℕ) → fin.find place_cmp q es ≡ option_and_then dentry_of (get m (dentry_key q))
    place_at q = sym (get-entries (table_of m).dentries q) ∙ get-dentries m q

    test_full : (i : ℕ) (q : ℕ × List ℕ) (d : Dentry) → test i (q, d) ≡ true → (r : InodeRecord) × (record_held H (q, d) ≡ Some r) × (r.ino ≡ i)
    test_full i q (Remote w j kind) t = elim (H q.0) as (λ b. (b && false) ≡ true → (r : InodeRecord) × (cond b None None ≡ Some r) × (r.ino ≡ i)) [ true ↦ λ e. absurd (true≢false (sym e)) | false ↦ λ e. absurd (true≢false (sym e)) ] t
    test_full i q (Full w r) t = elim (H q.0) as (λ b. (b && (r.ino == i)) ≡ true → (s : InodeRecord) × (cond b (Some r) None ≡ Some s) × (s.ino ≡ i)) [
      | true ↦ λ e. (r, refl, eqb-true r.ino i e)
      | false ↦ λ e. absurd (true≢false (sym e))
    ] t

    full_test : (i : ℕ) (q : ℕ × List ℕ) (w : ℕ) (r : InodeRecord) → H q.0 ≡ true → r.ino ≡ i → test i (q, Full w r) ≡ true
    full_test i q w r here is = (λ j. here j && (r.ino == sym is j)) ∙ itself r.ino

    found_place : (i : ℕ) (o : Option Entry) → find (test i) es ≡ o → place_key (full_of i) ≡ option_map dentry_key (option_map (λ (e : Entry). e.0) o)
    found_place i None is = elim (placed i) [
      | inl zero ↦ ap place_key (none_known i zero (full_of i) refl)
      | inr at ↦
          let parts = full_parts H at.k at.v at.r at.said in
          let there = place_at parts.q ∙ ap (option_and_then dentry_of) (ap (get m) (sym parts.key_is) ∙ at.there) ∙ parts.value_is in
          absurd (true≢false (sym (full_test i parts.q parts.version at.r parts.in_held at.ino) ∙ none_first exact_place (test i) es is parts.q (Full parts.version at.r) there))
    ]
    found_place i (Some e) is =
        let first = first_there exact_place (test i) es (entries_sorted (table_of m).dentries) e is in
        let h = test_full i e.0 e.1 first.1 in
        let cell = there_value (get m (dentry_key e.0)) e.1 (sym (place_at e.0) ∙ first.0) in
        let said : full_said H (dentry_key e.0, cell.0) ≡ Some h.0 = ap (λ d. option_and_then (record_held H) (pair_of (Some e.0) d)) cell.2 ∙ h.1 in
        subst (λ n. place_key (full_of n) ≡ Some (dentry_key e.0)) h.2 (mid.whole (dentry_key e.0) h.0 refl (ap (λ o. full_said H (dentry_key e.0, value_or_gone o)) cell.1 ∙ said))

    primary_is : (i : ℕ) → place_key (full_of i) ≡ option_map dentry_key (full_place rank (table_of m) i)
    primary_is i = found_place i (find (test i) es) refl

    -- ---- the counts

    dir_alike : (d : ℕ) (o : Option Entry) → is_the d (option_and_then (link_from dirs) o) ≡ (D d && is_the d (option_map (λ (e : Entry). e.0.0) o))
    dir_alike d None = sym (no_and (D d))
    dir_alike d (Some e) = elim (e.0.0 == d) as (λ b. (e.0.0 == d) ≡ b → is_the d (cond (D e.0.0) (Some e.0.0) None) ≡ (D d && b)) [
      | true ↦ λ t. ap (λ (n : ℕ). is_the d (cond (D n) (Some n) None)) (eqb-true e.0.0 d t) ∙ elim (D d) as (λ b. is_the d (cond b (Some d) None) ≡ (b && true)) [ true ↦ itself d | false ↦ refl ]
      | false ↦ λ f. elim (D e.0.0) as (λ b. is_the d (cond b (Some e.0.0) None) ≡ (D d && false)) [ true ↦ f ∙ sym (no_and (D d)) | false ↦ sym (no_and (D d)) ]
    ] refl

    entries_are : (d : ℕ) → entries_known (known_at x.known d) ≡ entry_count (tree_of rank (table_of m)) d
    entries_are d = (λ j. cond (mid.dir d j) (mid.dentries_in d j) 0) ∙ sym (passing_both (D d) (is_dentry_in d) (entries m))
        ∙ sym (passing_alike _ _ (λ c. dir_alike d (dentry_entry c)) (entries m)) ∙ sym (times_the d (link_dir dirs) (entries m)) ∙ entry_at rank m dirs themselves d

    opened_are : (i : ℕ) → (known_at x.known i).opens ≡ open_count (tree_of rank (table_of m)) i
    opened_are i = mid.opens_of_each i ∙ sym (times_the i open_inode (entries m)) ∙ ap (times i) (filter_map_map open_place (λ (o : ℕ × ℕ). o.1) (entries m)) ∙ open_at rank m dirs themselves i

    some_map : (o : Option (ℕ × ℕ)) → is_some (option_map (λ (o : ℕ × ℕ). o.1) o) ≡ is_some o
    some_map None = refl
    some_map (Some p) = refl

    sessions_are : x.sessions ≡ len (tree_of rank (table_of m)).sessions
    sessions_are = mid.all_sessions ∙ sym (length_some session_entry (entries m)) ∙ sessions_are_many rank m dirs themselves

    opens_are : x.opens ≡ len (tree_of rank (table_of m)).opens
    opens_are = mid.all_opens ∙ passing_alike _ _ (λ c. some_map (open_place c)) (entries m) ∙ sym (length_some open_place (entries m)) ∙ opens_are_many rank m dirs themselves

    -- ---- how many are kept

    abbrev kept_by : ℕ → Bool
    kept_by i = is_kept (tree_of rank (table_of m)) i

    keeps_full : (i : ℕ) (o : Option FullPlace) → full_of i ≡ o → keeps (known_at x.known i) ≡ (is_some o && kept_by i)
    keeps_full i None is = ap (keeps_at (known_at x.known i).opens) is
    keeps_full i (Some p) is =
        let at = named i p.links (full_at H m p.key) (mid.sound i p is) in
        let h = has_full H (p.key, value_or_gone (get m p.key)) i (full_at H m p.key) refl at in
        let there = value_there H p.key (get m p.key) h.r h.is in
        let links : p.links ≡ h.r.links = sym (ap (λ (z : ℕ × ℕ). z.1) (some_same (pair h.r) (i, p.links) (sym (ap (option_map pair) h.is) ∙ mid.sound i p is))) in
        ap (keeps_at (known_at x.known i).opens) is
        ∙ (λ j. nat_lt 0 ((links ∙ links_are p.key there.0 h.r there.1 there.2 ∙ ap (link_count (tree_of rank (table_of m))) h.ino) j) || nat_lt 0 (opened_are i j))
        ∙ above_sum (link_count (tree_of rank (table_of m)) i) (open_count (tree_of rank (table_of m)) i)

    some_full : (i : ℕ) → is_some (full_of i) ≡ is_some (get (by_inode records) i)
    some_full i = elim (placed i) [
      | inl zero ↦ ap is_some (none_known i zero (full_of i) refl) ∙ sym (some_by_inode i records ∙ ap (nat_lt 0) (named_times i ∙ zero))
      | inr at ↦
          let known = with_key (full_of i) at.k at.known in
          let one = count_some exact_key (names i) m at.k at.v at.there (ap (λ (n : ℕ). is_the n (full_inode H (at.k, at.v))) (sym at.ino) ∙ inode_is H (at.k, at.v) at.r at.said) in
          let here : nat_lt 0 (count (names i) m) ≡ true = grind (arith, one) in
          ap is_some known.1 ∙ sym (some_by_inode i records ∙ ap (nat_lt 0) (named_times i) ∙ here)
    ]

    keeps_is : (i : ℕ) → keeps (known_at x.known i) ≡ (is_some (get (by_inode records) i) && kept_by i)
    keeps_is i = keeps_full i (full_of i) refl ∙ ap (λ b. b && kept_by i) (some_full i)

    kept_are : count keeps_entry x.known ≡ len (tree_of rank (table_of m)).records
    unfolding tree_of
    kept_are = count_len (λ i k. keeps k) x.known ∙ ap len (same_map exact_nat _ _ (λ i. get-collect exact_nat (λ (j : ℕ) (k : Known). marked (keeps k)) x.known i ∙ one_side (get x.known i) ∙ ap marked (keeps_is i) ∙ other_side (kept_by i) (get (by_inode records) i)
        ∙ sym (get-collect exact_nat (λ (j : ℕ) (r : InodeRecord). marked (kept_by j)) (by_inode records) i)))
        ∙ sym (count_len (λ i r. kept_by i) (by_inode records))
        ∙ (λ j. count (λ (e : ℕ × InodeRecord). kept_counted (kept_by e.0) e.1 j) (by_inode records))
        ∙ sym (count-collect exact_nat (record_in (bare_tree (table_of m))) (λ _. true) (by_inode records))
        ∙ count_all exact_nat (collect (record_in (bare_tree (table_of m))) (by_inode records))

    pub index_is : IsIndexOf rank m x
    index_is = record { primary = primary_is; entries = entries_are; opened = opened_are; inodes = kept_are; sessions = sessions_are; opens = opens_are }
