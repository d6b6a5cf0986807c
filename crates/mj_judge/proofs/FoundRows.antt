-- The rows by look-ups and counts are those of the table.
use Rattle.std.proofs.Common.{◌≡◌, ℕ, suc, ◌+◌, arith, Bool, true, false, cond, not, ◌||◌, List, [], ◌∷◌, ◌++◌, map, length, Option, Some, None, refl, sym, ap, subst, ◌∙◌, append_assoc}
use Rattle.std.specs.Prelude.{nat_eq, filter, filter_map, ◌==◌, nat_lt, is_none, unwrap_or}
use Rattle.std.specs.Option.{option_map, option_and_then, option_map_or}
use Rattle.std.specs.List.{cons_option, AllByRecursion}
use Rattle.std.specs.declared.cmp.Ordering.{Ordering}
use Rattle.mj_base.specs.ObjectName.{stray_ino}
use Rattle.mj_base.specs.declared.record.Kind.{Kind}
use Rattle.mj_base.specs.declared.record.Kind.TheVariants.{File}
use Rattle.mj_base.specs.declared.record.InodeRecord.{InodeRecord}
use Rattle.mj_base.specs.declared.damage.Damage.{Damage}
use Rattle.mj_base.specs.declared.damage.Damage.TheVariants as damage
use Rattle.mj_maps.specs.Map.{Map, entries, get, len, count, passing, picked, with_some, collect, from_entries}
use Rattle.mj_maps.proofs.MapLaws.{exact_nat, get-collect, count-collect, count_all, len-entries}
use Rattle.mj_tree.specs.State.{is_file as is_file_of}
use Rattle.mj_tree.specs.State.{is_kept, is_kind, link_count, open_count, entry_count, attributes_of}
use Rattle.mj_tree.specs.Row.{most_entries, most_inodes, most_opens}
use Rattle.mj_tree.specs.Answer.{most_sessions, most_kept}
use Rattle.mj_cells.specs.declared.cell.CellValue.{CellValue}
use Rattle.mj_cells.specs.Cell.{key_cmp}
use Rattle.mj_cells.specs.Table.{Dentry, Table, table_of}
use Rattle.mj_cells.specs.Table.Dentry.{Full, Remote}
use Rattle.mj_recovery.specs.Tree.{Entry, ino_of, is_among, full_record, full_records, link_in, reachable, holding, by_inode, bare_tree, record_in, session_in, reply_of, tree_of}
use Rattle.mj_recovery.specs.Damage as row
use Rattle.mj_recovery.specs.Damage.{first_some, least, inos, times, headless, twice, is_full_of, lone_remote, miscounted, over, over_entries, first_open, bad_opens, is_bad_open, is_bad_reply, bad_replies, cell_dirs, tree_damage}
use Rattle.mj_judge.specs.Parts.{Cell, dentry_entry, head_entry, open_entry, session_entry}
use Rattle.mj_judge.specs.Reached.{AreDirs}
use Rattle.mj_judge.specs.Rows.{full_in, if_kind, if_other, kind_ino, link_to, link_from, remote_to, if_lone, replies_badly, oldest_at, version_at, kept_of}
use Rattle.mj_judge.specs.Judged.{held, fulls, has_kind, is_file, link_times, entry_times, opens, open_times, replies, reply_times, lone, wrong_counts, all_dirs, beyond, next_of, wrong_opens, wrong_replies, kept_inodes, too_much, found_damage}
use Rattle.mj_judge.proofs.PartMaps.{get-heads, get-sessions, next_is, dentries_are, heads_are, sessions_are, done_are, opens_are}
use Rattle.mj_judge.proofs.Alike.{filter_map_twice, filter_map_map, filter_map_alike, least_filter, times_among}
use Rattle.mj_judge.proofs.Distinct.{AreDistinct, distinct, kind_in, kind_times, kind_by_inode, count_by_inode}

-- ---- dentries of the same directories

if_there : {X Y : Type 0} (f : X → Option Y) (b : Bool) (o : Option X) → option_and_then f (cond b o None) ≡ cond b (option_and_then f o) None
if_there f true o = refl
if_there f false o = refl

module _ (D E : List ℕ) (h : (d : ℕ) → is_among D d ≡ is_among E d) where
  full_alike : (q : ℕ × List ℕ) (x : Dentry) → full_record D (q, x) ≡ full_record E (q, x)
  full_alike q (Full v r) = ap (λ b. cond b (Some r) None) (h q.0)
  full_alike q (Remote v i k) = λ j. cond (h q.0 j) None None

  lone_alike : (has : ℕ → Kind → Bool) (rs : List InodeRecord) → ((i : ℕ) (k : Kind) → has i k ≡ is_full_of i k rs) → (q : ℕ × List ℕ) (x : Dentry) → option_and_then (if_lone has) (remote_to D (q, x)) ≡ lone_remote E rs (q, x)
  lone_alike has rs same q (Full v r) = if_there (if_lone has) (is_among D q.0) None ∙ (λ j. cond (h q.0 j) None None)
  lone_alike has rs same q (Remote v i k) = if_there (if_lone has) (is_among D q.0) (Some (i, k)) ∙ (λ j. cond (h q.0 j) (cond (same i k j) None (Some i)) None)

-- ---- counts

eq_sym : (a b : ℕ) → (a == b) ≡ (b == a)
eq_sym a b = grind arith

itself : (n : ℕ) → nat_eq n n ≡ true
itself n = grind arith

or-true : (b : Bool) → (b || true) ≡ true
or-true true = refl
or-true false = refl

one_more : (b : Bool) (n : ℕ) → cond b (n + 1) n ≡ cond b 1 0 + n
one_more true n = omega arith
one_more false n = omega arith

times_or : (n x : ℕ) (xs : List ℕ) → times n (x ∷ xs) ≡ cond (x == n) 1 0 + times n xs
times_or n x xs = one_more (n == x) (times n xs) ∙ ap (λ b. cond {A = ℕ} b 1 0 + times n xs) (eq_sym n x)

counted_picked : (D : List ℕ) (i : ℕ) (es : List Entry) → times i (filter_map (link_to D) es) ≡ passing (λ (e : (ℕ × List ℕ) × ℕ). e.1 == i) (picked (link_in D) es)
counted_picked D i [] = refl
counted_picked D i (e ∷ es) = elim (is_among D e.0.0) as (λ b. times i (cons_option (cond b (Some (ino_of e.1)) None) (filter_map (link_to D) es)) ≡ passing (λ (x : (ℕ × List ℕ) × ℕ). x.1 == i) (with_some e.0 (cond b (Some (ino_of e.1)) None) (picked (link_in D) es))) [
  | true ↦ times_or i (ino_of e.1) (filter_map (link_to D) es) ∙ ap (λ n. cond (ino_of e.1 == i) 1 0 + n) (counted_picked D i es)
  | false ↦ counted_picked D i es
]

entries_picked : (D : List ℕ) (d : ℕ) (es : List Entry) → times d (filter_map (link_from D) es) ≡ passing (λ (e : (ℕ × List ℕ) × ℕ). e.0.0 == d) (picked (link_in D) es)
entries_picked D d [] = refl
entries_picked D d (e ∷ es) = elim (is_among D e.0.0) as (λ b. times d (cons_option (cond b (Some e.0.0) None) (filter_map (link_from D) es)) ≡ passing (λ (x : (ℕ × List ℕ) × ℕ). x.0.0 == d) (with_some e.0 (cond b (Some (ino_of e.1)) None) (picked (link_in D) es))) [
  | true ↦ times_or d e.0.0 (filter_map (link_from D) es) ∙ ap (λ n. cond (e.0.0 == d) 1 0 + n) (entries_picked D d es)
  | false ↦ entries_picked D d es
]

times_passing : {X : Type 0} (f : X → ℕ) (n : ℕ) (xs : List X) → times n (map f xs) ≡ passing (λ x. f x == n) xs
times_passing f n [] = refl
times_passing f n (x ∷ xs) = times_or n (f x) (map f xs) ∙ ap (λ k. cond (f x == n) 1 0 + k) (times_passing f n xs)

passing_map : {X Y : Type 0} (p : Y → Bool) (f : X → Y) (xs : List X) → passing p (map f xs) ≡ passing (λ x. p (f x)) xs
passing_map p f [] = refl
passing_map p f (x ∷ xs) = ap (λ n. cond (p (f x)) 1 0 + n) (passing_map p f xs)

miscounted_by : (links : ℕ → ℕ) (rs : List InodeRecord) → filter_map (if_other links) rs ≡ miscounted links rs
miscounted_by links [] = refl
miscounted_by links (r ∷ rs) = elim (r.links == links r.ino) as (λ b. cons_option (cond b None (Some r.ino)) (filter_map (if_other links) rs) ≡ inos (cond (not b) (r ∷ filter (λ (x : InodeRecord). not (x.links == links x.ino)) rs) (filter (λ (x : InodeRecord). not (x.links == links x.ino)) rs))) [
  | true ↦ miscounted_by links rs
  | false ↦ ap (λ (xs : List ℕ). r.ino ∷ xs) (miscounted_by links rs)
]

entries-collect : {K X Y : Type 0} {R : K → K → Rattle.std.specs.declared.cmp.Ordering.Ordering} (f : K → X → Option Y) (m : Map R X) → entries (collect f m) ≡ picked f (entries m)
unfolding entries collect
entries-collect f m = refl

-- ---- lists of which each passes alike

filter_each : {X : Type 0} (p q : X → Bool) (xs : List X) → AllByRecursion (λ x. p x ≡ q x) xs → filter p xs ≡ filter q xs
filter_each p q [] h = refl
filter_each p q (x ∷ xs) h = λ i. cond (h.0 i) (x ∷ filter_each p q xs h.1 i) (filter_each p q xs h.1 i)

among_end : (pre xs : List ℕ) (n : ℕ) → is_among (pre ++ n ∷ xs) n ≡ true
among_end [] xs n = ap (λ b. b || is_among xs n) (itself n)
among_end (x ∷ pre) xs n = ap (λ b. nat_eq x n || b) (among_end pre xs n) ∙ or-true (nat_eq x n)

each_among : {X : Type 0} (f : X → ℕ) (pre : List ℕ) (xs : List X) → AllByRecursion (λ x. is_among (pre ++ map f xs) (f x) ≡ true) xs
each_among f pre [] = tt
each_among f pre (x ∷ xs) = (among_end pre (map f xs) (f x), subst (λ (ys : List ℕ). AllByRecursion (λ z. is_among ys (f z) ≡ true) xs) (append_assoc pre (f x ∷ []) (map f xs)) (each_among f (pre ++ f x ∷ []) xs))

each_of : {X : Type 0} (P Q : X → Type 0) (xs : List X) → ((x : X) → P x → Q x) → AllByRecursion P xs → AllByRecursion Q xs
each_of P Q [] f h = tt
each_of P Q (x ∷ xs) f h = (f x h.0, each_of P Q xs f h.1)

badly_at : (f : ℕ → Option ℕ) (count : ℕ → ℕ) (done : List ((ℕ × ℕ) × ℕ)) (e : (ℕ × ℕ) × ℕ) → count e.0.0 ≡ row.replies done e.0.0 → replies_badly f count e ≡ is_bad_reply f done e
badly_at f count done e h = elim (f e.0.0) as (λ o. replies_badly (λ _. o) count e ≡ is_bad_reply (λ _. o) done e) [ None ↦ refl | Some first ↦ ap (λ n. nat_lt e.0.1 first || nat_lt most_kept n) h ]

-- ---- the first of several

after_some : {A : Type 0} (o : Option A) (x : A) (os ps : List (Option A)) → first_some (o ∷ Some x ∷ os) ≡ first_some (o ∷ Some x ∷ ps)
after_some None x os ps = refl
after_some (Some y) x os ps = refl

kept_kind : (b : Bool) (o : Option InodeRecord) → b ≡ true → is_kind File (option_and_then (λ (r : InodeRecord). cond b (Some (attributes_of r)) None) o) ≡ kind_in File o
kept_kind b None e = refl
kept_kind b (Some r) e = ap (λ c. is_kind File (cond c (Some (attributes_of r)) None)) e

kept_counted : (b : Bool) (r : InodeRecord) → option_map_or (λ _. true) (cond b (Some (attributes_of r)) None) false ≡ b
kept_counted true r = refl
kept_counted false r = refl

all_some : {K X Y : Type 0} (f : K → X → Y) (es : List (K × X)) → length (picked (λ k x. Some (f k x)) es) ≡ length es
all_some f [] = refl
all_some f (e ∷ es) = ap suc (all_some f es)

length_map : {X Y : Type 0} (f : X → Y) (xs : List X) → length (map f xs) ≡ length xs
length_map f [] = refl
length_map f (x ∷ xs) = ap suc (length_map f xs)

sum_some : (a b : ℕ) → nat_lt 0 b ≡ true → nat_lt 0 (a + b) ≡ true
sum_some a b h = grind (arith, h)

module _ (rank : ℕ) (m : Map key_cmp CellValue) (dirs : List ℕ) (is : AreDirs (table_of m) dirs) where
  abbrev t : Table
  t = table_of m

  abbrev cs : List Cell
  cs = entries m

  abbrev es : List Entry
  es = entries (table_of m).dentries

  abbrev pub rs : List InodeRecord
  rs = full_records (holding rank (table_of m)) (entries (table_of m).dentries)

  pub held_alike : (d : ℕ) → is_among (held rank dirs) d ≡ is_among (holding rank t) d
  held_alike d = ap (λ b. nat_eq (stray_ino rank) d || b) (is d)

  pub records_are : filter_map (full_in (held rank dirs)) cs ≡ rs
  records_are = filter_map_twice dentry_entry (full_record (held rank dirs)) cs ∙ ap (filter_map (full_record (held rank dirs))) (sym (dentries_are m))
      ∙ filter_map_alike (full_record (held rank dirs)) (full_record (holding rank t)) (λ e. full_alike (held rank dirs) (holding rank t) held_alike e.0 e.1) es

  pub fulls_are : fulls rank cs dirs ≡ inos rs
  fulls_are = filter_map_map (full_in (held rank dirs)) (λ (r : InodeRecord). r.ino) cs ∙ ap inos records_are

  kinds_are : (kind : Kind) → filter_map (kind_ino (held rank dirs) kind) cs ≡ filter_map (if_kind kind) rs
  kinds_are kind = filter_map_twice (full_in (held rank dirs)) (if_kind kind) cs ∙ ap (filter_map (if_kind kind)) records_are

  has_is : (i : ℕ) (kind : Kind) → has_kind rank cs dirs i kind ≡ is_full_of i kind rs
  has_is i kind = ap (λ (xs : List ℕ). nat_lt 0 (times i xs)) (kinds_are kind) ∙ kind_times kind i rs

  heads_is : version_at m ≡ get t.heads
  heads_is = λ j d. sym (get-heads m d) j

  oldest_is : oldest_at m ≡ get t.sessions
  oldest_is = λ j c. sym (get-sessions m c) j

  row_heads : least (headless (version_at m) (held rank dirs)) ≡ least (headless (get t.heads) (holding rank t))
  row_heads = ap (λ (f : ℕ → Option ℕ). least (headless f (held rank dirs))) heads_is ∙ least_filter (λ d. is_none (get t.heads d)) (held rank dirs) (holding rank t) held_alike

  lone_is : lone rank cs dirs ≡ filter_map (lone_remote (reachable t) rs) es
  lone_is =
      let has = has_kind rank cs dirs in
      ap (filter_map (if_lone has)) (filter_map_twice dentry_entry (remote_to dirs) cs ∙ ap (filter_map (remote_to dirs)) (sym (dentries_are m)))
      ∙ sym (filter_map_twice (remote_to dirs) (if_lone has) es)
      ∙ filter_map_alike (λ e. option_and_then (if_lone has) (remote_to dirs e)) (lone_remote (reachable t) rs) (λ e. lone_alike dirs (reachable t) is has rs has_is e.0 e.1) es

  picked_is : picked (link_in dirs) es ≡ picked (link_in (reachable t)) es
  picked_is = λ j. picked (λ (q : ℕ × List ℕ) (x : Dentry). cond (is q.0 j) (Some (ino_of x)) None) es

  pub link_at : (i : ℕ) → link_times cs dirs i ≡ link_count (tree_of rank t) i
  unfolding tree_of
  link_at i = ap (times i) (filter_map_twice dentry_entry (link_to dirs) cs ∙ ap (filter_map (link_to dirs)) (sym (dentries_are m))) ∙ counted_picked dirs i es
      ∙ ap (passing (λ (e : (ℕ × List ℕ) × ℕ). e.1 == i)) (picked_is ∙ sym (entries-collect (link_in (reachable t)) t.dentries))

  pub entry_at : (d : ℕ) → entry_times cs dirs d ≡ entry_count (tree_of rank t) d
  unfolding tree_of
  entry_at d = ap (times d) (filter_map_twice dentry_entry (link_from dirs) cs ∙ ap (filter_map (link_from dirs)) (sym (dentries_are m))) ∙ entries_picked dirs d es
      ∙ ap (passing (λ (e : (ℕ × List ℕ) × ℕ). e.0.0 == d)) (picked_is ∙ sym (entries-collect (link_in (reachable t)) t.dentries))

  pub counts_is : wrong_counts rank cs dirs ≡ miscounted (link_count (tree_of rank t)) rs
  counts_is = filter_map_twice (full_in (held rank dirs)) (if_other (link_times cs dirs)) cs ∙ ap (filter_map (if_other (link_times cs dirs))) records_are
      ∙ miscounted_by (link_times cs dirs) rs ∙ ap (λ (f : ℕ → ℕ). miscounted f rs) (λ j i. link_at i j)

  pub dirs_is : all_dirs cs ≡ cell_dirs t
  dirs_is = λ j. (filter_map_map dentry_entry (λ (e : Entry). e.0.0) cs ∙ ap (map (λ (e : Entry). e.0.0)) (sym (dentries_are m))) j
      ++ (filter_map_map head_entry (λ (e : ℕ × ℕ). e.0) cs ∙ ap (map (λ (e : ℕ × ℕ). e.0)) (sym (heads_are m))) j

  beyond_is : (lumps : List ℕ) → beyond rank (next_of m) (fulls rank cs dirs) lumps cs ≡ row.out_of_range rank (unwrap_or t.next 0) (inos rs) lumps es
  beyond_is lumps = λ j. let next = unwrap_or (sym (next_is m) j) 0 in
      row.low_next rank next ++ filter (λ i. not (row.is_given rank next i)) (fulls_are j) ++ filter (λ d. not (row.is_known rank next d)) lumps
      ++ (filter_map_twice dentry_entry (row.misnamed rank) cs ∙ ap (filter_map (row.misnamed rank)) (sym (dentries_are m))) j

  opens_is : opens cs ≡ map (λ (o : (ℕ × ℕ) × Unit {0}). o.0) (entries t.opens)
  opens_is = filter_map_map open_entry (λ (o : (ℕ × ℕ) × Unit {0}). o.0) cs ∙ ap (map (λ (o : (ℕ × ℕ) × Unit {0}). o.0)) (sym (opens_are m))

  pub open_at : (i : ℕ) → open_times cs i ≡ open_count (tree_of rank t) i
  unfolding tree_of
  open_at i = times_passing (λ (o : ℕ × ℕ). o.1) i (opens cs) ∙ ap (passing (λ (o : ℕ × ℕ). o.1 == i)) opens_is ∙ passing_map (λ (o : ℕ × ℕ). o.1 == i) (λ (o : (ℕ × ℕ) × Unit {0}). o.0) (entries t.opens)

  reply_at : (c : ℕ) → reply_times cs c ≡ row.replies (entries t.done) c
  reply_at c = times_passing (λ (e : (ℕ × ℕ) × ℕ). e.0.0) c (replies cs) ∙ ap (passing (λ (e : (ℕ × ℕ) × ℕ). e.0.0 == c)) (sym (done_are m))

  badly_is : replies_badly (oldest_at m) (reply_times cs) ≡ is_bad_reply (get t.sessions) (entries t.done)
  badly_is = ap (λ (f : ℕ → Option ℕ). replies_badly f (reply_times cs)) oldest_is ∙ (λ j e. badly_at (get t.sessions) (reply_times cs) (entries t.done) e (reply_at e.0.0) j)

  replies_is : wrong_replies m cs ≡ bad_replies (get t.sessions) (entries t.done)
  replies_is = λ j. map (λ (e : (ℕ × ℕ) × ℕ). e.0.0) (filter (badly_is j) (sym (done_are m) j))

  file_read : (i : ℕ) → nat_lt 0 (open_count (tree_of rank t) i) ≡ true → is_file_of (tree_of rank t) i ≡ kind_in File (get (by_inode rs) i)
  unfolding tree_of
  file_read i opened = ap (is_kind File) (get-collect exact_nat (record_in (bare_tree t)) (by_inode rs) i)
      ∙ kept_kind (is_kept (bare_tree t) i) (get (by_inode rs) i) (sum_some (link_count (bare_tree t) i) (open_count (bare_tree t) i) opened)

  file_at : AreDistinct (inos rs) → (i : ℕ) → nat_lt 0 (open_count (tree_of rank t) i) ≡ true → is_file rank cs dirs i ≡ is_file_of (tree_of rank t) i
  file_at d i opened = has_is i File ∙ kind_by_inode File i rs d ∙ sym (file_read i opened)

  each_open : AllByRecursion (λ (o : ℕ × ℕ). nat_lt 0 (open_count (tree_of rank t) o.1) ≡ true) (opens cs)
  each_open = each_of _ _ (opens cs) (λ o there. ap (nat_lt 0) (sym (open_at o.1)) ∙ times_among o.1 (map (λ (x : ℕ × ℕ). x.1) (opens cs)) ∙ there) (each_among (λ (o : ℕ × ℕ). o.1) [] (opens cs))

  bad_opens_are : AreDistinct (inos rs) → wrong_opens rank m cs dirs ≡ bad_opens (get t.sessions) (is_file_of (tree_of rank t)) (map (λ (o : (ℕ × ℕ) × Unit {0}). o.0) (entries t.opens))
  bad_opens_are d = ap (λ (f : ℕ → Option ℕ). bad_opens f (is_file rank cs dirs) (opens cs)) oldest_is
      ∙ filter_each (is_bad_open (get t.sessions) (is_file rank cs dirs)) (is_bad_open (get t.sessions) (is_file_of (tree_of rank t))) (opens cs)
      (each_of _ _ (opens cs) (λ o opened. ap (λ b. is_none (get t.sessions o.0) || not b) (file_at d o.1 opened)) each_open)
      ∙ ap (bad_opens (get t.sessions) (is_file_of (tree_of rank t))) opens_is

  pub kept_are : AreDistinct (inos rs) → length (kept_inodes rank cs dirs) ≡ len (tree_of rank t).records
  unfolding tree_of
  kept_are d =
      (λ j. length (kept_of (λ i. link_at i j) (λ i. open_at i j) (fulls_are j)))
      ∙ sym (count_by_inode (is_kept (bare_tree t)) rs d)
      ∙ (λ j. count (λ (e : ℕ × InodeRecord). sym (kept_counted (is_kept (bare_tree t) e.0) e.1) j) (by_inode rs))
      ∙ sym (count-collect exact_nat (record_in (bare_tree t)) (λ _. true) (by_inode rs))
      ∙ count_all exact_nat (collect (record_in (bare_tree t)) (by_inode rs))

  pub sessions_are_many : length (filter_map session_entry cs) ≡ len (tree_of rank t).sessions
  unfolding tree_of
  sessions_are_many = ap length (sym (sessions_are m)) ∙ sym (all_some (λ (c o : ℕ). record { oldest = o; kept = from_entries (filter_map (reply_of c) (entries t.done)) }) (entries t.sessions))
      ∙ sym (len-entries (collect (session_in (entries t.done)) t.sessions) ∙ ap length (entries-collect (session_in (entries t.done)) t.sessions))

  pub opens_are_many : length (opens cs) ≡ len (tree_of rank t).opens
  unfolding tree_of
  opens_are_many = ap length opens_is ∙ length_map (λ (o : (ℕ × ℕ) × Unit {0}). o.0) (entries t.opens) ∙ sym (len-entries t.opens)

  over_are : over_entries (entry_times cs dirs) dirs ≡ over_entries (entry_count (tree_of rank t)) (reachable t)
  over_are = ap (λ (f : ℕ → ℕ). over_entries f dirs) (λ j d. entry_at d j)
      ∙ ap (option_map (entry_count (tree_of rank t))) (least_filter (λ d. nat_lt most_entries (entry_count (tree_of rank t) d)) dirs (reachable t) is)

  too_much_is : AreDistinct (inos rs) → too_much (link_times cs dirs) (fulls rank cs dirs) cs dirs ≡ row.over_limit (tree_of rank t) (reachable t)
  too_much_is d = λ j. first_some (over_are j ∷ over most_inodes (kept_are d j) ∷ over most_sessions (sessions_are_many j) ∷ over most_opens (opens_are_many j) ∷ [])

  -- the rows after that of two full dentries of an inode
  abbrev found_rest : List ℕ → List (Option Damage)
  found_rest lumps =
      option_map damage.NoPrimary (least (lone rank cs dirs))
      ∷ option_map damage.BadLinks (least (wrong_counts rank cs dirs))
      ∷ option_map damage.BadNext (least (beyond rank (next_of m) (fulls rank cs dirs) lumps cs))
      ∷ first_open (wrong_opens rank m cs dirs)
      ∷ option_map damage.BadSession (least (wrong_replies m cs))
      ∷ option_map damage.OverLimit (too_much (link_times cs dirs) (fulls rank cs dirs) cs dirs)
      ∷ []

  abbrev table_rest : List ℕ → List (Option Damage)
  table_rest lumps =
      option_map damage.NoPrimary (least (filter_map (lone_remote (reachable t) rs) es))
      ∷ option_map damage.BadLinks (least (miscounted (link_count (tree_of rank t)) rs))
      ∷ option_map damage.BadNext (least (row.out_of_range rank (unwrap_or t.next 0) (inos rs) lumps es))
      ∷ first_open (bad_opens (get t.sessions) (is_file_of (tree_of rank t)) (map (λ (o : (ℕ × ℕ) × Unit {0}). o.0) (entries t.opens)))
      ∷ option_map damage.BadSession (least (bad_replies (get t.sessions) (entries t.done)))
      ∷ option_map damage.OverLimit (row.over_limit (tree_of rank t) (reachable t))
      ∷ []

  rest_is : (lumps : List ℕ) → AreDistinct (inos rs) → found_rest lumps ≡ table_rest lumps
  rest_is lumps d = λ j.
      option_map damage.NoPrimary (least (lone_is j))
      ∷ option_map damage.BadLinks (least (counts_is j))
      ∷ option_map damage.BadNext (least (beyond_is lumps j))
      ∷ first_open (bad_opens_are d j)
      ∷ option_map damage.BadSession (least (replies_is j))
      ∷ option_map damage.OverLimit (too_much_is d j)
      ∷ []

  by_twice : (lumps : List ℕ) (o : Option ℕ) (first : Option Damage) → least (twice (inos rs)) ≡ o → first_some (first ∷ option_map damage.TwoPrimaries o ∷ found_rest lumps) ≡ first_some (first ∷ option_map damage.TwoPrimaries o ∷ table_rest lumps)
  by_twice lumps None first none = ap (λ (os : List (Option Damage)). first_some (first ∷ None ∷ os)) (rest_is lumps (distinct (inos rs) none))
  by_twice lumps (Some i) first some = after_some first (damage.TwoPrimaries i) (found_rest lumps) (table_rest lumps)

  -- the damage that is found is the table's
  pub found_is : (lumps : List ℕ) → found_damage rank m cs dirs lumps ≡ tree_damage rank t lumps
  unfolding tree_damage
  found_is lumps =
      (λ j. first_some (option_map damage.DirfragMissing (row_heads j) ∷ option_map damage.TwoPrimaries (least (twice (fulls_are j))) ∷ found_rest lumps))
      ∙ by_twice lumps (least (twice (inos rs))) (option_map damage.DirfragMissing (least (headless (get t.heads) (holding rank t)))) refl
