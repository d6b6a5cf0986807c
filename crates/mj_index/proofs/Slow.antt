-- An index that is made of a whole table, cell by cell.
use Rattle.std.proofs.Common.{arith, ◌≡◌, ℕ, suc, ◌+◌, ◌<◌, ◌^◌, Bool, true, false, cond, ◌||◌, List, [], ◌∷◌, length, map, drop, drop-cons, add-one, slice_index_or, T, Option, Some, None, refl, sym, ap, subst, ◌∙◌, inl, inr}
use Rattle.std.specs.Prelude.{is_some, nat_eq, unwrap_or}
use Rattle.std.specs.Option.{option_or}
use Rattle.std.specs.Ordering.{eq_by_cmp}
use Rattle.std.specs.FinMap.Entries.{find, is_sorted}
use Rattle.std.proofs.lemmas.Bool.{true≢false}
use Rattle.mj_maps.specs.Map.{Map, entries, entries_sorted, empty, count, passing, left_true, right_true}
use Rattle.mj_maps.specs.Orders.{nat_cmp}
use Rattle.mj_maps.proofs.MapLaws.{exact_nat, cases_key, eq_same, get_empty, get-entries, entries-empty, same_map, none_some}
use Rattle.mj_cells.specs.declared.cell.CellKey.{CellKey}
use Rattle.mj_cells.specs.declared.cell.CellValue.{CellValue}
use Rattle.mj_cells.specs.declared.cell.CellValue.TheVariants.{Gone}
use Rattle.mj_cells.specs.declared.cell.CellWrite.{CellWrite}
use Rattle.mj_cells.specs.declared.table.CellView.{CellView}
use Rattle.mj_cells.specs.Cell.{key_cmp, same_key}
use Rattle.mj_cells.specs.Next.{cell_of}
use Rattle.mj_cells.specs.Table.{table_of, put_all, as_write}
use Rattle.mj_cells.proofs.Keys.{exact_key}
use Rattle.mj_cells.proofs.CellMaps.{not_below}
use Rattle.mj_recovery.specs.Tree.{Entry, is_among, reachable}
use Rattle.mj_judge.specs.Own.{own_damage}
use Rattle.mj_judge.specs.Parts.{Cell}
use Rattle.mj_judge.specs.Reached.{AreDirs}
use Rattle.mj_tables.specs.Slots.{last_write}
use Rattle.mj_tables.proofs.Writes.{get-put_all, some-last_write, or_none}
use Rattle.mj_index.specs.declared.known.Known.{Known}
use Rattle.mj_index.specs.declared.index.Index.{Index}
use Rattle.mj_index.specs.Known.{Inodes, nothing, known_at, held_by, with_room, altered, as_dir}
use Rattle.mj_index.specs.Said.{is_dentry, is_open, is_session, full_said, value_or_gone, cell_after}
use Rattle.mj_index.specs.Indexed.{IsMidway, IsIndexed}
use Rattle.mj_index.specs.Following.{no_index, with_dir, with_dirs, PutsNew, dentry_out, full_out, open_out, session_out, held_in, taken, put_in}
use Rattle.mj_index.specs.Course.{AreOnce, IsOnCourse}
use Rattle.mj_index.proofs.Altered.{known-altered_same, known-altered_other, known-with_room, some-with_room}
use Rattle.mj_index.proofs.CellCounts.{dentry_gone, open_gone, session_fails, full_gone, dir_of_entry, inode_of_open}
use Rattle.mj_index.proofs.Effects.{tied}
use Rattle.mj_index.proofs.Course.{ino_of_record, on_course, same_course, course_ends}
use Rattle.mj_index.proofs.IndexIs.{single}

-- ---- the directories

abbrev only_dir : Bool → Known
only_dir b = record nothing { is_dir = b }

or_more : (a b c : Bool) → (b || (a || c)) ≡ ((a || b) || c)
or_more true true c = refl
or_more true false c = refl
or_more false b c = refl

dir_known : (d : ℕ) (x : Index) (j : ℕ) (b : Bool) → known_at x.known j ≡ only_dir b → known_at (with_dir d x).known j ≡ only_dir (nat_eq d j || b)
dir_known d x j b is = elim (cases_key exact_nat j d) [
  | inl same ↦ ap (λ z. known_at (altered (with_room x.known d) d (as_dir true)) z) same ∙ known-altered_same (with_room x.known d) d (as_dir true) (inr (some-with_room x.known d))
      ∙ ap (as_dir true) (known-with_room x.known d d ∙ ap (known_at x.known) (sym same) ∙ is)
      ∙ ap (λ c. only_dir (c || b)) (sym (tied d j ∙ ap (λ z. eq_by_cmp nat_cmp z d) same ∙ eq_same exact_nat d))
  | inr other ↦ known-altered_other (with_room x.known d) d (as_dir true) j other ∙ known-with_room x.known d j ∙ is ∙ ap (λ c. only_dir (c || b)) (sym (tied d j ∙ other))
]

dirs_known : (ds : List ℕ) (x : Index) (j : ℕ) (b : Bool) → known_at x.known j ≡ only_dir b → known_at (with_dirs ds x).known j ≡ only_dir (is_among ds j || b)
dirs_known [] x j b is = is
dirs_known (d ∷ ds) x j b is = dirs_known ds (with_dir d x) j (nat_eq d j || b) (dir_known d x j b is) ∙ ap only_dir (or_more (nat_eq d j) (is_among ds j) b)

or_false : (b : Bool) → (b || false) ≡ b
or_false true = refl
or_false false = refl

sum_dirs : {A : Type 0} (g : Index → A) → ((x : Index) (n : Inodes) → g (record x { known = n }) ≡ g x) → (ds : List ℕ) (x : Index) → g (with_dirs ds x) ≡ g x
sum_dirs g h [] x = refl
sum_dirs g h (d ∷ ds) x = sum_dirs g h ds (with_dir d x) ∙ h x _

count_empty : (p : Cell → Bool) → count p (empty {X = CellValue} {R = key_cmp}) ≡ 0
count_empty p = ap (passing p) (entries-empty key_cmp)

module _ (rank : ℕ) (dirs : ℕ → Bool) (ds : List ℕ) (are : (d : ℕ) → is_among ds d ≡ dirs d) (left : List CellWrite) where
  known_start : (j : ℕ) → known_at (with_dirs ds no_index).known j ≡ only_dir (is_among ds j)
  known_start j = dirs_known ds no_index j false (ap (λ (o : Option Known). unwrap_or o nothing) (get_empty nat_cmp j)) ∙ ap only_dir (or_false (is_among ds j))

  starts : IsMidway rank dirs empty left (with_dirs ds no_index)
  starts = record {
    dir = λ d. ap (λ (k : Known). k.is_dir) (known_start d) ∙ are d;
    dentries_in = λ d. ap (λ (k : Known). k.dentries) (known_start d) ∙ sym (count_empty _);
    opens_of_each = λ i. ap (λ (k : Known). k.opens) (known_start i) ∙ sym (count_empty _);
    all_dentries = sum_dirs (λ x. x.dentries) (λ x n. refl) ds no_index ∙ sym (count_empty _);
    all_opens = sum_dirs (λ x. x.opens) (λ x n. refl) ds no_index ∙ sym (count_empty _);
    all_sessions = sum_dirs (λ x. x.sessions) (λ x n. refl) ds no_index ∙ sym (count_empty _);
    sound = λ i p is. absurd (none_some p (sym (ap (λ (k : Known). k.full) (known_start i)) ∙ is));
    whole = λ k r free is. absurd (none_some r (sym (ap (λ o. full_said (held_by rank dirs) (k, value_or_gone o)) (get_empty key_cmp k) ∙ full_gone (held_by rank dirs) k) ∙ is));
  }

-- ---- cells as writes

abbrev pub write_of : CellView → CellWrite
write_of c = as_write (cell_of c)

writes_are : (cs : List CellView) → map write_of cs ≡ map as_write (map cell_of cs)
writes_are [] = refl
writes_are (c ∷ cs) = ap (λ (ws : List CellWrite). write_of c ∷ ws) (writes_are cs)

writes_long : (cs : List CellView) → length (map write_of cs) ≡ length cs
writes_long [] = refl
writes_long (c ∷ cs) = ap suc (writes_long cs)

or_left : (o : Option CellValue) (b : Bool) (v : CellValue) → (b ≡ true → o ≡ None) → option_or o (cond b (Some v) None) ≡ cond b (Some v) o
or_left o true v none = ap (λ p. option_or p (Some v)) (none refl)
or_left o false v none = or_none o

-- the last write of a key is its cell
last_cell : (cs : List Cell) → T (is_sorted key_cmp cs) → (k : CellKey) → last_write k (map as_write cs) ≡ find key_cmp k cs
last_cell [] h k = refl
last_cell (c ∷ cs) h k =
    let rest = last_cell cs (right_true _ _ h) k in
    or_left (last_write k (map as_write cs)) (same_key k c.0) c.1 (λ t. rest ∙ elim (cases_key exact_key k c.0) [
      | inl same ↦ ap (λ z. find key_cmp z cs) same ∙ not_below c.0 cs (left_true _ _ h)
      | inr other ↦ absurd (true≢false (sym t ∙ other))
    ])
    ∙ ap (cond (same_key k c.0) (Some c.1)) rest

cells_once : (cs : List Cell) → T (is_sorted key_cmp cs) → AreOnce (map as_write cs)
cells_once [] h = tt
cells_once (c ∷ cs) h = (
  sym (some-last_write c.0 (map as_write cs)) ∙ ap is_some (last_cell cs (right_true _ _ h) c.0 ∙ not_below c.0 cs (left_true _ _ h)),
  cells_once cs (right_true _ _ h),
)

put_cells : (m : Map key_cmp CellValue) → put_all empty (map as_write (entries m)) ≡ m
put_cells m = same_map exact_key _ m (λ k. get-put_all empty (map as_write (entries m)) k ∙ ap (option_or (last_write k (map as_write (entries m)))) (get_empty key_cmp k) ∙ or_none (last_write k (map as_write (entries m)))
    ∙ last_cell (entries m) (entries_sorted m) k ∙ sym (get-entries m k))

drop-all : (cs : List CellView) → drop (length cs) cs ≡ []
drop-all [] = refl
drop-all (c ∷ cs) = drop-all cs

-- ---- the loop

abbrev pub nothing_before : CellKey → CellValue
nothing_before k = Gone

module _ (rank : ℕ) (m : Map key_cmp CellValue) (none : own_damage rank (table_of m) ≡ None) where
  abbrev pub Course : List CellWrite → Index → Type 0
  Course left x = IsOnCourse rank (is_among (reachable (table_of m))) nothing_before m left x

  pub course_starts : (cells : List CellView) → map cell_of cells ≡ entries m → (ds : List ℕ) → AreDirs (table_of m) ds → length cells < 2 ^ 64 → (x : Index) → x ≡ with_dirs ds no_index → Course (map write_of cells) x
  course_starts cells is ds are small x from =
      let writes : map write_of cells ≡ map as_write (entries m) = writes_are cells ∙ ap (map as_write) is in
      let long = writes_long cells in
      let a = count_empty is_dentry in
      let b = count_empty is_open in
      let c = count_empty is_session in
      subst (Course (map write_of cells)) (sym from) (record {
        m = empty;
        midway = starts rank (is_among (reachable (table_of m))) ds are (map write_of cells);
        ends = ap (put_all empty) writes ∙ put_cells m;
        olds = λ k _. ap value_or_gone (get_empty key_cmp k);
        once = subst AreOnce (sym writes) (cells_once (entries m) (entries_sorted m));
        single = single rank m none;
        counts = record { dentries = omega (arith, long, a, small); opens = omega (arith, long, b, small); sessions = omega (arith, long, c, small) };
      })

  gone_untaken : (k : CellKey) (x : Index) → taken rank (k, Gone) x ≡ x
  gone_untaken k x = λ i. session_out (session_fails k i) (open_out (ap (λ (o : Option ((ℕ × ℕ) × Unit {0})). inode_of_open o) (open_gone k) i)
      (full_out k (ap ino_of_record (full_gone (held_in rank x) k) i) (dentry_out (ap (λ (o : Option Entry). dir_of_entry o) (dentry_gone k) i) x)))

  put_on : (w : CellWrite) (ws : List CellWrite) (x y : Index) → Course (w ∷ ws) x → PutsNew rank (w.key, w.value) x y → Course ws y
  put_on w ws x y on put =
      let next = on_course rank (is_among (reachable (table_of m))) nothing_before m w ws put.with_rooms (same_course rank (is_among (reachable (table_of m))) nothing_before m (w ∷ ws) x put.with_rooms put.same on) put.room in
      subst (Course ws) (ap (put_in rank (cell_after w)) (gone_untaken w.key put.with_rooms) ∙ sym put.put) next

  pub course_goes : (cells : List CellView) (i : ℕ) (c : CellView) → i < length cells → c ≡ slice_index_or cells i c → (x y : Index) → Course (map write_of (drop i cells)) x → PutsNew rank (cell_of c) x y → Course (map write_of (drop (i + 1) cells)) y
  course_goes cells i c h is x y on put =
      let next : drop i cells ≡ c ∷ drop (i + 1) cells = rw add-one (drop-cons cells i c h ∙ ap (λ (z : CellView). z ∷ drop (suc i) cells) (sym is)) in
      put_on (write_of c) (map write_of (drop (i + 1) cells)) x y (subst (λ (cs : List CellView). Course (map write_of cs) x) next on) put

  pub course_done : (cells : List CellView) (x : Index) → Course (map write_of (drop (length cells) cells)) x → IsIndexed rank m x
  course_done cells x on = course_ends rank (is_among (reachable (table_of m))) nothing_before m x (subst (λ (cs : List CellView). Course (map write_of cs) x) (drop-all cells) on)
