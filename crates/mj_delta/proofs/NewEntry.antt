-- A new inode's link and record, against its full dentry.
use Rattle.std.proofs.Common.{◌≡◌, ℕ, ◌+◌, ◌^◌, ◌<◌, ◌≤◌, Bool, true, false, cond, ◌||◌, List, Some, None, refl, sym, ap, subst, ◌∙◌, ◌⊎◌, inl, inr, arith}
use Rattle.std.specs.Prelude.{IsSome, IsTrue, ◌==◌, nat_lt}
use Rattle.std.specs.Option.{option_and_then}
use Rattle.std.specs.Ordering.{eq_by_cmp}
use Rattle.std.proofs.lemmas.Bool.{false≢true, cases_eq, ne_eqb, eq-eqb, eqb-true, or_right, lt-ltb}
use Rattle.mj_base.specs.Name.{is_name}
use Rattle.mj_base.specs.ObjectName.{stray_ino}
use Rattle.mj_base.specs.Record.{IsRecord}
use Rattle.mj_base.specs.declared.record.Kind.TheVariants.{Dir, File}
use Rattle.mj_base.specs.declared.record.InodeRecord.{InodeRecord}
use Rattle.mj_maps.specs.Map.{Map, get, insert, len}
use Rattle.mj_maps.specs.Orders.{nat_cmp, place_cmp}
use Rattle.mj_maps.proofs.MapLaws.{exact_nat, exact_place, none_some, some_same, cases_key, insert_same, insert_other, count-insert_new, len-insert_new, eq_false, apart}
use Rattle.mj_tree.specs.declared.change.Attributes.{Attributes}
use Rattle.mj_tree.specs.State.{PlainState, root, is_dir, is_file, is_kind, is_kept, link_count, open_count, entry_count, record_of}
use Rattle.mj_tree.specs.Row.{most_entries, most_inodes}
use Rattle.mj_tree.specs.Change.{with_new}
use Rattle.mj_cells.specs.Table.{Dentry, Table}
use Rattle.mj_cells.specs.Table.Dentry.{Full}
use Rattle.mj_recovery.specs.Orderly.{IsOwn}
use Rattle.mj_delta.specs.Reads.{Places, names, full_of, said_by, stored_links, remote_of, cell_of, kind_of, is_held}
use Rattle.mj_delta.specs.TreeOf.{IsReached, HasDentries}
use Rattle.mj_delta.specs.TreeOf.IsReached.{at_root, below}
use Rattle.mj_delta.proofs.Facts.{record_primary, by_key, cases_option, cond_same, full_named, remote_named, kind_record, next_no_dir, next_no_links, next_no_cells, link_range, dir_cases, held_cases, stray_no_dir}

-- what a new inode finds
pub record CanBegin (s : PlainState) (q : ℕ × List ℕ) (a : Attributes) : Type 0 where
  pub parent : is_dir s q.0 ≡ true
  pub free : get s.links q ≡ None
  pub entries : entry_count s q.0 < most_entries
  pub inodes : len s.records < most_inodes
  pub next : s.next + 1 < 2 ^ 64
  pub name : IsTrue (is_name q.1)
  pub said : IsRecord (record_of s.next 1 a)

-- the heads once it is there: the parent's is written, and a new directory's
pub record AreHeadsOf (rank : ℕ) (s : PlainState) (heads : Map nat_cmp ℕ) : Type 0 where
  pub held : (d : ℕ) → is_held rank s d ≡ true → IsSome (get heads d)
  pub own : (d version : ℕ) → get heads d ≡ Some version → IsOwn rank s.next d

pub own_more : (rank n d : ℕ) → IsOwn rank n d → IsOwn rank (n + 1) d
own_more rank n d (inl e) = inl e
own_more rank n d (inr (inl e)) = inr (inl e)
own_more rank n d (inr (inr given)) = inr (inr (given.0, omega (arith, given.1)))

pub own_dir : (rank : ℕ) (t : Table) (s : PlainState) (primary : Places) (m : HasDentries rank t s primary) (d : ℕ) → is_dir s d ≡ true → IsOwn rank s.next d
own_dir rank t s primary m d h = elim (cases_option (get primary d)) [
  | inl none ↦ elim (cases_eq d root) [
    | inl e ↦ inl e
    | inr ne ↦ absurd (elim (dir_cases rank t s primary m d h) [ inl e ↦ ne e | inr w ↦ none_some w.0 (sym none ∙ w.1) ])
  ]
  | inr w ↦ inr (inr (m.above d w.0 w.1, m.beneath d w.0 w.1))
]

pub more_in : (n limit : ℕ) (b : Bool) (after : ℕ) → after ≡ n + cond b 1 0 → n ≤ limit → (b ≡ true → n < limit) → after ≤ limit
more_in n limit true after e le lt = let l = lt refl in omega arith
more_in n limit false after e le lt = omega arith

full_record : {v w : ℕ} {r x : InodeRecord} → Full v r ≡ Full w x → r ≡ x
full_record e = cc

plus_none : (a b : ℕ) (x : Bool) → x ≡ false → a ≡ b + cond x 1 0 → a ≡ b
plus_none a b x h e = omega (arith, e ∙ ap (λ x. b + cond x 1 0) h)

plus_one : (a b : ℕ) (x : Bool) → x ≡ true → a ≡ b + cond x 1 0 → a ≡ b + 1
plus_one a b x h e = omega (arith, e ∙ ap (λ x. b + cond x 1 0) h)

module _ (rank : ℕ) (t : Table) (s : PlainState) (primary : Places) (m : HasDentries rank t s primary)
    (q : ℕ × List ℕ) (a : Attributes) (v : ℕ) (heads : Map nat_cmp ℕ) (can : CanBegin s q a) where
  abbrev parent : is_dir s q.0 ≡ true
  parent = can.parent

  abbrev free : get s.links q ≡ None
  free = can.free

  abbrev after_new : PlainState
  after_new = with_new s q a

  abbrev pub table_new : Table
  table_new = record t { dentries = insert t.dentries q (Full v (record_of s.next 1 a)); heads = heads; next = Some (s.next + 1) }

  abbrev pub primary_new : Places
  primary_new = insert primary s.next q

  pub dir_other : (d : ℕ) → (d ≡ s.next → ⊥) → is_dir after_new d ≡ is_dir s d
  dir_other d ne = ap (λ o. (d == 1) || is_kind Dir o) (insert_other exact_nat s.records s.next a d (eq_false exact_nat d s.next ne))

  dir_stays : (d : ℕ) → is_dir s d ≡ true → is_dir after_new d ≡ true
  dir_stays d h = dir_other d (λ e. false≢true (sym (next_no_dir rank t s primary m) ∙ ap (is_dir s) (sym e) ∙ h)) ∙ h

  pub held_stays : (d : ℕ) → is_held rank s d ≡ true → is_held rank after_new d ≡ true
  held_stays d h = elim (held_cases rank t s primary m d h) [
    | inl e ↦ ap (λ b. b || (d == stray_ino rank)) (dir_stays d e)
    | inr e ↦ or_right (is_dir after_new d) (d == stray_ino rank) (eq-eqb d (stray_ino rank) e)
  ]

  count_other : (j : ℕ) → (j ≡ s.next → ⊥) → link_count after_new j ≡ link_count s j
  count_other j ne = plus_none _ _ (s.next == j) (ne_eqb s.next j (λ e. ne (sym e))) (count-insert_new exact_place (λ (e : (ℕ × List ℕ) × ℕ). e.1 == j) s.links q s.next free)

  count_new : link_count after_new s.next ≡ 1
  count_new = omega (arith, next_no_links rank t s primary m, plus_one _ _ (s.next == s.next) (eq-eqb s.next s.next refl) (count-insert_new exact_place (λ (e : (ℕ × List ℕ) × ℕ). e.1 == s.next) s.links q s.next free))

  kept_other : (j : ℕ) → (j ≡ s.next → ⊥) → is_kept after_new j ≡ is_kept s j
  kept_other j ne = ap (λ n. nat_lt 0 (n + open_count s j)) (count_other j ne)

  kept_new : is_kept after_new s.next ≡ true
  kept_new = lt-ltb 0 _ (omega (arith, count_new))

  -- no full dentry stands where the new one goes
  primary_apart : (j : ℕ) (r : ℕ × List ℕ) → get primary j ≡ Some r → eq_by_cmp place_cmp r q ≡ false
  primary_apart j r e = eq_false exact_place r q (λ same.
      let named : names (get t.dentries q) ≡ Some j = full_named _ j (subst (λ (r : ℕ × List ℕ). full_of (get t.dentries r) ≡ Some j) same (m.primary_full j r e)) in
      none_some j (sym free ∙ m.links q ∙ (λ i. cond (parent i) (names (get t.dentries q)) None) ∙ named))

  dentry_same : get table_new.dentries q ≡ Some (Full v (record_of s.next 1 a))
  dentry_same = insert_same exact_place t.dentries q (Full v (record_of s.next 1 a))

  dentry_other : (r : ℕ × List ℕ) → eq_by_cmp place_cmp r q ≡ false → get table_new.dentries r ≡ get t.dentries r
  dentry_other r ne = insert_other exact_place t.dentries q (Full v (record_of s.next 1 a)) r ne

  cell_other : (j : ℕ) → (j ≡ s.next → ⊥) → cell_of table_new primary_new j ≡ cell_of t primary j
  cell_other j ne =
      ap (option_and_then (get table_new.dentries)) (insert_other exact_nat primary s.next q j (eq_false exact_nat j s.next ne))
      ∙ elim (cases_option (get primary j)) [
        | inl none ↦ ap (option_and_then (get table_new.dentries)) none ∙ sym (ap (option_and_then (get t.dentries)) none)
        | inr w ↦ ap (option_and_then (get table_new.dentries)) w.1 ∙ dentry_other w.0 (primary_apart j w.0 w.1) ∙ sym (ap (option_and_then (get t.dentries)) w.1)
      ]

  cell_new : cell_of table_new primary_new s.next ≡ Some (Full v (record_of s.next 1 a))
  cell_new = ap (option_and_then (get table_new.dentries)) (insert_same exact_nat primary s.next q) ∙ dentry_same

  primary_cases : (j : ℕ) (r : ℕ × List ℕ) → get primary_new j ≡ Some r → ((j ≡ s.next) × (r ≡ q)) ⊎ ((j ≡ s.next → ⊥) × (get primary j ≡ Some r))
  primary_cases j r e = elim (cases_key exact_nat j s.next) [
    | inl same ↦ inl (same, some_same r q (sym e ∙ ap (get primary_new) same ∙ insert_same exact_nat primary s.next q))
    | inr ne ↦ inr (apart exact_nat j s.next ne, sym (insert_other exact_nat primary s.next q j ne) ∙ e)
  ]

  -- a directory that had cells is not the new one
  had_cell : (r : ℕ × List ℕ) (c : Dentry) → get t.dentries r ≡ Some c → r.0 ≡ s.next → ⊥
  had_cell r c e h = none_some c (sym (next_no_cells rank t s primary m r h) ∙ e)

  named_old : (r : ℕ × List ℕ) (j : ℕ) → names (get t.dentries r) ≡ Some j → r.0 ≡ s.next → ⊥
  named_old r j e h = none_some j (ap names (sym (next_no_cells rank t s primary m r h)) ∙ e)

  link_here : (r : ℕ × List ℕ) (j : ℕ) → is_dir s r.0 ≡ true → names (get t.dentries r) ≡ Some j → get s.links r ≡ Some j
  link_here r j d e = m.links r ∙ (λ i. cond (d i) (names (get t.dentries r)) None) ∙ e

  link_cond : (r : ℕ × List ℕ) → cond (is_dir after_new r.0) (names (get t.dentries r)) None ≡ cond (is_dir s r.0) (names (get t.dentries r)) None
  link_cond r = elim (cases_eq r.0 s.next) [
    | inl e ↦
        let none = next_no_cells rank t s primary m r e in
        ap (λ o. cond (is_dir after_new r.0) (names o) None) none ∙ cond_same _ None ∙ sym (cond_same (is_dir s r.0) None) ∙ sym (ap (λ o. cond (is_dir s r.0) (names o) None) none)
    | inr ne ↦ ap (λ b. cond b (names (get t.dentries r)) None) (dir_other r.0 ne)
  ]

  opened_old : (j : ℕ) → is_file s j ≡ true → j ≡ s.next → ⊥
  opened_old j h e = let r = kind_record File (get s.records j) h in let p = record_primary rank t s primary m j r.0 r.1 in omega (arith, m.beneath j p.0 p.1, e)

  next_no_record : get s.records s.next ≡ None
  next_no_record = elim (cases_option (get s.records s.next)) [
    | inl none ↦ none
    | inr w ↦ let p = record_primary rank t s primary m s.next w.0 w.1 in absurd (omega (arith, m.beneath s.next p.0 p.1))
  ]

  pub matches_new : AreHeadsOf rank (with_new s q a) heads → HasDentries rank table_new (with_new s q a) primary_new
  matches_new are_heads = record {
    links = by_key exact_place q (λ r. get after_new.links r ≡ cond (is_dir after_new r.0) (names (get table_new.dentries r)) None)
        (insert_same exact_place s.links q s.next ∙ sym (λ i. cond (dir_stays q.0 parent i) (names (dentry_same i)) None))
        (λ r ne. insert_other exact_place s.links q s.next r ne ∙ m.links r ∙ sym (ap (λ o. cond (is_dir after_new r.0) (names o) None) (dentry_other r ne) ∙ link_cond r));
    records = by_key exact_nat s.next (λ j. get after_new.records j ≡ cond (is_kept after_new j) (said_by (cell_of table_new primary_new j)) None)
        (insert_same exact_nat s.records s.next a ∙ sym (λ i. cond (kept_new i) (said_by (cell_new i)) None))
        (λ j ne. let other = apart exact_nat j s.next ne in insert_other exact_nat s.records s.next a j ne ∙ m.records j ∙ sym (λ i. cond (kept_other j other i) (said_by (cell_other j other i)) None));
    next = refl;
    primary_held = λ j r e. elim (primary_cases j r e) [
      | inl w ↦ ap (λ (r : ℕ × List ℕ). is_held rank after_new r.0) w.1 ∙ ap (λ b. b || (q.0 == stray_ino rank)) (dir_stays q.0 parent)
      | inr w ↦ held_stays r.0 (m.primary_held j r w.1)
    ];
    primary_full = λ j r e. elim (primary_cases j r e) [
      | inl w ↦ ap (λ r. full_of (get table_new.dentries r)) w.1 ∙ ap full_of dentry_same ∙ ap Some (sym w.0)
      | inr w ↦ ap full_of (dentry_other r (primary_apart j r w.1)) ∙ m.primary_full j r w.1
    ];
    each_primary = λ j r held f. elim (cases_key exact_place r q) [
      | inl same ↦ ap (get primary_new) (some_same j s.next (sym f ∙ ap (λ r. full_of (get table_new.dentries r)) same ∙ ap full_of dentry_same)) ∙ insert_same exact_nat primary s.next q ∙ ap Some (sym same)
      | inr ne ↦
          let old = sym (ap full_of (dentry_other r ne)) ∙ f in
          let not_new = named_old r j (full_named _ j old) in
          let e = m.each_primary j r (sym (ap (λ b. b || (r.0 == stray_ino rank)) (dir_other r.0 not_new)) ∙ held) old in
          insert_other exact_nat primary s.next q j (eq_false exact_nat j s.next (λ z. omega (arith, m.beneath j r e, z))) ∙ e
    ];
    remote_kind = λ r j k dir rem. elim (cases_key exact_place r q) [
      | inl same ↦ absurd (none_some (j, k) (sym (ap (λ r. remote_of (get table_new.dentries r)) same ∙ ap remote_of dentry_same) ∙ rem))
      | inr ne ↦
          let old = sym (ap remote_of (dentry_other r ne)) ∙ rem in
          let named = remote_named _ j k old in
          let was = sym (dir_other r.0 (named_old r j named)) ∙ dir in
          let range = link_range rank t s primary m r j (link_here r j was named) in
          ap (λ o. kind_of (said_by o)) (cell_other j (λ z. omega (arith, range.1, z))) ∙ m.remote_kind r j k was old
    ];
    remote_no_dir = λ r j k dir rem. elim (cases_key exact_place r q) [
      | inl same ↦ absurd (none_some (j, k) (sym (ap (λ r. remote_of (get table_new.dentries r)) same ∙ ap remote_of dentry_same) ∙ rem))
      | inr ne ↦
          let old = sym (ap remote_of (dentry_other r ne)) ∙ rem in
          m.remote_no_dir r j k (sym (dir_other r.0 (named_old r j (remote_named _ j k old))) ∙ dir) old
    ];
    counts = λ j r e. elim (primary_cases j r e) [
      | inl w ↦ ap (λ r. stored_links (get table_new.dentries r)) w.1 ∙ ap stored_links dentry_same ∙ sym count_new ∙ ap (link_count after_new) (sym w.0)
      | inr w ↦ ap stored_links (dentry_other r (primary_apart j r w.1)) ∙ m.counts j r w.1 ∙ sym (count_other j w.0)
    ];
    first_next = omega (arith, m.first_next);
    next_fits = can.next;
    above = λ j r e. elim (primary_cases j r e) [ inl w ↦ omega (arith, m.first_next, w.0) | inr w ↦ m.above j r w.1 ];
    beneath = λ j r e. elim (primary_cases j r e) [ inl w ↦ omega (arith, w.0) | inr w ↦ omega (arith, m.beneath j r w.1) ];
    own_cells = λ r h. own_more rank s.next r.0 (elim (cases_key exact_place r q) [
      | inl same ↦ subst (λ (r : ℕ × List ℕ). IsOwn rank s.next r.0) (sym same) (own_dir rank t s primary m q.0 parent)
      | inr ne ↦ m.own_cells r (subst (λ o. IsSome o) (dentry_other r ne) h)
    ]);
    stray_names = λ n j e. m.stray_names n j (sym (ap names (dentry_other (stray_ino rank, n) (eq_false exact_place (stray_ino rank, n) q (λ same.
        false≢true (sym (stray_no_dir rank t s primary m) ∙ ap (λ (r : ℕ × List ℕ). is_dir s r.0) same ∙ parent))))) ∙ e);
    heads = are_heads.held;
    own_heads = are_heads.own;
    opens = m.opens;
    open_files = λ c j h. ap (is_kind File) (insert_other exact_nat s.records s.next a j (eq_false exact_nat j s.next (opened_old j (m.open_files c j h)))) ∙ m.open_files c j h;
    few_entries = λ d. more_in (entry_count s d) most_entries (q.0 == d) (entry_count after_new d) (count-insert_new exact_place (λ (e : (ℕ × List ℕ) × ℕ). e.0.0 == d) s.links q s.next free)
        (m.few_entries d) (λ here. subst (λ d. entry_count s d < most_entries) (eqb-true q.0 d here) can.entries);
    few_inodes = omega (arith, len-insert_new exact_nat s.records s.next a next_no_record, can.inodes);
    few_opens = m.few_opens;
    names_fit = λ r h. elim (cases_key exact_place r q) [
      | inl same ↦ subst (λ (r : ℕ × List ℕ). IsTrue (is_name r.1)) (sym same) can.name
      | inr ne ↦ m.names_fit r (subst (λ o. IsSome o) (dentry_other r ne) h)
    ];
    records_fit = λ r w x e. elim (cases_key exact_place r q) [
      | inl same ↦ subst IsRecord (full_record (some_same _ _ (sym dentry_same ∙ ap (get table_new.dentries) (sym same) ∙ e))) can.said
      | inr ne ↦ m.records_fit r w x (sym (dentry_other r ne) ∙ e)
    ];
  }

  reach_more : (d : ℕ) → IsReached s d → IsReached after_new d
  reach_more _ at_root = at_root
  reach_more _ (below d n i r l h) = below d n i (reach_more d r) (insert_other exact_place s.links q s.next (d, n) (eq_false exact_place (d, n) q (λ e. none_some i (sym free ∙ ap (get s.links) (sym e) ∙ l))) ∙ l) (dir_stays i h)

  pub reached_new : ((d : ℕ) → is_dir s d ≡ true → IsReached s d) → (d : ℕ) → is_dir (with_new s q a) d ≡ true → IsReached (with_new s q a) d
  reached_new reached d h = elim (cases_eq d s.next) [
    | inl e ↦ subst (IsReached after_new) (sym e) (below q.0 q.1 s.next (reach_more q.0 (reached q.0 parent)) (insert_same exact_place s.links q s.next) (ap (is_dir after_new) (sym e) ∙ h))
    | inr ne ↦ reach_more d (reached d (sym (dir_other d ne) ∙ h))
  ]
