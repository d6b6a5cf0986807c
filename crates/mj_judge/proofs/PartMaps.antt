-- The entries of a table's maps are the cells of their kind, in the order of their keys.
use Rattle.std.proofs.Common.{◌≡◌, ℕ, true, false, cond, List, [], ◌∷◌, Option, Some, None, T, refl, sym, ap, subst, ◌∙◌, inl, inr}
use Rattle.std.specs.Prelude.{filter_map, unwrap_or}
use Rattle.std.specs.Option.{option_and_then}
use Rattle.std.specs.List.{cons_option}
use Rattle.std.specs.declared.cmp.Ordering.{Ordering}
use Rattle.std.specs.declared.cmp.Ordering.TheVariants.{Less, Equal, Greater}
use Rattle.std.specs.Ordering.{is_lt, is_eq, eq_by_cmp, ordering_then}
use Rattle.std.specs.FinMap.Entries.{find, below_all, is_sorted, same_entries}
use Rattle.mj_maps.specs.Map.{Map, entries, entries_sorted, get, left_true, right_true, both_true}
use Rattle.mj_maps.specs.Orders.{nat_cmp, place_cmp, pair_cmp}
use Rattle.mj_maps.proofs.MapLaws.{Exact, exact_nat, exact_place, exact_pair, cases_key, eq_same, get-entries, some_same, none_some}
use Rattle.mj_cells.specs.declared.cell.CellKey.{CellKey}
use Rattle.mj_cells.specs.declared.cell.CellKey.TheVariants as key
use Rattle.mj_cells.specs.declared.cell.CellValue.{CellValue}
use Rattle.mj_cells.specs.declared.cell.CellValue.TheVariants.{Gone}
use Rattle.mj_cells.specs.Cell.{key_cmp, same_key}
use Rattle.mj_cells.specs.Table.{table_of, dentry_of, number_of, presence_of}
use Rattle.mj_cells.proofs.CellMaps.{not_below, value_of-table_of}
use Rattle.mj_cells.proofs.Keys.{exact_key}
use Rattle.mj_cells.proofs.Tables.{one_dentry, one_number, one_presence}
use Rattle.mj_judge.specs.Parts.{Cell, pair_of, dentry_at, head_at, session_at, done_at, open_at, dentry_entry, head_entry, session_entry, done_entry, open_entry}

-- one kind of keys
record IsKind {K : Type 0} (R : K → K → Ordering) (of : K → CellKey) (at : CellKey → Option K) : Type 0 where
  exact : Exact R
  only : (c : CellKey) (k : K) → at c ≡ Some k → c ≡ of k
  there : (k : K) → at (of k) ≡ Some k
  order : (a b : K) → key_cmp (of a) (of b) ≡ R a b

module _ {K X : Type 0} {R : K → K → Ordering} {of : K → CellKey} {at : CellKey → Option K} (o : IsKind R of at) (val : CellValue → Option X) where
  abbrev part : List Cell → List (K × X)
  part es = filter_map (λ e. pair_of (at e.0) (val e.1)) es

  below_part : (k : K) (es : List Cell) → T (below_all key_cmp (of k) es) → T (below_all R k (part es))
  below_part k [] h = tt
  below_part k (e ∷ es) h = elim (at e.0) as (λ a. at e.0 ≡ a → T (below_all R k (cons_option (pair_of a (val e.1)) (part es)))) [
    | None ↦ λ _. below_part k es (right_true _ _ h)
    | Some q ↦ λ is. elim (val e.1) as (λ v. T (below_all R k (cons_option (pair_of (Some q) v) (part es)))) [
      | None ↦ below_part k es (right_true _ _ h)
      | Some x ↦ both_true _ _ (subst (λ r. T (is_lt r)) (o.order k q) (subst (λ c. T (is_lt (key_cmp (of k) c))) (o.only e.0 q is) (left_true _ _ h))) (below_part k es (right_true _ _ h))
    ]
  ] refl

  sorted_part : (es : List Cell) → T (is_sorted key_cmp es) → T (is_sorted R (part es))
  sorted_part [] h = tt
  sorted_part (e ∷ es) h = elim (at e.0) as (λ a. at e.0 ≡ a → T (is_sorted R (cons_option (pair_of a (val e.1)) (part es)))) [
    | None ↦ λ _. sorted_part es (right_true _ _ h)
    | Some q ↦ λ is. elim (val e.1) as (λ v. T (is_sorted R (cons_option (pair_of (Some q) v) (part es)))) [
      | None ↦ sorted_part es (right_true _ _ h)
      | Some x ↦ both_true _ _ (below_part q es (subst (λ c. T (below_all key_cmp c es)) (o.only e.0 q is) (left_true _ _ h))) (sorted_part es (right_true _ _ h))
    ]
  ] refl

  ties : (q k : K) → same_key (of q) (of k) ≡ eq_by_cmp R q k
  ties q k = ap is_eq (o.order q k)

  not_of : (q : K) (c : CellKey) → at c ≡ None → same_key (of q) c ≡ false
  not_of q c none = elim (cases_key exact_key (of q) c) [ inl is ↦ absurd (none_some q (sym none ∙ ap at (sym is) ∙ o.there q)) | inr other ↦ other ]

  find-part : (es : List Cell) → T (is_sorted key_cmp es) → (q : K) → find R q (part es) ≡ option_and_then val (find key_cmp (of q) es)
  find-part [] h q = refl
  find-part (e ∷ es) h q = elim (at e.0) as (λ a. at e.0 ≡ a → find R q (cons_option (pair_of a (val e.1)) (part es)) ≡ option_and_then val (cond (same_key (of q) e.0) (Some e.1) (find key_cmp (of q) es))) [
    | None ↦ λ none. find-part es (right_true _ _ h) q ∙ ap (λ b. option_and_then val (cond b (Some e.1) (find key_cmp (of q) es))) (sym (not_of q e.0 none))
    | Some k ↦ λ is.
        let tied : same_key (of q) e.0 ≡ eq_by_cmp R q k = ap (same_key (of q)) (o.only e.0 k is) ∙ ties q k in
        elim (cases_key o.exact q k) [
          | inl same ↦
              let here : eq_by_cmp R q k ≡ true = ap (λ z. eq_by_cmp R z k) same ∙ eq_same o.exact k in
              let no_more : find key_cmp (of q) es ≡ None = ap (λ z. find key_cmp z es) (ap of same ∙ sym (o.only e.0 k is)) ∙ not_below e.0 es (left_true _ _ h) in
              elim (val e.1) as (λ v. val e.1 ≡ v → find R q (cons_option (pair_of (Some k) v) (part es)) ≡ option_and_then val (cond (same_key (of q) e.0) (Some e.1) (find key_cmp (of q) es))) [
                | None ↦ λ none. find-part es (right_true _ _ h) q ∙ ap (option_and_then val) no_more ∙ sym none ∙ ap (λ b. option_and_then val (cond b (Some e.1) (find key_cmp (of q) es))) (sym (tied ∙ here))
                | Some x ↦ λ some. ap (λ b. cond b (Some x) (find R q (part es))) here ∙ sym some ∙ ap (λ b. option_and_then val (cond b (Some e.1) (find key_cmp (of q) es))) (sym (tied ∙ here))
              ] refl
          | inr other ↦
              elim (val e.1) as (λ v. find R q (cons_option (pair_of (Some k) v) (part es)) ≡ option_and_then val (cond (same_key (of q) e.0) (Some e.1) (find key_cmp (of q) es))) [
                | None ↦ find-part es (right_true _ _ h) q ∙ ap (λ b. option_and_then val (cond b (Some e.1) (find key_cmp (of q) es))) (sym (tied ∙ other))
                | Some x ↦ ap (λ b. cond b (Some x) (find R q (part es))) other ∙ find-part es (right_true _ _ h) q ∙ ap (λ b. option_and_then val (cond b (Some e.1) (find key_cmp (of q) es))) (sym (tied ∙ other))
              ]
        ]
  ] refl

  -- a map that has at each key what its cell says has the cells of that kind
  part_is : (m : Map key_cmp CellValue) (n : Map R X) → ((q : K) → get n q ≡ option_and_then val (get m (of q))) → entries n ≡ part (entries m)
  part_is m n is = same_entries R o.exact.total o.exact.same (entries n) (part (entries m)) (entries_sorted n) (sorted_part (entries m) (entries_sorted m)) (λ q.
      sym (get-entries n q) ∙ is q ∙ ap (option_and_then val) (get-entries m (of q)) ∙ sym (find-part (entries m) (entries_sorted m) q))

-- ---- the kinds

then_equal : (r : Ordering) → ordering_then r Equal ≡ r
then_equal Less = refl
then_equal Equal = refl
then_equal Greater = refl

pub dentry_only : (c : CellKey) (k : ℕ × List ℕ) → dentry_at c ≡ Some k → c ≡ key.Dentry k.0 k.1
dentry_only (key.Dentry d n) k e = let s = some_same _ k e in λ i. key.Dentry (s i).0 (s i).1
dentry_only (key.DirHead d) k e = absurd (none_some k e)
dentry_only key.NextIno k e = absurd (none_some k e)
dentry_only (key.Session c) k e = absurd (none_some k e)
dentry_only (key.Done c t) k e = absurd (none_some k e)
dentry_only (key.OpenOf c i) k e = absurd (none_some k e)

head_only : (c : CellKey) (k : ℕ) → head_at c ≡ Some k → c ≡ key.DirHead k
head_only (key.DirHead d) k e = ap key.DirHead (some_same _ k e)
head_only (key.Dentry d n) k e = absurd (none_some k e)
head_only key.NextIno k e = absurd (none_some k e)
head_only (key.Session c) k e = absurd (none_some k e)
head_only (key.Done c t) k e = absurd (none_some k e)
head_only (key.OpenOf c i) k e = absurd (none_some k e)

session_only : (c : CellKey) (k : ℕ) → session_at c ≡ Some k → c ≡ key.Session k
session_only (key.Session c) k e = ap key.Session (some_same _ k e)
session_only (key.Dentry d n) k e = absurd (none_some k e)
session_only (key.DirHead d) k e = absurd (none_some k e)
session_only key.NextIno k e = absurd (none_some k e)
session_only (key.Done c t) k e = absurd (none_some k e)
session_only (key.OpenOf c i) k e = absurd (none_some k e)

done_only : (c : CellKey) (k : ℕ × ℕ) → done_at c ≡ Some k → c ≡ key.Done k.0 k.1
done_only (key.Done c t) k e = let s = some_same _ k e in λ i. key.Done (s i).0 (s i).1
done_only (key.Dentry d n) k e = absurd (none_some k e)
done_only (key.DirHead d) k e = absurd (none_some k e)
done_only key.NextIno k e = absurd (none_some k e)
done_only (key.Session c) k e = absurd (none_some k e)
done_only (key.OpenOf c i) k e = absurd (none_some k e)

open_only : (c : CellKey) (k : ℕ × ℕ) → open_at c ≡ Some k → c ≡ key.OpenOf k.0 k.1
open_only (key.OpenOf c i) k e = let s = some_same _ k e in λ j. key.OpenOf (s j).0 (s j).1
open_only (key.Dentry d n) k e = absurd (none_some k e)
open_only (key.DirHead d) k e = absurd (none_some k e)
open_only key.NextIno k e = absurd (none_some k e)
open_only (key.Session c) k e = absurd (none_some k e)
open_only (key.Done c t) k e = absurd (none_some k e)

dentry_kind : IsKind place_cmp (λ q. key.Dentry q.0 q.1) dentry_at
dentry_kind = record { exact = exact_place; only = dentry_only; there = λ k. refl; order = λ a b. refl }

head_kind : IsKind nat_cmp key.DirHead head_at
head_kind = record { exact = exact_nat; only = head_only; there = λ k. refl; order = λ a b. then_equal (nat_cmp a b) }

session_kind : IsKind nat_cmp key.Session session_at
session_kind = record { exact = exact_nat; only = session_only; there = λ k. refl; order = λ a b. then_equal (nat_cmp a b) }

done_kind : IsKind pair_cmp (λ q. key.Done q.0 q.1) done_at
done_kind = record { exact = exact_pair; only = done_only; there = λ k. refl; order = λ a b. ap (ordering_then (nat_cmp a.0 b.0)) (then_equal (nat_cmp a.1 b.1)) }

open_kind : IsKind pair_cmp (λ q. key.OpenOf q.0 q.1) open_at
open_kind = record { exact = exact_pair; only = open_only; there = λ k. refl; order = λ a b. ap (ordering_then (nat_cmp a.0 b.0)) (then_equal (nat_cmp a.1 b.1)) }

-- ---- what the table of cells has at each key

by_dentry : (o : Option CellValue) → dentry_of (unwrap_or o Gone) ≡ option_and_then dentry_of o
by_dentry None = refl
by_dentry (Some v) = refl

by_number : (o : Option CellValue) → number_of (unwrap_or o Gone) ≡ option_and_then number_of o
by_number None = refl
by_number (Some v) = refl

by_presence : (o : Option CellValue) → presence_of (unwrap_or o Gone) ≡ option_and_then presence_of o
by_presence None = refl
by_presence (Some v) = refl

module _ (m : Map key_cmp CellValue) where
  pub get-dentries : (q : ℕ × List ℕ) → get (table_of m).dentries q ≡ option_and_then dentry_of (get m (key.Dentry q.0 q.1))
  get-dentries q = one_dentry _ _ (value_of-table_of m (key.Dentry q.0 q.1)) ∙ by_dentry (get m (key.Dentry q.0 q.1))

  pub get-heads : (d : ℕ) → get (table_of m).heads d ≡ option_and_then number_of (get m (key.DirHead d))
  get-heads d = one_number _ _ (value_of-table_of m (key.DirHead d)) ∙ by_number (get m (key.DirHead d))

  pub next_is : (table_of m).next ≡ option_and_then number_of (get m key.NextIno)
  next_is = one_number _ _ (value_of-table_of m key.NextIno) ∙ by_number (get m key.NextIno)

  pub get-sessions : (c : ℕ) → get (table_of m).sessions c ≡ option_and_then number_of (get m (key.Session c))
  get-sessions c = one_number _ _ (value_of-table_of m (key.Session c)) ∙ by_number (get m (key.Session c))

  pub get-done : (q : ℕ × ℕ) → get (table_of m).done q ≡ option_and_then number_of (get m (key.Done q.0 q.1))
  get-done q = one_number _ _ (value_of-table_of m (key.Done q.0 q.1)) ∙ by_number (get m (key.Done q.0 q.1))

  pub get-opens : (q : ℕ × ℕ) → get (table_of m).opens q ≡ option_and_then presence_of (get m (key.OpenOf q.0 q.1))
  get-opens q = one_presence _ _ (value_of-table_of m (key.OpenOf q.0 q.1)) ∙ by_presence (get m (key.OpenOf q.0 q.1))

  pub dentries_are : entries (table_of m).dentries ≡ filter_map dentry_entry (entries m)
  dentries_are = part_is dentry_kind dentry_of m (table_of m).dentries get-dentries

  pub heads_are : entries (table_of m).heads ≡ filter_map head_entry (entries m)
  heads_are = part_is head_kind number_of m (table_of m).heads get-heads

  pub sessions_are : entries (table_of m).sessions ≡ filter_map session_entry (entries m)
  sessions_are = part_is session_kind number_of m (table_of m).sessions get-sessions

  pub done_are : entries (table_of m).done ≡ filter_map done_entry (entries m)
  done_are = part_is done_kind number_of m (table_of m).done get-done

  pub opens_are : entries (table_of m).opens ≡ filter_map open_entry (entries m)
  opens_are = part_is open_kind presence_of m (table_of m).opens get-opens
