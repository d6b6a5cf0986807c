-- What a table shows after a write and after writes, and that what it shows is all of it.
use Rattle.std.proofs.Common.{◌≡◌, ℕ, Bool, true, false, cond, List, [], ◌∷◌, ◌++◌, Option, Some, None, refl, sym, ap, subst, ◌∙◌, inl, inr}
use Rattle.std.specs.declared.cmp.Ordering.{Ordering}
use Rattle.std.specs.declared.cmp.Ordering.TheVariants.{Less, Equal, Greater}
use Rattle.std.specs.Ordering.{eq_by_cmp, is_eq, ordering_then}
use Rattle.mj_maps.specs.Map.{Map, get}
use Rattle.mj_maps.specs.Orders.{nat_cmp, place_cmp, pair_cmp}
use Rattle.mj_maps.proofs.MapLaws.{Exact, cases_key, eq_same, exact_nat, exact_place, exact_pair, get-insert, get-remove, get_empty, same_map}
use Rattle.mj_cells.specs.declared.cell.CellKey.{CellKey}
use Rattle.mj_cells.specs.declared.cell.CellKey.TheVariants as key
use Rattle.mj_cells.specs.declared.cell.CellValue.{CellValue}
use Rattle.mj_cells.specs.declared.cell.CellValue.TheVariants as value
use Rattle.mj_cells.specs.declared.cell.CellWrite.{CellWrite}
use Rattle.mj_cells.specs.Cell.{same_key, Fits}
use Rattle.mj_cells.specs.Table.{Dentry, Table, no_cells, dentry_of, number_of, presence_of, with_at, put_at, put, overlay, dentry_value, number_value, presence_value, value_of, shown, settled, last_of}
use Rattle.mj_cells.specs.Table.Dentry.{Full, Remote}
use Rattle.mj_cells.proofs.Keys.{exact_key}

-- what a map has where a key got something or nothing
pub get-with_at : {K X : Type 0} {R : K → K → Ordering} → Exact R → (m : Map R X) (k : K) (x : Option X) (q : K) → get (with_at m k x) q ≡ cond (eq_by_cmp R q k) x (get m q)
get-with_at o m k None q = get-remove o m k q
get-with_at o m k (Some x) q = get-insert o m k x q

chosen : {X Y : Type 0} (f : X → Y) (b : Bool) (x y : X) → f (cond b x y) ≡ cond b (f x) (f y)
chosen f true x y = refl
chosen f false x y = refl

then_equal : (o : Ordering) → is_eq o ≡ is_eq (ordering_then o Equal)
then_equal Less = refl
then_equal Equal = refl
then_equal Greater = refl

then_then_equal : (o p : Ordering) → is_eq (ordering_then o p) ≡ is_eq (ordering_then o (ordering_then p Equal))
then_then_equal Less p = refl
then_then_equal Equal p = then_equal p
then_then_equal Greater p = refl

-- after a write its key shows the value, and each other key what it showed
pub value_of-put_at : (t : Table) (k : CellKey) (v : CellValue) (q : CellKey) → value_of (put_at t k v) q ≡ cond (same_key q k) (shown k v) (value_of t q)
value_of-put_at t (key.Dentry d n) v (key.Dentry e m) = ap dentry_value (get-with_at exact_place t.dentries (d, n) (dentry_of v) (e, m)) ∙ chosen dentry_value (eq_by_cmp place_cmp (e, m) (d, n)) _ _
value_of-put_at t (key.DirHead d) v (key.DirHead e) = ap number_value (get-with_at exact_nat t.heads d (number_of v) e) ∙ chosen number_value (eq_by_cmp nat_cmp e d) _ _ ∙ ap (λ b. cond b (number_value (number_of v)) (number_value (get t.heads e))) (then_equal (nat_cmp e d))
value_of-put_at t key.NextIno v key.NextIno = refl
value_of-put_at t (key.Session c) v (key.Session e) = ap number_value (get-with_at exact_nat t.sessions c (number_of v) e) ∙ chosen number_value (eq_by_cmp nat_cmp e c) _ _ ∙ ap (λ b. cond b (number_value (number_of v)) (number_value (get t.sessions e))) (then_equal (nat_cmp e c))
value_of-put_at t (key.Done c u) v (key.Done e w) = ap number_value (get-with_at exact_pair t.done (c, u) (number_of v) (e, w)) ∙ chosen number_value (eq_by_cmp pair_cmp (e, w) (c, u)) _ _ ∙ ap (λ b. cond b (number_value (number_of v)) (number_value (get t.done (e, w)))) (then_then_equal (nat_cmp e c) (nat_cmp w u))
value_of-put_at t (key.OpenOf c i) v (key.OpenOf e j) = ap presence_value (get-with_at exact_pair t.opens (c, i) (presence_of v) (e, j)) ∙ chosen presence_value (eq_by_cmp pair_cmp (e, j) (c, i)) _ _ ∙ ap (λ b. cond b (presence_value (presence_of v)) (presence_value (get t.opens (e, j)))) (then_then_equal (nat_cmp e c) (nat_cmp j i))
value_of-put_at t _ v _ = refl

pub value_of-put : (t : Table) (w : CellWrite) (q : CellKey) → value_of (put t w) q ≡ cond (same_key q w.key) (shown w.key w.value) (value_of t q)
value_of-put t w q = value_of-put_at t w.key w.value q

pub put_same : (t : Table) (w : CellWrite) → value_of (put t w) w.key ≡ shown w.key w.value
put_same t w = value_of-put t w w.key ∙ ap (λ b. cond b (shown w.key w.value) (value_of t w.key)) (eq_same exact_key w.key)

pub put_other : (t : Table) (w : CellWrite) (q : CellKey) → same_key q w.key ≡ false → value_of (put t w) q ≡ value_of t q
put_other t w q other = value_of-put t w q ∙ ap (λ b. cond b (shown w.key w.value) (value_of t q)) other

-- the last write of a key, and else what was there
pub value_of-overlay : (t : Table) (ws : List CellWrite) (q : CellKey) → value_of (overlay t ws) q ≡ last_of q ws (value_of t q)
value_of-overlay t [] q = refl
value_of-overlay t (w ∷ ws) q = value_of-overlay (put t w) ws q ∙ ap (last_of q ws) (value_of-put t w q)

pub overlay-append : (t : Table) (ws vs : List CellWrite) → overlay t (ws ++ vs) ≡ overlay (overlay t ws) vs
overlay-append t [] vs = refl
overlay-append t (w ∷ ws) vs = overlay-append (put t w) ws vs

pub value_of-no_cells : (q : CellKey) → value_of no_cells q ≡ value.Gone
unfolding no_cells
value_of-no_cells (key.Dentry d n) = ap dentry_value (get_empty place_cmp (d, n))
value_of-no_cells (key.DirHead d) = ap number_value (get_empty nat_cmp d)
value_of-no_cells key.NextIno = refl
value_of-no_cells (key.Session c) = ap number_value (get_empty nat_cmp c)
value_of-no_cells (key.Done c t) = ap number_value (get_empty pair_cmp (c, t))
value_of-no_cells (key.OpenOf c i) = ap presence_value (get_empty pair_cmp (c, i))

-- ---- a table is what it shows

pub one_dentry : (a b : Option Dentry) → dentry_value a ≡ dentry_value b → a ≡ b
one_dentry None None e = refl
one_dentry None (Some (Full v r)) e = absurd cc
one_dentry None (Some (Remote v i k)) e = absurd cc
one_dentry (Some (Full v r)) None e = absurd cc
one_dentry (Some (Remote v i k)) None e = absurd cc
one_dentry (Some (Full v r)) (Some (Full w s)) e = cc
one_dentry (Some (Full v r)) (Some (Remote w j l)) e = absurd cc
one_dentry (Some (Remote v i k)) (Some (Full w s)) e = absurd cc
one_dentry (Some (Remote v i k)) (Some (Remote w j l)) e = cc

pub one_number : (a b : Option ℕ) → number_value a ≡ number_value b → a ≡ b
one_number None None e = refl
one_number None (Some n) e = absurd cc
one_number (Some m) None e = absurd cc
one_number (Some m) (Some n) e = cc

pub one_presence : (a b : Option (Unit {0})) → presence_value a ≡ presence_value b → a ≡ b
one_presence None None e = refl
one_presence None (Some n) e = absurd cc
one_presence (Some m) None e = absurd cc
one_presence (Some m) (Some n) e = refl

pub same_table : (a b : Table) → ((q : CellKey) → value_of a q ≡ value_of b q) → a ≡ b
same_table a b is =
    let dentries : a.dentries ≡ b.dentries = same_map exact_place _ _ (λ q. one_dentry _ _ (is (key.Dentry q.0 q.1))) in
    let heads : a.heads ≡ b.heads = same_map exact_nat _ _ (λ d. one_number _ _ (is (key.DirHead d))) in
    let next : a.next ≡ b.next = one_number _ _ (is key.NextIno) in
    let sessions : a.sessions ≡ b.sessions = same_map exact_nat _ _ (λ c. one_number _ _ (is (key.Session c))) in
    let done : a.done ≡ b.done = same_map exact_pair _ _ (λ q. one_number _ _ (is (key.Done q.0 q.1))) in
    let opens : a.opens ≡ b.opens = same_map exact_pair _ _ (λ q. one_presence _ _ (is (key.OpenOf q.0 q.1))) in
    λ i. record { dentries = dentries i; heads = heads i; next = next i; sessions = sessions i; done = done i; opens = opens i }

-- ---- what a key shows

dentry_again : (o : Option Dentry) → dentry_of (dentry_value o) ≡ o
dentry_again None = refl
dentry_again (Some (Full v r)) = refl
dentry_again (Some (Remote v i k)) = refl

number_again : (o : Option ℕ) → number_of (number_value o) ≡ o
number_again None = refl
number_again (Some n) = refl

presence_again : (o : Option (Unit {0})) → presence_of (presence_value o) ≡ o
presence_again None = refl
presence_again (Some n) = refl

-- what a key shows, written again, shows the same
pub shown-value_of : (t : Table) (q : CellKey) → shown q (value_of t q) ≡ value_of t q
shown-value_of t (key.Dentry d n) = ap dentry_value (dentry_again (get t.dentries (d, n)))
shown-value_of t (key.DirHead d) = ap number_value (number_again (get t.heads d))
shown-value_of t key.NextIno = ap number_value (number_again t.next)
shown-value_of t (key.Session c) = ap number_value (number_again (get t.sessions c))
shown-value_of t (key.Done c u) = ap number_value (number_again (get t.done (c, u)))
shown-value_of t (key.OpenOf c i) = ap presence_value (presence_again (get t.opens (c, i)))

pub shown_fit : (k : CellKey) (v : CellValue) → Fits k v → shown k v ≡ settled v
shown_fit (key.Dentry d n) (value.Full v r) fits = refl
shown_fit (key.Dentry d n) (value.Remote v i k) fits = refl
shown_fit (key.Dentry d n) (value.Null v) fits = refl
shown_fit (key.Dentry d n) value.Gone fits = refl
shown_fit (key.DirHead d) (value.Number v) fits = refl
shown_fit (key.DirHead d) value.Gone fits = refl
shown_fit key.NextIno (value.Number v) fits = refl
shown_fit (key.Session c) (value.Number v) fits = refl
shown_fit (key.Session c) value.Gone fits = refl
shown_fit (key.Done c t) (value.Number v) fits = refl
shown_fit (key.Done c t) value.Gone fits = refl
shown_fit (key.OpenOf c i) value.Present fits = refl
shown_fit (key.OpenOf c i) value.Gone fits = refl
shown_fit _ _ fits = absurd fits

-- ---- writes of one key and of two

pub put_shown : (t : Table) (k : CellKey) (v : CellValue) → value_of t k ≡ shown k v → put_at t k v ≡ t
put_shown t k v is = same_table _ _ (λ q. value_of-put_at t k v q ∙ elim (cases_key exact_key q k) [
  | inl e ↦ subst (λ z. cond (same_key z k) (shown k v) (value_of t z) ≡ value_of t z) (sym e) (ap (λ b. cond b (shown k v) (value_of t k)) (eq_same exact_key k) ∙ sym is)
  | inr e ↦ ap (λ b. cond b (shown k v) (value_of t q)) e
])

pub put_put : (t : Table) (k : CellKey) (v w : CellValue) → put_at (put_at t k v) k w ≡ put_at t k w
put_put t k v w = same_table _ _ (λ q. value_of-put_at (put_at t k v) k w q ∙ ap (cond (same_key q k) (shown k w)) (value_of-put_at t k v q) ∙ twice (same_key q k) _ _ _ ∙ sym (value_of-put_at t k w q))
  where
    twice : (b : Bool) (x y z : CellValue) → cond b x (cond b y z) ≡ cond b x z
    twice true x y z = refl
    twice false x y z = refl

pub put_swap : (t : Table) (k l : CellKey) (v w : CellValue) → same_key k l ≡ false → put_at (put_at t k v) l w ≡ put_at (put_at t l w) k v
put_swap t k l v w other = same_table _ _ (λ q. elim (cases_key exact_key q k) [
  | inl e ↦
      let here = eq_same exact_key k in
      let way : value_of (put_at (put_at t k v) l w) k ≡ value_of (put_at (put_at t l w) k v) k =
      value_of-put_at (put_at t k v) l w k ∙ ap (λ b. cond b (shown l w) (value_of (put_at t k v) k)) other ∙ value_of-put_at t k v k ∙ ap (λ b. cond b (shown k v) (value_of t k)) here
      ∙ sym (value_of-put_at (put_at t l w) k v k ∙ ap (λ b. cond b (shown k v) (value_of (put_at t l w) k)) here) in
      subst (λ z. value_of (put_at (put_at t k v) l w) z ≡ value_of (put_at (put_at t l w) k v) z) (sym e) way
  | inr e ↦
      value_of-put_at (put_at t k v) l w q ∙ ap (cond (same_key q l) (shown l w)) (value_of-put_at t k v q ∙ ap (λ b. cond b (shown k v) (value_of t q)) e)
      ∙ sym (value_of-put_at (put_at t l w) k v q ∙ ap (λ b. cond b (shown k v) (value_of (put_at t l w) q)) e ∙ value_of-put_at t l w q)
])
