-- The laws of the order of object names.
use Rattle.std.proofs.Common.{◌≡◌, ℕ, Bool, true, false, List, refl, sym, ap, ◌∙◌}
use Rattle.std.specs.Prelude.{◌==◌, ◌&&◌}
use Rattle.std.specs.declared.cmp.Ordering.{Ordering}
use Rattle.std.specs.declared.cmp.Ordering.TheVariants.{Less, Equal, Greater}
use Rattle.std.specs.Ordering.{is_eq, ordering_then, nat_cmp, as_partial_cmp}
use Rattle.std.specs.Cmp.{IsTotalOrder, IsPartialOrder, then_total, both_ways, partial_order_from_total, partial_order_from_own_ties}
use Rattle.std.specs.Cmp.Lexicographic.{on_texts, slice_cmp, same_text, texts_ties, nat_list_eq_equiv}
use Rattle.std.proofs.lemmas.Bool.{eqb-true, eq-eqb, and_parts, and_from}
use Rattle.mj_base.specs.declared.object.ObjectName.{ObjectName}
use Rattle.mj_base.specs.declared.object.ObjectName.TheVariants.{File, InoTable, SessionMap}
use Rattle.mj_base.specs.ObjectName.{object_text, name_numbers, object_cmp, name_cmp, object_order}

pub object_order_total : IsTotalOrder object_order
object_order_total = then_total (on_texts object_text) (on_texts name_numbers)

-- a test that compares variant by variant and field by field
pub record IsStructural (E : ObjectName → ObjectName → Bool) : Type 0 where
  pub files : (i x j y : ℕ) → E (File i x) (File j y) ≡ ((i == j) && (x == y))
  pub inode_tables : (r s : ℕ) → E (InoTable r) (InoTable s) ≡ (r == s)
  pub session_tables : (r s : ℕ) → E (SessionMap r) (SessionMap s) ≡ (r == s)
  pub file_inode : (i x s : ℕ) → E (File i x) (InoTable s) ≡ false
  pub file_session : (i x s : ℕ) → E (File i x) (SessionMap s) ≡ false
  pub inode_file : (r j y : ℕ) → E (InoTable r) (File j y) ≡ false
  pub inode_session : (r s : ℕ) → E (InoTable r) (SessionMap s) ≡ false
  pub session_file : (r j y : ℕ) → E (SessionMap r) (File j y) ≡ false
  pub session_inode : (r s : ℕ) → E (SessionMap r) (InoTable s) ≡ false

module _ (E : ObjectName → ObjectName → Bool) (is : IsStructural E) where
  same_files : (i x j y : ℕ) → ((i == j) && (x == y)) ≡ true → File i x ≡ File j y
  same_files i x j y e =
      let parts = and_parts (i == j) (x == y) e in
      ap (λ (n : ℕ). File n x) (eqb-true i j parts.0) ∙ ap (λ (n : ℕ). File j n) (eqb-true x y parts.1)

  same_object : (a b : ObjectName) → E a b ≡ true → a ≡ b
  same_object (File i x) (File j y) e = same_files i x j y (sym (is.files i x j y) ∙ e)
  same_object (InoTable r) (InoTable s) e = ap InoTable (eqb-true r s (sym (is.inode_tables r s) ∙ e))
  same_object (SessionMap r) (SessionMap s) e = ap SessionMap (eqb-true r s (sym (is.session_tables r s) ∙ e))
  same_object (File i x) (InoTable s) e = let not_so = is.file_inode i x s in absurd cc
  same_object (File i x) (SessionMap s) e = let not_so = is.file_session i x s in absurd cc
  same_object (InoTable r) (File j y) e = let not_so = is.inode_file r j y in absurd cc
  same_object (InoTable r) (SessionMap s) e = let not_so = is.inode_session r s in absurd cc
  same_object (SessionMap r) (File j y) e = let not_so = is.session_file r j y in absurd cc
  same_object (SessionMap r) (InoTable s) e = let not_so = is.session_inode r s in absurd cc

  with_itself : (a : ObjectName) → E a a ≡ true
  with_itself (File i x) = is.files i x i x ∙ and_from (i == i) (x == x) (eq-eqb i i refl) (eq-eqb x x refl)
  with_itself (InoTable r) = is.inode_tables r r ∙ eq-eqb r r refl
  with_itself (SessionMap r) = is.session_tables r r ∙ eq-eqb r r refl

same_numbers : (a b : ObjectName) → name_numbers a ≡ name_numbers b → a ≡ b
same_numbers (File i x) (File j y) e = let first : i ≡ j = cc in let second : x ≡ y = cc in ap (λ (n : ℕ). File n x) first ∙ ap (λ (n : ℕ). File j n) second
same_numbers (InoTable r) (InoTable s) e = let same : r ≡ s = cc in ap InoTable same
same_numbers (SessionMap r) (SessionMap s) e = let same : r ≡ s = cc in ap SessionMap same
same_numbers (File i x) (InoTable s) e = absurd cc
same_numbers (File i x) (SessionMap s) e = absurd cc
same_numbers (InoTable r) (File j y) e = absurd cc
same_numbers (InoTable r) (SessionMap s) e = absurd cc
same_numbers (SessionMap r) (File j y) e = absurd cc
same_numbers (SessionMap r) (InoTable s) e = absurd cc

tied_second : (o p : Ordering) → is_eq (ordering_then o p) ≡ true → is_eq p ≡ true
tied_second Less p e = absurd cc
tied_second Equal p e = e
tied_second Greater p e = absurd cc

-- lists of numbers that tie are one
tied_list : (xs ys : List ℕ) → is_eq (slice_cmp nat_cmp xs ys) ≡ true → xs ≡ ys
tied_list xs ys e = same_text xs ys (sym (texts_ties xs ys ∙ e))

list_ties : (xs : List ℕ) → is_eq (slice_cmp nat_cmp xs xs) ≡ true
list_ties xs = sym (texts_ties xs xs) ∙ nat_list_eq_equiv.refl xs

both_tie : (o p : Ordering) → is_eq o ≡ true → is_eq p ≡ true → is_eq (ordering_then o p) ≡ true
both_tie Less p e f = absurd cc
both_tie Equal p e f = f
both_tie Greater p e f = absurd cc

-- the order ties just where such a test says that the names are one
pub ties_from_structural : (E : ObjectName → ObjectName → Bool) → IsStructural E → (a b : ObjectName) → E a b ≡ is_eq (object_order a b)
ties_from_structural E is a b =
    both_ways (E a b) (is_eq (object_order a b))
    (λ e. ap (λ (n : ObjectName). is_eq (object_order a n)) (sym (same_object E is a b e)) ∙ both_tie (object_cmp a a) (name_cmp a a) (list_ties (object_text a)) (list_ties (name_numbers a)))
    (λ e. ap (E a) (sym (same_numbers a b (tied_list (name_numbers a) (name_numbers b) (tied_second (object_cmp a b) (name_cmp a b) e)))) ∙ with_itself E is a)

pub partial_order_from_structural : (E : ObjectName → ObjectName → Bool) → IsStructural E → IsPartialOrder E (as_partial_cmp object_order)
partial_order_from_structural E is = partial_order_from_own_ties (partial_order_from_total object_order_total) (ties_from_structural E is)
