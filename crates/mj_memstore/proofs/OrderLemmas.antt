-- The order of object names tells all of them apart.
use Rattle.std.proofs.Common.{◌≡◌, Bool, true, false, refl, sym, ap, ◌∙◌, inl, inr}
use Rattle.std.specs.declared.cmp.Ordering.{Ordering}
use Rattle.std.specs.declared.cmp.Ordering.TheVariants.{Less, Equal, Greater}
use Rattle.std.specs.Ordering.{is_eq, ordering_then}
use Rattle.std.specs.Cmp.{tied_itself}
use Rattle.std.specs.FinMap.{nat_cmp-IsAntisymmetric, slice_cmp-IsAntisymmetric}
use Rattle.std.specs.BTreeMap.{is_at}
use Rattle.mj_base.specs.declared.object.ObjectName.{ObjectName}
use Rattle.mj_base.specs.declared.object.ObjectName.TheVariants.{File, InoTable, SessionMap}
use Rattle.mj_base.specs.ObjectName.{name_numbers, object_cmp, name_cmp, object_order}
use Rattle.mj_base.specs.ObjectOrder.{object_order_total}
use Rattle.mj_store.specs.Object.{same_name}
use Rattle.mj_store.proofs.Names.{same_itself, other_name, cases_name}

numbers_same : (a b : ObjectName) → name_numbers a ≡ name_numbers b → a ≡ b
numbers_same (File i n) (File j k) e = cc
numbers_same (File i n) (InoTable s) e = absurd cc
numbers_same (File i n) (SessionMap s) e = absurd cc
numbers_same (InoTable r) (File j k) e = absurd cc
numbers_same (InoTable r) (InoTable s) e = cc
numbers_same (InoTable r) (SessionMap s) e = absurd cc
numbers_same (SessionMap r) (File j k) e = absurd cc
numbers_same (SessionMap r) (InoTable s) e = absurd cc
numbers_same (SessionMap r) (SessionMap s) e = cc

then_equal : (a b : Ordering) → is_eq (ordering_then a b) ≡ true → b ≡ Equal
then_equal Less b e = absurd cc
then_equal Greater b e = absurd cc
then_equal Equal Less e = absurd cc
then_equal Equal Equal e = refl
then_equal Equal Greater e = absurd cc

pub order_same : (a b : ObjectName) → is_eq (object_order a b) ≡ true → a ≡ b
order_same a b e = numbers_same a b (slice_cmp-IsAntisymmetric nat_cmp-IsAntisymmetric (name_numbers a) (name_numbers b) (then_equal (object_cmp a b) (name_cmp a b) e))

not_true : (b : Bool) → (b ≡ true → ⊥) → b ≡ false
not_true true h = absurd (h refl)
not_true false h = refl

-- a look-up at a name finds just that name
pub at_is_same : (name q : ObjectName) → is_at (object_order name) q ≡ same_name q name
at_is_same name q = elim (cases_name q name) [
  | inl same ↦ ap (λ k. is_eq (object_order name k)) same ∙ ap is_eq (tied_itself object_order_total name) ∙ sym (ap (λ k. same_name k name) same ∙ same_itself name)
  | inr other ↦ not_true (is_eq (object_order name q)) (λ e. other (sym (order_same name q e))) ∙ sym (other_name q name other)
]
