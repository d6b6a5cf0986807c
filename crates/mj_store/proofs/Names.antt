-- Objects by name, one changed.
use Rattle.std.proofs.Common.{◌≡◌, ◌≢◌, ◌⊎◌, ℕ, true, false, refl, sym, ◌∙◌, ap, subst, inl, inr}
use Rattle.std.proofs.lemmas.Bool.{eq-eqb, eqb-true, and_parts, and_from, cond-true, cond-false, false_from_ne_true}
use Rattle.mj_base.specs.declared.object.ObjectName.{ObjectName}
use Rattle.mj_base.specs.declared.object.ObjectName.TheVariants.{File, InoTable, SessionMap}
use Rattle.mj_store.specs.Object.{same_name, put}

pub same_itself : (n : ObjectName) → same_name n n ≡ true
same_itself (File a i) = and_from _ _ (eq-eqb a a refl) (eq-eqb i i refl)
same_itself (InoTable a) = eq-eqb a a refl
same_itself (SessionMap a) = eq-eqb a a refl

pub same_is : (m n : ObjectName) → same_name m n ≡ true → m ≡ n
same_is (File a i) (File b j) e = let p = and_parts _ _ e in let x : a ≡ b = eqb-true a b p.0 in let y : i ≡ j = eqb-true i j p.1 in cc
same_is (InoTable a) (InoTable b) e = ap (λ (x : ℕ). InoTable x) (eqb-true a b e)
same_is (SessionMap a) (SessionMap b) e = ap (λ (x : ℕ). SessionMap x) (eqb-true a b e)
same_is (File a i) (InoTable b) e = cc
same_is (File a i) (SessionMap b) e = cc
same_is (InoTable a) (File b j) e = cc
same_is (InoTable a) (SessionMap b) e = cc
same_is (SessionMap a) (File b j) e = cc
same_is (SessionMap a) (InoTable b) e = cc

pub other_name : (m n : ObjectName) → m ≢ n → same_name m n ≡ false
other_name m n ne = false_from_ne_true (same_name m n) (λ e. ne (same_is m n e))

pub cases_name : (m n : ObjectName) → (m ≡ n) ⊎ (m ≢ n)
cases_name m n = elim (same_name m n) as (λ b. same_name m n ≡ b → (m ≡ n) ⊎ (m ≢ n)) [
  | true ↦ λ e. inl (same_is m n e)
  | false ↦ λ e. inr (λ is. not_both (sym (sym e ∙ subst (λ k. same_name m k ≡ true) is (same_itself m))))
] refl
  where
    not_both : true ≡ false → ⊥
    not_both e = absurd cc

pub put_same : {A : Type 0} (f : ObjectName → A) (n : ObjectName) (x : A) → put f n x n ≡ x
put_same f n x = cond-true (same_name n n) x (f n) (same_itself n)

pub put_other : {A : Type 0} (f : ObjectName → A) (n m : ObjectName) (x : A) → m ≢ n → put f n x m ≡ f m
put_other f n m x ne = cond-false (same_name m n) x (f m) (other_name m n ne)

-- at each name, what is put there or what was
pub at_put : {A : Type 0} (f : ObjectName → A) (n : ObjectName) (x : A) (m : ObjectName) → ((m ≡ n) × (put f n x m ≡ x)) ⊎ ((m ≢ n) × (put f n x m ≡ f m))
at_put f n x m = elim (cases_name m n) [
  | inl same ↦ inl (same, subst (λ k. put f n x k ≡ x) (sym same) (put_same f n x))
  | inr other ↦ inr (other, put_other f n m x other)
]

-- what holds of each, and of what is put
pub put_all : {A : Type 0} (f : ObjectName → A) (n : ObjectName) (x : A) (P : ObjectName → A → Type 0) → P n x → ((k : ObjectName) → k ≢ n → P k (f k)) → (k : ObjectName) → P k (put f n x k)
put_all f n x P here there k = elim (cases_name k n) [
  | inl same ↦ subst (λ j. P j (put f n x j)) (sym same) (subst (P n) (sym (put_same f n x)) here)
  | inr other ↦ subst (P k) (sym (put_other f n k x other)) (there k other)
]
