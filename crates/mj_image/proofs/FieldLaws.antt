-- What is read is spelled so, and what is spelled so is read: for a field of an object, and for fields in a row.
use Rattle.std.proofs.Common.{◌≡◌, ℕ, zero, suc, Bool, true, false, cond, List, [], ◌∷◌, ◌++◌, length, Option, Some, Result, Ok, Err, refl, sym, ap, subst, ◌∙◌, append_assoc}
use Rattle.std.specs.Prelude.{IsTrue}
use Rattle.std.specs.List.{flat_map, AllByRecursion}
use Rattle.std.proofs.lemmas.List.Concat.{flat_map-cons}
use Rattle.mj_base.specs.Reading.{Read, ◌>>=◌, all_follow}
use Rattle.mj_base.proofs.Codec.{IsBytes, IsCodec, and_true, true_and}
use Rattle.mj_image.specs.declared.flaw.Flaw.{Flaw}
use Rattle.mj_image.specs.Reading.{Reading, whole, run_of}

pub record IsField {A : Type 0} (read : List ℕ → Reading A) (spell : A → List ℕ) (Fits : A → Type 0) : Type 0 where
  pub takes : (bytes : List ℕ) (x : A) (rest : List ℕ) → IsBytes bytes → read bytes ≡ Ok (x, rest) → (bytes ≡ spell x ++ rest) × IsBytes rest × Fits x
  pub again : (x : A) (rest : List ℕ) → Fits x → read (spell x ++ rest) ≡ Ok (x, rest)

pub bind_ok : {A B : Type 0} (r : Result A Flaw) (f : A → Result B Flaw) (y : B) → (r >>= f) ≡ Ok y → (x : A) × (r ≡ Ok x) × (f x ≡ Ok y)
bind_ok (Ok x) f y e = (x, refl, e)
bind_ok (Err d) f y e = absurd cc

pub guard_ok : {A : Type 0} (b : Bool) (d : Flaw) (x y : A) → cond b (Ok x) (Err d) ≡ Ok y → (b ≡ true) × (x ≡ y)
guard_ok true d x y e = (refl, cc)
guard_ok false d x y e = absurd cc

abbrev done : {A : Type 0} → A → Result A Flaw
done x = Ok x

pub ok_is : {A : Type 0} (x y : A) → done x ≡ done y → x ≡ y
ok_is x y e = cc

-- A first field, and what then follows of the rest.
pub first_takes : {A B : Type 0} {read : List ℕ → Reading A} {spell : A → List ℕ} {Fits : A → Type 0} → IsField read spell Fits → (k : A × List ℕ → Result B Flaw) (y : B) (bytes : List ℕ) (P : Type 0)
    → IsBytes bytes → (read bytes >>= k) ≡ Ok y → ((x : A) (rest : List ℕ) → bytes ≡ spell x ++ rest → IsBytes rest → Fits x → k (x, rest) ≡ Ok y → P) → P
first_takes {read = read} c k y bytes P fits e then =
    let a = bind_ok (read bytes) k y e in
    let t = c.takes bytes a.0.0 a.0.1 fits a.1 in
    then a.0.0 a.0.1 t.0 t.1 t.2 a.2

pub first_again : {A B : Type 0} {read : List ℕ → Reading A} {spell : A → List ℕ} {Fits : A → Type 0} → IsField read spell Fits → (k : A × List ℕ → Result B Flaw) (y : Result B Flaw) (x : A) (rest : List ℕ)
    → Fits x → k (x, rest) ≡ y → (read (spell x ++ rest) >>= k) ≡ y
first_again c k y x rest fits e = ap (λ r. r >>= k) (c.again x rest fits) ∙ e

-- ---- a field that is wrong only where it is cut

whole_ok : {A : Type 0} (r : Read A) (y : A × List ℕ) → whole r ≡ Ok y → r ≡ Ok y
whole_ok (Ok x) y e = ap (λ (z : _). Ok z) (ok_is x y e)
whole_ok (Err left) y e = absurd cc

pub whole_field : {A : Type 0} {read : List ℕ → Read A} {spell : A → List ℕ} {Fits : A → Type 0} → IsCodec read spell Fits → IsField (λ bytes. whole (read bytes)) spell Fits
whole_field {A} {read} {spell} {Fits} c = record {
  takes = λ bytes x rest fits e. c.takes bytes x rest fits (whole_ok (read bytes) (x, rest) e);
  again = λ x rest fits. ap whole (c.again x rest fits);
}

-- ---- fields one after another, each of which looks at the one before

module _ {A : Type 0} (field : Option A → List ℕ → Reading A) (spell : A → List ℕ) (Fits : A → Type 0) (follows : Option A → A → Bool)
    (codec : (before : Option A) → IsField (field before) spell (λ x. Fits x × IsTrue (follows before x))) where
  run_takes : (n : ℕ) (before : Option A) (bytes : List ℕ) (xs : List A) (rest : List ℕ) → IsBytes bytes → run_of field n before bytes ≡ Ok (xs, rest)
      → (bytes ≡ flat_map spell xs ++ rest) × IsBytes rest × ((length xs ≡ n) × AllByRecursion Fits xs × IsTrue (all_follow follows before xs))
  run_takes zero before bytes xs rest fits e =
      subst (λ (p : List A × List ℕ). (bytes ≡ flat_map spell p.0 ++ p.1) × IsBytes p.1 × ((length p.0 ≡ 0) × AllByRecursion Fits p.0 × IsTrue (all_follow follows before p.0))) (ok_is ([], bytes) (xs, rest) e) (refl, fits, (refl, tt, refl))
  run_takes (suc n) before bytes xs rest fits e =
      let a = bind_ok (field before bytes) (λ x. run_of field n (Some x.0) x.1 >>= λ ys. Ok (x.0 ∷ ys.0, ys.1)) (xs, rest) e in
      let b = bind_ok (run_of field n (Some a.0.0) a.0.1) (λ ys. Ok (a.0.0 ∷ ys.0, ys.1)) (xs, rest) a.2 in
      let t = (codec before).takes bytes a.0.0 a.0.1 fits a.1 in
      let u = run_takes n (Some a.0.0) a.0.1 b.0.0 b.0.1 t.1 b.1 in
      subst (λ (p : List A × List ℕ). (bytes ≡ flat_map spell p.0 ++ p.1) × IsBytes p.1 × ((length p.0 ≡ suc n) × AllByRecursion Fits p.0 × IsTrue (all_follow follows before p.0))) (ok_is (a.0.0 ∷ b.0.0, b.0.1) (xs, rest) b.2) (
        t.0 ∙ ap (λ (m : List ℕ). spell a.0.0 ++ m) u.0 ∙ sym (append_assoc (spell a.0.0) (flat_map spell b.0.0) b.0.1) ∙ ap (λ (m : List ℕ). m ++ b.0.1) (sym (flat_map-cons spell a.0.0 b.0.0)),
        u.1,
        (ap suc u.2.0, (t.2.0, u.2.1), and_true _ _ t.2.1 u.2.2),
      )

  run_again : (xs : List A) (before : Option A) (rest : List ℕ) → AllByRecursion Fits xs → IsTrue (all_follow follows before xs) → run_of field (length xs) before (flat_map spell xs ++ rest) ≡ Ok (xs, rest)
  run_again [] before rest fits follow = refl
  run_again (x ∷ xs) before rest fits follow =
      let both = true_and (follows before x) (all_follow follows (Some x) xs) follow in
      let regrouped : flat_map spell (x ∷ xs) ++ rest ≡ spell x ++ (flat_map spell xs ++ rest) = ap (λ (m : List ℕ). m ++ rest) (flat_map-cons spell x xs) ∙ append_assoc (spell x) (flat_map spell xs) rest in
      ap (run_of field (suc (length xs)) before) regrouped
      ∙ first_again (codec before) (λ y. run_of field (length xs) (Some y.0) y.1 >>= λ ys. Ok (y.0 ∷ ys.0, ys.1)) (Ok (x ∷ xs, rest)) x (flat_map spell xs ++ rest) (fits.0, both.0)
      (ap (λ r. r >>= λ ys. Ok (x ∷ ys.0, ys.1)) (run_again xs (Some x) rest fits.1 both.1))

  pub run_field : (n : ℕ) (before : Option A) → IsField (run_of field n before) (flat_map spell) (λ xs. (length xs ≡ n) × AllByRecursion Fits xs × IsTrue (all_follow follows before xs))
  run_field n before = record {
    takes = λ bytes xs rest fits e. run_takes n before bytes xs rest fits e;
    again = λ xs rest fits. ap (λ k. run_of field k before (flat_map spell xs ++ rest)) (sym fits.0) ∙ run_again xs before rest fits.1 fits.2;
  }
