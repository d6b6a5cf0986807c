-- Reading a run of fields one after another, each into a list of those before.
use Rattle.std.proofs.Common.{◌≡◌, ℕ, suc, ◌+◌, ◌-◌, ◌<◌, ◌≤◌, Bool, true, List, [], ◌∷◌, ◌++◌, length, Option, Some, None, Ok, Err, refl, sym, ap, ◌∙◌, append_assoc, arith, length-append}
use Rattle.std.proofs.lemmas.List.{append-nil}
use Rattle.std.specs.List.{slice_get}
use Rattle.mj_base.specs.Reading.{Read, ◌>>=◌, run_at, all_follow}
use Rattle.mj_base.proofs.Codec.{bind_ok, ok_is, and_true}
use Rattle.mj_base.specs.declared.cursor.Fault.{Fault}
use Rattle.mj_base.specs.declared.cursor.Fault.TheVariants.{Memory, Left}
use Rattle.mj_base.specs.Cursor.{Faults}

abbrev pub last_of : {A : Type 0} → List A → Option A
last_of xs = slice_get xs (length xs - 1)

-- what was read, and behind it what is read next
unfoldable pub behind : {A : Type 0} → List A → Read (List A) → Read (List A)
behind done r = r >>= λ xs. Ok (done ++ xs.0, xs.1)

behind-more : {A : Type 0} (done : List A) (x : A) (r : Read (List A)) → behind done (r >>= λ xs. Ok (x ∷ xs.0, xs.1)) ≡ behind (done ++ x ∷ []) r
unfolding behind
behind-more done x (Ok y) = ap (λ xs. Ok (xs, y.1)) (sym (append_assoc done (x ∷ []) y.0))
behind-more done x (Err e) = refl

pub behind_nothing : {A : Type 0} (r : Read (List A)) → r ≡ behind [] r
unfolding behind
behind_nothing (Ok y) = refl
behind_nothing (Err e) = refl

last_pushed : {A : Type 0} (xs : List A) (x : A) → slice_get (xs ++ x ∷ []) (length xs) ≡ Some x
last_pushed [] x = refl
last_pushed (y ∷ xs) x = last_pushed xs x

pub last_of-push : {A : Type 0} (xs : List A) (x : A) → last_of (xs ++ x ∷ []) ≡ Some x
last_of-push xs x = let n : length (xs ++ x ∷ []) - 1 ≡ length xs = omega (arith, length-append xs (x ∷ [])) in ap (slice_get (xs ++ x ∷ [])) n ∙ last_pushed xs x

module _ {A : Type 0} (field : Option A → List ℕ → Read A) where
  pub run_begins : (n : ℕ) (bytes : List ℕ) → run_at field n None bytes ≡ behind [] (run_at field (n - 0) (last_of []) bytes)
  run_begins n bytes = behind_nothing (run_at field n None bytes) ∙ ap (λ k. behind [] (run_at field k None bytes)) (omega arith)

  step : (k : ℕ) (before : Option A) (bytes : List ℕ) (x : A) (rest : List ℕ) → field before bytes ≡ Ok (x, rest) → run_at field (suc k) before bytes ≡ (run_at field k (Some x) rest >>= λ xs. Ok (x ∷ xs.0, xs.1))
  step k before bytes x rest e = ap (λ r. r >>= λ y. run_at field k (Some y.0) y.1 >>= λ xs. Ok (y.0 ∷ xs.0, xs.1)) e

  -- one more field
  pub run_goes : (start : Read (List A)) (n i : ℕ) (done : List A) (bytes : List ℕ) (x : A) (rest : List ℕ) → i < n → start ≡ behind done (run_at field (n - i) (last_of done) bytes) → field (last_of done) bytes ≡ Ok (x, rest)
      → start ≡ behind (done ++ x ∷ []) (run_at field (n - (i + 1)) (last_of (done ++ x ∷ [])) rest)
  run_goes start n i done bytes x rest lt so e =
      let left : n - i ≡ suc (n - (i + 1)) = omega arith in
      so ∙ ap (λ k. behind done (run_at field k (last_of done) bytes)) left ∙ ap (behind done) (step (n - (i + 1)) (last_of done) bytes x rest e)
      ∙ behind-more done x (run_at field (n - (i + 1)) (Some x) rest) ∙ ap (λ b. behind (done ++ x ∷ []) (run_at field (n - (i + 1)) b rest)) (sym (last_of-push done x))

  stops : (k : ℕ) (before : Option A) (done : List A) (bytes : List ℕ) (left : ℕ) → field before bytes ≡ Err left → behind done (run_at field (suc k) before bytes) ≡ Err left
  unfolding behind
  stops k before done bytes left e =
      let none : run_at field (suc k) before bytes ≡ Err left = ap (λ (r : Read A). r >>= λ y. run_at field k (Some y.0) y.1 >>= λ xs. Ok (y.0 ∷ xs.0, xs.1)) e in
      ap (behind done) none

  -- a field that is wrong is where the run is
  pub run_fails : (start : Read (List A)) (n i : ℕ) (done : List A) (bytes : List ℕ) (why : Fault) → i < n → start ≡ behind done (run_at field (n - i) (last_of done) bytes) → Faults why (field (last_of done) bytes) → Faults why start
  run_fails start n i done bytes Memory lt so e = tt
  run_fails start n i done bytes (Left left) lt so e =
      let left_over : n - i ≡ suc (n - (i + 1)) = omega arith in
      so ∙ ap (λ k. behind done (run_at field k (last_of done) bytes)) left_over ∙ stops (n - (i + 1)) (last_of done) done bytes left e

  -- no field is left
  pub run_ends : (start : Read (List A)) (n i : ℕ) (done : List A) (bytes : List ℕ) → n ≤ i → start ≡ behind done (run_at field (n - i) (last_of done) bytes) → start ≡ Ok (done, bytes)
  unfolding behind
  run_ends start n i done bytes le so =
      let none : n - i ≡ 0 = omega arith in
      so ∙ ap (λ k. behind done (run_at field k (last_of done) bytes)) none ∙ ap (λ xs. Ok (xs, bytes)) (append-nil done)

  -- each field of a run follows the one before
  pub run_follows : (follows : Option A → A → Bool) → ((before : Option A) (bytes : List ℕ) (x : A) (rest : List ℕ) → field before bytes ≡ Ok (x, rest) → follows before x ≡ true)
      → (n : ℕ) (before : Option A) (bytes : List ℕ) (xs : List A) (rest : List ℕ) → run_at field n before bytes ≡ Ok (xs, rest) → all_follow follows before xs ≡ true
  run_follows follows each ℕ.zero before bytes xs rest e = ap (λ (p : List A × List ℕ). all_follow follows before p.0) (sym (ok_is ([], bytes) (xs, rest) e))
  run_follows follows each (suc n) before bytes xs rest e =
      let a = bind_ok (field before bytes) (λ x. run_at field n (Some x.0) x.1 >>= λ ys. Ok (x.0 ∷ ys.0, ys.1)) (xs, rest) e in
      let b = bind_ok (run_at field n (Some a.0.0) a.0.1) (λ ys. Ok (a.0.0 ∷ ys.0, ys.1)) (xs, rest) a.2 in
      ap (λ (p : List A × List ℕ). all_follow follows before p.0) (sym (ok_is (a.0.0 ∷ b.0.0, b.0.1) (xs, rest) b.2))
      ∙ and_true _ _ (each before bytes a.0.0 a.0.1 a.1) (run_follows follows each n (Some a.0.0) a.0.1 b.0.0 b.0.1 b.1)
