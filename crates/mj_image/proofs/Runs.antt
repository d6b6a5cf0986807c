-- Reading fields one after another, each into a list of those before.
use Rattle.std.proofs.Common.{◌≡◌, ℕ, suc, ◌+◌, ◌-◌, ◌<◌, ◌≤◌, List, [], ◌∷◌, ◌++◌, length, Option, Some, None, Ok, Err, refl, sym, ap, ◌∙◌, append_assoc, arith, length-append}
use Rattle.std.proofs.lemmas.List.{append-nil}
use Rattle.std.specs.List.{slice_get}
use Rattle.mj_base.specs.Reading.{◌>>=◌}
use Rattle.mj_image.specs.declared.flaw.Flaw.{Flaw}
use Rattle.mj_image.specs.declared.flaw.Stop.{Stop}
use Rattle.mj_image.specs.declared.flaw.Stop.TheVariants.{Memory, At}
use Rattle.mj_image.specs.Reading.{Reading, run_of}
use Rattle.mj_image.specs.Stops.{Stops}

abbrev pub last_of : {A : Type 0} → List A → Option A
last_of xs = slice_get xs (length xs - 1)

-- what was read, and behind it what is read next
unfoldable pub behind : {A : Type 0} → List A → Reading (List A) → Reading (List A)
behind done r = r >>= λ xs. Ok (done ++ xs.0, xs.1)

behind-more : {A : Type 0} (done : List A) (x : A) (r : Reading (List A)) → behind done (r >>= λ xs. Ok (x ∷ xs.0, xs.1)) ≡ behind (done ++ x ∷ []) r
unfolding behind
behind-more done x (Ok y) = ap (λ xs. Ok (xs, y.1)) (sym (append_assoc done (x ∷ []) y.0))
behind-more done x (Err e) = refl

behind_nothing : {A : Type 0} (r : Reading (List A)) → r ≡ behind [] r
unfolding behind
behind_nothing (Ok y) = refl
behind_nothing (Err e) = refl

last_pushed : {A : Type 0} (xs : List A) (x : A) → slice_get (xs ++ x ∷ []) (length xs) ≡ Some x
last_pushed [] x = refl
last_pushed (y ∷ xs) x = last_pushed xs x

last_of-push : {A : Type 0} (xs : List A) (x : A) → last_of (xs ++ x ∷ []) ≡ Some x
last_of-push xs x = let n : length (xs ++ x ∷ []) - 1 ≡ length xs = omega (arith, length-append xs (x ∷ [])) in ap (slice_get (xs ++ x ∷ [])) n ∙ last_pushed xs x

module _ {A : Type 0} (field : Option A → List ℕ → Reading A) where
  pub run_begins : (n : ℕ) (bytes : List ℕ) → run_of field n None bytes ≡ behind [] (run_of field (n - 0) (last_of []) bytes)
  run_begins n bytes = behind_nothing (run_of field n None bytes) ∙ ap (λ k. behind [] (run_of field k None bytes)) (omega arith)

  step : (k : ℕ) (before : Option A) (bytes : List ℕ) (x : A) (rest : List ℕ) → field before bytes ≡ Ok (x, rest) → run_of field (suc k) before bytes ≡ (run_of field k (Some x) rest >>= λ xs. Ok (x ∷ xs.0, xs.1))
  step k before bytes x rest e = ap (λ r. r >>= λ y. run_of field k (Some y.0) y.1 >>= λ xs. Ok (y.0 ∷ xs.0, xs.1)) e

  -- one more field
  pub run_goes : (start : Reading (List A)) (n i : ℕ) (done : List A) (bytes : List ℕ) (x : A) (rest : List ℕ) → i < n → start ≡ behind done (run_of field (n - i) (last_of done) bytes) → field (last_of done) bytes ≡ Ok (x, rest)
      → start ≡ behind (done ++ x ∷ []) (run_of field (n - (i + 1)) (last_of (done ++ x ∷ [])) rest)
  run_goes start n i done bytes x rest lt so e =
      let left : n - i ≡ suc (n - (i + 1)) = omega arith in
      so ∙ ap (λ k. behind done (run_of field k (last_of done) bytes)) left ∙ ap (behind done) (step (n - (i + 1)) (last_of done) bytes x rest e)
      ∙ behind-more done x (run_of field (n - (i + 1)) (Some x) rest) ∙ ap (λ b. behind (done ++ x ∷ []) (run_of field (n - (i + 1)) b rest)) (sym (last_of-push done x))

  stops : (k : ℕ) (before : Option A) (done : List A) (bytes : List ℕ) (flaw : Flaw) → field before bytes ≡ Err flaw → behind done (run_of field (suc k) before bytes) ≡ Err flaw
  unfolding behind
  stops k before done bytes flaw e =
      let none : run_of field (suc k) before bytes ≡ Err flaw = ap (λ (r : Reading A). r >>= λ y. run_of field k (Some y.0) y.1 >>= λ xs. Ok (y.0 ∷ xs.0, xs.1)) e in
      ap (behind done) none

  -- what is wrong with a field is wrong with them all
  pub run_stops : (start : Reading (List A)) (n i : ℕ) (done : List A) (bytes : List ℕ) (why : Stop) → i < n → start ≡ behind done (run_of field (n - i) (last_of done) bytes) → Stops why (field (last_of done) bytes) → Stops why start
  run_stops start n i done bytes Memory lt so e = tt
  run_stops start n i done bytes (At flaw) lt so e =
      let left_over : n - i ≡ suc (n - (i + 1)) = omega arith in
      so ∙ ap (λ k. behind done (run_of field k (last_of done) bytes)) left_over ∙ stops (n - (i + 1)) (last_of done) done bytes flaw e

  -- no field is left
  pub run_ends : (start : Reading (List A)) (n i : ℕ) (done : List A) (bytes : List ℕ) → n ≤ i → start ≡ behind done (run_of field (n - i) (last_of done) bytes) → start ≡ Ok (done, bytes)
  unfolding behind
  run_ends start n i done bytes le so =
      let none : n - i ≡ 0 = omega arith in
      so ∙ ap (λ k. behind done (run_of field k (last_of done) bytes)) none ∙ ap (λ xs. Ok (xs, bytes)) (append-nil done)
