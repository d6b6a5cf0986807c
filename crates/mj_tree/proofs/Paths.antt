-- Walks name by name, and beginnings of paths.
use Rattle.std.proofs.Common.{◌≡◌, ℕ, ◌+◌, ◌<◌, ◌≤◌, Bool, true, false, ◌&&◌, if◌then◌else◌, List, [], ◌∷◌, ◌++◌, length, drop, get_or, Ok, Err, refl, sym, ap, ◌∙◌, arith, add-one, drop-cons, length-drop}
use Rattle.std.proofs.Math.Seq.{drop-length}
use Rattle.mj_base.specs.InOrder.{same_bytes}
use Rattle.mj_base.specs.Reading.{◌>>=◌}
use Rattle.mj_tree.specs.declared.errno.Stop.{Stop}
use Rattle.mj_tree.specs.declared.errno.Stop.TheVariants.{Memory, Refused}
use Rattle.mj_tree.specs.Given.{Stops}
use Rattle.mj_tree.specs.State.{PlainState, root, is_dir}
use Rattle.mj_tree.specs.Walk.{Answer, Path, step, walk_from, parent_from, last_name, place, begins}

bind_assoc : {A B C : Type 0} (r : Answer A) (f : A → Answer B) (g : B → Answer C) → ((r >>= f) >>= g) ≡ (r >>= λ x. f x >>= g)
bind_assoc (Ok x) f g = refl
bind_assoc (Err e) f g = refl

-- where it is a directory
abbrev as_dir : PlainState → ℕ → Answer ℕ
as_dir s d = if is_dir s d then Ok d else Err 20

parent-push : (s : PlainState) (i : ℕ) (dirs : Path) (name : List ℕ) → parent_from s i (dirs ++ name ∷ []) ≡ (walk_from s i dirs >>= as_dir s)
parent-push s i [] name = refl
parent-push s i (d ∷ []) name = sym (bind_assoc (step s i d) Ok (as_dir s))
parent-push s i (d ∷ e ∷ ds) name = (λ z. step s i d >>= λ j. parent-push s j (e ∷ ds) name z) ∙ sym (bind_assoc (step s i d) (λ j. walk_from s j (e ∷ ds)) (as_dir s))

last-push : (dirs : Path) (name : List ℕ) → last_name (dirs ++ name ∷ []) ≡ name
last-push [] name = refl
last-push (d ∷ []) name = refl
last-push (d ∷ e ∷ ds) name = last-push (e ∷ ds) name

-- a place by the path's last name and those before it
place-push : (s : PlainState) (dirs : Path) (name : List ℕ) (code : ℕ) → place s (dirs ++ name ∷ []) code ≡ (parent_from s root (dirs ++ name ∷ []) >>= λ d. Ok (d, last_name (dirs ++ name ∷ [])))
place-push s [] name code = refl
place-push s (d ∷ ds) name code = refl

place_is : (s : PlainState) (path dirs : Path) (name : List ℕ) (code : ℕ) → path ≡ dirs ++ name ∷ [] → place s path code ≡ ((walk_from s root dirs >>= as_dir s) >>= λ d. Ok (d, name))
place_is s path dirs name code e = ap (λ p. place s p code) e ∙ place-push s dirs name code ∙ (λ z. parent-push s root dirs name z >>= λ d. Ok (d, last-push dirs name z))

pub place_ok : (s : PlainState) (path dirs : Path) (name : List ℕ) (code d : ℕ) → path ≡ dirs ++ name ∷ [] → walk_from s root dirs ≡ Ok d → is_dir s d ≡ true → place s path code ≡ Ok (d, name)
place_ok s path dirs name code d e w h = place_is s path dirs name code e ∙ (λ z. (w z >>= as_dir s) >>= λ d. Ok (d, name)) ∙ ap (λ b. (if b then Ok d else Err 20) >>= λ d. Ok (d, name)) h

pub place_not_dir : (s : PlainState) (path dirs : Path) (name : List ℕ) (code d : ℕ) → path ≡ dirs ++ name ∷ [] → walk_from s root dirs ≡ Ok d → is_dir s d ≡ false → place s path code ≡ Err 20
place_not_dir s path dirs name code d e w h = place_is s path dirs name code e ∙ (λ z. (w z >>= as_dir s) >>= λ d. Ok (d, name)) ∙ ap (λ b. (if b then Ok d else Err 20) >>= λ d. Ok (d, name)) h

place_err : (s : PlainState) (path dirs : Path) (name : List ℕ) (code e : ℕ) → path ≡ dirs ++ name ∷ [] → walk_from s root dirs ≡ Err e → place s path code ≡ Err e
place_err s path dirs name code x e w = place_is s path dirs name code e ∙ (λ z. (w z >>= as_dir s) >>= λ d. Ok (d, name))

-- what stops the walk stops what follows it
pub place_stops : (s : PlainState) (path dirs : Path) (name : List ℕ) (code : ℕ) (stop : Stop) → path ≡ dirs ++ name ∷ [] → Stops stop (walk_from s root dirs) → Stops stop (place s path code)
place_stops s path dirs name code Memory e h = tt
place_stops s path dirs name code (Refused x) e h = place_err s path dirs name code x e h

-- beginnings

and_false : (b : Bool) → (b && false) ≡ false
and_false true = refl
and_false false = refl

begins_any : (p : Path) → 0 < length p → begins [] p ≡ true
begins_any [] h = absurd (omega arith)
begins_any (y ∷ ys) h = refl

pub begins_short : (from to : Path) → length to ≤ length from → begins from to ≡ false
begins_short [] [] h = refl
begins_short [] (y ∷ ys) h = absurd (omega arith)
begins_short (x ∷ xs) [] h = refl
begins_short (x ∷ xs) (y ∷ ys) h = ap (λ b. same_bytes x y && b) (begins_short xs ys (omega arith)) ∙ and_false (same_bytes x y)

pub begins_more : (from to : Path) (i : ℕ) (x y : List ℕ) → i < length from → i < length to → x ≡ get_or from i x → y ≡ get_or to i y
    → begins (drop i from) (drop i to) ≡ (same_bytes x y && begins (drop (i + 1) from) (drop (i + 1) to))
begins_more from to i x y f t xis yis =
    (λ z. begins (drop-cons from i x f z) (drop-cons to i y t z))
    ∙ (λ z. same_bytes (sym xis z) (sym yis z) && begins (drop (sym (add-one i) z) from) (drop (sym (add-one i) z) to))

pub begins_end : (from to : Path) (i : ℕ) → i ≡ length from → length from < length to → begins (drop i from) (drop i to) ≡ true
begins_end from to i e h =
    let short : drop i from ≡ [] = ap (λ k. drop k from) e ∙ drop-length from in
    let more : 0 < length (drop i to) = omega (arith, length-drop i to) in
    ap (λ p. begins p (drop i to)) short ∙ begins_any (drop i to) more
