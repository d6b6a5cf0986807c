-- A list's items written one after another at the end of bytes.
use Rattle.std.proofs.Common.{◌≡◌, ℕ, zero, suc, ◌+◌, ◌<◌, ◌≤◌, List, [], ◌∷◌, ◌++◌, length, map, take, drop, get_or, Result, Ok, Err, OnOk, OnErr, sym, ap, subst, ◌∙◌, append_assoc, arith}
use Rattle.std.specs.List.{flat_map, AllByRecursion}
use Rattle.std.proofs.lemmas.List.{take_all, take-append-drop, append-nil}
use Rattle.std.proofs.Math.Seq.{take-append_seam}
use Rattle.std.proofs.lemmas.List.Concat.{flat_map-cons, flat_map_single}

-- what begins with a list that begins with another, begins with that other
pub begins : (was now next piece : List ℕ) → now ≡ was ++ piece → take (length now) next ≡ now → take (length was) next ≡ was
begins was now next piece is front =
    ap (take (length was)) (sym (take-append-drop (length now) next) ∙ ap (λ (m : List ℕ). m ++ drop (length now) next) (front ∙ is) ∙ append_assoc was piece (drop (length now) next))
    ∙ take-append_seam was (piece ++ drop (length now) next)

module _ {A B : Type 0} (spell : A → List B) where
  taken_more : (xs : List A) (i : ℕ) (x : A) → i < length xs → x ≡ get_or xs i x → flat_map spell (take (i + 1) xs) ≡ flat_map spell (take i xs) ++ spell x
  taken_more [] i x lt is = absurd (omega (arith, lt))
  taken_more (y ∷ xs) zero x lt is = flat_map-cons spell y [] ∙ append-nil (spell y) ∙ ap spell (sym is)
  taken_more (y ∷ xs) (suc i) x lt is =
      let more : suc i + 1 ≡ suc (i + 1) = omega arith in
      ap (λ (n : ℕ). flat_map spell (take n (y ∷ xs))) more ∙ flat_map-cons spell y (take (i + 1) xs) ∙ ap (λ (m : List B). spell y ++ m) (taken_more xs i x (omega (arith, lt)) is)
      ∙ sym (append_assoc (spell y) (flat_map spell (take i xs)) (spell x)) ∙ ap (λ (m : List B). m ++ spell x) (sym (flat_map-cons spell y (take i xs)))

  -- one more item
  pub piece_more : (was now next : List B) (xs : List A) (i : ℕ) (x : A) → i < length xs → x ≡ get_or xs i x → now ≡ was ++ flat_map spell (take i xs) → next ≡ now ++ spell x → next ≡ was ++ flat_map spell (take (i + 1) xs)
  piece_more was now next xs i x lt is so e =
      e ∙ ap (λ (m : List B). m ++ spell x) so ∙ append_assoc was (flat_map spell (take i xs)) (spell x) ∙ ap (λ (m : List B). was ++ m) (sym (taken_more xs i x lt is))

  -- no item is left
  pub pieces_end : (was now : List B) (xs : List A) (i : ℕ) → length xs ≤ i → now ≡ was ++ flat_map spell (take i xs) → now ≡ was ++ flat_map spell xs
  pieces_end was now xs i le so = so ∙ ap (λ (ys : List A). was ++ flat_map spell ys) (take_all i xs le)

-- ---- the same for one thing of each item

module _ {A B : Type 0} (f : A → B) where
  mapped : (xs : List A) (i : ℕ) (x : A) → i < length xs → x ≡ get_or xs i x → map f (take (i + 1) xs) ≡ map f (take i xs) ++ f x ∷ []
  mapped xs i x lt is = sym (flat_map_single f (take (i + 1) xs)) ∙ taken_more (λ (y : A). f y ∷ []) xs i x lt is ∙ ap (λ (m : List B). m ++ f x ∷ []) (flat_map_single f (take i xs))

  pub item_more : (was now next : List B) (xs : List A) (i : ℕ) (x : A) → i < length xs → x ≡ get_or xs i x → now ≡ was ++ map f (take i xs) → next ≡ now ++ f x ∷ [] → next ≡ was ++ map f (take (i + 1) xs)
  item_more was now next xs i x lt is so e =
      e ∙ ap (λ (m : List B). m ++ f x ∷ []) so ∙ append_assoc was (map f (take i xs)) (f x ∷ []) ∙ ap (λ (m : List B). was ++ m) (sym (mapped xs i x lt is))

  pub items_end : (was now : List B) (xs : List A) (i : ℕ) → length xs ≤ i → now ≡ was ++ map f (take i xs) → now ≡ was ++ map f xs
  items_end was now xs i le so = so ∙ ap (λ (ys : List A). was ++ map f ys) (take_all i xs le)

-- what holds of all holds of one
pub fits_at : {A : Type 0} (P : A → Type 0) (xs : List A) (i : ℕ) (x : A) → AllByRecursion P xs → i < length xs → x ≡ get_or xs i x → P x
fits_at P [] i x all lt is = absurd (omega (arith, lt))
fits_at P (y ∷ xs) zero x all lt is = subst P (sym is) all.0
fits_at P (y ∷ xs) (suc i) x all lt is = fits_at P xs i x all.1 (omega (arith, lt)) is

-- and what holds of one thing of each
pub part_at : {A B : Type 0} (P : B → Type 0) (f : A → B) (xs : List A) (i : ℕ) (x : A) → AllByRecursion P (map f xs) → i < length xs → x ≡ get_or xs i x → P (f x)
part_at P f [] i x all lt is = absurd (omega (arith, lt))
part_at P f (y ∷ xs) zero x all lt is = subst (λ z. P (f z)) (sym is) all.0
part_at P f (y ∷ xs) (suc i) x all lt is = part_at P f xs i x all.1 (omega (arith, lt)) is

pub on_err : {X E : Type 0} (r : Result X E) (P : Type 0) → P → OnErr r P
on_err (Ok x) P h = tt
on_err (Err e) P h = h

pub on_ok : {X E : Type 0} (r : Result X E) (P Q : Type 0) → (P → Q) → OnOk r P → OnOk r Q
on_ok (Ok x) P Q f h = f h
on_ok (Err e) P Q f h = tt
