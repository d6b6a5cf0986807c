-- The parts of a path, judged one after another.
use Rattle.std.proofs.Common.{◌≡◌, ℕ, ◌+◌, ◌<◌, ◌≤◌, true, false, eqb, ltb, List, [], ◌∷◌, ◌++◌, length, get_or, take, drop, Option, Ok, Err, Some, None, refl, sym, ap, ◌∙◌, arith}
use Rattle.std.specs.Prelude.{◌==◌}
use Rattle.std.specs.List.{slice_split}
use Rattle.std.proofs.lemmas.List.{drop_more, drop_all, take_more, take_all}
use Rattle.std.proofs.lemmas.Bool.{lt-ltb, le-ltb}
use Rattle.mj_base.specs.declared.name.NameRefusal.{NameRefusal}
use Rattle.mj_base.specs.declared.name.NameRefusal.TheVariants.{Empty, TooLong, BadByte, Dots, Memory}
use Rattle.mj_base.specs.declared.path.PathRefusal.{PathRefusal}
use Rattle.mj_base.specs.declared.path.PathRefusal.TheVariants.{BadName, TooDeep}
use Rattle.mj_base.specs.Name.{name_refusal, IsNameRefusal}
use Rattle.mj_base.specs.PathText.{names_of, bad_name, or_later, or_refusal, refusal_at, IsPathRefusal}

-- what lies between the slashes
abbrev pub parts_of : List ℕ → List (List ℕ)
parts_of bytes = slice_split (λ b. eqb b 47) bytes

pub names_of-parts : (bytes : List ℕ) → (length bytes == 0) ≡ false → names_of bytes ≡ or_refusal (bad_name 0 (parts_of bytes)) (parts_of bytes)
names_of-parts [] some = absurd cc
names_of-parts (b ∷ bytes) some = refl

part_ahead : (parts : List (List ℕ)) (n : ℕ) (part : List ℕ) → (n < length parts) × (part ≡ get_or parts n part) → drop n parts ≡ part ∷ drop (n + 1) parts
part_ahead parts n part there = drop_more parts n part there.0 ∙ ap (λ (p : List ℕ). p ∷ drop (n + 1) parts) (sym there.1)

pub bad_name-good : (parts : List (List ℕ)) (n : ℕ) (part : List ℕ) → (n < length parts) × (part ≡ get_or parts n part) → name_refusal part ≡ None → bad_name n (drop n parts) ≡ bad_name (n + 1) (drop (n + 1) parts)
bad_name-good parts n part there good =
    ap (bad_name n) (part_ahead parts n part there) ∙ ap (λ (o : Option NameRefusal). or_later n o (bad_name (n + 1) (drop (n + 1) parts))) good

pub bad_name-bad : (parts : List (List ℕ)) (n : ℕ) (part : List ℕ) (why : NameRefusal) → (n < length parts) × (part ≡ get_or parts n part) → name_refusal part ≡ Some why → bad_name n (drop n parts) ≡ Some (BadName n why)
bad_name-bad parts n part why there bad =
    ap (bad_name n) (part_ahead parts n part there) ∙ ap (λ (o : Option NameRefusal). or_later n o (bad_name (n + 1) (drop (n + 1) parts))) bad

pub take-part : (parts : List (List ℕ)) (n : ℕ) (part : List ℕ) → (n < length parts) × (part ≡ get_or parts n part) → take (n + 1) parts ≡ take n parts ++ part ∷ []
take-part parts n part there = take_more parts n part there.0 ∙ ap (λ (p : List ℕ). take n parts ++ p ∷ []) (sym there.1)

pub bad_name-end : (parts : List (List ℕ)) (n : ℕ) → length parts ≤ n → bad_name n (drop n parts) ≡ None
bad_name-end parts n le = ap (bad_name n) (drop_all n parts le)

-- all parts before this one are names, and this one is none
module _ (bytes : List ℕ) (n : ℕ) (part : List ℕ) (some : (length bytes == 0) ≡ false) (before : bad_name 0 (parts_of bytes) ≡ bad_name n (drop n (parts_of bytes))) (there : (n < length (parts_of bytes)) × (part ≡ get_or (parts_of bytes) n part)) where
  refused_with : (why : NameRefusal) → name_refusal part ≡ Some why → names_of bytes ≡ Err (BadName n why)
  refused_with why bad =
      names_of-parts bytes some ∙ ap (λ (o : Option PathRefusal). or_refusal o (parts_of bytes)) (before ∙ bad_name-bad (parts_of bytes) n part why there bad)

  pub IsPathRefusal-at : (why : NameRefusal) → IsNameRefusal why part → IsPathRefusal (refusal_at n why) (names_of bytes)
  IsPathRefusal-at Empty bad = refused_with Empty bad
  IsPathRefusal-at (TooLong len) bad = refused_with (TooLong len) bad
  IsPathRefusal-at (BadByte at) bad = refused_with (BadByte at) bad
  IsPathRefusal-at Dots bad = refused_with Dots bad
  IsPathRefusal-at Memory bad = tt

-- all parts are names
module _ (bytes : List ℕ) (n : ℕ) (some : (length bytes == 0) ≡ false) (before : bad_name 0 (parts_of bytes) ≡ bad_name n (drop n (parts_of bytes))) (whole : n ≡ length (parts_of bytes)) where
  names_of-all : names_of bytes ≡ or_refusal None (parts_of bytes)
  names_of-all = names_of-parts bytes some ∙ ap (λ (o : Option PathRefusal). or_refusal o (parts_of bytes)) (before ∙ bad_name-end (parts_of bytes) n (omega arith))

  pub names_of-deep : 64 < n → names_of bytes ≡ Err (TooDeep n)
  names_of-deep deep =
      let test : ltb 64 (length (parts_of bytes)) ≡ true = lt-ltb _ _ (omega arith) in
      names_of-all ∙ rw test (ap (λ (k : ℕ). Err (TooDeep k)) (sym whole))

  pub names_of-whole : n ≤ 64 → names_of bytes ≡ Ok (take n (parts_of bytes))
  names_of-whole short =
      let test : ltb 64 (length (parts_of bytes)) ≡ false = le-ltb _ _ (omega arith) in
      names_of-all ∙ rw test (ap (λ (xs : List (List ℕ)). Ok xs) (sym (take_all n (parts_of bytes) (omega arith))))
