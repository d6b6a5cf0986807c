-- The object whose text a word is.
use Rattle.std.proofs.Common.{◌≡◌, ℕ, zero, suc, ◌+◌, ◌-◌, ◌^◌, ◌<◌, ◌≤◌, ◌⊎◌, inl, inr, ◌==◌, Bool, true, false, cond, List, [], ◌∷◌, ◌++◌, length, take, drop, find, position, Option, Some, None, IfSome, refl, sym, ap, ◌∙◌, arith}
use Rattle.std.specs.Str.Parse.{digits_value}
use Rattle.std.specs.Cmp.Lexicographic.{bytes_decides}
use Rattle.std.proofs.lemmas.Fmt.{digits_is_IsNumeral}
use Rattle.std.proofs.lemmas.Bool.{lt-ltb, le-leb, ltb-true, leb-true, cases_lt}
use Rattle.mj_base.proofs.Codec.{true_and, and_true}
use Rattle.mj_base.proofs.HexReading.{padded-value, position-file_object_text, take-file_object_text, drop-file_object_text}
use Rattle.mj_base.specs.InOrder.{same_bytes}
use Rattle.mj_base.specs.ObjectText.{hex, file_object_text}
use Rattle.mj_base.specs.ObjectName.{object_text, IsObjectName}
use Rattle.mj_base.specs.declared.object.ObjectName.{ObjectName}
use Rattle.mj_base.specs.declared.object.ObjectName.TheVariants.{File, InoTable, SessionMap}
use Rattle.mj_texts.specs.Object.{tables, file_at, is_in_range, is_named, object_of}

-- ---- the first that passes

of_first : {A : Type 0} (t : Bool) (x m : A) (later : Option A) → cond t (Some x) later ≡ Some m → ((t ≡ true) × (x ≡ m)) ⊎ (later ≡ Some m)
of_first true x m later h = inl (refl, cc)
of_first false x m later h = inr h

pub find_gives : {A : Type 0} (p : A → Bool) (xs : List A) (m : A) → find p xs ≡ Some m → p m ≡ true
find_gives p [] m h = absurd cc
find_gives p (x ∷ xs) m h = by (of_first (p x) x m (find p xs) h) (find_gives p xs m)
  where
    by : ((p x ≡ true) × (x ≡ m)) ⊎ (find p xs ≡ Some m) → (find p xs ≡ Some m → p m ≡ true) → p m ≡ true
    by (inl e) later = ap p (sym e.1) ∙ e.0
    by (inr e) later = later e

-- one of them
abbrev In : {A : Type 0} → A → List A → Type 0
In x [] = ⊥
In x (y ∷ ys) = (y ≡ x) ⊎ In x ys

find_has : {A : Type 0} (p : A → Bool) (xs : List A) (n : A) → In n xs → p n ≡ true → (m : A) × (find p xs ≡ Some m)
find_has p [] n h e = absurd h
find_has {A} p (x ∷ xs) n h e = by (p x) refl h (λ later. find_has p xs n later e)
  where
    by : (t : Bool) → p x ≡ t → (x ≡ n) ⊎ In n xs → (In n xs → (m : A) × (find p xs ≡ Some m)) → (m : A) × (find p (x ∷ xs) ≡ Some m)
    by true g here later = (x, rw g refl)
    by false g (inl same) later = absurd (let f : false ≡ true = sym g ∙ ap p same ∙ e in cc)
    by false g (inr there) later = let m = later there in (m.0, rw g m.1)

In-behind : {A : Type 0} (x : A) (xs ys : List A) → In x ys → In x (xs ++ ys)
In-behind x [] ys h = h
In-behind x (y ∷ xs) ys h = inr (In-behind x xs ys h)

-- ---- which names are tried

table_in : (n rank : ℕ) → rank ≤ n → In (InoTable rank) (tables n) × In (SessionMap rank) (tables n)
table_in zero rank le = let e : zero ≡ rank = omega arith in (inl (ap InoTable e), inr (inl (ap SessionMap e)))
table_in (suc n) rank le = by (cases_lt rank (suc n)) (table_in n rank)
  where
    by : (rank < suc n) ⊎ (suc n ≤ rank) → (rank ≤ n → In (InoTable rank) (tables n) × In (SessionMap rank) (tables n)) → In (InoTable rank) (tables (suc n)) × In (SessionMap rank) (tables (suc n))
    by (inl lt) later = let l = later (omega arith) in (inr (inr l.0), inr (inr l.1))
    by (inr ge) later = let e : suc n ≡ rank = omega arith in (inl (ap InoTable e), inr (inl (ap SessionMap e)))

hex-value : (n : ℕ) → n < 2 ^ 64 → digits_value 16 (hex n) ≡ n
hex-value n small = (digits_is_IsNumeral 16 false (omega arith) (omega arith) n (omega arith)).1

file_in : (ino index : ℕ) → ino < 2 ^ 64 → index < 2 ^ 64 → file_at (file_object_text ino index) (position (λ b. b == 46) (file_object_text ino index)) ≡ File ino index ∷ []
file_in ino index a b =
    let first : digits_value 16 (take (length (hex ino)) (file_object_text ino index)) ≡ ino = ap (digits_value 16) (take-file_object_text ino index a) ∙ hex-value ino a in
    let second : digits_value 16 (drop (length (hex ino) + 1) (file_object_text ino index)) ≡ index = ap (digits_value 16) (drop-file_object_text ino index a) ∙ padded-value (8 - length (hex index)) (hex index) ∙ hex-value index b in
    ap (file_at (file_object_text ino index)) (position-file_object_text ino index a) ∙ ap (λ n. File n (digits_value 16 (drop (length (hex ino) + 1) (file_object_text ino index))) ∷ []) first ∙ ap (λ n. File ino n ∷ []) second

tried : (n : ObjectName) → IsObjectName n → In n (file_at (object_text n) (position (λ b. b == 46) (object_text n)) ++ tables 15)
tried (File ino index) h = rw (file_in ino index h.0 h.1) (inl refl)
tried (InoTable rank) h = In-behind (InoTable rank) _ (tables 15) (table_in 15 rank h).0
tried (SessionMap rank) h = In-behind (SessionMap rank) _ (tables 15) (table_in 15 rank h).1

in_range : (n : ObjectName) → IsObjectName n → is_in_range n ≡ true
in_range (File ino index) h = and_true _ _ (lt-ltb ino (2 ^ 64) h.0) (lt-ltb index (2 ^ 64) h.1)
in_range (InoTable rank) h = le-leb rank 15 h
in_range (SessionMap rank) h = le-leb rank 15 h

from_range : (n : ObjectName) → is_in_range n ≡ true → IsObjectName n
from_range (File ino index) h = let p = true_and _ _ h in (ltb-true ino (2 ^ 64) p.0, ltb-true index (2 ^ 64) p.1)
from_range (InoTable rank) h = leb-true rank 15 h
from_range (SessionMap rank) h = leb-true rank 15 h

-- ---- what is found

pub object_of-text : (n : ObjectName) → IsObjectName n → (m : ObjectName) × (object_of (object_text n) ≡ Some m)
unfolding object_of
object_of-text n h = find_has (is_named (object_text n)) _ n (tried n h) (and_true _ _ ((bytes_decides (object_text n) (object_text n)).1 refl) (in_range n h))

pub object_of-names : (word : List ℕ) (m : ObjectName) → object_of word ≡ Some m → (word ≡ object_text m) × IsObjectName m
unfolding object_of
object_of-names word m h =
    let p = true_and (same_bytes word (object_text m)) (is_in_range m) (find_gives (is_named word) _ m h) in
    ((bytes_decides word (object_text m)).0 p.0, from_range m p.1)

pub object_of_read : (word : List ℕ) (r : Option ObjectName) → IfSome r (λ name. word ≡ object_text name) → IfSome r IsObjectName → ((name : ObjectName) → IsObjectName name → word ≡ object_text name → r ≡ Some name) → r ≡ object_of word
object_of_read word (Some n) named range found =
    let m = object_of-text n range in
    let is : object_of word ≡ Some m.0 = ap object_of named ∙ m.1 in
    let names = object_of-names word m.0 is in
    found m.0 names.1 names.0 ∙ sym is
object_of_read word None named range found = by (object_of word) refl
  where
    by : (o : Option ObjectName) → object_of word ≡ o → None ≡ object_of word
    by None e = sym e
    by (Some m) e = let names = object_of-names word m e in found m names.1 names.0 ∙ sym e
