-- The object that a text names is the one whose text it is.
use Rattle.std.proofs.Common.{◌≡◌, ℕ, zero, suc, ◌+◌, ◌-◌, ◌^◌, ◌<◌, true, false, cond, List, [], ◌∷◌, length, take, drop, Option, Some, None, refl, sym, ap, ◌∙◌, arith, inl, inr}
use Rattle.std.specs.Prelude.{◌==◌, nat_lt, position, unwrap_or, IfSome}
use Rattle.std.proofs.lemmas.Bool.{cases_lt, lt-ltb, le-leb, ltb-true, leb-true, and_from, and_parts}
use Rattle.std.specs.Cmp.Lexicographic.{same_text, nat_list_eq_equiv}
use Rattle.std.specs.Str.Parse.{digits_value}
use Rattle.std.proofs.lemmas.Fmt.{digits_is_IsNumeral}
use Rattle.mj_base.specs.InOrder.{same_bytes}
use Rattle.mj_base.specs.ObjectText.{hex}
use Rattle.mj_base.specs.ObjectName.{object_text, IsObjectName}
use Rattle.mj_base.specs.declared.object.ObjectName.{ObjectName}
use Rattle.mj_base.specs.declared.object.ObjectName.TheVariants.{File, InoTable, SessionMap}
use Rattle.mj_base.proofs.HexReading.{padded-value, position-file_object_text, take-file_object_text, drop-file_object_text}
use Rattle.mj_base.proofs.ObjectLemmas.{object_text-injective}
use Rattle.mj_store.specs.Causes.{In}
use Rattle.mj_image.specs.Naming.{is_object_name, file_named, tables, is_text_of, first_with, object_named}

name_test : (n : ObjectName) → IsObjectName n → is_object_name n ≡ true
name_test (File i x) h = and_from (nat_lt i (2 ^ 64)) (nat_lt x (2 ^ 64)) (lt-ltb i (2 ^ 64) h.0) (lt-ltb x (2 ^ 64) h.1)
name_test (InoTable r) h = le-leb r 15 h
name_test (SessionMap r) h = le-leb r 15 h

name_tested : (n : ObjectName) → is_object_name n ≡ true → IsObjectName n
name_tested (File i x) e = let parts = and_parts (nat_lt i (2 ^ 64)) (nat_lt x (2 ^ 64)) e in (ltb-true i (2 ^ 64) parts.0, ltb-true x (2 ^ 64) parts.1)
name_tested (InoTable r) e = leb-true r 15 e
name_tested (SessionMap r) e = leb-true r 15 e

-- a text that is a name's
record Names (text : List ℕ) (n : ObjectName) : Type 0 where
  there : IsObjectName n
  is : object_text n ≡ text

text_tested : (text : List ℕ) (n : ObjectName) → is_text_of text n ≡ true → Names text n
text_tested text n e =
    let parts = and_parts (is_object_name n) (same_bytes (object_text n) text) e in
    record { there = name_tested n parts.0; is = same_text (object_text n) text (sym parts.1) }

text_test : (text : List ℕ) (n : ObjectName) → Names text n → is_text_of text n ≡ true
text_test text n h = and_from (is_object_name n) (same_bytes (object_text n) text) (name_test n h.there) (ap (same_bytes (object_text n)) (sym h.is) ∙ nat_list_eq_equiv.refl (object_text n))

one_name : (text : List ℕ) (m n : ObjectName) → Names text m → Names text n → m ≡ n
one_name text m n h k = object_text-injective m n h.there k.there (h.is ∙ sym k.is)

some_is : (m n : ObjectName) → Some m ≡ Some n → m ≡ n
some_is m n e = cc

first_sound : (text : List ℕ) (ns : List ObjectName) (n : ObjectName) → first_with text ns ≡ Some n → Names text n
first_sound text [] n e = absurd cc
first_sound text (m ∷ ns) n e = elim (is_text_of text m) as (λ b. is_text_of text m ≡ b → cond b (Some m) (first_with text ns) ≡ Some n → Names text n) [
  | true ↦ λ t f. let same = some_is m n f in rw (← same) (text_tested text m t)
  | false ↦ λ t f. first_sound text ns n f
] refl e

first_there : (text : List ℕ) (ns : List ObjectName) (n : ObjectName) → Names text n → In n ns → first_with text ns ≡ Some n
first_there text [] n h i = absurd i
first_there text (m ∷ ns) n h i = elim (is_text_of text m) as (λ b. is_text_of text m ≡ b → cond b (Some m) (first_with text ns) ≡ Some n) [
  | true ↦ λ t. ap (λ (x : ObjectName). Some x) (one_name text m n (text_tested text m t) h)
  | false ↦ λ t. elim i [ inl e ↦ absurd (not_both (sym t ∙ ap (is_text_of text) e ∙ text_test text n h)) | inr j ↦ first_there text ns n h j ]
] refl
  where
    not_both : false ≡ true → ⊥
    not_both e = absurd cc

in_tables : (rank n : ℕ) → rank < n → In (InoTable rank) (tables n) × In (SessionMap rank) (tables n)
in_tables rank zero lt = absurd (omega arith)
in_tables rank (suc n) lt = elim (cases_lt rank n) [
  | inl below ↦ let rest = in_tables rank n below in (inr (inr rest.0), inr (inr rest.1))
  | inr ge ↦ let same : n ≡ rank = omega arith in (inl (ap InoTable same), inr (inl (ap SessionMap same)))
]

file_again : (ino index : ℕ) → ino < 2 ^ 64 → index < 2 ^ 64 → file_named (object_text (File ino index)) ≡ File ino index
file_again ino index a b =
    let text = object_text (File ino index) in
    let dot : unwrap_or (position (λ b. b == 46) text) 0 ≡ length (hex ino) = ap (λ (o : Option ℕ). unwrap_or o 0) (position-file_object_text ino index a) in
    let front : digits_value 16 (take (length (hex ino)) text) ≡ ino = ap (digits_value 16) (take-file_object_text ino index a) ∙ (digits_is_IsNumeral 16 false (omega arith) (omega arith) ino (omega arith)).1 in
    let back : digits_value 16 (drop (length (hex ino) + 1) text) ≡ index = ap (digits_value 16) (drop-file_object_text ino index a) ∙ padded-value (8 - length (hex index)) (hex index) ∙ (digits_is_IsNumeral 16 false (omega arith) (omega arith) index (omega arith)).1 in
    ap (λ d. File (digits_value 16 (take d text)) (digits_value 16 (drop (d + 1) text))) dot ∙ ap (λ n. File n (digits_value 16 (drop (length (hex ino) + 1) text))) front ∙ ap (File ino) back

listed : (n : ObjectName) → IsObjectName n → In n (file_named (object_text n) ∷ tables 16)
listed (File i x) h = inl (file_again i x h.0 h.1)
listed (InoTable r) h = inr (in_tables r 16 (omega (arith, h))).0
listed (SessionMap r) h = inr (in_tables r 16 (omega (arith, h))).1

pub named_takes : (text : List ℕ) (n : ObjectName) → object_named text ≡ Some n → (text ≡ object_text n) × IsObjectName n
unfolding object_named
named_takes text n e = let h = first_sound text (file_named text ∷ tables 16) n e in (sym h.is, h.there)

pub named_again : (n : ObjectName) → IsObjectName n → object_named (object_text n) ≡ Some n
unfolding object_named
named_again n h = first_there (object_text n) (file_named (object_text n) ∷ tables 16) n (record { there = h; is = refl }) (listed n h)

-- what was found for a text
pub named_is : (text : List ℕ) (r : Option ObjectName) → IfSome r (λ n. text ≡ object_text n) → IfSome r IsObjectName → ((n : ObjectName) → IsObjectName n → text ≡ object_text n → r ≡ Some n) → r ≡ object_named text
named_is text (Some n) is there found = sym (ap object_named is ∙ named_again n there)
named_is text None is there found = elim (object_named text) as (λ o. object_named text ≡ o → None ≡ o) [
  | None ↦ λ e. refl
  | Some n ↦ λ e. let t = named_takes text n e in found n t.1 t.0
] refl
