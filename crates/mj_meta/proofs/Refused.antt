-- Bytes that are refused as a name are none.
use Rattle.std.proofs.Common.{◌≡◌, ℕ, ◌≤◌, Bool, true, false, cond, not, ◌&&◌, List, [], ◌∷◌, length, Some, None, refl, sym, ap, ◌∙◌, arith, ltb, eqb, inl, inr}
use Rattle.std.specs.Prelude.{position, nat_lt, nat_le}
use Rattle.std.specs.List.{list_all, position_or_len}
use Rattle.std.proofs.lemmas.Bool.{cases_Bool, leb-true, le-ltb, eqb-true}
use Rattle.mj_base.specs.declared.name.NameRefusal.{NameRefusal}
use Rattle.mj_base.specs.declared.name.NameRefusal.TheVariants.{Empty, TooLong, BadByte, Dots, Memory}
use Rattle.mj_base.specs.Name.{is_name, is_name_byte, is_bad_byte, is_dots, name_refusal, byte_refusal, IsNameRefusal}
use Rattle.mj_base.proofs.Codec.{true_and}

turned : (c : Bool) → not c ≡ true → c ≡ false
turned true e = absurd cc
turned false e = refl

all_good : (bytes : List ℕ) → list_all is_name_byte bytes ≡ true → length bytes ≤ position_or_len is_bad_byte bytes
all_good [] e = omega arith
all_good (b ∷ bytes) e =
    let both = true_and (is_name_byte b) (list_all is_name_byte bytes) e in
    let good : is_bad_byte b ≡ false = turned (is_bad_byte b) (true_and (nat_lt b 256) (not (is_bad_byte b)) both.0).1 in
    let rest = all_good bytes both.1 in
    rw good (omega (arith, rest))

no_bad_byte : (bytes : List ℕ) → list_all is_name_byte bytes ≡ true → position is_bad_byte bytes ≡ None
no_bad_byte bytes e = let none : ltb (position_or_len is_bad_byte bytes) (length bytes) ≡ false = le-ltb _ _ (all_good bytes e) in rw none refl

not_empty : (n : ℕ) → 1 ≤ n → eqb n 0 ≡ false
not_empty n le = elim (cases_Bool (eqb n 0)) [ inl e ↦ absurd (let zero = eqb-true n 0 e in omega (arith, zero)) | inr e ↦ e ]

accepted : (bytes : List ℕ) → is_name bytes ≡ true → name_refusal bytes ≡ None
accepted bytes e =
    let a = true_and (nat_le 1 (length bytes) && nat_le (length bytes) 255 && list_all is_name_byte bytes) (not (is_dots bytes)) e in
    let b = true_and (nat_le 1 (length bytes) && nat_le (length bytes) 255) (list_all is_name_byte bytes) a.0 in
    let c = true_and (nat_le 1 (length bytes)) (nat_le (length bytes) 255) b.0 in
    let some = not_empty (length bytes) (leb-true _ _ c.0) in
    let short : nat_lt 255 (length bytes) ≡ false = le-ltb _ _ (leb-true _ _ c.1) in
    let bytes_good = no_bad_byte bytes b.1 in
    let plain = turned (is_dots bytes) a.1 in
    ap (λ t. cond t (Some Empty) (cond (nat_lt 255 (length bytes)) (Some (TooLong (length bytes))) (byte_refusal (position is_bad_byte bytes) bytes))) some
    ∙ ap (λ t. cond t (Some (TooLong (length bytes))) (byte_refusal (position is_bad_byte bytes) bytes)) short
    ∙ ap (λ o. byte_refusal o bytes) bytes_good ∙ ap (λ t. cond t (Some Dots) None) plain

none_some : (why : NameRefusal) → None ≡ Some why → ⊥
none_some why e = cc

refused : (bytes : List ℕ) (why : NameRefusal) → name_refusal bytes ≡ Some why → is_name bytes ≡ false
refused bytes why e = elim (is_name bytes) as (λ b. is_name bytes ≡ b → b ≡ false) [
  | true ↦ λ is. absurd (none_some why (sym (accepted bytes is) ∙ e))
  | false ↦ λ is. refl
] refl

pub refused_no_name : (why : NameRefusal) (bytes : List ℕ) → (why ≡ Memory → ⊥) → IsNameRefusal why bytes → is_name bytes ≡ false
refused_no_name Memory bytes other h = absurd (other refl)
refused_no_name Empty bytes other h = refused bytes Empty h
refused_no_name (TooLong n) bytes other h = refused bytes (TooLong n) h
refused_no_name (BadByte n) bytes other h = refused bytes (BadByte n) h
refused_no_name Dots bytes other h = refused bytes Dots h
