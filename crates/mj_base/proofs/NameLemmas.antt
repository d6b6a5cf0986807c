-- What is judged to be a name is one, and a name is judged so.
use Rattle.std.proofs.Common.{◌≡◌, ap, ◌∙◌, Bool, cond, ℕ, suc, ◌+◌, ◌<◌, ◌≤◌, true, false, ltb, List, [], ◌∷◌, length, None, Some, refl, arith, inl, inr}
use Rattle.std.specs.Prelude.{nat_lt, nat_le, not, ◌&&◌, Option, ◌==◌, position}
use Rattle.std.specs.List.{list_all, list_any, position_or_len}
use Rattle.std.proofs.lemmas.Bool.{or_parts, and_parts, not-true, ne_eqb, le-ltb, leb-true, cases_Bool, and_from, lt-ltb, ltb-true, ltb-false, le-leb, eqb-false, not_from_false}
use Rattle.mj_base.specs.declared.name.NameRefusal.TheVariants.{Empty, TooLong, Dots}
use Rattle.mj_base.specs.declared.record.Kind.TheVariants.{Symlink}
use Rattle.mj_base.specs.declared.record.TargetRefusal.TheVariants as target
use Rattle.mj_base.specs.Record.{target_fits}
use Rattle.mj_base.specs.Target.{has_no_zero, zero_refusal, target_refusal}
use Rattle.mj_base.specs.Name.{is_bad_byte, is_name_byte, is_name, is_dots, byte_refusal, name_refusal}
use Rattle.mj_base.proofs.Codec.{IsBytes}

all_good : (bytes : List ℕ) → IsBytes bytes → length bytes ≤ position_or_len is_bad_byte bytes → list_all is_name_byte bytes ≡ true
all_good [] fits h = refl
all_good (b ∷ bytes) fits h =
    elim (cases_Bool (is_bad_byte b)) [
      | inl bad ↦ let none : suc (length bytes) ≤ 0 = rw bad at h in absurd (omega arith)
      | inr good ↦
          let more : suc (length bytes) ≤ 1 + position_or_len is_bad_byte bytes = rw good at h in
          and_from _ _ (and_from _ _ (lt-ltb _ _ (fits 0)) (not_from_false _ good)) (all_good bytes (λ i. fits (suc i)) (omega arith))
    ]

first_none : (bytes : List ℕ) → position is_bad_byte bytes ≡ None → length bytes ≤ position_or_len is_bad_byte bytes
first_none bytes h =
    elim (cases_Bool (ltb (position_or_len is_bad_byte bytes) (length bytes))) [
      | inl lt ↦ let some : Some (position_or_len is_bad_byte bytes) ≡ None = rw lt at h in absurd cc
      | inr ge ↦ ltb-false _ _ ge
    ]

pub is_name-from_tests : (bytes : List ℕ) → IsBytes bytes → (length bytes == 0) ≡ false → length bytes ≤ 255 → position is_bad_byte bytes ≡ None → is_dots bytes ≡ false → is_name bytes ≡ true
is_name-from_tests bytes fits some short good plain =
    let there : 0 < length bytes = elim (cases_Bool (ltb 0 (length bytes))) [ inl lt ↦ ltb-true _ _ lt | inr ge ↦ absurd (eqb-false _ _ some (omega (arith, ltb-false _ _ ge))) ] in
    and_from _ _ (and_from _ _ (and_from _ _ (le-leb _ _ (omega arith)) (le-leb _ _ short)) (all_good bytes fits (first_none bytes good))) (not_from_false _ plain)

good_all : (bytes : List ℕ) → list_all is_name_byte bytes ≡ true → position_or_len is_bad_byte bytes ≡ length bytes
good_all [] h = refl
good_all (b ∷ bytes) h =
    let parts = and_parts (is_name_byte b) (list_all is_name_byte bytes) h in
    let good : is_bad_byte b ≡ false = not-true (is_bad_byte b) (and_parts (nat_lt b 256) (not (is_bad_byte b)) parts.0).1 in
    rw good (ap (λ (k : ℕ). 1 + k) (good_all bytes parts.1) ∙ omega arith)

no_position : (k n : ℕ) → k ≡ n → cond (ltb k n) (Some k) None ≡ None
no_position k n e = ap (λ (t : Bool). cond t (Some k) None) (le-ltb k n (omega arith))

pub name_refusal-none : (bytes : List ℕ) → is_name bytes ≡ true → name_refusal bytes ≡ None
name_refusal-none bytes h =
    let n = length bytes in
    let not_dots = and_parts (nat_le 1 n && nat_le n 255 && list_all is_name_byte bytes) (not (is_dots bytes)) h in
    let all = and_parts (nat_le 1 n && nat_le n 255) (list_all is_name_byte bytes) not_dots.0 in
    let size = and_parts (nat_le 1 n) (nat_le n 255) all.0 in
    let some : 1 ≤ n = leb-true 1 n size.0 in
    let short : n ≤ 255 = leb-true n 255 size.1 in
    let first : (n == 0) ≡ false = ne_eqb n 0 (λ e. omega arith) in
    let second : ltb 255 n ≡ false = le-ltb 255 n short in
    ap (λ (t : Bool). cond t (Some Empty) (cond (ltb 255 n) (Some (TooLong n)) (byte_refusal (position is_bad_byte bytes) bytes))) first
    ∙ ap (λ (t : Bool). cond t (Some (TooLong n)) (byte_refusal (position is_bad_byte bytes) bytes)) second
    ∙ ap (λ (o : Option ℕ). byte_refusal o bytes) (no_position (position_or_len is_bad_byte bytes) n (good_all bytes all.1))
    ∙ ap (λ (t : Bool). cond t (Some Dots) None) (not-true (is_dots bytes) not_dots.1)

no_zeros : (bytes : List ℕ) → list_any (λ b. b == 0) bytes ≡ false → position_or_len (λ b. b == 0) bytes ≡ length bytes
no_zeros [] h = refl
no_zeros (b ∷ bytes) h =
    let parts = or_parts (b == 0) (list_any (λ x. x == 0) bytes) h in
    rw parts.0 (ap (λ (k : ℕ). 1 + k) (no_zeros bytes parts.1) ∙ omega arith)

pub target_refusal-none : (bytes : List ℕ) → target_fits Symlink bytes ≡ true → target_refusal bytes ≡ None
target_refusal-none bytes h =
    let n = length bytes in
    let parts = and_parts (nat_le 1 n && nat_le n 4095) (has_no_zero bytes) h in
    let size = and_parts (nat_le 1 n) (nat_le n 4095) parts.0 in
    let some : 1 ≤ n = leb-true 1 n size.0 in
    let short : n ≤ 4095 = leb-true n 4095 size.1 in
    let first : (n == 0) ≡ false = ne_eqb n 0 (λ e. omega arith) in
    let second : ltb 4095 n ≡ false = le-ltb 4095 n short in
    ap (λ (t : Bool). cond t (Some target.Empty) (cond (ltb 4095 n) (Some (target.TooLong n)) (zero_refusal (position (λ b. b == 0) bytes)))) first
    ∙ ap (λ (t : Bool). cond t (Some (target.TooLong n)) (zero_refusal (position (λ b. b == 0) bytes))) second
    ∙ ap zero_refusal (no_position (position_or_len (λ b. b == 0) bytes) n (no_zeros bytes (not-true _ parts.1)))
