-- Reading goes forward: what is left, also where a field is wrong, is no longer than what was there.
use Rattle.std.proofs.Common.{ℕ, zero, suc, ◌≤◌, Bool, true, false, cond, ltb, List, [], ◌∷◌, length, take, drop, Ok, Err, Option, Some, None, arith}
use Rattle.std.specs.Int.{Width, byte_len, w16, w32, w64}
use Rattle.std.proofs.lemmas.List.{length-drop}
use Rattle.mj_base.specs.Reading.{Read, ◌>>=◌, bytes_at, number_at, u8_at, u16_at, u32_at, u64_at, such, standing_for, ok_or_left, optional_at, run_at}

-- no more is left than this
abbrev pub Within : {A : Type 0} → ℕ → Read A → Type 0
Within limit (Ok x) = length x.1 ≤ limit
Within limit (Err left) = left ≤ limit

pub record IsBounded {A : Type 0} (read : List ℕ → Read A) : Type 0 where
  pub bound : (bytes : List ℕ) → Within (length bytes) (read bytes)

wider : {A : Type 0} (small large : ℕ) (r : Read A) → small ≤ large → Within small r → Within large r
wider small large (Ok x) le w = omega arith
wider small large (Err left) le w = omega arith

-- a field of what is left
pub field_within : {A : Type 0} {read : List ℕ → Read A} → IsBounded read → (limit : ℕ) (bytes : List ℕ) → length bytes ≤ limit → Within limit (read bytes)
field_within {read = read} b limit bytes le = wider (length bytes) limit (read bytes) le (b.bound bytes)

-- a field, and what follows it
pub then_within : {A B : Type 0} (limit : ℕ) (r : Read A) (k : A × List ℕ → Read B) → Within limit r → ((x : A × List ℕ) → length x.1 ≤ limit → Within limit (k x)) → Within limit (r >>= k)
then_within limit (Ok x) k w f = f x w
then_within limit (Err left) k w f = w

tested_within : {A : Type 0} (limit left : ℕ) (b : Bool) (x : A × List ℕ) → left ≤ limit → length x.1 ≤ limit → Within limit (cond b (Ok x) (Err left))
tested_within limit left true x le w = w
tested_within limit left false x le w = le

pub such_bounded : {A : Type 0} {read : List ℕ → Read A} → (test : A → Bool) → IsBounded read → IsBounded (such test read)
such_bounded {read = read} test b = record { bound = λ bytes. then_within (length bytes) (read bytes) (λ x. cond (test x.0) (Ok x) (Err (length bytes))) (b.bound bytes) (λ x w. tested_within (length bytes) (length bytes) (test x.0) x (omega arith) w) }

value_within : {B : Type 0} (limit left : ℕ) (o : Option B) (rest : List ℕ) → left ≤ limit → length rest ≤ limit → Within limit (ok_or_left left o rest)
value_within limit left (Some x) rest le w = w
value_within limit left None rest le w = le

pub standing_bounded : {A B : Type 0} {read : List ℕ → Read A} → (value : A → Option B) → IsBounded read → IsBounded (standing_for value read)
standing_bounded {read = read} value b = record { bound = λ bytes. then_within (length bytes) (read bytes) (λ x. ok_or_left (length bytes) (value x.0) x.1) (b.bound bytes) (λ x w. value_within (length bytes) (length bytes) (value x.0) x.1 (omega arith) w) }

front_within : (b : Bool) (n : ℕ) (bytes : List ℕ) → Within {A = List ℕ} (length bytes) (cond b (Err (length bytes)) (Ok (take n bytes, drop n bytes)))
front_within true n bytes = omega arith
front_within false n bytes = omega (arith, length-drop n bytes)

pub bytes_bounded : (n : ℕ) → IsBounded (bytes_at n)
bytes_bounded n = record { bound = λ bytes. front_within (ltb (length bytes) n) n bytes }

pub number_bounded : (w : Width) → IsBounded (number_at w)
number_bounded w = record { bound = λ bytes. then_within (length bytes) (bytes_at (byte_len w) bytes) _ ((bytes_bounded (byte_len w)).bound bytes) (λ x le. le) }

pub u8_bounded : IsBounded u8_at
u8_bounded = record { bound = byte_within }
  where
    byte_within : (bytes : List ℕ) → Within (length bytes) (u8_at bytes)
    byte_within [] = omega arith
    byte_within (b ∷ bytes) = omega arith

pub u16_bounded : IsBounded u16_at
u16_bounded = number_bounded w16

pub u32_bounded : IsBounded u32_at
u32_bounded = number_bounded w32

pub u64_bounded : IsBounded u64_at
u64_bounded = number_bounded w64

pub optional_bounded : {A : Type 0} {read : List ℕ → Read A} → IsBounded read → IsBounded (optional_at read)
optional_bounded {A} {read} b = record { bound = flag_within }
  where
    flag_within : (bytes : List ℕ) → Within (length bytes) (optional_at read bytes)
    flag_within [] = omega arith
    flag_within (zero ∷ bytes) = omega arith
    flag_within (suc zero ∷ bytes) = then_within (suc (length bytes)) (read bytes) _ (field_within b (suc (length bytes)) bytes (omega arith)) (λ x le. le)
    flag_within (suc (suc f) ∷ bytes) = omega arith

run_within : {A : Type 0} (field : Option A → List ℕ → Read A) → ((before : Option A) → IsBounded (field before)) → (limit n : ℕ) (before : Option A) (bytes : List ℕ) → length bytes ≤ limit → Within limit (run_at field n before bytes)
run_within field b limit zero before bytes le = le
run_within field b limit (suc n) before bytes le =
    then_within limit (field before bytes) _ (field_within (b before) limit bytes le) (λ x w.
    then_within limit (run_at field n (Some x.0) x.1) _ (run_within field b limit n (Some x.0) x.1 w) (λ xs v. v))

pub run_bounded : {A : Type 0} (field : Option A → List ℕ → Read A) → ((before : Option A) → IsBounded (field before)) → (n : ℕ) (before : Option A) → IsBounded (run_at field n before)
run_bounded field b n before = record { bound = λ bytes. run_within field b (length bytes) n before bytes (omega arith) }
