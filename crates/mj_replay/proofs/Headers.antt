-- A header's object is judged by its first bytes, one more than a header has, as by all of them.
use Rattle.std.proofs.Common.{◌≡◌, ◌⊎◌, inl, inr, ℕ, suc, ◌+◌, ◌-◌, ◌<◌, ◌≤◌, ◌≢◌, Bool, true, false, cond, ltb, List, [], ◌∷◌, ◌++◌, length, take, drop, Option, None, Some, Result, Ok, Err, refl, sym, ap, subst, ◌∙◌, arith, length-append, length-drop}
use Rattle.std.specs.Prelude.{◌==◌, nat_le}
use Rattle.std.specs.Int.{Width, w32, w64, byte_len, from_le_bytes}
use Rattle.std.proofs.lemmas.Bool.{cases_lt, cond-true, cond-false, eq-eqb, le-ltb, ne_eqb}
use Rattle.std.proofs.lemmas.List.{length-take, take-append-drop, take_all}
use Rattle.mj_base.specs.Reading.{Read, ◌>>=◌, such, standing_for, ok_or_left, u8_at}
use Rattle.mj_base.specs.declared.damage.Damage.TheVariants as damage
use Rattle.mj_layout.specs.Striping.{is_striping}
use Rattle.mj_layout.specs.Header.{magic, uncut, exactly, phase_of, layout_at, sound_layout_at, format_at, phase_at, ends, fields_at, in_its_order, header_of, is_ordered}
use Rattle.mj_layout.specs.declared.Header.{Header}
use Rattle.mj_layout.specs.declared.HeaderRefusal.{HeaderRefusal}
use Rattle.mj_layout.specs.declared.HeaderRefusal.TheVariants.{HeaderBad, HeaderOrder}
use Rattle.mj_recovery.specs.Journal.{of_format}
use Rattle.mj_replay.specs.Fronts.{IsFrontOf}
use Rattle.mj_replay.proofs.Envelope.{take_left, drop_left}

-- ---- fields of a fixed size

-- a field is read of the bytes, and so it is with more behind them
record Reads {A : Type 0} (more : List ℕ) (left : ℕ) (front all : Read A) : Type 0 where
  pub value : A
  pub rest : List ℕ
  pub front_is : front ≡ Ok (value, rest)
  pub all_is : all ≡ Ok (value, rest ++ more)
  pub len : length rest ≡ left

-- or it is wrong at the same byte, which is one of them
record Faults {A : Type 0} (n : ℕ) (front all : Result A ℕ) : Type 0 where
  pub left : ℕ
  pub there : 0 < left
  pub front_is : front ≡ Err left
  pub all_is : all ≡ Err (left + n)

abbrev IsAlike : {A : Type 0} → List ℕ → ℕ → Read A → Read A → Type 0
IsAlike more left front all = Reads more left front all ⊎ Faults (length more) front all

alike_along : {A : Type 0} (more : List ℕ) (left : ℕ) (a b c d : Read A) → a ≡ b → c ≡ d → IsAlike more left b d → IsAlike more left a c
alike_along more left a b c d e f (inl r) = inl (record { value = r.value; rest = r.rest; front_is = e ∙ r.front_is; all_is = f ∙ r.all_is; len = r.len })
alike_along more left a b c d e f (inr w) = inr (record { left = w.left; there = w.there; front_is = e ∙ w.front_is; all_is = f ∙ w.all_is })

-- a field of k bytes
abbrev IsField : {A : Type 0} → (List ℕ → Read A) → ℕ → Type 0
IsField field k = (bytes more : List ℕ) (left : ℕ) → length bytes ≡ k + left → IsAlike more left (field bytes) (field (bytes ++ more))

read_long : (w : Width) (bytes : List ℕ) → byte_len w ≤ length bytes → uncut w bytes ≡ Ok (from_le_bytes w (take (byte_len w) bytes), drop (byte_len w) bytes)
unfolding uncut
read_long w bytes h = let long : ltb (length bytes) (byte_len w) ≡ false = le-ltb _ _ h in rw long refl

number_field : (w : Width) → IsField (uncut w) (byte_len w)
number_field w bytes more left e =
    let n = byte_len w in
    let h : byte_len w ≤ length bytes = omega (arith, e) in
    inl (record {
      value = from_le_bytes w (take n bytes);
      rest = drop n bytes;
      front_is = read_long w bytes h;
      all_is = read_long w (bytes ++ more) (omega (arith, h, length-append bytes more))
          ∙ (ap (λ (t : List ℕ). Ok (from_le_bytes w t, drop n (bytes ++ more))) (take_left n bytes more h)
          ∙ ap (λ (d : List ℕ). Ok (from_le_bytes w (take n bytes), d)) (drop_left n bytes more h));
      len = omega (arith, e, length-drop n bytes);
    })

byte_field : IsField u8_at 1
byte_field [] more left e = absurd (omega (arith, e))
byte_field (b ∷ bytes) more left e = inl (record { value = b; rest = bytes; front_is = refl; all_is = refl; len = omega (arith, e) })

text_field : (text : List ℕ) → IsField (exactly text) (length text)
text_field [] bytes more left e = inl (record { value = tt; rest = bytes; front_is = refl; all_is = refl; len = omega (arith, e) })
text_field (b ∷ text) [] more left e = absurd (omega (arith, e))
text_field (b ∷ text) (c ∷ bytes) more left e =
    let longer : suc (length (bytes ++ more)) ≡ suc (length bytes) + length more = omega (arith, length-append bytes more) in
    elim (b == c) as (λ (same : Bool). IsAlike more left (cond same (exactly text bytes) (Err (suc (length bytes)))) (cond same (exactly text (bytes ++ more)) (Err (suc (length (bytes ++ more)))))) [
      | true ↦ text_field text bytes more left (omega (arith, e))
      | false ↦ inr (record { left = suc (length bytes); there = omega arith; front_is = refl; all_is = ap Err longer })
    ]

-- a field with a test
abbrev by_test : {A : Type 0} → (A → Bool) → List ℕ → Read A → Read A
by_test test bytes r = r >>= λ x. cond (test x.0) (Ok x) (Err (length bytes))

such_field : {A : Type 0} (test : A → Bool) (field : List ℕ → Read A) (k : ℕ) → 0 < k → IsField field k → IsField (such test field) k
such_field {A} test field k some is bytes more left e = elim (is bytes more left e) [
  | inl r ↦ tested (test r.value) r refl
  | inr f ↦ inr (record { left = f.left; there = f.there; front_is = ap (by_test test bytes) f.front_is; all_is = ap (by_test test (bytes ++ more)) f.all_is })
]
  where
    tested : (t : Bool) (r : Reads more left (field bytes) (field (bytes ++ more))) → test r.value ≡ t
        → IsAlike more left (such test field bytes) (such test field (bytes ++ more))
    tested true r t = inl (record {
      value = r.value;
      rest = r.rest;
      front_is = ap (by_test test bytes) r.front_is ∙ ap (λ t. cond t (Ok (r.value, r.rest)) (Err (length bytes))) t;
      all_is = ap (by_test test (bytes ++ more)) r.all_is ∙ ap (λ t. cond t (Ok (r.value, r.rest ++ more)) (Err (length (bytes ++ more)))) t;
      len = r.len;
    })
    tested false r t = inr (record {
      left = length bytes;
      there = omega (arith, e, some);
      front_is = ap (by_test test bytes) r.front_is ∙ ap (λ t. cond t (Ok (r.value, r.rest)) (Err (length bytes))) t;
      all_is = ap (by_test test (bytes ++ more)) r.all_is ∙ (ap (λ t. cond t (Ok (r.value, r.rest ++ more)) (Err (length (bytes ++ more)))) t ∙ ap Err (length-append bytes more));
    })

-- a field that stands for a value
abbrev by_value : {A B : Type 0} → (A → Option B) → List ℕ → Read A → Read B
by_value value bytes r = r >>= λ x. ok_or_left (length bytes) (value x.0) x.1

standing_field : {A B : Type 0} (value : A → Option B) (field : List ℕ → Read A) (k : ℕ) → 0 < k → IsField field k → IsField (standing_for value field) k
standing_field {A} {B} value field k some is bytes more left e = elim (is bytes more left e) [
  | inl r ↦ stood (value r.value) r refl
  | inr f ↦ inr (record { left = f.left; there = f.there; front_is = ap (by_value value bytes) f.front_is; all_is = ap (by_value value (bytes ++ more)) f.all_is })
]
  where
    stood : (o : Option B) (r : Reads more left (field bytes) (field (bytes ++ more))) → value r.value ≡ o
        → IsAlike more left (standing_for value field bytes) (standing_for value field (bytes ++ more))
    stood (Some x) r o = inl (record {
      value = x;
      rest = r.rest;
      front_is = ap (by_value value bytes) r.front_is ∙ ap (λ o. ok_or_left (length bytes) o r.rest) o;
      all_is = ap (by_value value (bytes ++ more)) r.all_is ∙ ap (λ o. ok_or_left (length (bytes ++ more)) o (r.rest ++ more)) o;
      len = r.len;
    })
    stood None r o = inr (record {
      left = length bytes;
      there = omega (arith, e, some);
      front_is = ap (by_value value bytes) r.front_is ∙ ap (λ o. ok_or_left (length bytes) o r.rest) o;
      all_is = ap (by_value value (bytes ++ more)) r.all_is ∙ (ap (λ o. ok_or_left (length (bytes ++ more)) o (r.rest ++ more)) o ∙ ap Err (length-append bytes more));
    })

-- ---- the fields of a header

-- Both are wrong: at the same byte, or each at its end.
record BothWrong {A : Type 0} (n : ℕ) (front all : Result A ℕ) : Type 0 where
  pub left : ℕ
  pub all_left : ℕ
  pub front_is : front ≡ Err left
  pub all_is : all ≡ Err all_left
  pub before : 0 < left → all_left ≡ left + n
  pub at_end : left ≡ 0 → all_left ≡ 0

both_along : {A : Type 0} (n : ℕ) (a b c d : Result A ℕ) → a ≡ b → c ≡ d → BothWrong n b d → BothWrong n a c
both_along n a b c d e f w = record { left = w.left; all_left = w.all_left; front_is = e ∙ w.front_is; all_is = f ∙ w.all_is; before = w.before; at_end = w.at_end }

-- a first field, and what then follows of the rest
next : {A B : Type 0} (field : List ℕ → Read A) (k : ℕ) → IsField field k → (left : ℕ) (then : A × List ℕ → Result B ℕ) (bytes more : List ℕ) → length bytes ≡ k + left
    → ((x : A) (rest : List ℕ) → length rest ≡ left → BothWrong (length more) (then (x, rest)) (then (x, rest ++ more)))
    → BothWrong (length more) (field bytes >>= then) (field (bytes ++ more) >>= then)
next {A} {B} field k is left then bytes more e later = elim (is bytes more left e) [
  | inl r ↦ both_along (length more) _ _ _ _ (ap (λ (r : Read A). r >>= then) r.front_is) (ap (λ (r : Read A). r >>= then) r.all_is) (later r.value r.rest r.len)
  | inr f ↦ record { left = f.left; all_left = f.left + length more; front_is = ap (λ (r : Read A). r >>= then) f.front_is; all_is = ap (λ (r : Read A). r >>= then) f.all_is; before = λ h. refl; at_end = λ z. absurd (omega (arith, z, f.there)) }
]

-- the same of a field that is made of others
next_part : {A B : Type 0} (field : List ℕ → Read A) (k : ℕ) → IsField field k → (left last : ℕ) (then : A × List ℕ → Read B) (bytes more : List ℕ) → length bytes ≡ k + left
    → ((x : A) (rest : List ℕ) → length rest ≡ left → IsAlike more last (then (x, rest)) (then (x, rest ++ more)))
    → IsAlike more last (field bytes >>= then) (field (bytes ++ more) >>= then)
next_part {A} {B} field k is left last then bytes more e later = elim (is bytes more left e) [
  | inl r ↦ alike_along more last _ _ _ _ (ap (λ (r : Read A). r >>= then) r.front_is) (ap (λ (r : Read A). r >>= then) r.all_is) (later r.value r.rest r.len)
  | inr f ↦ inr (record { left = f.left; there = f.there; front_is = ap (λ (r : Read A). r >>= then) f.front_is; all_is = ap (λ (r : Read A). r >>= then) f.all_is })
]

layout_field : IsField layout_at 12
unfolding layout_at
layout_field bytes more left e =
    next_part (uncut w32) 4 (number_field w32) (8 + left) left _ bytes more (omega (arith, e)) (λ su b1 h1.
    next_part (uncut w32) 4 (number_field w32) (4 + left) left _ b1 more (omega (arith, h1)) (λ sc b2 h2.
    next_part (uncut w32) 4 (number_field w32) left left _ b2 more h2 (λ os b3 h3.
    inl (record { value = record { su = su; sc = sc; os = os }; rest = b3; front_is = refl; all_is = refl; len = h3 }))))

too_many : {B : Type 0} (then : Unit {0} → Result B ℕ) (rest more : List ℕ) → length rest ≡ 1 → BothWrong (length more) (ends rest >>= then) (ends (rest ++ more) >>= then)
too_many then [] more e = absurd (omega (arith, e))
too_many then (b ∷ rest) more e = record { left = 0; all_left = 0; front_is = refl; all_is = refl; before = λ h. absurd (omega (arith, h)); at_end = λ z. refl }

-- 70 bytes are one more than the fields take
fields_wrong : (bytes more : List ℕ) → length bytes ≡ 70 → BothWrong (length more) (fields_at bytes) (fields_at (bytes ++ more))
unfolding fields_at
fields_wrong bytes more h =
    next (exactly magic) 23 (text_field magic) 47 _ bytes more h (λ begun b1 h1.
    next (uncut w64) 8 (number_field w64) 39 _ b1 more h1 (λ trimmed b2 h2.
    next (uncut w64) 8 (number_field w64) 31 _ b2 more h2 (λ expire b3 h3.
    next (uncut w64) 8 (number_field w64) 23 _ b3 more h3 (λ write b4 h4.
    next sound_layout_at 12 (such_field is_striping layout_at 12 (omega arith) layout_field) 11 _ b4 more h4 (λ layout b5 h5.
    next format_at 1 (such_field (λ f. nat_le f 1) u8_at 1 (omega arith) byte_field) 10 _ b5 more h5 (λ format b6 h6.
    next phase_at 1 (standing_field phase_of u8_at 1 (omega arith) byte_field) 9 _ b6 more h6 (λ phase b7 h7.
    next (uncut w64) 8 (number_field w64) 1 _ b7 more h7 (λ epoch b8 h8.
    too_many _ b8 more h8))))))))

-- ---- the header

wrong_at : (len left : ℕ) (r : Result Header ℕ) → r ≡ Err left → in_its_order len r ≡ Err (HeaderBad (len - left))
wrong_at len left r e = ap (in_its_order len) e

-- too long an object: both are wrong, at the same byte or each at its end
record BothBad (all front : List ℕ) (size : ℕ) : Type 0 where
  pub at : ℕ
  pub all_at : ℕ
  pub front_is : header_of front ≡ Err (HeaderBad at)
  pub all_is : header_of all ≡ Err (HeaderBad all_at)
  pub before : at < 70 → all_at ≡ at
  pub at_end : at ≡ 70 → all_at ≡ size
  pub within : at ≤ 70

front_of_long : (all : List ℕ) → 70 < length all → BothBad all (take 70 all) (length all)
front_of_long all long =
    let split : take 70 all ++ drop 70 all ≡ all = take-append-drop 70 all in
    let len : length (take 70 all) ≡ 70 = omega (arith, length-take 70 all, long) in
    let size : length all ≡ 70 + length (drop 70 all) = omega (arith, length-drop 70 all, long) in
    let w = fields_wrong (take 70 all) (drop 70 all) len in
    record {
      at = 70 - w.left;
      all_at = length all - w.all_left;
      front_is = ap (λ n. in_its_order n (fields_at (take 70 all))) len ∙ wrong_at 70 w.left (fields_at (take 70 all)) w.front_is;
      all_is = wrong_at (length all) w.all_left (fields_at all) (ap fields_at (sym split) ∙ w.all_is);
      before = λ h. omega (arith, h, size, w.before (omega (arith, h)));
      at_end = λ h. omega (arith, h, w.at_end (omega (arith, h)));
      within = omega arith;
    }

-- a short one is its front
front_of_short : (all bytes : List ℕ) (size : ℕ) → IsFrontOf all bytes size → length all ≤ 70 → bytes ≡ all
front_of_short all bytes size f short = f.front ∙ take_all 70 all short

same_bad : (at other : ℕ) → ◌≡◌ {A = Result Header HeaderRefusal} (Err (HeaderBad at)) (Err (HeaderBad other)) → at ≡ other
same_bad at other e = cc

-- a header that is wrong is wrong within its bytes
bad_within : (len at : ℕ) (r : Result Header ℕ) → in_its_order len r ≡ Err (HeaderBad at) → at ≤ len
bad_within len at (Err left) e = omega (arith, same_bad (len - left) at e)
bad_within len at (Ok h) e = absurd (ordered (is_ordered h) h e)
  where
    ordered : (b : Bool) (h : Header) → ◌≡◌ {A = Result Header HeaderRefusal} (cond b (Ok h) (Err HeaderOrder)) (Err (HeaderBad at)) → ⊥
    ordered true h e = cc
    ordered false h e = cc

by_front : (all bytes : List ℕ) (size : ℕ) → IsFrontOf all bytes size → ((bytes ≡ all) × (size ≤ 70)) ⊎ BothBad all bytes size
by_front all bytes size f = elim (cases_lt 70 (length all)) [
  | inl long ↦ inr (subst (λ (s : ℕ). BothBad all bytes s) (sym f.size_is) (subst (λ (b : List ℕ). BothBad all b (length all)) (sym f.front) (front_of_long all long)))
  | inr short ↦ inl (front_of_short all bytes size f short, omega (arith, short, f.size_is))
]

pub header_by_front : (all bytes : List ℕ) (size : ℕ) (h : Header) → IsFrontOf all bytes size → header_of bytes ≡ Ok h → header_of all ≡ Ok h
header_by_front all bytes size h f is = elim (by_front all bytes size f) [
  | inl short ↦ ap header_of (sym short.0) ∙ is
  | inr bad ↦ let no = bad.front_is in absurd cc
]

pub order_by_front : (all bytes : List ℕ) (size : ℕ) → IsFrontOf all bytes size → header_of bytes ≡ Err HeaderOrder → header_of all ≡ Err HeaderOrder
order_by_front all bytes size f is = elim (by_front all bytes size f) [
  | inl short ↦ ap header_of (sym short.0) ∙ is
  | inr bad ↦ let no = bad.front_is in absurd cc
]

-- wrong before the end of what was read
pub bad_by_front : (all bytes : List ℕ) (size at : ℕ) → IsFrontOf all bytes size → at ≢ 70 → header_of bytes ≡ Err (HeaderBad at) → header_of all ≡ Err (HeaderBad at)
bad_by_front all bytes size at f ne is = elim (by_front all bytes size f) [
  | inl short ↦ ap header_of (sym short.0) ∙ is
  | inr bad ↦
      let same : at ≡ bad.at = same_bad at bad.at (sym is ∙ bad.front_is) in
      let before : bad.all_at ≡ bad.at = bad.before (omega (arith, ne, same, bad.within)) in
      bad.all_is ∙ ap (λ n. Err (HeaderBad n)) (before ∙ sym same)
]

-- wrong at that end: it is the end of a header with a byte too much, and a longer object is wrong at its own
pub long_by_front : (all bytes : List ℕ) (size at : ℕ) → IsFrontOf all bytes size → at ≡ 70 → header_of bytes ≡ Err (HeaderBad at) → header_of all ≡ Err (HeaderBad size)
long_by_front all bytes size at f eq is = elim (by_front all bytes size f) [
  | inl short ↦
      let within = bad_within (length bytes) at (fields_at bytes) is in
      let whole : at ≡ size = omega (arith, within, eq, short.1, f.size_is, ap length short.0) in
      ap header_of (sym short.0) ∙ (is ∙ ap (λ n. Err (HeaderBad n)) whole)
  | inr bad ↦
      let same : at ≡ bad.at = same_bad at bad.at (sym is ∙ bad.front_is) in
      bad.all_is ∙ ap (λ n. Err (HeaderBad n)) (bad.at_end (sym same ∙ eq))
]

-- ---- what is judged of the header

pub legacy : (r : Result Header HeaderRefusal) (h : Header) → r ≡ Ok h → h.format ≡ 0 → of_format r ≡ Err damage.Legacy
legacy r h is old = ap of_format is ∙ cond-true (h.format == 0) (Err damage.Legacy) (Ok h) (eq-eqb h.format 0 old)

pub resilient : (r : Result Header HeaderRefusal) (h : Header) → r ≡ Ok h → h.format ≢ 0 → of_format r ≡ Ok h
resilient r h is new = ap of_format is ∙ cond-false (h.format == 0) (Err damage.Legacy) (Ok h) (ne_eqb h.format 0 new)
