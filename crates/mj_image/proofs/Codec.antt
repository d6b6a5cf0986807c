-- An image's two laws.
use Rattle.std.proofs.Common.{◌≡◌, ℕ, zero, suc, ◌+◌, ◌^◌, ◌<◌, List, [], ◌∷◌, ◌++◌, length, Option, Some, None, Ok, refl, sym, ap, subst, ◌∙◌, arith, length-append}
use Rattle.std.specs.Prelude.{IsTrue, option_map}
use Rattle.std.specs.List.{flat_map, AllByRecursion}
use Rattle.std.specs.Fmt.{decimal}
use Rattle.std.proofs.lemmas.Fmt.{length-decimal-le}
use Rattle.mj_base.specs.Reading.{all_follow, bytes_at, optional, two, four, eight}
use Rattle.mj_base.specs.ObjectName.{object_text, IsObjectName, hex_padded, hex}
use Rattle.mj_base.specs.declared.object.ObjectName.{ObjectName}
use Rattle.mj_base.specs.declared.object.ObjectName.TheVariants.{File, InoTable, SessionMap}
use Rattle.mj_base.proofs.Codec.{IsBytes, u16_codec, u32_codec, u64_codec, bytes_codec, apart2, apart6}
use Rattle.mj_base.proofs.HexLemmas.{length-hex_padded-le, length-hex-le}
use Rattle.mj_store.specs.declared.act.Pair.{Pair}
use Rattle.mj_store.specs.declared.held.HeldObject.{HeldObject}
use Rattle.mj_store.specs.Pages.{is_above}
use Rattle.mj_image.specs.declared.flaw.Flaw.TheVariants.{BadOrder}
use Rattle.mj_image.specs.Naming.{object_named}
use Rattle.mj_image.specs.Image.{short_bytes, long_bytes, pair_bytes, object_bytes, IsShortPair, HasShortHead, IsStorable, IsImage}
use Rattle.mj_image.specs.Reading.{whole, named_or, named_at, name_above, name_at, key_at, long_at, pair_at, head_at, object_at, objects_at, run_of}
use Rattle.mj_image.proofs.Naming.{named_takes, named_again}
use Rattle.mj_image.proofs.FieldLaws.{IsField, guard_ok, ok_is, first_takes, first_again, whole_field, run_field}
use Rattle.mj_image.proofs.Rising.{key_of, pair_follows, object_follows, rise_from_follow, follow_from_rise, names_rise, names_follow}

-- ---- the text of a name is short

pub text_short : (n : ObjectName) → IsObjectName n → length (object_text n) < 2 ^ 16
text_short (File i x) h =
    let a = length-hex-le 16 i (omega arith) (omega arith) (omega (arith, h.0)) in
    let b = length-hex_padded-le 8 x h.1 (omega arith) in
    omega (arith, h.0, length-append (hex i ++ 46 ∷ []) (hex_padded 8 x), length-append (hex i) (46 ∷ []), a, b)
text_short (InoTable r) h =
    let d = length-decimal-le 2 r (omega arith) (omega (arith, h)) (omega (arith, h)) in
    omega (arith, d, table_length r (95 ∷ 105 ∷ 110 ∷ 111 ∷ 116 ∷ 97 ∷ 98 ∷ 108 ∷ 101 ∷ []))
  where
    table_length : (r : ℕ) (kind : List ℕ) → length ((109 ∷ 100 ∷ 115 ∷ []) ++ decimal r ++ kind) ≡ 3 + length (decimal r) + length kind
    table_length r kind = omega (arith, length-append ((109 ∷ 100 ∷ 115 ∷ []) ++ decimal r) kind, length-append (109 ∷ 100 ∷ 115 ∷ []) (decimal r))
text_short (SessionMap r) h =
    let d = length-decimal-le 2 r (omega arith) (omega (arith, h)) (omega (arith, h)) in
    omega (arith, d, table_length r (95 ∷ 115 ∷ 101 ∷ 115 ∷ 115 ∷ 105 ∷ 111 ∷ 110 ∷ 109 ∷ 97 ∷ 112 ∷ []))
  where
    table_length : (r : ℕ) (kind : List ℕ) → length ((109 ∷ 100 ∷ 115 ∷ []) ++ decimal r ++ kind) ≡ 3 + length (decimal r) + length kind
    table_length r kind = omega (arith, length-append ((109 ∷ 100 ∷ 115 ∷ []) ++ decimal r) kind, length-append (109 ∷ 100 ∷ 115 ∷ []) (decimal r))

-- ---- a name

named_ok : (left : ℕ) (o : Option ObjectName) (n : ObjectName) (mid rest : List ℕ) → named_or left o mid ≡ Ok (n, rest) → (o ≡ Some n) × (mid ≡ rest)
named_ok left None n mid rest e = absurd cc
named_ok left (Some x) n mid rest e = let same = ok_is (x, mid) (n, rest) e in (ap (λ (p : ObjectName × List ℕ). Some p.0) same, ap (λ (p : ObjectName × List ℕ). p.1) same)

named_field : (n : ℕ) → IsField (named_at n) object_text (λ name. (length (object_text name) ≡ n) × IsObjectName name)
named_field n = record { takes = takes; again = again }
  where
    takes : (bytes : List ℕ) (name : ObjectName) (rest : List ℕ) → IsBytes bytes → named_at n bytes ≡ Ok (name, rest) → (bytes ≡ object_text name ++ rest) × IsBytes rest × ((length (object_text name) ≡ n) × IsObjectName name)
    takes bytes name rest fits e =
        first_takes (whole_field (bytes_codec n)) (λ text. named_or (length bytes) (object_named text.0) text.1) (name, rest) bytes _ fits e (λ text mid s b f e1.
        let o = named_ok (length bytes) (object_named text) name mid rest e1 in
        let t = named_takes text name o.0 in
        (s ∙ ap (λ (x : List ℕ). x ++ mid) t.0 ∙ ap (λ (m : List ℕ). object_text name ++ m) o.1, subst IsBytes o.1 b, (sym (ap (λ (x : List ℕ). length x) t.0) ∙ f, t.1)))

    again : (name : ObjectName) (rest : List ℕ) → (length (object_text name) ≡ n) × IsObjectName name → named_at n (object_text name ++ rest) ≡ Ok (name, rest)
    again name rest fits =
        let left = length (object_text name ++ rest) in
        first_again (whole_field (bytes_codec n)) (λ text. named_or left (object_named text.0) text.1) (Ok (name, rest)) (object_text name) rest fits.0 (ap (λ o. named_or left o rest) (named_again name fits.1))

name_takes : (before : Option ObjectName) (bytes : List ℕ) (name : ObjectName) (rest : List ℕ) → IsBytes bytes → name_at before bytes ≡ Ok (name, rest) → (bytes ≡ short_bytes (object_text name) ++ rest) × IsBytes rest × (IsObjectName name × IsTrue (name_above before name))
unfolding name_at
name_takes before bytes name rest fits e =
    first_takes (whole_field u16_codec) _ (name, rest) bytes _ fits e (λ n m1 s1 b1 f1 e1.
    first_takes (named_field n) _ (name, rest) m1 _ b1 e1 (λ x m2 s2 b2 f2 e2.
    let g = guard_ok (name_above before x) (BadOrder (length m1)) (x, m2) (name, rest) e2 in
    subst (λ (p : ObjectName × List ℕ). (bytes ≡ short_bytes (object_text p.0) ++ p.1) × IsBytes p.1 × (IsObjectName p.0 × IsTrue (name_above before p.0))) g.1
    (s1 ∙ ap (λ (m : List ℕ). two n ++ m) s2 ∙ ap (λ (k : ℕ). two k ++ (object_text x ++ m2)) (sym f2.0) ∙ sym (apart2 (two (length (object_text x))) (object_text x) m2), b2, (f2.1, g.0))))

name_again : (before : Option ObjectName) (name : ObjectName) (rest : List ℕ) → IsObjectName name × IsTrue (name_above before name) → name_at before (short_bytes (object_text name) ++ rest) ≡ Ok (name, rest)
unfolding name_at
name_again before name rest fits =
    let text = object_text name in
    ap (name_at before) (apart2 (two (length text)) text rest)
    ∙ first_again (whole_field u16_codec) _ (Ok (name, rest)) (length text) (text ++ rest) (text_short name fits.0)
    (first_again (named_field (length text)) _ (Ok (name, rest)) name rest (refl, fits.0) (rw fits.1 refl))

name_field : (before : Option ObjectName) → IsField (name_at before) (λ n. short_bytes (object_text n)) (λ n. IsObjectName n × IsTrue (name_above before n))
name_field before = record { takes = name_takes before; again = name_again before }

-- ---- a pair

key_takes : (before : Option (List ℕ)) (bytes key rest : List ℕ) → IsBytes bytes → key_at before bytes ≡ Ok (key, rest) → (bytes ≡ short_bytes key ++ rest) × IsBytes rest × ((length key < 2 ^ 16) × IsTrue (is_above before key))
unfolding key_at
key_takes before bytes key rest fits e =
    first_takes (whole_field u16_codec) _ (key, rest) bytes _ fits e (λ n m1 s1 b1 f1 e1.
    first_takes (whole_field (bytes_codec n)) _ (key, rest) m1 _ b1 e1 (λ x m2 s2 b2 f2 e2.
    let g = guard_ok (is_above before x) (BadOrder (length m1)) (x, m2) (key, rest) e2 in
    subst (λ (p : List ℕ × List ℕ). (bytes ≡ short_bytes p.0 ++ p.1) × IsBytes p.1 × ((length p.0 < 2 ^ 16) × IsTrue (is_above before p.0))) g.1
    (s1 ∙ ap (λ (m : List ℕ). two n ++ m) s2 ∙ ap (λ (k : ℕ). two k ++ (x ++ m2)) (sym f2) ∙ sym (apart2 (two (length x)) x m2), b2, (omega (arith, f1, f2), g.0))))

key_again : (before : Option (List ℕ)) (key rest : List ℕ) → (length key < 2 ^ 16) × IsTrue (is_above before key) → key_at before (short_bytes key ++ rest) ≡ Ok (key, rest)
unfolding key_at
key_again before key rest fits =
    ap (key_at before) (apart2 (two (length key)) key rest)
    ∙ first_again (whole_field u16_codec) _ (Ok (key, rest)) (length key) (key ++ rest) fits.0
    (first_again (whole_field (bytes_codec (length key))) _ (Ok (key, rest)) key rest refl (rw fits.1 refl))

key_field : (before : Option (List ℕ)) → IsField (key_at before) short_bytes (λ key. (length key < 2 ^ 16) × IsTrue (is_above before key))
key_field before = record { takes = key_takes before; again = key_again before }

long_takes : (bytes value rest : List ℕ) → IsBytes bytes → long_at bytes ≡ Ok (value, rest) → (bytes ≡ long_bytes value ++ rest) × IsBytes rest × (length value < 2 ^ 32)
unfolding long_at
long_takes bytes value rest fits e =
    first_takes (whole_field u32_codec) (λ n. whole (bytes_at n.0 n.1)) (value, rest) bytes _ fits e (λ n m1 s1 b1 f1 e1.
    let t = (whole_field (bytes_codec n)).takes m1 value rest b1 e1 in
    (s1 ∙ ap (λ (m : List ℕ). four n ++ m) t.0 ∙ ap (λ (k : ℕ). four k ++ (value ++ rest)) (sym t.2) ∙ sym (apart2 (four (length value)) value rest), t.1, let is = t.2 in omega (arith, f1, is)))

long_again : (value rest : List ℕ) → length value < 2 ^ 32 → long_at (long_bytes value ++ rest) ≡ Ok (value, rest)
unfolding long_at
long_again value rest fits =
    ap long_at (apart2 (four (length value)) value rest)
    ∙ first_again (whole_field u32_codec) (λ n. whole (bytes_at n.0 n.1)) (Ok (value, rest)) (length value) (value ++ rest) fits ((whole_field (bytes_codec (length value))).again value rest refl)

long_field : IsField long_at long_bytes (λ value. length value < 2 ^ 32)
long_field = record { takes = long_takes; again = long_again }

pair_takes : (before : Option Pair) (bytes : List ℕ) (p : Pair) (rest : List ℕ) → IsBytes bytes → pair_at before bytes ≡ Ok (p, rest) → (bytes ≡ pair_bytes p ++ rest) × IsBytes rest × (IsShortPair p × IsTrue (pair_follows before p))
unfolding pair_at
pair_takes before bytes p rest fits e =
    first_takes (key_field (key_of before)) _ (p, rest) bytes _ fits e (λ key m1 s1 b1 f1 e1.
    first_takes long_field _ (p, rest) m1 _ b1 e1 (λ value m2 s2 b2 f2 e2.
    let made : Pair × List ℕ = (record { key = key; value = value }, m2) in
    subst (λ (x : Pair × List ℕ). (bytes ≡ pair_bytes x.0 ++ x.1) × IsBytes x.1 × (IsShortPair x.0 × IsTrue (pair_follows before x.0))) (ok_is made (p, rest) e2)
    (s1 ∙ ap (λ (m : List ℕ). short_bytes key ++ m) s2 ∙ sym (apart2 (short_bytes key) (long_bytes value) m2), b2, ((f1.0, f2), f1.1))))

pair_again : (before : Option Pair) (p : Pair) (rest : List ℕ) → IsShortPair p × IsTrue (pair_follows before p) → pair_at before (pair_bytes p ++ rest) ≡ Ok (p, rest)
unfolding pair_at
pair_again before p rest fits =
    ap (pair_at before) (apart2 (short_bytes p.key) (long_bytes p.value) rest)
    ∙ first_again (key_field (key_of before)) _ (Ok (p, rest)) p.key (long_bytes p.value ++ rest) (fits.0.0, fits.1)
    (first_again long_field _ (Ok (p, rest)) p.value rest fits.0.1 refl)

pair_field : (before : Option Pair) → IsField (pair_at before) pair_bytes (λ p. IsShortPair p × IsTrue (pair_follows before p))
pair_field before = record { takes = pair_takes before; again = pair_again before }

-- ---- a head

head_takes : (bytes : List ℕ) (head : Option (List ℕ)) (rest : List ℕ) → IsBytes bytes → head_at bytes ≡ Ok (head, rest) → (bytes ≡ optional long_bytes head ++ rest) × IsBytes rest × HasShortHead head
head_takes [] head rest fits e = absurd cc
head_takes (zero ∷ bytes) head rest fits e =
    subst (λ (p : Option (List ℕ) × List ℕ). (0 ∷ bytes ≡ optional long_bytes p.0 ++ p.1) × IsBytes p.1 × HasShortHead p.0) (ok_is (None, bytes) (head, rest) e) (refl, λ i. fits (suc i), tt)
head_takes (suc zero ∷ bytes) head rest fits e =
    first_takes long_field (λ x. Ok (Some x.0, x.1)) (head, rest) bytes _ (λ i. fits (suc i)) e (λ value m1 s1 b1 f1 e1.
    subst (λ (p : Option (List ℕ) × List ℕ). (1 ∷ bytes ≡ optional long_bytes p.0 ++ p.1) × IsBytes p.1 × HasShortHead p.0) (ok_is (Some value, m1) (head, rest) e1) (ap (λ (w : List ℕ). 1 ∷ w) s1, b1, f1))
head_takes (suc (suc flag) ∷ bytes) head rest fits e = absurd cc

head_again : (head : Option (List ℕ)) (rest : List ℕ) → HasShortHead head → head_at (optional long_bytes head ++ rest) ≡ Ok (head, rest)
head_again None rest fits = refl
head_again (Some value) rest fits = first_again long_field (λ x. Ok (Some x.0, x.1)) (Ok (Some value, rest)) value rest fits refl

head_field : IsField head_at (optional long_bytes) HasShortHead
head_field = record { takes = head_takes; again = head_again }

-- ---- an object

pairs_field : (n : ℕ) → IsField (run_of pair_at n None) (flat_map pair_bytes) (λ ps. (length ps ≡ n) × AllByRecursion IsShortPair ps × IsTrue (all_follow pair_follows None ps))
pairs_field n = run_field pair_at pair_bytes IsShortPair pair_follows pair_field n None

object_takes : (before : Option HeldObject) (bytes : List ℕ) (h : HeldObject) (rest : List ℕ) → IsBytes bytes → object_at before bytes ≡ Ok (h, rest) → (bytes ≡ object_bytes h ++ rest) × IsBytes rest × (IsStorable h × IsTrue (object_follows before h))
unfolding object_at
object_takes before bytes h rest fits e =
    first_takes (name_field (option_map (λ (x : HeldObject). x.name) before)) _ (h, rest) bytes _ fits e (λ name m1 s1 b1 f1 e1.
    first_takes (whole_field u64_codec) _ (h, rest) m1 _ b1 e1 (λ n m2 s2 b2 f2 e2.
    first_takes (whole_field (bytes_codec n)) _ (h, rest) m2 _ b2 e2 (λ held m3 s3 b3 f3 e3.
    first_takes head_field _ (h, rest) m3 _ b3 e3 (λ head m4 s4 b4 f4 e4.
    first_takes (whole_field u32_codec) _ (h, rest) m4 _ b4 e4 (λ count m5 s5 b5 f5 e5.
    first_takes (pairs_field count) _ (h, rest) m5 _ b5 e5 (λ pairs m6 s6 b6 f6 e6.
    let made : HeldObject × List ℕ = (record { name = name; bytes = held; head = head; pairs = pairs }, m6) in
    let name_text = short_bytes (object_text name) in
    let back = flat_map pair_bytes pairs in
    subst (λ (p : HeldObject × List ℕ). (bytes ≡ object_bytes p.0 ++ p.1) × IsBytes p.1 × (IsStorable p.0 × IsTrue (object_follows before p.0))) (ok_is made (h, rest) e6) (
      s1 ∙ ap (λ (m : List ℕ). name_text ++ m) (s2 ∙ ap (λ (m : List ℕ). eight n ++ m) (s3 ∙ ap (λ (m : List ℕ). held ++ m) (s4 ∙ ap (λ (m : List ℕ). optional long_bytes head ++ m) (s5 ∙ ap (λ (m : List ℕ). four count ++ m) s6))))
          ∙ ap (λ (k : ℕ). name_text ++ (eight k ++ (held ++ (optional long_bytes head ++ (four count ++ (back ++ m6)))))) (sym f3)
          ∙ ap (λ (k : ℕ). name_text ++ (eight (length held) ++ (held ++ (optional long_bytes head ++ (four k ++ (back ++ m6)))))) (sym f6.0)
          ∙ sym (apart6 name_text (eight (length held)) held (optional long_bytes head) (four (length pairs)) back m6),
      b6,
      (record { name = f1.0; bytes = rw f3 f2; head = f4; count = rw f6.0 f5; pairs = f6.1; keys = rise_from_follow None pairs f6.1 f6.2 }, f1.1),
    )))))))

object_again : (before : Option HeldObject) (h : HeldObject) (rest : List ℕ) → IsStorable h × IsTrue (object_follows before h) → object_at before (object_bytes h ++ rest) ≡ Ok (h, rest)
unfolding object_at
object_again before h rest fits =
    let back = flat_map pair_bytes h.pairs in
    ap (object_at before) (apart6 (short_bytes (object_text h.name)) (eight (length h.bytes)) h.bytes (optional long_bytes h.head) (four (length h.pairs)) back rest)
    ∙ first_again (name_field (option_map (λ (x : HeldObject). x.name) before)) _ (Ok (h, rest)) h.name (eight (length h.bytes) ++ (h.bytes ++ (optional long_bytes h.head ++ (four (length h.pairs) ++ (back ++ rest))))) (fits.0.name, fits.1)
    (first_again (whole_field u64_codec) _ (Ok (h, rest)) (length h.bytes) (h.bytes ++ (optional long_bytes h.head ++ (four (length h.pairs) ++ (back ++ rest)))) fits.0.bytes
    (first_again (whole_field (bytes_codec (length h.bytes))) _ (Ok (h, rest)) h.bytes (optional long_bytes h.head ++ (four (length h.pairs) ++ (back ++ rest))) refl
    (first_again head_field _ (Ok (h, rest)) h.head (four (length h.pairs) ++ (back ++ rest)) fits.0.head
    (first_again (whole_field u32_codec) _ (Ok (h, rest)) (length h.pairs) (back ++ rest) fits.0.count
    (first_again (pairs_field (length h.pairs)) _ (Ok (h, rest)) h.pairs rest (refl, fits.0.pairs, follow_from_rise None h.pairs fits.0.keys) refl)))))

object_field : (before : Option HeldObject) → IsField (object_at before) object_bytes (λ h. IsStorable h × IsTrue (object_follows before h))
object_field before = record { takes = object_takes before; again = object_again before }

-- ---- all objects

run_objects : (n : ℕ) → IsField (run_of object_at n None) (flat_map object_bytes) (λ hs. (length hs ≡ n) × AllByRecursion IsStorable hs × IsTrue (all_follow object_follows None hs))
run_objects n = run_field object_at object_bytes IsStorable object_follows object_field n None

pub objects_takes : (bytes : List ℕ) (hs : List HeldObject) (rest : List ℕ) → IsBytes bytes → objects_at bytes ≡ Ok (hs, rest) → (bytes ≡ (four (length hs) ++ flat_map object_bytes hs) ++ rest) × IsImage hs
unfolding objects_at
objects_takes bytes hs rest fits e =
    first_takes (whole_field u32_codec) (λ n. run_of object_at n.0 None n.1) (hs, rest) bytes _ fits e (λ n m1 s1 b1 f1 e1.
    let t = (run_objects n).takes m1 hs rest b1 e1 in (
      s1 ∙ ap (λ (m : List ℕ). four n ++ m) t.0 ∙ ap (λ (k : ℕ). four k ++ (flat_map object_bytes hs ++ rest)) (sym t.2.0) ∙ sym (apart2 (four (length hs)) (flat_map object_bytes hs) rest),
      record { count = rw t.2.0 f1; objects = t.2.1; names = names_rise hs t.2.2 },
    ))

pub objects_again : (hs : List HeldObject) (rest : List ℕ) → IsImage hs → objects_at ((four (length hs) ++ flat_map object_bytes hs) ++ rest) ≡ Ok (hs, rest)
unfolding objects_at
objects_again hs rest fits =
    ap objects_at (apart2 (four (length hs)) (flat_map object_bytes hs) rest)
    ∙ first_again (whole_field u32_codec) (λ n. run_of object_at n.0 None n.1) (Ok (hs, rest)) (length hs) (flat_map object_bytes hs ++ rest) fits.count
    ((run_objects (length hs)).again hs rest (refl, fits.objects, names_follow hs fits.names))
