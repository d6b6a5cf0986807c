-- Each object has one text, and each text is that of one object.
use Rattle.std.proofs.Common.{◌≡◌, ◌≢◌, true, false, length, ◌-◌, ℕ, ◌^◌, ◌<◌, ◌≤◌, List, [], ◌∷◌, ◌++◌, refl, sym, ap, ◌∙◌, arith, append_assoc}
use Rattle.std.specs.Prelude.{codes, Option, Some, None, IfSome, IfNone}
use Rattle.std.specs.declared.cmp.Ordering.{Ordering}
use Rattle.std.specs.declared.cmp.Ordering.TheVariants.{Less, Equal, Greater}
use Rattle.std.specs.Ordering.{ordering_then, nat_cmp, is_eq}
use Rattle.std.specs.Cmp.Lexicographic.{slice_cmp, same_text, texts_ties, nat_list_eq_equiv}
use Rattle.std.specs.Char.{digit_value}
use Rattle.std.specs.Fmt.{decimal}
use Rattle.std.specs.Str.Parse.{AllDigits, digits_value}
use Rattle.std.proofs.lemmas.Fmt.{digits_is_IsNumeral, decimal_is_IsNumeral, decimal_injective}
use Rattle.mj_base.specs.declared.object.ObjectName.{ObjectName}
use Rattle.mj_base.specs.declared.object.ObjectName.TheVariants.{File, InoTable, SessionMap}
use Rattle.mj_base.specs.ObjectText.{hex, hex_padded, file_object_text}
use Rattle.mj_base.specs.ObjectName.{object_text, name_numbers, object_cmp, name_cmp, object_order, IsObjectName}
use Rattle.mj_base.proofs.HexReading.{hex-AllDigits, padded-value}

-- digits, and what stands behind them from the first byte on that is none
parted : (xs ys more rest : List ℕ) (m n : ℕ) → AllDigits 16 xs → AllDigits 16 ys → 16 ≤ digit_value m → 16 ≤ digit_value n → xs ++ m ∷ more ≡ ys ++ n ∷ rest → (xs ≡ ys) × (m ∷ more ≡ n ∷ rest)
parted [] [] more rest m n dx dy dm dn e = (refl, e)
parted [] (y ∷ ys) more rest m n dx dy dm dn e = let same : m ≡ y = cc in absurd (omega (arith, ap digit_value same, dy.0))
parted (x ∷ xs) [] more rest m n dx dy dm dn e = let same : x ≡ n = cc in absurd (omega (arith, ap digit_value same, dx.0))
parted (x ∷ xs) (y ∷ ys) more rest m n dx dy dm dn e =
    let head : x ≡ y = cc in
    let tail : xs ++ m ∷ more ≡ ys ++ n ∷ rest = cc in
    let same = parted xs ys more rest m n dx.1 dy.1 dm dn tail in
    (ap (λ (c : ℕ). c ∷ xs) head ∙ ap (λ (cs : List ℕ). y ∷ cs) same.0, same.1)

ten_in_sixteen : (ds : List ℕ) → AllDigits 10 ds → AllDigits 16 ds
ten_in_sixteen [] h = h
ten_in_sixteen (c ∷ ds) h = (omega (arith, h.0), ten_in_sixteen ds h.1)

decimal-AllDigits : (r : ℕ) → r ≤ 15 → AllDigits 16 (decimal r)
decimal-AllDigits r small = ten_in_sixteen (decimal r) (decimal_is_IsNumeral r (omega arith)).0.1

hex-injective : (m n : ℕ) → m < 2 ^ 64 → n < 2 ^ 64 → hex m ≡ hex n → m ≡ n
hex-injective m n a b e =
    sym (digits_is_IsNumeral 16 false (omega arith) (omega arith) m (omega arith)).1 ∙ ap (digits_value 16) e ∙ (digits_is_IsNumeral 16 false (omega arith) (omega arith) n (omega arith)).1

hex_padded-injective : (m n : ℕ) → m < 2 ^ 64 → n < 2 ^ 64 → hex_padded 8 m ≡ hex_padded 8 n → m ≡ n
hex_padded-injective m n a b e =
    sym (padded-value (8 - length (hex m)) (hex m) ∙ (digits_is_IsNumeral 16 false (omega arith) (omega arith) m (omega arith)).1) ∙ ap (digits_value 16) e
    ∙ padded-value (8 - length (hex n)) (hex n) ∙ (digits_is_IsNumeral 16 false (omega arith) (omega arith) n (omega arith)).1

file_injective : (i x j y : ℕ) → i < 2 ^ 64 → x < 2 ^ 64 → j < 2 ^ 64 → y < 2 ^ 64 → file_object_text i x ≡ file_object_text j y → File i x ≡ File j y
file_injective i x j y a b c d e =
    let apart : hex i ++ 46 ∷ hex_padded 8 x ≡ hex j ++ 46 ∷ hex_padded 8 y = sym (append_assoc (hex i) (46 ∷ []) (hex_padded 8 x)) ∙ e ∙ append_assoc (hex j) (46 ∷ []) (hex_padded 8 y) in
    let parts = parted (hex i) (hex j) (hex_padded 8 x) (hex_padded 8 y) 46 46 (hex-AllDigits 0 i a) (hex-AllDigits 0 j c) (omega arith) (omega arith) apart in
    let behind : hex_padded 8 x ≡ hex_padded 8 y = (let same = parts.1 in cc) in
    ap (λ (n : ℕ). File n x) (hex-injective i j a c parts.0) ∙ ap (λ (n : ℕ). File j n) (hex_padded-injective x y b d behind)

file_no_table : (i x : ℕ) (rest : List ℕ) → i < 2 ^ 64 → file_object_text i x ≡ 109 ∷ rest → ⊥
file_no_table i x rest a e =
    let apart : hex i ++ 46 ∷ hex_padded 8 x ≡ 109 ∷ rest = sym (append_assoc (hex i) (46 ∷ []) (hex_padded 8 x)) ∙ e in
    let behind = (parted (hex i) [] (hex_padded 8 x) rest 46 109 (hex-AllDigits 0 i a) tt (omega arith) (omega arith) apart).1 in
    absurd cc

table_parts : (r s : ℕ) (kind other : List ℕ) → r ≤ 15 → s ≤ 15 → codes "mds" ++ decimal r ++ 95 ∷ kind ≡ codes "mds" ++ decimal s ++ 95 ∷ other → (r ≡ s) × (kind ≡ other)
table_parts r s kind other a b e =
    let apart : decimal r ++ 95 ∷ kind ≡ decimal s ++ 95 ∷ other = cc in
    let parts = parted (decimal r) (decimal s) kind other 95 95 (decimal-AllDigits r a) (decimal-AllDigits s b) (omega arith) (omega arith) apart in
    (decimal_injective r s (omega arith) (omega arith) parts.0, (let same = parts.1 in cc))

pub object_text-injective : (a b : ObjectName) → IsObjectName a → IsObjectName b → object_text a ≡ object_text b → a ≡ b
object_text-injective (File i x) (File j y) p q e = file_injective i x j y p.0 p.1 q.0 q.1 e
object_text-injective (File i x) (InoTable s) p q e = absurd (file_no_table i x _ p.0 e)
object_text-injective (File i x) (SessionMap s) p q e = absurd (file_no_table i x _ p.0 e)
object_text-injective (InoTable r) (File j y) p q e = absurd (file_no_table j y _ q.0 (sym e))
object_text-injective (InoTable r) (InoTable s) p q e = ap InoTable (table_parts r s _ _ p q e).0
object_text-injective (InoTable r) (SessionMap s) p q e = let same = (table_parts r s (codes "inotable") (codes "sessionmap") p q e).1 in absurd cc
object_text-injective (SessionMap r) (File j y) p q e = absurd (file_no_table j y _ q.0 (sym e))
object_text-injective (SessionMap r) (InoTable s) p q e = let same = (table_parts r s (codes "sessionmap") (codes "inotable") p q e).1 in absurd cc
object_text-injective (SessionMap r) (SessionMap s) p q e = ap SessionMap (table_parts r s _ _ p q e).0

name_cmp-same : (a : ObjectName) → name_cmp a a ≡ Equal
name_cmp-same a = tied (slice_cmp nat_cmp (name_numbers a) (name_numbers a)) (sym (texts_ties (name_numbers a) (name_numbers a)) ∙ nat_list_eq_equiv.refl (name_numbers a))
  where
    tied : (o : Ordering) → is_eq o ≡ true → o ≡ Equal
    tied Less e = absurd cc
    tied Equal e = refl
    tied Greater e = absurd cc

-- what was found for a text is the object that the text names
pub found-is : (text : List ℕ) (found name : ObjectName) → text ≡ object_text found → IsObjectName found → IsObjectName name → text ≡ object_text name → Some found ≡ Some name
found-is text found name is in_range fits same = ap (λ (n : ObjectName). Some n) (object_text-injective found name in_range fits (sym is ∙ same))

-- where no file's text was found, a table is found where the text names one
module _ (text : List ℕ) (o : Option ObjectName) (named : IfSome o (λ name. text ≡ object_text name)) (in_range : IfSome o IsObjectName)
    (none : IfNone o ((rank : ℕ) → rank ≤ 15 → (text ≢ object_text (InoTable rank)) × (text ≢ object_text (SessionMap rank)))) where
  found_by : (p : Option ObjectName) (name : ObjectName) → IfSome p (λ n. text ≡ object_text n) → IfSome p IsObjectName → (p ≡ None → text ≢ object_text name) → IsObjectName name → text ≡ object_text name → p ≡ Some name
  found_by (Some found) name is ranges not_there fits same = found-is text found name is ranges fits same
  found_by None name is ranges not_there fits same = absurd (not_there refl same)

  at_none : (p : Option ObjectName) (P : Type 0) → IfNone p P → p ≡ None → P
  at_none None P h e = h
  at_none (Some x) P h e = absurd cc

  pub table-found : ((ino index : ℕ) → ino < 2 ^ 64 → index < 2 ^ 64 → text ≡ object_text (File ino index) → ⊥) → (name : ObjectName) → IsObjectName name → text ≡ object_text name → o ≡ Some name
  table-found file (File i x) fits same = absurd (file i x fits.0 fits.1 same)
  table-found file (InoTable r) fits same = found_by o (InoTable r) named in_range (λ e. (at_none o _ none e r fits).0) fits same
  table-found file (SessionMap r) fits same = found_by o (SessionMap r) named in_range (λ e. (at_none o _ none e r fits).1) fits same

-- where the texts tie, the names are one, so that the order goes by the texts alone
same_order : (o : Ordering) (a b : ObjectName) → object_cmp a b ≡ o → (o ≡ Equal → a ≡ b) → o ≡ ordering_then o (name_cmp a b)
same_order Less a b e f = refl
same_order Equal a b e f = sym (ap (name_cmp a) (sym (f refl)) ∙ name_cmp-same a)
same_order Greater a b e f = refl

pub object_order-text : (a b : ObjectName) → IsObjectName a → IsObjectName b → object_cmp a b ≡ object_order a b
object_order-text a b p q = same_order (object_cmp a b) a b refl (λ tie. object_text-injective a b p q (same_text (object_text a) (object_text b) (sym (texts_ties (object_text a) (object_text b) ∙ ap is_eq tie))))
