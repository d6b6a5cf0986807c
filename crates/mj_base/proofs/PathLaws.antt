-- The texts of paths, both ways.
use Rattle.std.proofs.Common.{◌≡◌, ℕ, zero, suc, ◌+◌, ◌<◌, ◌≤◌, Bool, true, false, cond, eqb, ltb, List, [], ◌∷◌, ◌++◌, length, Option, None, Some, Ok, Err, refl, sym, ap, ◌∙◌, arith}
use Rattle.std.specs.Prelude.{Result, ◌&&◌, not, nat_le, nat_lt, ◌==◌}
use Rattle.std.specs.List.{list_all, flat_map, onto_first, join_with_byte}
use Rattle.std.proofs.lemmas.Bool.{and_parts, le-ltb, leb-true, not-true, ltb-true, eqb-true, ne_eqb, or_parts}
use Rattle.std.proofs.lemmas.List.{append-nil, length-append}
use Rattle.std.proofs.lemmas.List.Concat.{flat_map-append}
use Rattle.std.proofs.lemmas.List.Splits.{slice_split-cons_yes, slice_split-cons_no, join_with_byte-slice_split, length-slice_split}
use Rattle.mj_base.specs.declared.name.NameRefusal.{NameRefusal}
use Rattle.mj_base.specs.declared.path.PathRefusal.{PathRefusal}
use Rattle.mj_base.specs.declared.path.PathRefusal.TheVariants.{NoSlash, TooDeep}
use Rattle.mj_base.specs.Name.{is_name_byte, is_bad_byte, is_dots, is_name, is_path, escaped, escaped_byte, path_text}
use Rattle.mj_base.specs.PathText.{unescaped, bad_name, or_later, or_refusal, names_of, names_in, path_of}
use Rattle.mj_base.proofs.Codec.{IsBytes}
use Rattle.mj_base.proofs.NameLemmas.{name_refusal-none}
use Rattle.mj_base.proofs.PathLemmas.{parts_of, names_of-parts}
use Rattle.mj_base.proofs.EscapeLaws.{unescaped-escaped, escaped-unescaped}

-- the names, with a slash before each but the first
abbrev joined : List ℕ → List (List ℕ) → List ℕ
joined name names = name ++ flat_map (λ n. 47 ∷ n) names

-- ---- the text of a path stands for it

name_parts : (name : List ℕ) → is_name name ≡ true → (1 ≤ length name) × (list_all is_name_byte name ≡ true)
name_parts name h =
    let apart = and_parts (nat_le 1 (length name) && nat_le (length name) 255 && list_all is_name_byte name) (not (is_dots name)) h in
    let all = and_parts (nat_le 1 (length name) && nat_le (length name) 255) (list_all is_name_byte name) apart.0 in
    (leb-true 1 (length name) (and_parts (nat_le 1 (length name)) (nat_le (length name) 255) all.0).0, all.1)

byte_parts : (b : ℕ) → is_name_byte b ≡ true → (b < 256) × ((b == 47) ≡ false)
byte_parts b h =
    let parts = and_parts (nat_lt b 256) (not (is_bad_byte b)) h in
    (ltb-true b 256 parts.0, (or_parts (b == 0) (b == 47) (not-true (is_bad_byte b) parts.1)).1)

split_name : (name rest : List ℕ) → list_all is_name_byte name ≡ true → parts_of (name ++ 47 ∷ rest) ≡ name ∷ parts_of rest
split_name [] rest h = slice_split-cons_yes (λ b. eqb b 47) 47 rest refl
split_name (b ∷ name) rest h =
    let parts = and_parts (is_name_byte b) (list_all is_name_byte name) h in
    slice_split-cons_no (λ x. eqb x 47) b (name ++ 47 ∷ rest) (byte_parts b parts.0).1 ∙ ap (onto_first b) (split_name name rest parts.1)

split_last : (name : List ℕ) → list_all is_name_byte name ≡ true → parts_of name ≡ name ∷ []
split_last [] h = refl
split_last (b ∷ name) h =
    let parts = and_parts (is_name_byte b) (list_all is_name_byte name) h in
    slice_split-cons_no (λ x. eqb x 47) b name (byte_parts b parts.0).1 ∙ ap (onto_first b) (split_last name parts.1)

parts_of-joined : (name : List ℕ) (names : List (List ℕ)) → is_name name ≡ true → list_all is_name names ≡ true → parts_of (joined name names) ≡ name ∷ names
parts_of-joined name [] h hs = ap parts_of (append-nil name) ∙ split_last name (name_parts name h).1
parts_of-joined name (m ∷ ms) h hs =
    let parts = and_parts (is_name m) (list_all is_name ms) hs in
    split_name name (joined m ms) (name_parts name h).1 ∙ ap (λ (xs : List (List ℕ)). name ∷ xs) (parts_of-joined m ms parts.0 parts.1)

bad_name-none : (k : ℕ) (names : List (List ℕ)) → list_all is_name names ≡ true → bad_name k names ≡ None
bad_name-none k [] h = refl
bad_name-none k (name ∷ names) h =
    let parts = and_parts (is_name name) (list_all is_name names) h in
    ap (λ (o : Option NameRefusal). or_later k o (bad_name (k + 1) names)) (name_refusal-none name parts.0) ∙ bad_name-none (k + 1) names parts.1

escaped-flat : (names : List (List ℕ)) → escaped (flat_map (λ n. 47 ∷ n) names) ≡ flat_map (λ n. 47 ∷ escaped n) names
escaped-flat [] = refl
escaped-flat (name ∷ names) =
    ap (λ (x : List ℕ). 47 ∷ x) (flat_map-append escaped_byte name (flat_map (λ n. 47 ∷ n) names)) ∙ ap (λ (x : List ℕ). 47 ∷ (escaped name ++ x)) (escaped-flat names)

escaped-joined : (name : List ℕ) (names : List (List ℕ)) → escaped (joined name names) ≡ escaped name ++ flat_map (λ n. 47 ∷ escaped n) names
escaped-joined name names = flat_map-append escaped_byte name (flat_map (λ n. 47 ∷ n) names) ∙ ap (λ (x : List ℕ). escaped name ++ x) (escaped-flat names)

IsBytes-cons : (b : ℕ) (bytes : List ℕ) → b < 256 → IsBytes bytes → IsBytes (b ∷ bytes)
IsBytes-cons b bytes small fits zero = small
IsBytes-cons b bytes small fits (suc i) = fits i

IsBytes-name : (name rest : List ℕ) → list_all is_name_byte name ≡ true → IsBytes rest → IsBytes (name ++ rest)
IsBytes-name [] rest h fits = fits
IsBytes-name (b ∷ name) rest h fits =
    let parts = and_parts (is_name_byte b) (list_all is_name_byte name) h in
    IsBytes-cons b (name ++ rest) (byte_parts b parts.0).0 (IsBytes-name name rest parts.1 fits)

IsBytes-flat : (names : List (List ℕ)) → list_all is_name names ≡ true → IsBytes (flat_map (λ n. 47 ∷ n) names)
IsBytes-flat [] h = λ i. omega arith
IsBytes-flat (name ∷ names) h =
    let parts = and_parts (is_name name) (list_all is_name names) h in
    IsBytes-cons 47 (name ++ flat_map (λ n. 47 ∷ n) names) (omega arith) (IsBytes-name name (flat_map (λ n. 47 ∷ n) names) (name_parts name parts.0).1 (IsBytes-flat names parts.1))

accepted : (names : List (List ℕ)) → length names ≤ 64 → or_refusal None names ≡ Ok names
accepted names short = ap (λ (t : Bool). cond t (Err (TooDeep (length names))) (Ok names)) (le-ltb 64 (length names) short)

names_of-joined : (name : List ℕ) (names : List (List ℕ)) → is_name name ≡ true → list_all is_name names ≡ true → length (name ∷ names) ≤ 64 → names_of (joined name names) ≡ Ok (name ∷ names)
names_of-joined name names h hs short =
    let some : (length (joined name names) == 0) ≡ false = ne_eqb _ 0 (λ e. omega (arith, length-append name (flat_map (λ n. 47 ∷ n) names), (name_parts name h).0)) in
    let parts = parts_of-joined name names h hs in
    names_of-parts (joined name names) some ∙ ap (λ (xs : List (List ℕ)). or_refusal (bad_name 0 xs) xs) parts
    ∙ ap (λ (o : Option PathRefusal). or_refusal o (name ∷ names)) (ap (λ (o : Option NameRefusal). or_later 0 o (bad_name 1 names)) (name_refusal-none name h) ∙ bad_name-none 1 names hs)
    ∙ accepted (name ∷ names) short

pub path_of-path_text : (names : List (List ℕ)) → is_path names ≡ true → path_of (path_text names) ≡ Ok names
path_of-path_text [] h = refl
path_of-path_text (name ∷ names) h =
    let parts = and_parts (nat_le (length (name ∷ names)) 64) (list_all is_name (name ∷ names)) h in
    let each = and_parts (is_name name) (list_all is_name names) parts.1 in
    let text : List ℕ = escaped name ++ flat_map (λ n. 47 ∷ escaped n) names in
    let bytes : IsBytes (joined name names) = IsBytes-name name (flat_map (λ n. 47 ∷ n) names) (name_parts name each.0).1 (IsBytes-flat names each.1) in
    let read : unescaped text ≡ Ok (joined name names) = ap unescaped (sym (escaped-joined name names)) ∙ unescaped-escaped (joined name names) bytes in
    ap (names_in (length text + 1)) read ∙ names_of-joined name names each.0 each.1 (leb-true _ 64 parts.0)

-- ---- a text that stands for a path is its

text_of-parts : (parts : List (List ℕ)) → 0 < length parts → 47 ∷ escaped (join_with_byte 47 parts) ≡ path_text parts
text_of-parts [] some = absurd (omega arith)
text_of-parts (p ∷ []) some = ap (λ (x : List ℕ). 47 ∷ x) (sym (append-nil (escaped p)))
text_of-parts (p ∷ q ∷ parts) some =
    ap (λ (x : List ℕ). 47 ∷ x) (flat_map-append escaped_byte p (47 ∷ join_with_byte 47 (q ∷ parts))) ∙ ap (λ (x : List ℕ). 47 ∷ (escaped p ++ x)) (text_of-parts (q ∷ parts) (omega arith))

kept : (t : Bool) (why : PathRefusal) (xs names : List (List ℕ)) → cond t (Err why) (Ok xs) ≡ Ok names → xs ≡ names
kept true why xs names e = absurd cc
kept false why xs names e = cc

unrefused : (o : Option PathRefusal) (xs names : List (List ℕ)) → or_refusal o xs ≡ Ok names → xs ≡ names
unrefused (Some why) xs names e = absurd cc
unrefused None xs names e = kept (ltb 64 (length xs)) (TooDeep (length xs)) xs names e

names_spelled : (bytes : List ℕ) (names : List (List ℕ)) → names_of bytes ≡ Ok names → 47 ∷ escaped bytes ≡ path_text names
names_spelled [] names e = let none : [] ≡ names = cc in ap path_text none
names_spelled (b ∷ bytes) names e =
    let whole : List ℕ = b ∷ bytes in
    ap (λ (x : List ℕ). 47 ∷ escaped x) (sym (join_with_byte-slice_split 47 whole)) ∙ text_of-parts (parts_of whole) (omega (arith, length-slice_split (λ x. eqb x 47) whole))
    ∙ ap path_text (unrefused (bad_name 0 (parts_of whole)) (parts_of whole) names e)

bytes_spelled : (len : ℕ) (text : List ℕ) (r : Result (List ℕ) ℕ) (names : List (List ℕ)) → unescaped text ≡ r → names_in len r ≡ Ok names → 47 ∷ text ≡ path_text names
bytes_spelled len text (Ok bytes) names is e = ap (λ (x : List ℕ). 47 ∷ x) (escaped-unescaped text bytes is) ∙ names_spelled bytes names e
bytes_spelled len text (Err left) names is e = absurd cc

slash_spelled : (t : Bool) (c : ℕ) (text : List ℕ) (names : List (List ℕ)) → (c == 47) ≡ t → cond t (names_in (length text + 1) (unescaped text)) (Err NoSlash) ≡ Ok names → c ∷ text ≡ path_text names
slash_spelled true c text names slash e = ap (λ (x : ℕ). x ∷ text) (eqb-true c 47 slash) ∙ bytes_spelled (length text + 1) text (unescaped text) names refl e
slash_spelled false c text names slash e = absurd cc

pub path_text-path_of : (text : List ℕ) (names : List (List ℕ)) → path_of text ≡ Ok names → text ≡ path_text names
path_text-path_of [] names e = absurd cc
path_text-path_of (c ∷ text) names e = slash_spelled (c == 47) c text names refl e
