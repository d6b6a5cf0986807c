-- Words one after another.
use Rattle.std.proofs.Common.{◌≡◌, ℕ, ◌≤◌, List, [], ◌∷◌, ◌++◌, length, get_or, drop, map, codes, decimal, replicate, ◌-◌, ◌^◌, false, arith, refl, sym, ap, ◌∙◌, append_assoc, append-nil}
use Rattle.std.specs.List.{flat_map}
use native.Mathlib.Nat.{sub-zero}
use Rattle.std.specs.Fmt.{padded_integral, format_spec, char_count}
use Rattle.mj_tree.specs.Listing.{words, attribute_words}
use Rattle.mj_tree.specs.State.{attributes_of}
use Rattle.mj_base.specs.Name.{escaped}
use Rattle.mj_texts.specs.Text.{reply_words}
use Rattle.mj_tree.specs.declared.request.Reply.{Reply}
use Rattle.mj_tree.specs.declared.request.Reply.TheVariants.{Done, Error, Found, Names, Link}

-- the words behind the first one, each behind a space
pub words_behind : {A : Type 0} (text : A → List ℕ) (w : List ℕ) (xs : List A) → words (w ∷ map text xs) ≡ w ++ flat_map (λ y. 32 ∷ text y) xs
words_behind text w [] = refl
words_behind text w (y ∷ xs) = ap (λ t. w ++ 32 ∷ t) (words_behind text (text y) xs)

pub words_first : {A : Type 0} (text : A → List ℕ) (xs : List A) (x : A) → 1 ≤ length xs → x ≡ get_or xs 0 x → words (map text xs) ≡ text x ++ flat_map (λ y. 32 ∷ text y) (drop 1 xs)
words_first text [] x some first = absurd (omega arith)
words_first text (y ∷ xs) x some first = rw first (words_behind text (text y) xs)

-- digits behind zeros up to a width
pub padded_zeros : (width : ℕ) (ds : List ℕ) → padded_integral (format_spec 32 0 4 width (2 ^ 64 - 1)) false [] ds ≡ replicate (width - length ds) 48 ++ ds
unfolding padded_integral char_count
padded_zeros width ds = simp (sub-zero, append-nil) refl

-- words behind others, of which there are some
then_one : (x : List ℕ) (ys : List (List ℕ)) → words (x ∷ ys) ≡ x ++ flat_map (λ y. 32 ∷ y) ys
then_one x [] = refl
then_one x (y ∷ ys) = ap (λ t. x ++ 32 ∷ t) (then_one y ys)

then_words : (x : List ℕ) (xs ys : List (List ℕ)) → words ((x ∷ xs) ++ ys) ≡ words (x ∷ xs) ++ flat_map (λ y. 32 ∷ y) ys
then_words x [] ys = then_one x ys ∙ ap (λ (t : List ℕ). t ++ flat_map (λ (y : List ℕ). 32 ∷ y) ys) (sym (append-nil x))
then_words x (y ∷ xs) ys = ap (λ t. x ++ 32 ∷ t) (then_words y xs ys) ∙ sym (append_assoc x (32 ∷ words (y ∷ xs)) (flat_map (λ z. 32 ∷ z) ys))

-- words behind those of a reply
pub reply_then : (reply : Reply) (ys : List (List ℕ)) → words (reply_words reply ++ ys) ≡ words (reply_words reply) ++ flat_map (λ y. 32 ∷ y) ys
reply_then (Done i) ys = then_words (codes "done") (decimal i ∷ []) ys
reply_then (Error e) ys = then_words (codes "error") (decimal e ∷ []) ys
reply_then (Found r) ys = then_words (codes "found") (decimal r.ino ∷ (attribute_words (attributes_of r) ++ decimal r.links ∷ [])) ys
reply_then (Names ns) ys = then_words (codes "names") (map escaped ns) ys
reply_then (Link t) ys = then_words (codes "target") (escaped t ∷ []) ys
