-- Words, read one after another.
use Rattle.std.proofs.Common.{◌≡◌, ℕ, List, [], ◌∷◌, Option, Some, None, option_map, refl, sym, ap, ◌∙◌}
use Rattle.mj_texts.specs.Words.{◌>>=◌}
use Rattle.mj_app.specs.Words.{Next, Anything, Value, Only, Piece, Read, GivenValue, read_word, with_piece, given, given_by, pieces}
use Rattle.mj_app.specs.WordsRead.{ReadingValue, given_if, after_word, at_last, behind_these}

-- what one word gives comes first
piece_first : (p : Option Piece) (g : GivenValue) (ps : Option (List Piece)) → (ps >>= λ qs. Some (with_piece p qs)) >>= (λ qs. given_by qs g) ≡ given_if p g >>= (λ h. ps >>= λ qs. given_by qs h)
piece_first None g None = refl
piece_first None g (Some qs) = refl
piece_first (Some p) g ps = by (given p g) refl ps
  where
    by : (h : Option GivenValue) → given p g ≡ h → (ps : Option (List Piece)) → (ps >>= λ qs. Some (p ∷ qs)) >>= (λ qs. given_by qs g) ≡ h >>= (λ k. ps >>= λ qs. given_by qs k)
    by None is None = refl
    by None is (Some qs) = ap (λ h. h >>= given_by qs) is
    by (Some k) is None = refl
    by (Some k) is (Some qs) = ap (λ h. h >>= given_by qs) is

-- all that is left, by its first word
pub one_word : (r : ReadingValue) (word : List ℕ) (words : List (List ℕ)) → behind_these r (word ∷ words) ≡ after_word r word >>= λ s. behind_these s words
one_word r word words = by (read_word r.next word)
  where
    by : (read : Option Read) → (read >>= λ x. pieces x.next words >>= λ ps. Some (with_piece x.piece ps)) >>= (λ ps. given_by ps r.given) ≡ (read >>= λ x. given_if x.piece r.given >>= λ g. Some (record { given = g; next = x.next })) >>= λ s. behind_these s words
    by None = refl
    by (Some x) = piece_first x.piece r.given (pieces x.next words) ∙ given_then (given_if x.piece r.given)
      where
        given_then : (h : Option GivenValue) → h >>= (λ k. pieces x.next words >>= λ qs. given_by qs k) ≡ (h >>= λ g. Some (record { given = g; next = x.next })) >>= λ s. behind_these s words
        given_then None = refl
        given_then (Some k) = refl

pub no_word : (r : ReadingValue) → behind_these r [] ≡ at_last r
no_word r = by r.next
  where
    by : (next : Next) → (pieces next [] >>= λ ps. given_by ps r.given) ≡ (pieces next [] >>= λ ps. Some r.given)
    by Anything = refl
    by (Value name) = refl
    by Only = refl
