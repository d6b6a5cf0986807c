-- The words of damage.
use Rattle.std.proofs.Common.{◌≡◌, ℕ, false, List, [], ◌∷◌, ◌==◌, length, refl}
use Rattle.mj_base.specs.Name.{escaped}
use Rattle.mj_texts.specs.DamageText.{key_words}

-- a key that is printed
pub some_key : (key : List ℕ) → (length key == 0) ≡ false → key_words key ≡ escaped key ∷ []
some_key [] h = absurd cc
some_key (b ∷ key) h = refl
