-- Damage as text.
use Rattle.std.specs.Prelude.{ℕ, List, [], ◌∷◌, codes}
use Rattle.std.specs.Fmt.{decimal}
use Rattle.mj_base.specs.Name.{escaped}
use Rattle.mj_base.specs.ObjectName.{object_text}
use Rattle.mj_base.specs.declared.damage.Damage.{Damage}
use Rattle.mj_base.specs.declared.damage.Damage.TheVariants as damage
use Rattle.mj_tree.specs.Listing.{line}

-- a key is printed where it is not empty
abbrev pub key_words : List ℕ → List (List ℕ)
key_words [] = []
key_words (b ∷ key) = escaped (b ∷ key) ∷ []

-- the name of a damage and its numbers
abbrev pub damage_words : Damage → List (List ℕ)
damage_words damage.HeaderMissing = codes "HeaderMissing" ∷ []
damage_words (damage.HeaderBad at) = codes "HeaderBad" ∷ decimal at ∷ []
damage_words damage.HeaderOrder = codes "HeaderOrder" ∷ []
damage_words damage.Legacy = codes "Legacy" ∷ []
damage_words (damage.Hole p) = codes "Hole" ∷ decimal p ∷ []
damage_words (damage.BadSentinel p) = codes "BadSentinel" ∷ decimal p ∷ []
damage_words (damage.BadLength p n) = codes "BadLength" ∷ decimal p ∷ decimal n ∷ []
damage_words (damage.BadStart p n) = codes "BadStart" ∷ decimal p ∷ decimal n ∷ []
damage_words (damage.CutEntry p) = codes "CutEntry" ∷ decimal p ∷ []
damage_words (damage.BadEvent p at) = codes "BadEvent" ∷ decimal p ∷ decimal at ∷ []
damage_words (damage.NoSubtreeMap p) = codes "NoSubtreeMap" ∷ decimal p ∷ []
damage_words (damage.TableBad name) = codes "TableBad" ∷ object_text name ∷ []
damage_words (damage.DirfragBad ino key) = codes "DirfragBad" ∷ decimal ino ∷ key_words key
damage_words (damage.DirfragMissing ino) = codes "DirfragMissing" ∷ decimal ino ∷ []
damage_words (damage.TwoPrimaries ino) = codes "TwoPrimaries" ∷ decimal ino ∷ []
damage_words (damage.NoPrimary ino) = codes "NoPrimary" ∷ decimal ino ∷ []
damage_words (damage.BadLinks ino) = codes "BadLinks" ∷ decimal ino ∷ []
damage_words (damage.BadNext ino) = codes "BadNext" ∷ decimal ino ∷ []
damage_words (damage.BadOpen client ino) = codes "BadOpen" ∷ decimal client ∷ decimal ino ∷ []
damage_words (damage.BadSession client) = codes "BadSession" ∷ decimal client ∷ []
damage_words (damage.OverLimit n) = codes "OverLimit" ∷ decimal n ∷ []
damage_words damage.Unbuilt = codes "Unbuilt" ∷ []

abbrev pub damage_text : Damage → List ℕ
damage_text d = line (codes "damage" ∷ damage_words d)

abbrev pub bad_directory_text : ℕ → List ℕ → List ℕ
bad_directory_text ino key = damage_text (damage.DirfragBad ino key)
