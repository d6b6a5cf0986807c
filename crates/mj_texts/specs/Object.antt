-- Which object a word names.
use Rattle.std.specs.Prelude.{ℕ, zero, suc, ◌+◌, ◌^◌, Bool, ◌&&◌, ◌==◌, nat_lt, nat_le, List, [], ◌∷◌, ◌++◌, find, position, take, drop, Option, None, Some}
use Rattle.std.specs.Str.Parse.{digits_value}
use Rattle.mj_base.specs.InOrder.{same_bytes}
use Rattle.mj_base.specs.ObjectName.{object_text}
use Rattle.mj_base.specs.declared.object.ObjectName.{ObjectName}
use Rattle.mj_base.specs.declared.object.ObjectName.TheVariants.{File, InoTable, SessionMap}

-- the tables of the ranks up to this one
abbrev pub tables : ℕ → List ObjectName
tables zero = InoTable zero ∷ SessionMap zero ∷ []
tables (suc rank) = InoTable (suc rank) ∷ SessionMap (suc rank) ∷ tables rank

-- the object of an inode whose numbers stand on both sides of a dot
abbrev pub file_at : List ℕ → Option ℕ → List ObjectName
file_at word None = []
file_at word (Some dot) = File (digits_value 16 (take dot word)) (digits_value 16 (drop (dot + 1) word)) ∷ []

abbrev pub is_in_range : ObjectName → Bool
is_in_range (File ino index) = nat_lt ino (2 ^ 64) && nat_lt index (2 ^ 64)
is_in_range (InoTable rank) = nat_le rank 15
is_in_range (SessionMap rank) = nat_le rank 15

abbrev pub is_named : List ℕ → ObjectName → Bool
is_named word name = same_bytes word (object_text name) && is_in_range name

-- the object whose text the word is
unfoldable pub object_of : List ℕ → Option ObjectName
object_of word = find (is_named word) (file_at word (position (λ b. b == 46) word) ++ tables 15)
