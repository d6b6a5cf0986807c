-- The object that a text names.
use Rattle.std.specs.Prelude.{ℕ, zero, suc, ◌+◌, ◌^◌, Bool, ◌&&◌, ◌==◌, nat_lt, nat_le, if◌then◌else◌, List, [], ◌∷◌, take, drop, Option, Some, None, position, unwrap_or}
use Rattle.std.specs.Str.Parse.{digits_value}
use Rattle.mj_base.specs.InOrder.{same_bytes}
use Rattle.mj_base.specs.ObjectName.{object_text}
use Rattle.mj_base.specs.declared.object.ObjectName.{ObjectName}
use Rattle.mj_base.specs.declared.object.ObjectName.TheVariants.{File, InoTable, SessionMap}

-- a name that there is, with numbers of 64 bits and a rank up to 15
abbrev pub is_object_name : ObjectName → Bool
is_object_name (File ino index) = nat_lt ino (2 ^ 64) && nat_lt index (2 ^ 64)
is_object_name (InoTable rank) = nat_le rank 15
is_object_name (SessionMap rank) = nat_le rank 15

-- the file with the numbers before the first dot and behind it
abbrev pub file_named : List ℕ → ObjectName
file_named text = let dot = unwrap_or (position (λ b. b == 46) text) 0 in File (digits_value 16 (take dot text)) (digits_value 16 (drop (dot + 1) text))

-- the tables of the ranks below this
abbrev pub tables : ℕ → List ObjectName
tables zero = []
tables (suc rank) = InoTable rank ∷ SessionMap rank ∷ tables rank

abbrev pub is_text_of : List ℕ → ObjectName → Bool
is_text_of text name = is_object_name name && same_bytes (object_text name) text

abbrev pub first_with : List ℕ → List ObjectName → Option ObjectName
first_with text [] = None
first_with text (name ∷ names) = if is_text_of text name then Some name else first_with text names

-- of all names that the text may be of, the one that it is of
unfoldable pub object_named : List ℕ → Option ObjectName
object_named text = first_with text (file_named text ∷ tables 16)
