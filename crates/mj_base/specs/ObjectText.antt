-- The text of the name of an inode's object.
use Rattle.std.specs.Prelude.{ℕ, ◌-◌, false, List, ◌++◌, length, replicate, codes}
use Rattle.std.specs.Fmt.{digits}

-- lower-case hexadecimal digits, without leading zeros
abbrev pub hex : ℕ → List ℕ
hex n = digits 16 false n

-- at least so many of them
abbrev pub hex_padded : ℕ → ℕ → List ℕ
hex_padded least n = replicate (least - length (hex n)) 48 ++ hex n

-- the inode, a dot, and the index in at least 8 digits
abbrev pub file_object_text : ℕ → ℕ → List ℕ
file_object_text ino index = hex ino ++ codes "." ++ hex_padded 8 index
