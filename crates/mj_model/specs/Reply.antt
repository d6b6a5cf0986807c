-- Which words are those of a reply.
use Rattle.std.specs.Prelude.{ℕ, ◌-◌, ◌^◌, Bool, true, false, ◌||◌, ◌==◌, List, [], ◌∷◌, length, codes, if◌then◌else◌, Option, None, Some, is_some}
use Rattle.std.specs.List.{list_all}
use Rattle.mj_base.specs.InOrder.{same_bytes}
use Rattle.mj_base.specs.Name.{name_refusal}
use Rattle.mj_base.specs.PathText.{unescaped}
use Rattle.mj_texts.specs.Words.{◌>>=◌, field}
use Rattle.mj_texts.specs.Number.{number_of, mode_of}
use Rattle.mj_texts.specs.Request.{of_result, unless_refused, u32_in, u64_in, target_in}

abbrev pub has_no_more : List (List ℕ) → Bool
has_no_more [] = true
has_no_more (word ∷ words) = false

-- something was read, and no word is left
abbrev pub is_whole : {A : Type 0} → Option (A × List (List ℕ)) → Bool
is_whole None = false
is_whole (Some x) = has_no_more x.1

abbrev pub is_kind : List ℕ → Bool
is_kind word = same_bytes word (codes "dir") || same_bytes word (codes "file") || same_bytes word (codes "symlink")

abbrev pub kind_in : List ℕ → Option Bool
kind_in word = if is_kind word then Some true else None

-- four octal digits
abbrev pub octal_in : List ℕ → Option ℕ
octal_in word = if length word == 4 then mode_of word else None

-- the numbers of a record: its inode, kind, mode, owner, group, size, time and links
abbrev pub found_of : List (List ℕ) → Option (ℕ × List (List ℕ))
found_of words = do
  ino ← field u64_in words
  kind ← field kind_in ino.1
  mode ← field octal_in kind.1
  uid ← field u32_in mode.1
  gid ← field u32_in uid.1
  size ← field u64_in gid.1
  mtime ← field u64_in size.1
  field u32_in mtime.1

abbrev pub is_name_word : List ℕ → Bool
is_name_word word = is_some (of_result (unescaped word) >>= λ bytes. unless_refused (name_refusal bytes) bytes)

abbrev pub is_reply : List (List ℕ) → Bool
is_reply [] = false
is_reply (word ∷ words) =
    if same_bytes word (codes "done") then is_whole (field u64_in words) else
    if same_bytes word (codes "error") then is_whole (field (number_of (2 ^ 16 - 1)) words) else
    if same_bytes word (codes "found") then is_whole (found_of words) else
    if same_bytes word (codes "names") then list_all is_name_word words else
    if same_bytes word (codes "target") then is_whole (field target_in words) else false
