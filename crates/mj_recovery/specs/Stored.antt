-- Cells as objects hold them: which object holds a key, how it is spelled there, and how it is read.
use Rattle.std.specs.Prelude.{ℕ, zero, ◌+◌, ◌-◌, ◌*◌, not, ◌&&◌, ◌==◌, nat_le, List, [], ◌∷◌, ◌++◌, length, take, drop, filter_map, is_none, if◌then◌else◌, Option, None, Some, option_map, option_and_then, Ok, Err, codes, slice_index}
use Rattle.mj_maps.specs.Map.{entries}
use Rattle.mj_base.specs.InOrder.{same_bytes}
use Rattle.mj_base.specs.Reading.{eight, Read, ◌>>=◌, such, u64_at}
use Rattle.mj_base.specs.Name.{is_name}
use Rattle.mj_base.specs.ObjectName.{hex_padded}
use Rattle.mj_base.specs.Record.{kind_code, kind_at, record_bytes, record_at}
use Rattle.mj_base.specs.declared.object.ObjectName.{ObjectName}
use Rattle.mj_base.specs.declared.object.ObjectName.TheVariants.{File, InoTable, SessionMap}
use Rattle.mj_store.specs.Object.{Content, Contents}
use Rattle.mj_cells.specs.declared.cell.CellKey.{CellKey}
use Rattle.mj_cells.specs.declared.cell.CellKey.TheVariants as key
use Rattle.mj_cells.specs.declared.cell.CellValue.{CellValue}
use Rattle.mj_cells.specs.declared.cell.CellValue.TheVariants as value
use Rattle.mj_cells.specs.declared.cell.CellWrite.{CellWrite}
use Rattle.mj_cells.specs.Table.{last_of}
use Rattle.mj_event.specs.Writes.{write}

-- the object that holds a key; an open is held nowhere
abbrev pub object_of : ℕ → CellKey → Option ObjectName
object_of rank (key.Dentry dir name) = Some (File dir 0)
object_of rank (key.DirHead dir) = Some (File dir 0)
object_of rank key.NextIno = Some (InoTable rank)
object_of rank (key.Session client) = Some (SessionMap rank)
object_of rank (key.Done client tid) = Some (SessionMap rank)
object_of rank (key.OpenOf client ino) = None

-- ---- spelling

abbrev pub dentry_key : List ℕ → List ℕ
dentry_key name = name ++ codes "_head"

abbrev pub session_key : ℕ → List ℕ
session_key client = hex_padded 8 client

abbrev pub reply_key : ℕ → ℕ → List ℕ
reply_key client tid = hex_padded 8 client ++ codes "." ++ hex_padded 16 tid

-- the key of a cell among the pairs of its object; a head and the next inode stand in the object's head
abbrev pub pair_key : CellKey → Option (List ℕ)
pair_key (key.Dentry dir name) = Some (dentry_key name)
pair_key (key.Session client) = Some (session_key client)
pair_key (key.Done client tid) = Some (reply_key client tid)
pair_key _ = None

-- a dentry begins with 1 or 2, and a number is its eight bytes; what is not there is not stored
abbrev pub value_bytes : CellValue → List ℕ
value_bytes (value.Full version inode) = 1 ∷ eight version ++ record_bytes inode
value_bytes (value.Remote version ino kind) = 2 ∷ eight version ++ eight ino ++ kind_code kind ∷ []
value_bytes (value.Number n) = eight n
value_bytes _ = []

-- ---- reading: a value has all of its bytes

abbrev pub where_empty : {A : Type 0} → List ℕ → A → Option A
where_empty [] x = Some x
where_empty (b ∷ rest) x = None

abbrev pub entire : {A : Type 0} → Read A → Option A
entire (Err left) = None
entire (Ok x) = where_empty x.1 x.0

abbrev pub number_in : List ℕ → Option CellValue
number_in bytes = option_map value.Number (entire (u64_at bytes))

unfoldable pub full_in : List ℕ → Read CellValue
full_in bytes = do
  version ← u64_at bytes
  inode ← record_at version.1
  Ok (value.Full version.0 inode.0, inode.1)

unfoldable pub remote_in : List ℕ → Read CellValue
remote_in bytes = do
  version ← u64_at bytes
  ino ← u64_at version.1
  kind ← such (λ k. not (kind_code k == 1)) kind_at ino.1
  Ok (value.Remote version.0 ino.0 kind.0, kind.1)

abbrev pub dentry_in : List ℕ → Option CellValue
dentry_in [] = None
dentry_in (b ∷ bytes) = if b == 1 then entire (full_in bytes) else if b == 2 then entire (remote_in bytes) else None

-- a name with `_head` behind it
abbrev pub name_in : List ℕ → Option (List ℕ)
name_in text = let n = length text - 5 in if same_bytes (drop n text) (codes "_head") && is_name (take n text) then Some (take n text) else None

-- lower-case hexadecimal digits
abbrev pub hex_digit : ℕ → Option ℕ
hex_digit b = if nat_le 48 b && nat_le b 57 then Some (b - 48) else if nat_le 97 b && nat_le b 102 then Some (b - 87) else None

abbrev pub hex_after : ℕ → List ℕ → Option ℕ
hex_after n [] = Some n
hex_after n (b ∷ text) = option_and_then (λ d. hex_after (n * 16 + d) text) (hex_digit b)

abbrev pub hex_number : List ℕ → Option ℕ
hex_number text = hex_after 0 text

-- 8 digits are a client, and behind a dot 16 more a tid of it
abbrev pub reply_in : List ℕ → Option CellKey
reply_in text = option_and_then (λ client. option_map (λ tid. key.Done client tid) (hex_number (drop 9 text))) (hex_number (take 8 text))

abbrev pub session_in : List ℕ → Option CellKey
session_in text = if length text == 8 then option_map key.Session (hex_number text)
    else if (length text == 25) && (slice_index text 8 == 46) then reply_in text else None

abbrev pub cell : Option CellKey → Option CellValue → Option CellWrite
cell (Some k) (Some v) = Some (write k v)
cell _ _ = None

-- the cell that one pair of an object is, and the cell that its head is; none where they are outside the format
abbrev pub pair_cell : ObjectName → List ℕ × List ℕ → Option CellWrite
pair_cell (File dir zero) p = cell (option_map (key.Dentry dir) (name_in p.0)) (dentry_in p.1)
pair_cell (SessionMap rank) p = cell (session_in p.0) (number_in p.1)
pair_cell _ p = None

abbrev pub head_cell : ObjectName → List ℕ → Option CellWrite
head_cell (File dir zero) head = cell (Some (key.DirHead dir)) (number_in head)
head_cell (InoTable rank) head = cell (Some key.NextIno) (number_in head)
head_cell _ head = None

-- ---- objects

abbrev pub head_cells : ObjectName → Option (List ℕ) → List CellWrite
head_cells name None = []
head_cells name (Some head) = filter_map (head_cell name) (head ∷ [])

-- the cells that a named object holds
abbrev pub object_cells : ObjectName → Content → List CellWrite
object_cells name o = head_cells name o.head ++ filter_map (pair_cell name) (entries o.pairs)

-- the first key whose pair is outside the format
abbrev pub bad_pair : ObjectName → List (List ℕ × List ℕ) → Option (List ℕ)
bad_pair name [] = None
bad_pair name (p ∷ ps) = if is_none (pair_cell name p) then Some p.0 else bad_pair name ps

-- the key of the first thing in an object that is outside the format: it is empty for the head, which comes first
abbrev pub bad_key : ObjectName → Content → Option (List ℕ)
bad_key name o = by_head o.head
  where
    by_head : Option (List ℕ) → Option (List ℕ)
    by_head None = bad_pair name (entries o.pairs)
    by_head (Some head) = if is_none (head_cell name head) then Some [] else bad_pair name (entries o.pairs)

-- ---- what is stored at one key

abbrev pub among : CellKey → ObjectName → Option Content → CellValue
among k name None = value.Gone
among k name (Some o) = last_of k (object_cells name o) value.Gone

-- the cell of a key as its object holds it, gone where it holds none
abbrev pub stored_cell : Contents → ℕ → CellKey → CellValue
stored_cell image rank k = by_name (object_of rank k)
  where
    by_name : Option ObjectName → CellValue
    by_name None = value.Gone
    by_name (Some name) = among k name (image name)
