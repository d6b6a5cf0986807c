-- Reading the objects of an image, with the first field that is wrong and what is wrong with it.
use Rattle.std.specs.Prelude.{ℕ, zero, suc, Bool, if◌then◌else◌, List, [], ◌∷◌, length, Option, None, Some, option_map, Result, Ok, Err}
use Rattle.std.specs.Ordering.{is_lt}
use Rattle.mj_base.specs.Reading.{Read, ◌>>=◌, bytes_at, u16_at, u32_at, u64_at}
use Rattle.mj_base.specs.Reading.{is_above}
use Rattle.mj_base.specs.ObjectName.{object_order}
use Rattle.mj_base.specs.declared.object.ObjectName.{ObjectName}
use Rattle.mj_store.specs.declared.act.Pair.{Pair}
use Rattle.mj_store.specs.declared.held.HeldObject.{HeldObject}
use Rattle.mj_store.specs.Pages.{is_above as is_key_above}
use Rattle.mj_image.specs.declared.flaw.Flaw.{Flaw}
use Rattle.mj_image.specs.declared.flaw.Flaw.TheVariants.{Cut, BadName, BadOrder, BadFlag}
use Rattle.mj_image.specs.Naming.{object_named}

-- A value and the bytes behind it; or what is wrong, with the bytes from the first of the wrong field to the end.
abbrev pub Reading : Type 0 → Type 0
Reading A = Result (A × List ℕ) Flaw

-- a field that is wrong only where the bytes end in it
abbrev pub whole : {A : Type 0} → Read A → Reading A
whole (Ok x) = Ok x
whole (Err left) = Err (Cut left)

-- fields one after another, each given the one before it
abbrev pub run_of : {A : Type 0} → (Option A → List ℕ → Reading A) → ℕ → Option A → List ℕ → Reading (List A)
run_of field zero before bytes = Ok ([], bytes)
run_of field (suc n) before bytes = field before bytes >>= λ x. run_of field n (Some x.0) x.1 >>= λ xs. Ok (x.0 ∷ xs.0, xs.1)

abbrev pub named_or : {A : Type 0} → ℕ → Option A → List ℕ → Reading A
named_or left None rest = Err (BadName left)
named_or left (Some x) rest = Ok (x, rest)

abbrev pub name_above : Option ObjectName → ObjectName → Bool
name_above = is_above (λ a b. is_lt (object_order a b))

-- so many bytes, which are the text of a name
abbrev pub named_at : ℕ → List ℕ → Reading ObjectName
named_at n bytes = whole (bytes_at n bytes) >>= λ text. named_or (length bytes) (object_named text.0) text.1

-- a name's text, whose length and bytes are two fields
unfoldable pub name_at : Option ObjectName → List ℕ → Reading ObjectName
name_at before bytes = do
  n ← whole (u16_at bytes)
  name ← named_at n.0 n.1
  if name_above before name.0 then Ok name else Err (BadOrder (length n.1))

unfoldable pub key_at : Option (List ℕ) → List ℕ → Reading (List ℕ)
key_at before bytes = do
  n ← whole (u16_at bytes)
  key ← whole (bytes_at n.0 n.1)
  if is_key_above before key.0 then Ok key else Err (BadOrder (length n.1))

-- bytes behind their length
unfoldable pub long_at : List ℕ → Reading (List ℕ)
long_at bytes = do
  n ← whole (u32_at bytes)
  whole (bytes_at n.0 n.1)

unfoldable pub pair_at : Option Pair → List ℕ → Reading Pair
pair_at before bytes = do
  key ← key_at (option_map (λ (p : Pair). p.key) before) bytes
  value ← long_at key.1
  Ok (record { key = key.0; value = value.0 }, value.1)

-- a flag, and behind a 1 the head
abbrev pub head_at : List ℕ → Reading (Option (List ℕ))
head_at [] = Err (Cut 0)
head_at (zero ∷ bytes) = Ok (None, bytes)
head_at (suc zero ∷ bytes) = long_at bytes >>= λ x. Ok (Some x.0, x.1)
head_at (suc (suc flag) ∷ bytes) = Err (BadFlag (suc (length bytes)))

unfoldable pub object_at : Option HeldObject → List ℕ → Reading HeldObject
object_at before bytes = do
  name ← name_at (option_map (λ (h : HeldObject). h.name) before) bytes
  n ← whole (u64_at name.1)
  data_bytes ← whole (bytes_at n.0 n.1)
  head ← head_at data_bytes.1
  count ← whole (u32_at head.1)
  pairs ← run_of pair_at count.0 None count.1
  Ok (record { name = name.0; bytes = data_bytes.0; head = head.0; pairs = pairs.0 }, pairs.1)

-- all objects behind their count
unfoldable pub objects_at : List ℕ → Reading (List HeldObject)
objects_at bytes = do
  count ← whole (u32_at bytes)
  run_of object_at count.0 None count.1
