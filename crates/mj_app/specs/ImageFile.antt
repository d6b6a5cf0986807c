-- What an image file gives, and what is written to it.
use Rattle.std.specs.Prelude.{◌≡◌, ◌⊎◌, ℕ, ◌-◌, ◌^◌, ◌<◌, min, List, [], length, Option, Some, None, option_map, Ok}
use Rattle.mj_base.specs.Counts.{Rose}
use Rattle.mj_base.specs.Files.{FilesByName, IfTold, with_file}
use Rattle.mj_store.specs.declared.held.HeldObject.{HeldObject}
use Rattle.mj_store.specs.State.{contents}
use Rattle.mj_memstore.specs.Holding.{AreAll}
use Rattle.mj_memstore.specs.Store.{memory_state, memory_objects, IsNew}
use Rattle.mj_memstore.specs.declared.memory.MemStore.{MemStore}
use Rattle.mj_image.specs.Image.{image_bytes, most_bytes}
use Rattle.mj_image.specs.Whole.{image_of, IsImageRefusal}
use Rattle.mj_app.specs.declared.image_file.Unread.{Unread}
use Rattle.mj_app.specs.declared.image_file.Unread.TheVariants as unread
use Rattle.mj_app.specs.declared.read.ReadRefusal.{ReadRefusal}
use Rattle.mj_app.specs.declared.read.ReadRefusal.TheVariants as read
use Rattle.mj_app.specs.Call.{FilesState}
use Rattle.mj_app.specs.Read.{Named, Long}

-- ---- reading

-- the objects of a file's image: none where there is no such file
abbrev pub IsImageOf : Option (List ℕ) → List HeldObject → Type 0
IsImageOf None hs = hs ≡ []
IsImageOf (Some bytes) hs = image_of bytes ≡ Ok hs

-- a store that holds just these objects, and was asked nothing yet
pub record IsRead (told : Option FilesByName) (name : List ℕ) (store : MemStore) : Type 0 where
  pub objects : List HeldObject
  pub new : IsNew objects [] store
  pub image : IfTold told (λ held. IsImageOf (held name) objects)

-- the bytes that were read are no image
pub record IsNoImage (told : Option FilesByName) (name : List ℕ) (P : List ℕ → Type 0) : Type 0 where
  pub bytes : List ℕ
  pub named : Named told name bytes
  pub none : P bytes

-- The file is too long, or the files failed, or what was read is no image. Want of memory is free.
abbrev pub IsUnread : FilesState → FilesState → List ℕ → Unread → Type 0
IsUnread old new name (unread.File (read.FileTooLong n)) = Long old.told name n
IsUnread old new name (unread.File read.FileFault) = Rose old.faults new.faults
IsUnread old new name (unread.File read.Memory) = Unit {0}
IsUnread old new name (unread.File _) = ⊥
IsUnread old new name (unread.Image why) = IsNoImage old.told name (λ bytes. IsImageRefusal why (image_of bytes))

-- ---- writing

-- The file has the image of what the store holds, from which just its objects are read again. Every other file is as before.
pub record IsWritten (old new : FilesState) (name : List ℕ) (store : MemStore) : Type 0 where
  pub bytes : List ℕ
  pub image : bytes ≡ image_bytes (memory_objects store)
  pub again : image_of bytes ≡ Ok (memory_objects store)
  pub all : AreAll (memory_objects store) (contents (memory_state store))
  pub files : new.told ≡ option_map (with_file name bytes) old.told

-- the image is too long, or the files failed, or memory was wanted
abbrev pub IsWriteFault : FilesState → FilesState → MemStore → ReadRefusal → Type 0
IsWriteFault old new store (read.FileTooLong n) = (most_bytes < length (image_bytes (memory_objects store))) × (n ≡ min (length (image_bytes (memory_objects store))) (2 ^ 64 - 1))
IsWriteFault old new store read.FileFault = Rose old.faults new.faults
IsWriteFault old new store read.Memory = Unit {0}
IsWriteFault old new store _ = ⊥

-- no file was changed
pub record IsUnwritten (old new : FilesState) (store : MemStore) (why : ReadRefusal) : Type 0 where
  pub cause : IsWriteFault old new store why
  pub files : new.told ≡ old.told
