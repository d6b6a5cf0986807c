-- What a call over an image file says.
--     NotCalled   there is no store to begin with
--     Called      a call over the store of the image, and what was written back
--     ImageSays   by the words
use Rattle.std.specs.Prelude.{◌≡◌, ◌⊎◌, ◌≤◌, ℕ, List, [], ◌∷◌, Option, None, Some, MatchOption, String}
use Rattle.std.specs.Global.{Global}
use Rattle.std.specs.String.{string_bytes}
use Rattle.mj_store.specs.State.{StoreState}
use Rattle.mj_memstore.specs.Holding.{holding}
use Rattle.mj_memstore.specs.Store.{memory_plan, memory_state, memory_list, memory_objects}
use Rattle.mj_memstore.specs.declared.memory.MemStore.{MemStore}
use Rattle.mj_image.specs.declared.refusal.ImageRefusal.{ImageRefusal}
use Rattle.mj_image.specs.declared.refusal.ImageRefusal.TheVariants as image
use Rattle.mj_machine.specs.Machine.{LogMachine}
use Rattle.mj_rank.specs.Live.{Rested}
use Rattle.mj_app.specs.declared.image_file.Unread.{Unread}
use Rattle.mj_app.specs.declared.image_file.Unread.TheVariants as unread
use Rattle.mj_app.specs.declared.read.ReadRefusal.{ReadRefusal}
use Rattle.mj_app.specs.declared.read.ReadRefusal.TheVariants as read
use Rattle.mj_app.specs.declared.status.Status.{Status}
use Rattle.mj_app.specs.declared.status.Status.TheVariants as status
use Rattle.mj_app.specs.Status.{code_of}
use Rattle.mj_model.specs.Took.{SinkState, TookNone, TookOrFailed}
use Rattle.mj_app.specs.Say.{refusal_text, image_text}
use Rattle.mj_app.specs.Call.{FilesState, CallSays, RefusalEnds}
use Rattle.mj_app.specs.Headline.{HasHeadline, HasFirstHeadline, RestsAgain}
use Rattle.mj_app.specs.ImageFile.{IsRead, IsUnread, IsWritten, IsUnwritten}
use Rattle.mj_app.specs.Words.{command_of}

abbrev pub memory_faults : MemStore → ℕ
memory_faults m = (memory_plan m).faults

abbrev pub memory_told : MemStore → Option StoreState
memory_told m = Some (memory_state m)

-- ---- no store

-- an image that is none
abbrev pub image_status : ImageRefusal → Status
image_status image.Memory = status.Memory
image_status why = status.Damage

abbrev pub UnreadEnds : Unread → SinkState → SinkState → Status → Type 0
UnreadEnds (unread.File why) old new s = RefusalEnds why old new s
UnreadEnds (unread.Image why) old new s = ((s ≡ image_status why) × TookOrFailed (image_text why) old new) ⊎ ((s ≡ status.Memory) × TookNone old new)

-- The image can't be had or is none, and nothing was written.
pub record NotCalled (name : List ℕ) (files files_after : FilesState) (old new : SinkState) (code : ℕ) : Type 0 where
  pub why : Unread
  pub cause : IsUnread files files_after name why
  pub unwritten : files_after.told ≡ files.told
  pub status : Status
  pub is : code ≡ code_of status
  pub ends : UnreadEnds why old new status

-- ---- a call over its store

-- Where the call answered 0, that the image was not written is told; another code stays.
abbrev pub UnwrittenEnds : ReadRefusal → ℕ → SinkState → SinkState → ℕ → Type 0
UnwrittenEnds why called old new code = ((called ≡ 0) × ((s : Status) × (code ≡ code_of s) × RefusalEnds why old new s)) ⊎ ((called ≡ 0 → ⊥) × (code ≡ called) × (new ≡ old))

-- The image was written, and the call's code is that of all. What is at rest once it is stopped is at rest in the image.
pub record WritesBack (name : List ℕ) (files files_after : FilesState) (store : MemStore) (called : ℕ) (old new : SinkState) (code : ℕ) : Type 0 where
  pub written : IsWritten files files_after name store
  pub code_is : code ≡ called
  pub silent : new ≡ old
  pub rests : (rank : ℕ) (m : LogMachine) → RestsAgain rank m (memory_state store) → Rested rank m (holding (memory_objects store))

-- It was not.
pub record Fails (files files_after : FilesState) (store : MemStore) (called : ℕ) (old new : SinkState) (code : ℕ) : Type 0 where
  pub why : ReadRefusal
  pub unwritten : IsUnwritten files files_after store why
  pub ends : UnwrittenEnds why called old new code

abbrev pub EndsWithImage : List ℕ → FilesState → FilesState → MemStore → ℕ → SinkState → SinkState → ℕ → Type 0
EndsWithImage name files files_after store called old new code = WritesBack name files files_after store called old new code ⊎ Fails files files_after store called old new code

-- All holds that a call over a store says, of the one that was read, and it is written back whatever the call answered.
pub record Called (name : List ℕ) (inner : List (String Global)) (files files_after : FilesState) (old new : SinkState) (code : ℕ) : Type 0 where
  pub before : MemStore
  pub read : IsRead files.told name before
  pub at_read : FilesState
  pub same : at_read.told ≡ files.told
  pub read_later : files.faults ≤ at_read.faults
  -- the call
  pub after : MemStore
  pub at_end : FilesState
  pub unwritten : at_end.told ≡ files.told
  pub call_later : at_read.faults ≤ at_end.faults
  pub middle : SinkState
  pub called : ℕ
  pub says : CallSays memory_told memory_faults memory_list (command_of inner) at_read at_end before after old middle called
  pub headline : HasHeadline memory_told memory_faults memory_list (command_of inner) at_read before after old middle called
  pub first : HasFirstHeadline memory_told memory_faults memory_list (command_of inner) at_read before after old middle called
  -- the image
  pub back : EndsWithImage name at_end files_after after called middle new code
  pub back_later : at_end.faults ≤ files_after.faults

-- without a name no file is read or written
pub record NoName (files files_after : FilesState) (old new : SinkState) (code : ℕ) : Type 0 where
  pub code_is : code ≡ 2
  pub unread : files_after ≡ files
  pub text : TookOrFailed (refusal_text read.Words) old new

-- the name of the image, and the words behind it
abbrev pub image_words : List (String Global) → Option (List ℕ × List (String Global))
image_words [] = None
image_words (name ∷ inner) = Some (string_bytes name, inner)

abbrev pub OverImage : List ℕ → List (String Global) → FilesState → FilesState → SinkState → SinkState → ℕ → Type 0
OverImage name inner files files_after old new code = NotCalled name files files_after old new code ⊎ Called name inner files files_after old new code

abbrev pub ImageSays : List (String Global) → FilesState → FilesState → SinkState → SinkState → ℕ → Type 0
ImageSays words files files_after old new code = MatchOption (image_words words) (NoName files files_after old new code) (λ x. OverImage x.0 x.1 files files_after old new code)
