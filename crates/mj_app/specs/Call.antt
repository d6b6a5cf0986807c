-- What the code of a call says of its words, files, store and sink.
--     PlayCall    a script is played
--     ModelCall   the plain tree answers a chronicle
--     CallSays    by the command that the words spell
use Rattle.std.specs.Prelude.{◌≡◌, ◌⊎◌, ◌≤◌, ℕ, List, length, Option, Some, None, Result, Ok, Err}
use Rattle.mj_base.specs.Counts.{Rose}
use Rattle.mj_base.specs.Files.{FilesByName, IfTold}
use Rattle.mj_base.specs.declared.limits.TheConstants.{MAX_FILE_BYTES}
use Rattle.mj_tree.specs.State.{new_state}
use Rattle.mj_store.specs.Causes.{Listed}
use Rattle.mj_store.specs.State.{StoreState}
use Rattle.mj_layout.specs.Striping.{Striping}
use Rattle.mj_texts.specs.Script.{script_of}
use Rattle.mj_texts.specs.declared.line.Line.{Line}
use Rattle.mj_app.specs.declared.read.ReadRefusal.{ReadRefusal}
use Rattle.mj_app.specs.declared.read.ReadRefusal.TheVariants as read
use Rattle.mj_app.specs.declared.status.Status.{Status}
use Rattle.mj_app.specs.declared.status.Status.TheVariants as status
use Rattle.mj_app.specs.Status.{code_of}
use Rattle.mj_app.specs.Read.{IsScript, IsChronicle, KeepsFromLines, HasBadLine, NotHeld, Long}
use Rattle.mj_app.specs.Run.{FailsToStart, PlaySays}
use Rattle.mj_app.specs.Say.{refusal_text}
use Rattle.mj_model.specs.Chronicle.{chronicle_of}
use Rattle.mj_model.specs.Model.{ModelSays}
use Rattle.mj_model.specs.Took.{SinkState, TookNone, TookOrFailed}
use Rattle.mj_model.specs.declared.chronicle.ChronicleLine.{ChronicleLine}
use Rattle.mj_model.specs.declared.run.ModelEnd.{ModelEnd}
use Rattle.mj_model.specs.declared.run.ModelEnd.TheVariants as model
use Rattle.mj_app.specs.Words.{CommandValue, Format, Play, Model}
use Rattle.mj_app.specs.Formats.{FormatCall}
use Rattle.mj_app.specs.Worlds.{IsRestarted}

-- files by name, where they tell them, and their count of faults
pub record FilesState : Type 0 where
  pub told : Option FilesByName
  pub faults : ℕ

abbrev pub files_state : {F : Type 0} → (F → Option FilesByName) → (F → ℕ) → F → FilesState
files_state told faults files = record { told = told files; faults = faults files }

-- with which status a refusal ends a call
abbrev pub status_of : ReadRefusal → Status
status_of read.Words = status.Words
status_of read.FileMissing = status.Files
status_of (read.FileTooLong n) = status.Files
status_of read.FileFault = status.Files
status_of (read.BadLine n) = status.Grammar
status_of read.Memory = status.Memory

-- ---- before the work

-- the file is not held, is too long, or the files have failed
abbrev pub FilesFail : List ℕ → FilesState → FilesState → Type 0
FilesFail name old new = NotHeld old.told name ⊎ ((n : ℕ) × Long old.told name n) ⊎ Rose old.faults new.faults

-- the call ends so, unless memory is wanted or the files fail
abbrev pub EndsWith : ℕ → ℕ → FilesState → FilesState → Type 0
EndsWith code now old new = (now ≡ code) ⊎ (now ≡ 4) ⊎ Rose old.faults new.faults

-- A file that is not held, or is too long, is told.
abbrev pub TellsMissing : List ℕ → FilesState → FilesState → ℕ → Type 0
TellsMissing name old new code = IfTold old.told (λ held. held name ≡ None → EndsWith 6 code old new)

abbrev pub TellsLong : List ℕ → FilesState → FilesState → ℕ → Type 0
TellsLong name old new code = IfTold old.told (λ held. (bytes : List ℕ) → held name ≡ Some bytes → (length bytes ≤ MAX_FILE_BYTES → ⊥) → EndsWith 6 code old new)

-- by the grammar of its lines
module _ {L : Type 0} (grammar : List ℕ → Result (List L) ℕ) where
  -- a line is outside the grammar
  abbrev pub HasOutside : List ℕ → FilesState → Type 0
  HasOutside name files = (n : ℕ) × HasBadLine grammar files.told name n

  -- So one with a line outside the grammar is told.
  abbrev pub TellsBadLine : List ℕ → FilesState → FilesState → ℕ → Type 0
  TellsBadLine name old new code = IfTold old.told (λ held. (bytes : List ℕ) (n : ℕ) → held name ≡ Some bytes → length bytes ≤ MAX_FILE_BYTES → grammar bytes ≡ Err n → EndsWith 7 code old new)

  -- what must be told is told with its status
  pub record TellsExactly (name : List ℕ) (told told_after : FilesState) (s : Status) : Type 0 where
    pub missing : TellsMissing name told told_after (code_of s)
    pub long : TellsLong name told told_after (code_of s)
    pub outside : TellsBadLine name told told_after (code_of s)

  -- A refusal with this status was printed, unless the sink failed in its text.
  abbrev pub PrintsRefusal : Status → List ℕ → FilesState → FilesState → SinkState → SinkState → Type 0
  PrintsRefusal s name files files_after old new = (why : ReadRefusal) × (status_of why ≡ s) × KeepsFromLines grammar files.told files.faults files_after.faults name why × TookOrFailed (refusal_text why) old new

  -- what holds where a refusal ends the call, by its status
  abbrev pub RefusedSays : List ℕ → FilesState → FilesState → SinkState → SinkState → Status → Type 0
  RefusedSays name files files_after old new status.Memory = TookNone old new
  RefusedSays name files files_after old new status.Files = FilesFail name files files_after × PrintsRefusal status.Files name files files_after old new
  RefusedSays name files files_after old new status.Grammar = HasOutside name files × PrintsRefusal status.Grammar name files files_after old new
  RefusedSays name files files_after old new s = ⊥

-- those of a script
abbrev pub IsOutside : List ℕ → FilesState → Type 0
IsOutside = HasOutside script_of

abbrev pub SaysRefusal : Status → List ℕ → FilesState → FilesState → SinkState → SinkState → Type 0
SaysRefusal = PrintsRefusal script_of

abbrev pub TellsOutside : List ℕ → FilesState → FilesState → ℕ → Type 0
TellsOutside = TellsBadLine script_of

abbrev pub IsExact : List ℕ → FilesState → FilesState → Status → Type 0
IsExact = TellsExactly script_of

-- ---- the work

-- a script was read, and this was said of its lines
abbrev pub OfScript : List ℕ → FilesState → (List Line → Type 0) → Type 0
OfScript name files P = (lines : List Line) × IsScript files.told name lines × P lines

-- so it is of a chronicle
abbrev pub OfChronicle : List ℕ → FilesState → (List ChronicleLine → Type 0) → Type 0
OfChronicle name files P = (lines : List ChronicleLine) × IsChronicle files.told name lines × P lines

-- with which status the plain tree's answers end a call
abbrev pub model_status : Result (Unit {0}) ModelEnd → Status
model_status (Ok done) = status.Done
model_status (Err model.Differs) = status.Refused
model_status (Err model.Memory) = status.Memory
model_status (Err model.Sink) = status.Sink

-- A refusal ends the call with its status, or with want of memory for its text.
abbrev pub RefusalEnds : ReadRefusal → SinkState → SinkState → Status → Type 0
RefusalEnds why old new s = ((s ≡ status_of why) × TookOrFailed (refusal_text why) old new) ⊎ ((s ≡ status.Memory) × TookNone old new)

-- ---- all of it

module _ {S : Type 0} (state : S → Option StoreState) (faults : S → ℕ) (unreported : S → List Listed) where
  module _ (rank : ℕ) where
    -- what the lines of the script that was read did and said, over the store that was handed in
    abbrev pub Plays : Status → List ℕ → FilesState → S → S → SinkState → SinkState → Type 0
    Plays s name files before after old new = OfScript name files (λ lines. PlaySays state faults unreported rank s lines before after old new)

    -- Memory was wanted before any work, or in it.
    abbrev pub SaysNoMore : List ℕ → FilesState → S → S → SinkState → SinkState → Type 0
    SaysNoMore name files before after old new = (TookNone old new × (after ≡ before)) ⊎ Plays status.Memory name files before after old new

    -- what holds at the end of a call that plays, by its status
    abbrev pub EndSays : List ℕ → FilesState → FilesState → S → S → SinkState → SinkState → Status → Type 0
    EndSays name files files_after before after old new status.Words = ⊥
    EndSays name files files_after before after old new status.Refused = ⊥
    EndSays name files files_after before after old new status.Memory = SaysNoMore name files before after old new
    EndSays name files files_after before after old new status.Files = FilesFail name files files_after × SaysRefusal status.Files name files files_after old new × (after ≡ before)
    EndSays name files files_after before after old new status.Grammar = IsOutside name files × SaysRefusal status.Grammar name files files_after old new × (after ≡ before)
    EndSays name files files_after before after old new status.Store = Rose (faults before) (faults after) × Plays status.Store name files before after old new
    EndSays name files files_after before after old new status.Sink = Rose old.faults new.faults × Plays status.Sink name files before after old new
    EndSays name files files_after before after old new s = Plays s name files before after old new

    -- What a call says by its code that plays the script of this name: of its files, store and sink before and after.
    pub record PlayCall (name : List ℕ) (held held_after : FilesState) (before after : S) (old new : SinkState) (code : ℕ) : Type 0 where
      -- every line was worked, and all text was taken
      pub done : code ≡ 0 → Plays status.Done name held before after old new
      -- a line named damage
      pub damage : code ≡ 1 → Plays status.Damage name held before after old new
      -- memory was wanted
      pub memory : code ≡ 4 → SaysNoMore name held before after old new
      -- the store failed
      pub store : code ≡ 5 → Rose (faults before) (faults after)
      pub store_text : code ≡ 5 → Plays status.Store name held before after old new
      -- the script is not there, or the files failed
      pub files : code ≡ 6 → FilesFail name held held_after
      pub files_text : code ≡ 6 → SaysRefusal status.Files name held held_after old new
      pub missing : TellsMissing name held held_after code
      pub long : TellsLong name held held_after code
      -- a line is outside the grammar
      pub outside : code ≡ 7 → IsOutside name held
      pub outside_text : code ≡ 7 → SaysRefusal status.Grammar name held held_after old new
      pub found : TellsOutside name held held_after code
      -- the sink failed
      pub sink : code ≡ 8 → Rose old.faults new.faults
      pub cut : code ≡ 8 → Plays status.Sink name held before after old new
      -- no work was begun
      pub untouched : (code ≡ 6) ⊎ (code ≡ 7) → after ≡ before
      -- there are no other codes
      pub known : (s : Status) × (code ≡ code_of s)
      pub own : (code ≡ 2) ⊎ (code ≡ 3) → ⊥

  module _ (rank : ℕ) where
    -- The plain tree of a new rank answered these lines, and the store that was handed in was only restarted.
    pub record AnswersLines (s : Status) (lines : List ChronicleLine) (before after : S) (old new : SinkState) : Type 0 where
      pub restarted : IsRestarted state faults unreported before after
      pub end : Result (Unit {0}) ModelEnd
      pub is : s ≡ model_status end
      pub says : ModelSays (new_state rank) lines old new end

    -- So it did, or the restart failed.
    abbrev pub ModelWork : Status → List ChronicleLine → S → S → SinkState → SinkState → Type 0
    ModelWork s lines before after old new = AnswersLines s lines before after old new ⊎ FailsToStart state faults unreported s before after old new

    -- It did this with the lines of the chronicle that was read, or a refusal ended the call before any work.
    abbrev pub ModelEnds : List ℕ → FilesState → FilesState → S → S → SinkState → SinkState → Status → Type 0
    ModelEnds name files files_after before after old new s = (RefusedSays chronicle_of name files files_after old new s × (after ≡ before)) ⊎ OfChronicle name files (λ lines. ModelWork s lines before after old new)

    -- What a call says that answers the chronicle of this name: 0 where no reply differs and 3 where one does, by its status.
    pub record ModelCall (name : List ℕ) (held held_after : FilesState) (before after : S) (old new : SinkState) (code : ℕ) : Type 0 where
      pub status : Status
      pub is : code ≡ code_of status
      pub ends : ModelEnds name held held_after before after old new status
      pub exact : TellsExactly chronicle_of name held held_after status

  -- Words that spell no command are refused, and nothing else is done.
  pub record WordsCall (held held_after : FilesState) (before after : S) (old new : SinkState) (code : ℕ) : Type 0 where
    pub code_is : code ≡ 2
    pub text : TookOrFailed (refusal_text read.Words) old new
    pub unread : held_after ≡ held
    pub untouched : after ≡ before

  -- no file is read or written
  pub record FormatsCall (rank : ℕ) (layout : Striping) (held held_after : FilesState) (before after : S) (old new : SinkState) (code : ℕ) : Type 0 where
    pub formats : FormatCall state faults unreported rank layout before after old new code
    pub unread : held_after ≡ held

  -- what a call says by the command that its words spell
  abbrev pub CallSays : Option CommandValue → FilesState → FilesState → S → S → SinkState → SinkState → ℕ → Type 0
  CallSays None held held_after before after old new code = WordsCall held held_after before after old new code
  CallSays (Some (Format rank layout)) held held_after before after old new code = FormatsCall rank layout held held_after before after old new code
  CallSays (Some (Play rank name)) held held_after before after old new code = PlayCall rank name held held_after before after old new code
  CallSays (Some (Model rank name)) held held_after before after old new code = ModelCall rank name held held_after before after old new code
