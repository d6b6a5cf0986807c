-- What the files say of the lines that a named file is to hold, those of a script or of a chronicle.
--     HasLines, HasBadLine    by a grammar: the lines of bytes, or the number of the first that is outside
--     IsScript, IsChronicle   by these two
use Rattle.std.specs.Prelude.{◌≡◌, ℕ, ◌<◌, ◌≤◌, List, length, Option, None, Some, IsSomeAnd, Result, Ok, Err}
use Rattle.mj_base.specs.declared.limits.TheConstants.{MAX_FILE_BYTES}
use Rattle.mj_base.specs.Counts.{Rose}
use Rattle.mj_base.specs.Files.{FilesByName, IfTold}
use Rattle.mj_texts.specs.Script.{script_of}
use Rattle.mj_texts.specs.declared.line.Line.{Line}
use Rattle.mj_model.specs.Chronicle.{chronicle_of}
use Rattle.mj_model.specs.declared.chronicle.ChronicleLine.{ChronicleLine}
use Rattle.mj_app.specs.declared.read.ReadRefusal.{ReadRefusal}
use Rattle.mj_app.specs.declared.read.ReadRefusal.TheVariants.{Words, FileMissing, FileTooLong, FileFault, BadLine, Memory}

-- these bytes were read, which are those of the file where it is told
pub record Named (told : Option FilesByName) (name bytes : List ℕ) : Type 0 where
  pub file : IfTold told (λ held. held name ≡ Some bytes)
  pub fits : length bytes ≤ MAX_FILE_BYTES

-- there is no such file, where it is told
abbrev pub NotHeld : Option FilesByName → List ℕ → Type 0
NotHeld told name = IfTold told (λ held. held name ≡ None)

-- the file has this many bytes, where it is told
pub record Long (told : Option FilesByName) (name : List ℕ) (n : ℕ) : Type 0 where
  pub limit : MAX_FILE_BYTES < n
  pub file : IfTold told (λ held. IsSomeAnd (held name) (λ bytes. n ≡ length bytes))

-- what may keep a call from a file's bytes: the files as they are told, and their counts of faults before and after
abbrev pub IsFileRefusal : Option FilesByName → ℕ → ℕ → List ℕ → ReadRefusal → Type 0
IsFileRefusal told before now name Words = ⊥
IsFileRefusal told before now name FileMissing = NotHeld told name
IsFileRefusal told before now name (FileTooLong n) = Long told name n
IsFileRefusal told before now name FileFault = Rose before now
IsFileRefusal told before now name (BadLine n) = ⊥
IsFileRefusal told before now name Memory = Unit {0}

module _ {L : Type 0} (grammar : List ℕ → Result (List L) ℕ) where
  -- a line of what was read is the first outside the grammar
  pub record HasBadLine (told : Option FilesByName) (name : List ℕ) (n : ℕ) : Type 0 where
    pub bytes : List ℕ
    pub named : Named told name bytes
    pub bad : grammar bytes ≡ Err n

  -- these are the lines of what was read
  pub record HasLines (told : Option FilesByName) (name : List ℕ) (lines : List L) : Type 0 where
    pub bytes : List ℕ
    pub named : Named told name bytes
    pub read : grammar bytes ≡ Ok lines

  -- what may keep a call from the lines
  abbrev pub KeepsFromLines : Option FilesByName → ℕ → ℕ → List ℕ → ReadRefusal → Type 0
  KeepsFromLines told before now name (BadLine n) = HasBadLine told name n
  KeepsFromLines told before now name why = IsFileRefusal told before now name why

abbrev pub IsScript : Option FilesByName → List ℕ → List Line → Type 0
IsScript = HasLines script_of

abbrev pub IsReadRefusal : Option FilesByName → ℕ → ℕ → List ℕ → ReadRefusal → Type 0
IsReadRefusal = KeepsFromLines script_of

abbrev pub IsChronicle : Option FilesByName → List ℕ → List ChronicleLine → Type 0
IsChronicle = HasLines chronicle_of

abbrev pub IsUnreadChronicle : Option FilesByName → ℕ → ℕ → List ℕ → ReadRefusal → Type 0
IsUnreadChronicle = KeepsFromLines chronicle_of
