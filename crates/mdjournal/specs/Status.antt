-- What the program's status says of its files and its sink. The call tells its text to a buffer, and at the end the sink is put what is
-- still held.
--     TakesAll     the sink took all that was told
--     FailsAtEnd   it failed in the last of it
--     StatusSays   a call over an image file, and one of the two
use Rattle.std.specs.Prelude.{◌≡◌, ◌⊎◌, ◌≤◌, ℕ, ◌==◌, if◌then◌else◌, List, String}
use Rattle.std.specs.Global.{Global}
use Rattle.mj_base.specs.Counts.{Rose}
use Rattle.mj_model.specs.Took.{SinkState}
use Rattle.mj_app.specs.Buffered.{MissesLast}
use Rattle.mj_app.specs.Call.{FilesState}
use Rattle.mj_app.specs.Image.{ImageSays}

-- The status is the call's code.
pub record TakesAll (code : ℕ) (told new : SinkState) (status : ℕ) : Type 0 where
  pub all : new.taken ≡ told.taken
  pub status_is : status ≡ code

-- A code of 0 becomes the status of a sink that failed; another code stays.
pub record FailsAtEnd (code : ℕ) (told new : SinkState) (status : ℕ) : Type 0 where
  pub misses : MissesLast told.taken new.taken
  pub rose : Rose told.faults new.faults
  pub status_is : status ≡ (if code == 0 then 8 else code)

pub record StatusSays (words : List (String Global)) (files files_after : FilesState) (old new : SinkState) (status : ℕ) : Type 0 where
  pub told : SinkState
  pub code : ℕ
  pub says : ImageSays words files files_after old told code
  pub later : told.faults ≤ new.faults
  pub end : TakesAll code told new status ⊎ FailsAtEnd code told new status
