-- What holds of a call that plays over a store that tells its state, and that is at rest under a machine: the text is that of a run of the
-- log machine from there on, and whenever the store is stopped, what it may then hold recovers to the tree after a front of the machine's
-- requests, one that has all that are safe. The store that is handed back is at rest again once it is stopped, under the machine of the run.
--     IsFormatted     the store holds what formatting leaves, and so is at rest under a new rank's machine
--     StopsIn         each moment of the acts of a line
--     Begun           the lines that were worked, and what is left of them
--     Headline        by the status of the call
--     HasHeadline     for each machine
use Rattle.std.specs.Prelude.{◌≡◌, ◌⊎◌, ℕ, List, [], ◌∷◌, ◌++◌, Option, Some, None}
use Rattle.mj_tree.specs.State.{new_state}
use Rattle.mj_store.specs.Causes.{Listed}
use Rattle.mj_store.specs.Events.{Tells}
use Rattle.mj_store.specs.Object.{Contents}
use Rattle.mj_store.specs.State.{StoreState, IsImage, Quiet, at_rest, contents}
use Rattle.mj_layout.specs.Striping.{Striping, IsStriping}
use Rattle.mj_recovery.specs.Formatted.{formatted_objects}
use Rattle.mj_recovery.specs.Objects.{Holds, objects_of}
use Rattle.mj_machine.specs.Machine.{LogMachine, Step, opened, stepped, run}
use Rattle.mj_machine.specs.Legal.{AllAgree, step_of, text_from, after_turns}
use Rattle.mj_rank.specs.Live.{LeavesFronts, Rested, StopsSafely}
use Rattle.mj_world.specs.Live.{told, machine_after}
use Rattle.mj_world.specs.declared.world.World.{World}
use Rattle.mj_texts.specs.declared.line.Line.{Line}
use Rattle.mj_app.specs.declared.status.Status.{Status}
use Rattle.mj_app.specs.declared.status.Status.TheVariants as status
use Rattle.mj_app.specs.Status.{code_of}
use Rattle.mj_app.specs.Call.{FilesState, OfScript}
use Rattle.mj_app.specs.Run.{Worked, Works, lines_of, turn_of, turns_of, world_behind}
use Rattle.mj_model.specs.Took.{SinkState, TookAll, TookNone, FailedIn, TookOrFailed}
use Rattle.mj_app.specs.Words.{CommandValue, Play}
use Rattle.mj_app.specs.Worlds.{Act, IsRestarted, Opens, HoldsStore, world_after}

-- nothing is pending, and the objects are those that formatting leaves for this rank and layout
pub record IsFormatted (rank : ℕ) (layout : Striping) (s : StoreState) : Type 0 where
  pub sound : IsStriping layout
  pub quiet : Quiet s
  pub held : Holds (contents s) (objects_of (formatted_objects rank layout))

-- the tree of a new rank, and no request
abbrev pub new_machine : ℕ → LogMachine
new_machine rank = opened (new_state rank)

-- Whatever a stop leaves is at rest.
abbrev pub RestsAgain : ℕ → LogMachine → StoreState → Type 0
RestsAgain rank m s = (image : Contents) → IsImage s image → Rested rank m (at_rest image s)

-- a call that plays the script of this name as this rank
abbrev pub Playing : Option CommandValue → (ℕ → List ℕ → Type 0) → Type 0
Playing command P = (rank : ℕ) (name : List ℕ) → command ≡ Some (Play rank name) → P rank name

-- ---- the machine behind acts and lines

abbrev pub machine_by : {S : Type 0} → LogMachine → List (Act S) → LogMachine
machine_by m [] = m
machine_by m (a ∷ acts) = machine_by (machine_after m a.step a.result) acts

abbrev pub machine_behind : {S : Type 0} → LogMachine → List (Worked S) → LogMachine
machine_behind m [] = m
machine_behind m (w ∷ ws) = machine_behind (machine_by m w.acts) ws

-- ---- a line without a text

abbrev pub line_in : {S : Type 0} → Option (Worked S) → List Line
line_in (Some w) = w.line ∷ []
line_in None = []

abbrev pub acts_in : {S : Type 0} → Option (Worked S) → List (Act S)
acts_in (Some w) = w.acts
acts_in None = []

module _ {S : Type 0} (state : S → Option StoreState) (rank : ℕ) where
  -- ---- each moment

  -- Whatever a stop before or within each of these acts may leave recovers to a front of the machine before it.
  abbrev pub StopsIn : World S → LogMachine → List (Act S) → Type 0
  StopsIn old m [] = Unit {0}
  StopsIn old m (a ∷ acts) = StopsSafely rank m (told state old) (told state a.left) × StopsIn a.left (machine_after m a.step a.result) acts

  -- So it is in these lines, with the machine of the text before each.
  abbrev pub StopsAmong : World S → LogMachine → List (Worked S) → Type 0
  StopsAmong old m [] = Unit {0}
  StopsAmong old m (w ∷ ws) = StopsIn old m w.acts × StopsAmong (world_after old w.acts) (stepped m (step_of (turn_of w))) ws

module _ {S : Type 0} (state : S → Option StoreState) (faults : S → ℕ) (unreported : S → List Listed) where
  abbrev pub EachWorked : World S → List (Worked S) → Type 0
  EachWorked old [] = Unit {0}
  EachWorked old (w ∷ ws) = Works state faults unreported old w × EachWorked (world_after old w.acts) ws

  abbrev pub WorkedIf : World S → Option (Worked S) → Type 0
  WorkedIf old (Some w) = Works state faults unreported old w
  WorkedIf old None = Unit {0}

  module _ (rank : ℕ) (m : LogMachine) where
    -- ---- the lines that were worked

    -- The first lines have their texts, which are legal, and the sink took of them what it took. A line behind them may have none.
    pub record Begun (Took : List ℕ → Type 0) (before after : S) (lines : List Line) : Type 0 where
      -- the worlds
      pub store : S
      pub first : World S
      pub worked : List (Worked S)
      pub unsaid : Option (Worked S)
      pub restarted : IsRestarted state faults unreported before store
      pub opens : Opens rank store first
      pub works : EachWorked first worked
      pub cut : WorkedIf (world_behind first worked) unsaid
      pub holds : HoldsStore (world_after (world_behind first worked) (acts_in unsaid)) after
      -- the lines and the text
      pub rest : List Line
      pub lines_are : lines ≡ lines_of worked ++ line_in unsaid ++ rest
      pub agree : AllAgree m (turns_of worked)
      pub text : Took (text_from 1 (turns_of worked))
      -- each moment: the restart before the first line, the lines with texts, the one without
      pub restart : StopsSafely rank m (state before) (state store)
      pub stops : StopsAmong state rank first m worked
      pub stops_unsaid : StopsIn state rank (world_behind first worked) (after_turns m (turns_of worked)) (acts_in unsaid)
      -- The store that is handed back. The machine has made the steps that the text tells, and those of the last line that no text tells.
      pub untold : List Step
      pub machine : run (after_turns m (turns_of worked)) untold ≡ machine_by (machine_behind m worked) (acts_in unsaid)
      pub leaves : Tells (state after) (LeavesFronts rank (run (after_turns m (turns_of worked)) untold))
      pub rests : Tells (state after) (RestsAgain rank (run (after_turns m (turns_of worked)) untold))

    -- all lines have their texts
    pub record Whole (Took : List ℕ → Type 0) (before after : S) (lines : List Line) : Type 0 where
      pub begun : Begun Took before after lines
      pub all : begun.rest ≡ []
      pub said : begun.unsaid ≡ None

    -- no line was worked
    pub record NotBegun (before after : S) (printed : Type 0) : Type 0 where
      pub stops : StopsSafely rank m (state before) (state after)
      pub leaves : Tells (state after) (LeavesFronts rank m)
      pub rests : Tells (state after) (RestsAgain rank m)
      pub text : printed

    -- ---- by the status

    abbrev pub HeadlineAt : Status → List ℕ → FilesState → S → S → SinkState → SinkState → Type 0
    HeadlineAt status.Done name files before after old new = OfScript name files (Whole (λ text. TookAll text old new) before after)
    HeadlineAt status.Damage name files before after old new = OfScript name files (Begun (λ text. TookOrFailed text old new) before after)
    HeadlineAt status.Memory name files before after old new = NotBegun before after (TookNone old new) ⊎ OfScript name files (Begun (λ text. TookAll text old new) before after)
    HeadlineAt status.Store name files before after old new = NotBegun before after (Unit {0}) ⊎ OfScript name files (Begun (λ text. TookOrFailed text old new) before after)
    HeadlineAt status.Sink name files before after old new = OfScript name files (Begun (λ text. FailedIn text old new) before after)
    HeadlineAt _ name files before after old new = NotBegun before after (Unit {0})

    pub record Headline (name : List ℕ) (files : FilesState) (before after : S) (old new : SinkState) (code : ℕ) : Type 0 where
      pub status : Status
      pub is : code ≡ code_of status
      pub holds : HeadlineAt status name files before after old new

  -- ---- which stores have it

  -- A store that is at rest under a machine goes on with that: runs follow one another.
  abbrev pub HasHeadline : Option CommandValue → FilesState → S → S → SinkState → SinkState → ℕ → Type 0
  HasHeadline command files before after old new code = Playing command (λ rank name. (m : LogMachine) (s : StoreState) → state before ≡ Some s → Rested rank m s → Headline rank m name files before after old new code)

  -- A store that holds what formatting leaves for the rank of the words begins with a new rank.
  abbrev pub HasFirstHeadline : Option CommandValue → FilesState → S → S → SinkState → SinkState → ℕ → Type 0
  HasFirstHeadline command files before after old new code = Playing command (λ rank name. (layout : Striping) (s : StoreState) → state before ≡ Some s → IsFormatted rank layout s → Headline rank (new_machine rank) name files before after old new code)
