-- What a script does and says as it runs.
--     Worked      a line, its acts, and what it was told, and both as a turn of the log machine
--     AllWorked   lines were worked one after another over one list of worlds
--     SaysAll     these are all lines of the script
--     EndsAt      the line behind them ends it
--     PlaySays    over the store that was handed in, to the one that is handed back
use Rattle.std.specs.Prelude.{◌≡◌, ◌≤◌, ◌⊎◌, ℕ, ◌+◌, List, [], ◌∷◌, ◌++◌, map, length, Option, Some, None, Result, Ok, Err}
use Rattle.mj_base.specs.Counts.{Rose}
use Rattle.mj_store.specs.Causes.{Listed}
use Rattle.mj_store.specs.Moves.{Stays}
use Rattle.mj_store.specs.State.{StoreState}
use Rattle.mj_world.specs.declared.world.World.{World}
use Rattle.mj_machine.specs.Legal.{Turn, text_from}
use Rattle.mj_texts.specs.AnswerText.{turn_text, told_text}
use Rattle.mj_texts.specs.declared.line.Line.{Line}
use Rattle.mj_texts.specs.declared.answer.Answer.{Answer}
use Rattle.mj_texts.specs.declared.answer.Answer.TheVariants as answer
use Rattle.mj_app.specs.declared.status.Status.{Status}
use Rattle.mj_app.specs.declared.status.Status.TheVariants as status
use Rattle.mj_app.specs.Answers.{IsStoreFault, IsDamage, IsLast, GoesOn}
use Rattle.mj_app.specs.LineActs.{LineActs}
use Rattle.mj_model.specs.Took.{SinkState, TookAll, TookNone, FailedIn, TookOrFailed}
use Rattle.mj_app.specs.Worlds.{Act, Worlds, IsRestarted, Over, world_after}

pub record Worked (S : Type 0) : Type 0 where
  pub line : Line
  pub acts : List (Act S)
  pub told : Option Answer

-- the world after these lines
abbrev pub world_behind : {S : Type 0} → World S → List (Worked S) → World S
world_behind old [] = old
world_behind old (w ∷ ws) = world_behind (world_after old w.acts) ws

abbrev pub lines_of : {S : Type 0} → List (Worked S) → List Line
lines_of {S} ws = map (λ (w : Worked S). w.line) ws

-- a line and its answer
abbrev pub turn_of : {S : Type 0} → Worked S → Turn
turn_of w = (w.line, w.told)

abbrev pub turns_of : {S : Type 0} → List (Worked S) → List Turn
turns_of {S} ws = map {B = Turn} (λ (w : Worked S). turn_of w) ws

-- ---- texts

-- An answer ends the script, or the sink fails in it, or memory is wanted for its text.
abbrev pub TurnEnds : Status → ℕ → Answer → SinkState → SinkState → Type 0
TurnEnds status.Memory n a old new = TookNone old new
TurnEnds status.Damage n a old new = IsDamage a × TookOrFailed (turn_text n a) old new
TurnEnds status.Store n a old new = IsStoreFault a × TookOrFailed (turn_text n a) old new
TurnEnds status.Sink n a old new = (IsLast a → ⊥) × FailedIn (turn_text n a) old new
TurnEnds _ n a old new = ⊥

abbrev pub TurnSays : {T : Type 0} → ℕ → Answer → SinkState → SinkState → Result T Status → Type 0
TurnSays n a old new (Ok _) = (IsLast a → ⊥) × TookAll (turn_text n a) old new
TurnSays n a old new (Err s) = TurnEnds s n a old new

-- The restart before the first line is told as the answer to the line 0, or memory is wanted for that.
abbrev pub StartEnds : Status → ℕ → SinkState → SinkState → Type 0
StartEnds status.Store faults old new = TookOrFailed (turn_text 0 (answer.StoreFault faults)) old new
StartEnds status.Memory faults old new = TookNone old new
StartEnds _ faults old new = ⊥

-- want of memory has no text
abbrev pub LineEnds : Status → ℕ → Option Answer → SinkState → SinkState → Type 0
LineEnds s n (Some a) old new = TurnEnds s n a old new
LineEnds status.Memory n None old new = TookNone old new
LineEnds _ n None old new = ⊥

-- what a line was told, where memory was not wanted
abbrev pub answer_in : {E : Type 0} → Result Answer E → Option Answer
answer_in (Ok a) = Some a
answer_in (Err e) = None

abbrev pub told_in : {E : Type 0} → Result (Option Answer) E → Option Answer
told_in (Ok told) = told
told_in (Err e) = None

-- ---- lines over worlds

module _ {S : Type 0} (state : S → Option StoreState) (faults : S → ℕ) (unreported : S → List Listed) where
  -- the line was worked in this world
  pub record Works (old : World S) (w : Worked S) : Type 0 where
    pub worlds : Worlds state faults unreported old w.acts
    pub acts : LineActs w.line w.acts w.told

  -- so it was, and it led to that world
  pub record WorksTo (line : Line) (old : World S) (told : Option Answer) (new : World S) : Type 0 where
    pub acts : List (Act S)
    pub worlds : Worlds state faults unreported old acts
    pub steps : LineActs line acts told
    pub last : new ≡ world_after old acts

  -- The n-th line goes on with its text, or ends the script.
  abbrev pub LineRuns : {T : Type 0} → ℕ → Line → World S → World S → SinkState → SinkState → Result T Status → Type 0
  LineRuns n line old new before after (Ok _) = (told : Option Answer) × WorksTo line old told new × GoesOn line told × TookAll (told_text n told) before after
  LineRuns n line old new before after (Err s) = (told : Option Answer) × WorksTo line old told new × LineEnds s n told before after

  -- Each was worked in the world that the one before left, and the script went on after it.
  abbrev pub AllWorked : World S → List (Worked S) → Type 0
  AllWorked old [] = Unit {0}
  AllWorked old (w ∷ ws) = Works old w × GoesOn w.line w.told × AllWorked (world_after old w.acts) ws

  -- all lines were worked, and the sink took all that they said
  pub record SaysAll (lines : List Line) (old new : SinkState) (first last : World S) : Type 0 where
    pub worked : List (Worked S)
    pub lines_are : lines ≡ lines_of worked
    pub works : AllWorked first worked
    pub last_is : last ≡ world_behind first worked
    pub text : TookAll (text_from 1 (turns_of worked)) old new

  -- So it is with the first lines, and the one behind them ends the run with this status.
  pub record EndsAt (s : Status) (lines : List Line) (old new : SinkState) (first last : World S) : Type 0 where
    pub worked : List (Worked S)
    pub ending : Worked S
    pub rest : List Line
    pub lines_are : lines ≡ lines_of worked ++ ending.line ∷ rest
    pub works : AllWorked first worked
    pub ends_in : Works (world_behind first worked) ending
    pub last_is : last ≡ world_after (world_behind first worked) ending.acts
    pub middle : SinkState
    pub text : TookAll (text_from 1 (turns_of worked)) old middle
    pub later : old.faults ≤ middle.faults
    pub ends : LineEnds s (length worked + 1) ending.told middle new

  abbrev pub RunSays : Status → List Line → SinkState → SinkState → World S → World S → Type 0
  RunSays status.Done = SaysAll
  RunSays status.Memory = EndsAt status.Memory
  RunSays status.Damage = EndsAt status.Damage
  RunSays status.Store = EndsAt status.Store
  RunSays status.Sink = EndsAt status.Sink
  RunSays _ = λ lines old new first last. ⊥

  -- ---- over a store

  -- so it is over the store that was handed in, which was restarted
  pub record OverRestarted (rank : ℕ) (before after : S) (P : World S → World S → Type 0) : Type 0 where
    pub store : S
    pub restarted : IsRestarted state faults unreported before store
    pub over : Over rank store after P

  -- The restart before the first line failed.
  pub record FailsToStart (s : Status) (before after : S) (old new : SinkState) : Type 0 where
    pub stays : Stays (state before) (state after)
    pub rose : Rose (faults before) (faults after)
    pub text : StartEnds s (faults after) old new

  abbrev pub PlaySays : ℕ → Status → List Line → S → S → SinkState → SinkState → Type 0
  PlaySays rank status.Store lines before after old new = OverRestarted rank before after (RunSays status.Store lines old new) ⊎ FailsToStart status.Store before after old new
  PlaySays rank status.Memory lines before after old new = OverRestarted rank before after (RunSays status.Memory lines old new) ⊎ FailsToStart status.Memory before after old new
  PlaySays rank s lines before after old new = OverRestarted rank before after (RunSays s lines old new)
