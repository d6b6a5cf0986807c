-- What the plain tree says to the lines of a chronicle.
--     model_text      all that is printed
--     model_differs   whether a reply that was given is another than the plain tree's
use Rattle.std.specs.Prelude.{◌≡◌, ℕ, ◌+◌, Bool, true, false, not, List, [], ◌∷◌, ◌++◌, codes, if◌then◌else◌, Option, None, Some, Result, Ok, Err}
use Rattle.std.specs.Fmt.{decimal}
use Rattle.mj_base.specs.InOrder.{same_bytes}
use Rattle.mj_tree.specs.State.{PlainState}
use Rattle.mj_tree.specs.Answer.{answer, after}
use Rattle.mj_texts.specs.Text.{reply_text}
use Rattle.mj_model.specs.declared.chronicle.ChronicleLine.{ChronicleLine}
use Rattle.mj_model.specs.declared.chronicle.ChronicleLine.TheVariants.{Skipped, Asked}
use Rattle.mj_model.specs.declared.run.ModelEnd.{ModelEnd}
use Rattle.mj_model.specs.declared.run.ModelEnd.TheVariants.{Differs, Memory, Sink}
use Rattle.mj_model.specs.Took.{SinkState, TookAll, TookNone, FailedIn, TookOrFailed}

abbrev pub is_other : Option (List ℕ) → List ℕ → Bool
is_other None text = false
is_other (Some given) text = not (same_bytes given text)

-- ---- one line

-- whether the reply that it gives is another
abbrev pub line_differs : PlainState → ChronicleLine → Bool
line_differs s Skipped = false
line_differs s (Asked r given) = is_other given (reply_text (answer s r))

abbrev pub difference : Bool → List ℕ
difference differs = if differs then codes "differs " else []

-- the text of the n-th line: its number, and the plain tree's reply
abbrev pub line_text : ℕ → PlainState → ChronicleLine → List ℕ
line_text n s Skipped = []
line_text n s (Asked r given) = decimal n ++ codes ": " ++ difference (line_differs s (Asked r given)) ++ reply_text (answer s r) ++ 10 ∷ []

abbrev pub after_line : PlainState → ChronicleLine → PlainState
after_line s Skipped = s
after_line s (Asked r given) = after s r

-- ---- all lines, the first of which is the n-th, up to the first that differs

abbrev pub model_differs : PlainState → List ChronicleLine → Bool
model_differs s [] = false
model_differs s (line ∷ lines) = if line_differs s line then true else model_differs (after_line s line) lines

abbrev pub model_text : ℕ → PlainState → List ChronicleLine → List ℕ
model_text n s [] = []
model_text n s (line ∷ lines) = line_text n s line ++ (if line_differs s line then [] else model_text (n + 1) (after_line s line) lines)

-- ---- what was printed

-- A line was answered, and the state is the one after it; or this ended the call. A reply that differs ends it, whether that is
-- printed or not.
abbrev pub LineSays : ℕ → ChronicleLine → PlainState → PlainState → SinkState → SinkState → Result (Unit {0}) ModelEnd → Type 0
LineSays n line s t old new (Ok done) = (line_differs s line ≡ false) × (t ≡ after_line s line) × TookAll (line_text n s line) old new
LineSays n line s t old new (Err Differs) = (line_differs s line ≡ true) × TookOrFailed (line_text n s line) old new
LineSays n line s t old new (Err Sink) = (line_differs s line ≡ false) × FailedIn (line_text n s line) old new
LineSays n line s t old new (Err Memory) = TookNone old new

-- some front of a text was taken
pub record TookFront (text : List ℕ) (old new : SinkState) : Type 0 where
  pub front : List ℕ
  pub rest : List ℕ
  pub is : text ≡ front ++ rest
  pub taken : TookAll front old new

-- All lines were answered and none differs, or one differs; or the sink failed, or memory was wanted.
abbrev pub ModelSays : PlainState → List ChronicleLine → SinkState → SinkState → Result (Unit {0}) ModelEnd → Type 0
ModelSays s lines old new (Ok done) = (model_differs s lines ≡ false) × TookAll (model_text 1 s lines) old new
ModelSays s lines old new (Err Differs) = (model_differs s lines ≡ true) × TookOrFailed (model_text 1 s lines) old new
ModelSays s lines old new (Err Sink) = FailedIn (model_text 1 s lines) old new
ModelSays s lines old new (Err Memory) = TookFront (model_text 1 s lines) old new
