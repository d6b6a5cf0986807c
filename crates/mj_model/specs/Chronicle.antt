-- A chronicle: lines of requests with their replies, each ended by a line feed.
use Rattle.std.specs.Prelude.{◌≡◌, ℕ, Bool, ◌&&◌, List, [], ◌∷◌, take, codes, if◌then◌else◌, Option, None, Some, Result, Err}
use Rattle.std.specs.List.{list_all}
use Rattle.std.specs.Char.{is_ascii}
use Rattle.mj_base.specs.InOrder.{same_bytes}
use Rattle.mj_tree.specs.Listing.{words}
use Rattle.mj_texts.specs.Words.{words_of, ◌>>=◌}
use Rattle.mj_texts.specs.Lines.{lines_of}
use Rattle.mj_texts.specs.Request.{request_of}
use Rattle.mj_model.specs.Reply.{is_reply}
use Rattle.mj_model.specs.declared.chronicle.ChronicleLine.{ChronicleLine}
use Rattle.mj_model.specs.declared.chronicle.ChronicleLine.TheVariants.{Skipped, Asked}
use Rattle.mj_model.specs.declared.chronicle.ChronicleRefusal.{ChronicleRefusal}
use Rattle.mj_model.specs.declared.chronicle.ChronicleRefusal.TheVariants.{BadLine, Memory}

-- a line of another kind, at a chronicle's end
abbrev pub is_end : List ℕ → Bool
is_end text = same_bytes (codes "end ") (take 4 text)

-- the reply that was given, if one was
abbrev pub given_of : List (List ℕ) → Option (Option (List ℕ))
given_of [] = Some None
given_of (word ∷ ws) = if same_bytes word (codes "=>") && is_reply ws then Some (Some (words ws)) else None

abbrev pub of_words : List (List ℕ) → Option ChronicleLine
of_words ws = do
  request ← request_of ws
  given ← given_of request.1
  Some (Asked request.0 given)

-- the line that a text stands for, if it is one
abbrev pub line_of : List ℕ → Option ChronicleLine
line_of text = if list_all is_ascii text then (if is_end text then Some Skipped else of_words (words_of text)) else None

abbrev pub chronicle_of : List ℕ → Result (List ChronicleLine) ℕ
chronicle_of = lines_of line_of

-- a refusal: no memory, or the first line that is outside the grammar
abbrev pub IsChronicleRefusal : ChronicleRefusal → List ℕ → Type 0
IsChronicleRefusal Memory bytes = Unit {0}
IsChronicleRefusal (BadLine n) bytes = chronicle_of bytes ≡ Err n
