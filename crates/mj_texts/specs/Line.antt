-- The lines of a script: the words of each, and what they stand for.
use Rattle.std.specs.Prelude.{ℕ, Bool, ◌==◌, List, [], ◌∷◌, codes, if◌then◌else◌, Option, None, Some}
use Rattle.std.specs.List.{list_all}
use Rattle.std.specs.Char.{is_ascii}
use Rattle.mj_base.specs.InOrder.{same_bytes}
use Rattle.mj_tree.specs.Request.{IsRequest}
use Rattle.mj_texts.specs.Words.{words_of, ◌>>=◌, field, last}
use Rattle.mj_texts.specs.Object.{object_of}
use Rattle.mj_texts.specs.Request.{request_of}
use Rattle.mj_texts.specs.declared.line.Line.{Line}
use Rattle.mj_texts.specs.declared.line.Line.TheVariants as line
use Rattle.mj_texts.specs.declared.steps.Step.TheVariants.{Apply, Ask, Begin, Carry, Flush, Reap, Restart, State, Tree}

abbrev pub ask_of : List (List ℕ) → Option Line
ask_of words = do
  request ← request_of words
  last (line.One (Ask request.0)) request.1

abbrev pub step_of : List (List ℕ) → Option Line
step_of words = do
  name ← field object_of words
  last (line.One (Apply name.0)) name.1

-- the line with these words
abbrev pub of_words : List (List ℕ) → Option Line
of_words [] = None
of_words (word ∷ words) =
    if same_bytes word (codes "req") then ask_of words else
    if same_bytes word (codes "mount") then last line.Mount words else
    if same_bytes word (codes "restart") then last (line.One Restart) words else
    if same_bytes word (codes "flush") then last (line.One Flush) words else
    if same_bytes word (codes "step") then step_of words else
    if same_bytes word (codes "reap") then last (line.One Reap) words else
    if same_bytes word (codes "tree") then last (line.One Tree) words else
    if same_bytes word (codes "state") then last (line.One State) words else None

-- nothing, or what begins with '#'
abbrev pub is_blank : List ℕ → Bool
is_blank [] = Bool.true
is_blank (b ∷ text) = b == 35

-- the line that a text stands for, if it is one
abbrev pub line_of : List ℕ → Option Line
line_of text = if list_all is_ascii text then (if is_blank text then Some line.Blank else of_words (words_of text)) else None

-- Whether the script may have this line: a request keeps its limits, and a mount begins and goes on by one line alone.
abbrev pub IsServed : Line → Type 0
IsServed (line.One (Ask r)) = IsRequest r
IsServed (line.One Begin) = ⊥
IsServed (line.One Carry) = ⊥
IsServed _ = Unit {0}
