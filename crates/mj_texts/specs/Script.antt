-- A script: lines, each ended by a line feed.
use Rattle.std.specs.Prelude.{◌≡◌, ℕ, List, Result, Err}
use Rattle.mj_texts.specs.Lines.{lines_of}
use Rattle.mj_texts.specs.declared.line.Line.{Line}
use Rattle.mj_texts.specs.declared.script.ScriptRefusal.{ScriptRefusal}
use Rattle.mj_texts.specs.declared.script.ScriptRefusal.TheVariants.{BadLine, Memory}
use Rattle.mj_texts.specs.Line.{line_of}

-- its lines, or the number of the first one outside the grammar
abbrev pub script_of : List ℕ → Result (List Line) ℕ
script_of = lines_of line_of

-- a refusal: no memory, or the first line that is outside the grammar
abbrev pub IsScriptRefusal : ScriptRefusal → List ℕ → Type 0
IsScriptRefusal Memory bytes = Unit {0}
IsScriptRefusal (BadLine n) bytes = script_of bytes ≡ Err n
