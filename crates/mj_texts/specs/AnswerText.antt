-- The text of an answer to a line of a script.
use Rattle.std.specs.Prelude.{ℕ, ◌==◌, if◌then◌else◌, List, [], ◌∷◌, ◌++◌, codes, Option, None, Some}
use Rattle.std.specs.Fmt.{decimal}
use Rattle.mj_base.specs.ObjectName.{object_text}
use Rattle.mj_base.specs.declared.object.ObjectName.{ObjectName}
use Rattle.mj_tree.specs.Listing.{line}
use Rattle.mj_texts.specs.DamageText.{damage_text}
use Rattle.mj_texts.specs.Text.{early_words}
use Rattle.mj_texts.specs.declared.answer.Answer.{Answer}
use Rattle.mj_texts.specs.declared.answer.Answer.TheVariants as answer
use Rattle.mj_texts.specs.declared.steps.Reaped.{Reaped}
use Rattle.mj_texts.specs.declared.steps.Reaped.TheVariants as reaped
use Rattle.mj_texts.specs.declared.steps.Span.{Span}

-- an empty span is no write
abbrev pub flushed_words : Span → List (List ℕ)
flushed_words span = if span.from == span.to then codes "wrote" ∷ codes "nothing" ∷ [] else codes "wrote" ∷ decimal span.from ∷ decimal span.to ∷ []

abbrev pub reaped_words : Reaped → List (List ℕ)
reaped_words (reaped.One op from to) = codes "reaped" ∷ decimal op ∷ codes "safe" ∷ decimal from ∷ decimal to ∷ []
reaped_words reaped.Nothing = codes "reaped" ∷ codes "nothing" ∷ []

abbrev pub applied_words : ObjectName → Option ℕ → List (List ℕ)
applied_words name (Some op) = codes "applied" ∷ object_text name ∷ decimal op ∷ []
applied_words name None = codes "idle" ∷ object_text name ∷ []

-- the text of an answer
abbrev pub answer_text : Answer → List ℕ
answer_text (answer.Asked early) = line (early_words early)
answer_text (answer.Flushed span) = line (flushed_words span)
answer_text (answer.Applied name op) = line (applied_words name op)
answer_text (answer.Reaped reaped) = line (reaped_words reaped)
answer_text (answer.Mounted epoch tail) = line (codes "mounted" ∷ decimal epoch ∷ decimal tail ∷ [])
answer_text (answer.WaitingFor op) = line (codes "waiting" ∷ decimal op ∷ [])
answer_text answer.Restarted = line (codes "restarted" ∷ [])
answer_text (answer.Tree text) = line (codes "tree" ∷ []) ++ text
answer_text (answer.State text) = line (codes "state" ∷ []) ++ text
answer_text answer.Stopped = line (codes "stopped" ∷ [])
answer_text answer.AlreadyMounted = line (codes "mounted" ∷ [])
answer_text (answer.LogFull b) = line (codes "logfull" ∷ decimal b ∷ [])
answer_text (answer.MountSpent n) = line (codes "mountspent" ∷ decimal n ∷ [])
answer_text (answer.PositionSpent p) = line (codes "positionspent" ∷ decimal p ∷ [])
answer_text (answer.Damaged d) = damage_text d
answer_text (answer.StoreFault n) = line (codes "store" ∷ decimal n ∷ [])

-- the text of the n-th line's answer
abbrev pub turn_text : ℕ → Answer → List ℕ
turn_text n a = decimal n ++ codes ": " ++ answer_text a

-- what the n-th line prints: nothing where it has no answer
abbrev pub told_text : ℕ → Option Answer → List ℕ
told_text n None = []
told_text n (Some a) = turn_text n a
