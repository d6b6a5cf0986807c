-- Which answers a line of a script may have.
use Rattle.std.specs.Prelude.{Bool, true, false, Option, None, Some}
use Rattle.mj_texts.specs.declared.answer.Answer.{Answer}
use Rattle.mj_texts.specs.declared.answer.Answer.TheVariants as answer
use Rattle.mj_texts.specs.declared.line.Line.{Line}
use Rattle.mj_texts.specs.declared.line.Line.TheVariants as line
use Rattle.mj_texts.specs.declared.steps.Step.TheVariants as step

-- A fault of the store, and the rule of the world, may stand for any answer.
abbrev pub may_have : Line → Answer → Bool
may_have l (answer.StoreFault n) = true
may_have l answer.Stopped = true
may_have l answer.AlreadyMounted = true
may_have (line.One (step.Ask r)) (answer.Asked early) = true
may_have (line.One (step.Ask r)) (answer.LogFull bytes) = true
may_have (line.One (step.Ask r)) (answer.MountSpent n) = true
may_have (line.One (step.Ask r)) (answer.PositionSpent at) = true
may_have (line.One step.Flush) (answer.Flushed span) = true
may_have (line.One (step.Apply name)) (answer.Applied other op) = true
may_have (line.One step.Reap) (answer.Reaped reaped) = true
may_have (line.One step.Restart) answer.Restarted = true
may_have (line.One step.Tree) (answer.Tree text) = true
may_have (line.One step.State) (answer.State text) = true
may_have line.Mount (answer.Mounted epoch tail) = true
may_have line.Mount (answer.Damaged damage) = true
may_have line.Mount (answer.WaitingFor op) = true
may_have _ _ = false

-- An empty line and a comment have no answer, and each other line has one.
abbrev pub is_answer : Line → Option Answer → Bool
is_answer line.Blank None = true
is_answer line.Blank (Some a) = false
is_answer l None = false
is_answer l (Some a) = may_have l a
