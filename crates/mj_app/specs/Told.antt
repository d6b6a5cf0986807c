-- What the result of a step is told as.
--     said_told      an answer to the step
--     refusal_told   a refusal, unless memory was wanted
use Rattle.std.specs.Prelude.{ℕ, Option, Some, None}
use Rattle.mj_rank.specs.declared.refusal.RankRefusal.{RankRefusal}
use Rattle.mj_rank.specs.declared.refusal.RankRefusal.TheVariants as rank
use Rattle.mj_rank.specs.declared.refusal.MountRefusal.{MountRefusal}
use Rattle.mj_rank.specs.declared.refusal.MountRefusal.TheVariants as mount
use Rattle.mj_texts.specs.declared.steps.Said.{Said}
use Rattle.mj_texts.specs.declared.steps.Said.TheVariants as said
use Rattle.mj_texts.specs.declared.steps.Step.{Step}
use Rattle.mj_texts.specs.declared.steps.Step.TheVariants as step
use Rattle.mj_world.specs.declared.refusal.WorldRefusal.{WorldRefusal}
use Rattle.mj_world.specs.declared.refusal.WorldRefusal.TheVariants as world
use Rattle.mj_texts.specs.declared.answer.Answer.{Answer}
use Rattle.mj_texts.specs.declared.answer.Answer.TheVariants as answer

abbrev pub applied_told : Step → Option ℕ → Option Answer
applied_told (step.Apply name) op = Some (answer.Applied name op)
applied_told _ op = None

-- A step of a mount has no answer of its own.
abbrev pub said_told : Step → Said → Option Answer
said_told s (said.Asked early) = Some (answer.Asked early)
said_told s (said.Flushed span) = Some (answer.Flushed span)
said_told s (said.Applied op) = applied_told s op
said_told s (said.Reaped reaped) = Some (answer.Reaped reaped)
said_told s (said.Begun tail) = None
said_told s (said.Carried made) = None
said_told s said.Restarted = Some answer.Restarted
said_told s (said.Tree text) = Some (answer.Tree text)
said_told s (said.State text) = Some (answer.State text)

abbrev pub rank_told : RankRefusal → Option Answer
rank_told (rank.Down fault sealed) = Some (answer.StoreFault fault.faults)
rank_told (rank.MountSpent n sealed) = Some (answer.MountSpent n)
rank_told (rank.LogFull bytes sealed) = Some (answer.LogFull bytes)
rank_told (rank.PositionSpent at sealed) = Some (answer.PositionSpent at)
rank_told rank.Memory = None

abbrev pub mount_told : MountRefusal → Option Answer
mount_told (mount.Damage damage) = Some (answer.Damaged damage)
mount_told (mount.Store fault) = Some (answer.StoreFault fault.faults)
mount_told mount.Memory = None

abbrev pub refusal_told : WorldRefusal → Option Answer
refusal_told world.Stopped = Some answer.Stopped
refusal_told world.Mounted = Some answer.AlreadyMounted
refusal_told (world.Rank e) = rank_told e
refusal_told (world.Mount e) = mount_told e
refusal_told (world.Store fault) = Some (answer.StoreFault fault.faults)
refusal_told world.Memory = None
