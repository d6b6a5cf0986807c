-- What the reading of a script takes of one step of a world.
use Rattle.std.proofs.Common.{Result, IfOk, IfErr}
use Rattle.mj_texts.specs.declared.steps.MountStep.TheVariants as mount
use Rattle.mj_rank.specs.declared.refusal.RankRefusal.{RankRefusal}
use Rattle.mj_rank.specs.declared.refusal.RankRefusal.TheVariants as rank_refusal
use Rattle.mj_texts.specs.declared.steps.Said.{Said}
use Rattle.mj_texts.specs.declared.steps.Said.TheVariants as said
use Rattle.mj_texts.specs.declared.steps.Step.{Step}
use Rattle.mj_texts.specs.declared.steps.Step.TheVariants as step
use Rattle.mj_world.specs.declared.refusal.WorldRefusal.{WorldRefusal}
use Rattle.mj_world.specs.declared.refusal.WorldRefusal.TheVariants as refusal
use Rattle.mj_world.specs.declared.world.Phase.{Phase}
use Rattle.mj_world.specs.declared.world.Phase.TheVariants as phase

abbrev pub IsMounting : {S : Type 0} → Phase S → Type 0
IsMounting (phase.Mounting m) = Unit {0}
IsMounting _ = ⊥

-- the rank is down, or wants memory
abbrev pub IsDownOrMemory : RankRefusal → Type 0
IsDownOrMemory (rank_refusal.Down fault sealed) = Unit {0}
IsDownOrMemory rank_refusal.Memory = Unit {0}
IsDownOrMemory _ = ⊥

-- Which refusals a step may give. Only a request is refused for want of room, and only a mount names damage.
abbrev pub MayRefuse : Step → WorldRefusal → Type 0
MayRefuse (step.Ask r) (refusal.Rank e) = Unit {0}
MayRefuse step.Begin (refusal.Mount e) = Unit {0}
MayRefuse step.Carry (refusal.Mount e) = Unit {0}
MayRefuse s (refusal.Rank e) = IsDownOrMemory e
MayRefuse s (refusal.Mount e) = ⊥
MayRefuse s _ = Unit {0}

-- a mount that has begun goes on, until it is ready
abbrev pub LeavesMount : {S : Type 0} → Said → Phase S → Phase S → Type 0
LeavesMount (said.Begun tail) old new = IsMounting new
LeavesMount (said.Carried mount.Ready) old new = Unit {0}
LeavesMount (said.Carried s) old new = IsMounting new
LeavesMount (said.Applied op) old new = IsMounting old → IsMounting new
LeavesMount _ old new = Unit {0}

pub record Fits {S : Type 0} (s : Step) (old : Phase S) (result : Result Said WorldRefusal) (new : Phase S) : Type 0 where
  pub refusal : IfErr result (MayRefuse s)
  pub mount : IfOk result (λ said. LeavesMount said old new)
