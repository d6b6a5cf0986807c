-- Which refusals stand for a fault of the store.
use Rattle.mj_rank.specs.declared.refusal.RankRefusal.{RankRefusal}
use Rattle.mj_rank.specs.declared.refusal.RankRefusal.TheVariants as rank_refusal
use Rattle.mj_rank.specs.declared.refusal.MountRefusal.{MountRefusal}
use Rattle.mj_rank.specs.declared.refusal.MountRefusal.TheVariants as mount_refusal
use Rattle.mj_rank.specs.Refusals as rank
use Rattle.mj_world.specs.declared.refusal.WorldRefusal.{WorldRefusal}
use Rattle.mj_world.specs.declared.refusal.WorldRefusal.TheVariants.{Rank, Mount, Store, Memory}

abbrev pub IsDownRank : RankRefusal → Type 0
IsDownRank (rank_refusal.Down fault sealed) = Unit {0}
IsDownRank _ = ⊥

abbrev pub IsFault : WorldRefusal → Type 0
IsFault (Rank e) = IsDownRank e
IsFault (Mount e) = rank.IsStoreFault e
IsFault (Store fault) = Unit {0}
IsFault _ = ⊥

-- Want of memory is told as such, whatever call behind wanted it.
abbrev pub of_rank : RankRefusal → WorldRefusal
of_rank rank_refusal.Memory = Memory
of_rank e = Rank e

abbrev pub of_mount : MountRefusal → WorldRefusal
of_mount mount_refusal.Memory = Memory
of_mount e = Mount e
