-- Which refusals stand for a fault of the store.
use Rattle.std.specs.Prelude.{◌≡◌, Option, Some, None}
use Rattle.mj_store.specs.declared.answer.ReadRefusal.{ReadRefusal}
use Rattle.mj_store.specs.declared.answer.ReadRefusal.TheVariants as read
use Rattle.mj_store.specs.declared.answer.SubmitRefusal.{SubmitRefusal}
use Rattle.mj_store.specs.declared.answer.SubmitRefusal.TheVariants as submit
use Rattle.mj_replay.specs.declared.refusal.JournalRefusal.{JournalRefusal}
use Rattle.mj_replay.specs.declared.refusal.JournalRefusal.TheVariants as journal
use Rattle.mj_rank.specs.declared.refusal.Fault.{Fault}
use Rattle.mj_journaler.specs.declared.AppendRefusal.{AppendRefusal}
use Rattle.mj_journaler.specs.declared.AppendRefusal.TheVariants.{Full, Spent}
use Rattle.mj_rank.specs.declared.refusal.RankRefusal.{RankRefusal}
use Rattle.mj_rank.specs.declared.refusal.RankRefusal.TheVariants.{Down, LogFull, PositionSpent, Memory}
use Rattle.mj_rank.specs.declared.refusal.MountRefusal.{MountRefusal}
use Rattle.mj_rank.specs.declared.refusal.MountRefusal.TheVariants as mount

-- the rank is down for this fault
abbrev pub IsDown : Fault → RankRefusal → Type 0
IsDown fault (Down f sealed) = f ≡ fault
IsDown fault _ = ⊥

-- the rank keeps this fault, and is down for it
abbrev pub IsDownFor : Option Fault → RankRefusal → Type 0
IsDownFor kept (Down f sealed) = kept ≡ Some f
IsDownFor kept _ = ⊥

-- A rank is down just where it keeps a fault, and says that one. Else memory was wanted.
abbrev pub IsDownWith : Option Fault → RankRefusal → Type 0
IsDownWith kept (Down f sealed) = kept ≡ Some f
IsDownWith kept Memory = kept ≡ None
IsDownWith kept _ = ⊥

-- It says why an entry does not fit. Want of memory is free.
abbrev pub SaysOfAppend : RankRefusal → Option AppendRefusal → Type 0
SaysOfAppend (LogFull bytes sealed) why = why ≡ Some (Full bytes)
SaysOfAppend (PositionSpent position sealed) why = why ≡ Some (Spent position)
SaysOfAppend Memory why = Unit {0}
SaysOfAppend _ why = ⊥

abbrev pub IsStoreFault : MountRefusal → Type 0
IsStoreFault (mount.Store f) = Unit {0}
IsStoreFault _ = ⊥

abbrev pub of_read : ReadRefusal → MountRefusal
of_read (read.Failed fault) = mount.Store fault
of_read read.Memory = mount.Memory

abbrev pub of_journal : JournalRefusal → MountRefusal
of_journal (journal.Damage d) = mount.Damage d
of_journal (journal.Store fault) = mount.Store fault
of_journal journal.Memory = mount.Memory

abbrev pub of_submit : SubmitRefusal → MountRefusal
of_submit (submit.Failed fault) = mount.Store fault
of_submit (submit.Memory op) = mount.Memory
