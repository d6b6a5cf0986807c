use Rattle.std.proofs.Common.{◌≡◌, List, sym, subst, ◌∙◌}
use Rattle.std.specs.Prelude.{IfOk}
use Rattle.mj_machine.specs.declared.kept.ChronicleEntry.{ChronicleEntry}
use Rattle.mj_chronicle.specs.Room.{IsWithinLimits}
use Rattle.mj_chronicle.proofs.chronicle.Chronicle.copy.Goals as goal

pub copy_all-requires : goal.copy_all-requires
copy_all-requires c = subst (λ (es : List ChronicleEntry). IsWithinLimits es) (sym c.as_slice.ensures.value) c.self.invariant.limits

pub returns : goal.returns
returns c = subst (λ (es : List ChronicleEntry). IfOk c.copy_all.result (λ same. same ≡ es)) (c.as_slice.ensures.value ∙ c.self.view_is) c.copy_all.ensures
