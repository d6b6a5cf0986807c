use Rattle.std.proofs.Common.{ℕ, Option, ap, ◌∙◌}
use Rattle.std.specs.Prelude.{is_some}
use Rattle.mj_store.specs.State.{contents}
use Rattle.mj_store.specs.Moves.{Anything, HasSize}
use Rattle.mj_format.proofs.Stops.{looked, there_by_size}
use Rattle.mj_format.proofs.formatting.has_journal.Goals as goal

pub returns-in_err-size-clause-stays : goal.returns-in_err-size-clause-stays
returns-in_err-size-clause-stays g c s is quiet = (looked Anything s c.in_err-size.ensures.err is quiet).0

pub returns-clause-told : goal.returns-clause-told
returns-clause-told g c s is quiet =
    let size = (looked (HasSize c.header_object.result c.in_ok-size.size) s c.in_ok-size.ensures.ok is quiet).1 in
    c.is_some.ensures ∙ ap (λ (o : Option ℕ). is_some o) size ∙ there_by_size (contents s c.header_object.result) ∙ ap (λ n. is_some (contents s n)) c.header_object.ensures

pub returns-clause-stays : goal.returns-clause-stays
returns-clause-stays g c s is quiet = (looked (HasSize c.header_object.result c.in_ok-size.size) s c.in_ok-size.ensures.ok is quiet).0
