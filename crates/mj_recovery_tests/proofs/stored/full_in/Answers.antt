use Rattle.std.proofs.Common.{List, ℕ, ap, sym, ◌∙◌, arith}
use Rattle.mj_base.specs.Reading.{u64_at}
use Rattle.mj_recovery_tests.proofs.Fitting.{record_is}
use Rattle.mj_recovery_tests.proofs.stored.full_in.Goals as goal

pub returns-in-empty-clause-fits : goal.returns-in-empty-clause-fits
returns-in-empty-clause-fits c =
    record_is c.args.bytes.now c.in-Some.version c.take_u64.new.self c.in-Ok.inode c.record_field.new.cursor (λ i. let h = c.type_inv.bytes i in omega (arith, h))
    (ap (λ (bytes : List ℕ). u64_at bytes) (sym c.new-cursor.ensures) ∙ c.in-Some.ensures.taken) c.in-Ok.ensures
