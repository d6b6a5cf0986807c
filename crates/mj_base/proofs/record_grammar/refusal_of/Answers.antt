use Rattle.std.proofs.Common.{ℕ, ◌≤◌, length, Err, ap, ◌∙◌, arith}
use Rattle.mj_base.proofs.RecordBounded.{record_bounded}
use Rattle.mj_base.proofs.record_grammar.refusal_of.Goals as goal

pub overflow_sub-result : goal.overflow_sub-result
overflow_sub-result c =
    let e = rw c.in-Left.is at c.requires in
    rw e at (record_bounded.bound c.args.bytes.now)

pub returns-in-Left : goal.returns-in-Left
returns-in-Left c =
    let e = rw c.in-Left.is at c.requires in
    let within : c.in-Left.left ≤ length c.args.bytes.now = rw e at (record_bounded.bound c.args.bytes.now) in
    (omega arith, e ∙ ap (λ (k : ℕ). Err k) (omega arith))
