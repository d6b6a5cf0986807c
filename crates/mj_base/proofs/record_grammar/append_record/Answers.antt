use Rattle.std.proofs.Common.{List, ℕ, ◌++◌, length, ap, ◌∙◌}
use Rattle.mj_base.specs.Reading.{two}
use Rattle.mj_base.specs.RecordParts.{record_front, record_numbers}
use Rattle.mj_base.proofs.Appended.{first_piece, then_piece}
use Rattle.mj_base.proofs.record_grammar.append_record.Goals as goal

pub returns-clause-ok : goal.returns-clause-ok
returns-clause-ok c =
    let r = c.args.inode.now in
    let target = c.as_slice-target.ensures in
    let front = first_piece (record_front r) c.in_ok-append_front.ensures.ok in
    let numbers = then_piece front (record_numbers r) c.in_ok-append_numbers.ensures.ok in
    let len = then_piece numbers (two (length r.target)) (c.in_ok-put_u16.ensures.ok ∙ ap (λ (bytes : List ℕ). c.append_numbers.new.out.items ++ two (length bytes)) target) in
    let all = then_piece len r.target (c.in_ok-extend_from_slice.ensures.items ∙ ap (λ (bytes : List ℕ). c.put_u16.new.out.items ++ bytes) target) in
    all.is
