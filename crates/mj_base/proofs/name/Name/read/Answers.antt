use Rattle.std.proofs.Common.{◌≡◌, true, arith, sym, ◌∙◌}
use Rattle.mj_base.specs.Name.{is_name}
use Rattle.mj_base.proofs.NameLemmas.{is_name-from_tests}
use Rattle.mj_base.proofs.name.Name.read.Goals as goal
use Rattle.mj_base.proofs.name.Name.read.Goals.{In_ok-from_slice}

named : (c : In_ok-from_slice) → is_name c.in_ok-from_slice.field-0.items ≡ true
named c =
    let of_bytes = is_name-from_tests c.args.bytes.now (λ i. omega (arith, c.type_inv.bytes i)) (sym c.is_empty.ensures ∙ c.if-is_empty.false) (omega arith) (sym c.in_default.ensures) (sym c.is_dots.ensures ∙ c.if-is_dots.false) in
    rw c.in_ok-from_slice.ensures.ok of_bytes

pub invariant_of-result : goal.invariant_of-result
invariant_of-result c = named c

pub returns-clause-is_name : goal.returns-clause-is_name
returns-clause-is_name c = named c
