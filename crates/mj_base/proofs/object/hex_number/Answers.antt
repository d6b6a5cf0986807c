use Rattle.std.proofs.Common.{ap, ◌∙◌}
use Rattle.std.specs.Result.{result_ok}
use Rattle.mj_base.proofs.HexReading.{padded-IsUtf8, parse-padded}
use Rattle.mj_base.proofs.object.hex_number.Goals as goal

pub returns-in-Ok : goal.returns-in-Ok
returns-in-Ok c = λ zeros n small is.
    let same = c.in-Ok.ensures.cases.0 ∙ is in
    let parsed = parse-padded zeros n small c.from_str_radix.result (rw same at c.from_str_radix.ensures.value) in
    c.ok.ensures.value ∙ ap result_ok parsed

pub returns-in-Err : goal.returns-in-Err
returns-in-Err c = λ zeros n small is. absurd (c.in-Err.ensures.cases.0 (rw is (padded-IsUtf8 zeros n small)))
