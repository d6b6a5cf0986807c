use Rattle.std.proofs.Common.{◌≡◌, ◌^◌, ◌<◌, List, ℕ, length, ap, arith}
use Rattle.mj_base.specs.ObjectName.{object_text}
use Rattle.mj_image.proofs.Codec.{text_short}
use Rattle.mj_image.proofs.writing.append_object.Goals as goal

pub overflow_cast-len : goal.overflow_cast-len
overflow_cast-len c =
    let name = c.args.object.now.name in
    let text : length c.in_ok-text.text.items ≡ length (object_text name) = ap (λ (t : List ℕ). length t) c.in_ok-text.ensures.text in
    let short : length (object_text name) < 2 ^ 16 = text_short name c.text_of.ensures.range in
    omega (arith, text, short, c.in_ok-text.text.ok.0, c.len.ensures)
