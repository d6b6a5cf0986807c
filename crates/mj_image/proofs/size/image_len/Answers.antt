use Rattle.std.proofs.Common.{◌+◌, length, ap, sym, ◌∙◌, min}
use Rattle.std.specs.List.{flat_map}
use Rattle.std.proofs.lemmas.List.{take_all}
use Rattle.mj_image.specs.Image.{object_bytes}
use Rattle.mj_image.proofs.Sizes.{most, length-image}
use Rattle.mj_image.proofs.size.image_len.Goals as goal

pub returns-clause-len : goal.returns-clause-len
returns-clause-len c =
    let xs = c.args.objects.now in
    let all = take_all c.loop-object.object-index xs c.loop-object-test.false in
    c.loop-object.invariant.len ∙ ap (λ ys. min (12 + length (flat_map (λ h. object_bytes h.now) ys)) most) all ∙ ap (λ n. min n most) (sym (length-image (λ h. h.now) xs))
