use Rattle.std.proofs.Common.{arith}
use Rattle.mj_image.proofs.WholeLaws.{image_takes, image_ordered}
use Rattle.mj_image.proofs.reading.image_read.Goals as goal

pub holding-requires : goal.holding-requires
holding-requires c =
    let objects = c.in_ok-objects.objects.items in
    image_ordered objects (image_takes c.args.bytes.now objects (λ i. let byte = c.type_inv.bytes i in omega (arith, byte)) c.in_ok-objects.ensures.read).1
