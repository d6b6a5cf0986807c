use Rattle.mj_image.specs.Image.{IsStorable}
use Rattle.mj_base.proofs.Pieces.{part_at}
use Rattle.mj_image.proofs.writing.append_objects.Goals as goal

pub append_object-requires : goal.append_object-requires
append_object-requires c = part_at IsStorable (λ h. h.now) c.args.objects.now _ _ c.requires c.loop-object-test.true c.object-item.is
