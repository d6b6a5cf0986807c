use Rattle.mj_base.proofs.Pieces.{on_ok}
use Rattle.mj_image.proofs.WholeLaws.{image_written}
use Rattle.mj_image.proofs.writing.append_image.Goals as goal

pub returns : goal.returns
returns c =
    on_ok c.append_objects.result _ _
    (λ e. image_written (λ h. h.now) c.args.objects.now c.args.out.now.items c.extend_from_slice.new.self.items c.put_u32.new.out.items c.append_objects.new.out.items c.in_ok-extend_from_slice.ensures.items c.in_ok-put_u32.ensures.ok e)
    c.append_objects.ensures
