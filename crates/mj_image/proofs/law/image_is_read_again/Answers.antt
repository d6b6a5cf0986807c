use Rattle.mj_image.proofs.WholeLaws.{image_again}
use Rattle.mj_image.proofs.law.image_is_read_again.Goals as goal

pub returns : goal.returns
returns c = image_again
