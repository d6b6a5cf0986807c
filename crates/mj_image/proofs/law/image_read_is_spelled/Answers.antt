use Rattle.mj_image.proofs.WholeLaws.{image_takes}
use Rattle.mj_image.proofs.law.image_read_is_spelled.Goals as goal

pub returns : goal.returns
returns c = image_takes
