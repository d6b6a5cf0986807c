use Rattle.mj_meta.proofs.BlobCodec.{blob_codec}
use Rattle.mj_meta.proofs.law.blob_is_read_again.Goals as goal

pub returns : goal.returns
returns c = λ b rest fits. blob_codec.again b rest fits
