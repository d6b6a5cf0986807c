use Rattle.mj_meta.proofs.BlobCodec.{blob_codec}
use Rattle.mj_meta.proofs.law.blob_read_is_spelled.Goals as goal

pub returns : goal.returns
returns c = λ bytes b rest bounds is. let t = blob_codec.takes bytes b rest bounds is in (t.0, t.2)
