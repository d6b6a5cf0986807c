use Rattle.mj_base.proofs.RecordCodec.{record_codec}
use Rattle.mj_base.proofs.law.records_are_read_again.Goals as goal

pub returns : goal.returns
returns c = record { again = record_codec.again; takes = λ bytes r rest fits e. let t = record_codec.takes bytes r rest fits e in (t.0, t.2) }
