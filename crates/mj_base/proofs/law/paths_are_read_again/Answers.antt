use Rattle.mj_base.proofs.PathLaws.{path_of-path_text, path_text-path_of}
use Rattle.mj_base.proofs.law.paths_are_read_again.Goals as goal

pub returns : goal.returns
returns c = record { again = path_of-path_text; takes = path_text-path_of }
