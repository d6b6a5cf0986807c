use Rattle.std.proofs.Common.{sym, subst}
use Rattle.mj_memstore.specs.Store.{memory_state, memory_objects}
use Rattle.mj_rank.specs.Live.{Rested}
use Rattle.mj_app.proofs.ImageLemmas.{written_rests, read_again}
use Rattle.mj_app.proofs.laws.a_written_image_rests.Goals as goal

pub returns : goal.returns
returns c rank m old new held name left next told written again read =
    subst (Rested rank m) (sym (read_again old new held name left next told written read)) (written_rests rank m (memory_state left) (memory_objects left) written.all again)
