use Rattle.std.proofs.Common.{sym, subst}
use Rattle.mj_memstore.specs.Store.{memory_state, memory_objects}
use Rattle.mj_app.specs.Headline.{IsFormatted}
use Rattle.mj_app.proofs.ImageLemmas.{written_begins, read_again}
use Rattle.mj_app.proofs.laws.a_formatted_image_begins.Goals as goal

pub returns : goal.returns
returns c rank layout before old new held name left next sound none formatted told written read =
    subst (IsFormatted rank layout) (sym (read_again old new held name left next told written read)) (written_begins rank layout before (memory_state left) (memory_objects left) sound none formatted written.all)
