use Rattle.mj_texts.proofs.RequestLemmas.{TextLaws, request_takes, request_again, spells_fit}
use Rattle.mj_texts.proofs.law.requests_are_read_from_their_spellings.Goals as goal

pub returns : goal.returns
returns c =
    let paths = c.paths_are_read_again.ensures in
    let escapes = c.escapes_are_read_again.ensures in
    let laws : TextLaws = record { path_takes = paths.takes; path_again = paths.again; bytes_take = escapes.takes; bytes_again = escapes.again } in
    record {
      takes = λ ws x h. let t = request_takes laws ws x h in ((t.0, t.1, t.2), spells_fit x.0.op t.1.0 t.1.1);
      again = request_again laws;
    }
