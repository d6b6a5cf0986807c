use Rattle.mj_texts.proofs.LineLemmas.{line_takes, line_again}
use Rattle.mj_texts.proofs.law.lines_are_read_from_their_spellings.Goals as goal

pub returns : goal.returns
returns c =
    let requests = c.requests_are_read_from_their_spellings.ensures in
    record { takes = line_takes requests.takes requests.again; again = line_again requests.takes requests.again }
