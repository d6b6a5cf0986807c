use Rattle.std.proofs.Common.{subst}
use Rattle.std.specs.Prelude.{MatchOption}
use Rattle.mj_journaler.specs.Journal.{Journal, layout_of}
use Rattle.mj_journaler.specs.Cutting.{IsBelowTail, Truncates}
use Rattle.mj_journaler.proofs.journaler.Journaler.tail_truncate.Goals as goal

pub returns : goal.returns
returns c =
    let i = c.args.index in
    let n = c.args.size in
    subst (λ (j : Journal). MatchOption c.tail_cut.result (IsBelowTail (layout_of j) j.tail i n) (Truncates j.rank (layout_of j) j.tail i n)) c.self.view_is c.tail_cut.ensures
