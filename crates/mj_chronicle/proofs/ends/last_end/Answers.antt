use Rattle.std.proofs.Common.{[], ◌∷◌, ◌++◌, take, sym, ap, ◌∙◌}
use Rattle.std.proofs.lemmas.List.{take_more}
use Rattle.std.specs.Option.{option_or}
use Rattle.mj_machine.specs.declared.kept.ChronicleEntry.{ChronicleEntry}
use Rattle.mj_chronicle.specs.Ends.{last_end}
use Rattle.mj_chronicle.proofs.LastEnds.{last_end-push}
use Rattle.mj_chronicle.proofs.ends.last_end.Goals as goal

pub loop-entry-preserved : goal.loop-entry-preserved
loop-entry-preserved c =
    let es = c.args.entries.now in
    let i = c.loop-entry.entry-index in
    let e = c.entry-item.result in
    let more = take_more es i e c.loop-entry-test.true ∙ ap (λ (x : ChronicleEntry). take i es ++ x ∷ []) (sym c.entry-item.is) in
    c.or-last.ensures
    ∙ (λ k. option_or (c.own_end.ensures k) (c.loop-entry.invariant k))
    ∙ sym (last_end-push c.args.client c.args.tid (take i es) e)
    ∙ ap (last_end c.args.client c.args.tid) (sym more)
