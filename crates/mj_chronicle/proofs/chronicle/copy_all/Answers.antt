use Rattle.std.proofs.Common.{[], ◌∷◌, ◌++◌, take, sym, ap, ◌∙◌}
use Rattle.std.proofs.lemmas.List.{take_more}
use Rattle.mj_machine.specs.declared.kept.ChronicleEntry.{ChronicleEntry}
use Rattle.mj_chronicle.specs.Room.{has_room}
use Rattle.mj_chronicle.proofs.Weights.{room_for}
use Rattle.mj_chronicle.proofs.chronicle.copy_all.Goals as goal

pub add-requires : goal.add-requires
add-requires c = record {
  room =
      (λ k. has_room (c.loop-entry.invariant k) (c.in_ok-copy.ensures k).request (c.in_ok-copy.ensures k).reply)
      ∙ room_for c.args.entries.now c.loop-entry.entry-index c.entry-item.result c.requires c.loop-entry-test.true c.entry-item.is;
}

pub loop-entry-preserved : goal.loop-entry-preserved
loop-entry-preserved c =
    let es = c.args.entries.now in
    let i = c.loop-entry.entry-index in
    let e = c.entry-item.result in
    let more = take_more es i e c.loop-entry-test.true ∙ ap (λ (x : ChronicleEntry). take i es ++ x ∷ []) (sym c.entry-item.is) in
    c.in_ok-add.ensures.ok ∙ (λ k. c.loop-entry.invariant k ++ c.in_ok-copy.ensures k ∷ []) ∙ sym more
