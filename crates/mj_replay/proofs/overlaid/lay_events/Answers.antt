use Rattle.std.proofs.Common.{◌&&◌, ap, sym, ◌∙◌}
use Rattle.mj_cells.specs.Table.{table_of, overlay}
use Rattle.mj_event.specs.Writes.{writes_of}
use Rattle.mj_recovery.specs.Journal.{journal_writes}
use Rattle.mj_recovery.proofs.Gathered.{overlay_both}
use Rattle.mj_delta.specs.Fresh.{fresh_table}
use Rattle.mj_replay.specs.Lumps.{lumps_known}
use Rattle.mj_replay.proofs.Known.{event_behind, known_both}
use Rattle.mj_replay.proofs.overlaid.lay_events.Goals as goal

pub loop-e-preserved : goal.loop-e-preserved
loop-e-preserved c =
    let e = c.in-Some.e in
    let before = journal_writes c.loop-e.yielded in
    let after = event_behind c.loop-e.yielded e in (
      tt,
      tt,
      overlay_both (fresh_table c.args.rank) (table_of c.loop-e.found.cells) (table_of c.take_event.new.self.cells) before (writes_of e.event) c.loop-e.invariant.2 c.in_ok-take_event.ensures.cells
          ∙ ap (overlay (fresh_table c.args.rank)) (sym after),
      λ next. c.in_ok-take_event.ensures.lumps next ∙ ap (λ b. b && lumps_known c.args.rank next (writes_of e.event)) (c.loop-e.invariant.3 next)
          ∙ sym (ap (lumps_known c.args.rank next) after ∙ known_both c.args.rank next before (writes_of e.event)),
    )
