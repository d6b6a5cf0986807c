use Rattle.std.proofs.Common.{arith, ◌≡◌, ◌<◌, ◌+◌, ◌-◌, length, sym, ap, ◌∙◌}
use Rattle.mj_cells.specs.declared.cell.CellWrite.{CellWrite}
use Rattle.mj_index.proofs.Turning.{set_more, set_lacks, keys_more}
use Rattle.mj_index.proofs.turn.written_keys.Goals as goal

pub loop-i-preserved : goal.loop-i-preserved
loop-i-preserved c =
    let next : (c.loop-i.i - 1) + 1 ≡ c.loop-i.i = omega arith in
    let within : c.loop-i.i - 1 < length c.args.ws.now = omega arith in
    keys_more c.args.ws.now (c.loop-i.i - 1) c.loop-i.i c.index-ws-i.result c.in_ok-key.key c.loop-i.keys c.insert.new.self next within c.index-ws-i.is (c.in_ok-key.ensures ∙ ap (λ (w : CellWrite). w.key) (sym c.index-ws-i.is)) c.loop-i.invariant
    (set_lacks c.loop-i.keys c.in_ok-key.key (sym c.if-not-branch.false ∙ c.in_ok-insert.ensures.added)) (set_more c.loop-i.keys c.insert.new.self c.in_ok-key.key c.in_ok-insert.ensures.updates.0)
