use Rattle.std.proofs.Common.{◌≡◌, ◌+◌, ◌||◌, ◌∷◌, drop, List, sym, ap, ◌∙◌}
use Rattle.std.specs.Prelude.{is_some}
use Rattle.mj_cells.specs.declared.cell.CellWrite.{CellWrite}
use Rattle.mj_tables.specs.Layered.{writes_key}
use Rattle.mj_tables.specs.Slots.{Slots, slots_of, safe_cells, with_room, all_room, ahead_at}
use Rattle.mj_tables.specs.Listed.{has_key, there_at}
use Rattle.mj_tables.proofs.SlotMaps.{safe-with_room, ahead-with_room, there-with_room}
use Rattle.mj_tables.proofs.KeySets.{one_more_added}
use Rattle.mj_tables.proofs.Writes.{next_write}
use Rattle.mj_tables.proofs.room.make_all_room.Goals as goal

pub loop-w-preserved : goal.loop-w-preserved
loop-w-preserved c =
    let m = slots_of c.loop-w.slots in
    let w = c.w-item.result in
    let left = drop (c.loop-w.w-index + 1) c.args.ws.now in
    let next : drop c.loop-w.w-index c.args.ws.now ≡ w ∷ left = next_write c.args.ws.now c.loop-w.w-index w c.loop-w-test.true c.w-item.is in
    let room : slots_of c.make_room.new.slots ≡ with_room m w.key = c.in_ok-make_room.ensures.ok in (
      ap (λ (n : Slots). all_room n left) room ∙ ap (all_room m) (sym next) ∙ c.loop-w.invariant.0,
      ap safe_cells room ∙ safe-with_room m w.key ∙ c.loop-w.invariant.1,
      λ k. ap (λ (n : Slots). ahead_at n k) room ∙ ahead-with_room m w.key k ∙ c.loop-w.invariant.2 k,
      λ q. one_more_added c.loop-w.there w c.make_room.new.there left c.in_ok-make_room.ensures.added q
          ∙ ap (λ (ws : List CellWrite). writes_key q ws || has_key c.loop-w.there q) (sym next) ∙ c.loop-w.invariant.3 q,
      λ q h. c.make_room.ensures.stay q (c.loop-w.invariant.4 q h),
      λ q h. c.make_room.ensures.stay q (c.loop-w.invariant.5 q (ap is_some (sym (there-with_room m w.key q)) ∙ ap (λ (n : Slots). is_some (there_at n q)) (sym room) ∙ h)),
    )
