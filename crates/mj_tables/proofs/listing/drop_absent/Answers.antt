use Rattle.std.proofs.Common.{◌≡◌, ◌+◌, ◌∷◌, not, ◌&&◌, ◌||◌, Bool, drop, List, sym, ap, subst, ◌∙◌}
use Rattle.std.specs.Prelude.{is_some}
use Rattle.std.specs.BTreeSet.{BTreeSet}
use Rattle.mj_cells.specs.declared.cell.CellKey.{CellKey}
use Rattle.mj_cells.specs.declared.cell.CellWrite.{CellWrite}
use Rattle.mj_tables.specs.Layered.{writes_key}
use Rattle.mj_tables.specs.Slots.{slots_of}
use Rattle.mj_tables.specs.Listed.{has_key, there_at, AreLast}
use Rattle.mj_tables.proofs.KeySets.{one_more_kept}
use Rattle.mj_tables.proofs.LastWrites.{last_rest, one_more_there}
use Rattle.mj_tables.proofs.Writes.{next_write}
use Rattle.mj_tables.proofs.listing.drop_absent.Goals as goal
use Rattle.mj_tables.proofs.listing.drop_absent.Goals.{Joined-not-is_there, then-not-is_there, else-not-is_there}

abbrev left : Joined-not-is_there → List CellWrite
left c = drop (c.loop-w.w-index + 1) c.args.ws.now

next : (c : Joined-not-is_there) → drop c.loop-w.w-index c.args.ws.now ≡ c.w-item.result ∷ left c
next c = next_write c.args.ws.now c.loop-w.w-index c.w-item.result c.loop-w-test.true c.w-item.is

last : (c : Joined-not-is_there) → AreLast (slots_of c.args.slots.now) (c.w-item.result ∷ left c)
last c = subst (AreLast (slots_of c.args.slots.now)) (next c) c.loop-w.invariant.1

-- the keys of a set that stay with these writes
abbrev stays : (c : Joined-not-is_there) → BTreeSet CellKey → List CellWrite → CellKey → Bool
stays c s ws q = has_key s q && (is_some (there_at (slots_of c.args.slots.now) q) || not (writes_key q ws))

before : (c : Joined-not-is_there) (q : CellKey) → stays c c.loop-w.there (c.w-item.result ∷ left c) q ≡ stays c c.args.there.now c.args.ws.now q
before c q = ap (λ (ws : List CellWrite). stays c c.loop-w.there ws q) (sym (next c)) ∙ c.loop-w.invariant.0 q

after : (c : Joined-not-is_there) (q : CellKey) → stays c c.if-not-is_there.there (left c) q ≡ stays c c.loop-w.there (c.w-item.result ∷ left c) q
after c q = elim c.if-not-is_there.branch [
  | then-not-is_there w ↦ ap (λ s. stays c s (left c) q) w.there-is ∙ one_more_kept (slots_of c.args.slots.now) c.loop-w.there c.w-item.result w.drop_absent_key.new.there (left c) w.drop_absent_key.ensures q
  | else-not-is_there w ↦ ap (λ s. stays c s (left c) q) w.there-is ∙ one_more_there (slots_of c.args.slots.now) c.w-item.result (left c) (last c) c.loop-w.there (sym c.is_there.ensures ∙ w.if-not-is_there.false) q
]

pub loop-w-preserved : goal.loop-w-preserved
loop-w-preserved c = (λ q. after c q ∙ before c q, last_rest (slots_of c.args.slots.now) c.w-item.result (left c) (last c))
