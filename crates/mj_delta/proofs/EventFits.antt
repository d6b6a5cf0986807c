-- The event of each request fits an entry.
use Rattle.std.proofs.Common.{◌≡◌, ℕ, ◌+◌, ◌≤◌, Bool, true, false, List, [], ◌∷◌, Option, Some, None, subst, arith}
use Rattle.std.specs.Prelude.{◌==◌, nat_lt, if◌then◌else◌}
use Rattle.mj_base.specs.ObjectName.{hex, stray_ino}
use Rattle.mj_base.specs.Record.{same_kind}
use Rattle.mj_base.specs.declared.record.Kind.TheVariants as kind
use Rattle.mj_base.specs.declared.record.InodeRecord.{InodeRecord}
use Rattle.mj_maps.specs.Map.{get, remove}
use Rattle.mj_maps.proofs.MapLaws.{none_some, some_same}
use Rattle.mj_tree.specs.declared.change.Attributes.{Attributes}
use Rattle.mj_tree.specs.declared.change.Change.{Change}
use Rattle.mj_tree.specs.declared.change.Change.TheVariants.{Nothing, Begin, Link, Unlink, Move, Replace, Set, Hold, Release}
use Rattle.mj_tree.specs.declared.change.Decision.{Decision}
use Rattle.mj_tree.specs.declared.change.Decision.TheVariants.{Answered, SessionBegins, SessionEnds, Accepted}
use Rattle.mj_tree.specs.declared.change.Settings.{Settings}
use Rattle.mj_tree.specs.declared.request.ClientRequest.{ClientRequest}
use Rattle.mj_tree.specs.State.{PlainState, is_kept, link_count, record_of}
use Rattle.mj_tree.specs.Change.{set_in}
use Rattle.mj_tree.specs.Answer.{decision}
use Rattle.mj_cells.specs.Table.{Table}
use Rattle.mj_entry.specs.Entry.{IsPayload}
use Rattle.mj_event.specs.declared.Event.{Event}
use Rattle.mj_event.specs.Event.{event_bytes, IsEvent}
use Rattle.mj_delta.specs.TreeOf.{IsTreeOf}
use Rattle.mj_delta.specs.Fits.{IsSent}
use Rattle.mj_delta.specs.Events.{next_version, full_lump, empty_lump, begin_lumps, full_place, says, set_lumps, remote_lump, both_lump, second_lumps, link_lumps, null_lump, release_lumps}
use Rattle.mj_delta.specs.Plan.{Plan, plan_event, unlink_plan, move_plan, replace_plan}
use Rattle.mj_delta.specs.EventFor.{change_event, event_for}
use Rattle.mj_delta.proofs.Sizes.{lumps_most, session_fits, update_fits}
use Rattle.mj_delta.proofs.PlanSizes.{IsWithin, plan_most, left_within, moved_within, replaced_within, within_whole}
use Rattle.mj_delta.proofs.EventIs.{event_gives}

-- an event in the grammar fits an entry
abbrev Fits : Event → Type 0
Fits e = IsEvent e → IsPayload (event_bytes e)

-- ---- the lumps of each change

begin_most : (t : Table) (i : ℕ) (q : ℕ × List ℕ) (a : Attributes) → lumps_most (begin_lumps t i q a) ≤ 64935
begin_most t i q a = elim (same_kind a.kind kind.Dir) as (λ b. lumps_most (full_lump q.0 (next_version t q.0) q.1 (record_of i 1 a) ∷ (if b then empty_lump i ∷ [] else [])) ≤ 64935) [ true ↦ omega arith | false ↦ omega arith ]

set_most : (t : Table) (s : PlainState) (p : ℕ × List ℕ) (i : ℕ) (x : Settings) (o : Option Attributes) → lumps_most (set_lumps t s p i x o) ≤ 64935
set_most t s p i x None = omega arith
set_most t s p i x (Some a) = elim (says x a) as (λ b. lumps_most (if b then [] else full_lump p.0 (next_version t p.0) p.1 (record_of i (link_count s i) (set_in x a)) ∷ []) ≤ 64935) [ true ↦ omega arith | false ↦ omega arith ]

second_most : (t : Table) (p q : ℕ × List ℕ) (y : InodeRecord) → lumps_most (second_lumps t p q y) ≤ 64935
second_most t p q y = choice (p.0 == q.0) (nat_lt p.0 q.0)
  where
    choice : (b c : Bool) → lumps_most (if b then both_lump q.0 (next_version t q.0) p.1 y q.1 ∷ [] else if c then full_lump p.0 (next_version t p.0) p.1 y ∷ remote_lump q.0 (next_version t q.0) q.1 y.ino y.kind ∷ [] else remote_lump q.0 (next_version t q.0) q.1 y.ino y.kind ∷ full_lump p.0 (next_version t p.0) p.1 y ∷ []) ≤ 64935
    choice true c = omega arith
    choice false true = omega arith
    choice false false = omega arith

link_most : (t : Table) (s : PlainState) (p q : ℕ × List ℕ) (i : ℕ) (o : Option Attributes) → lumps_most (link_lumps t s p q i o) ≤ 64935
link_most t s p q i None = omega arith
link_most t s p q i (Some a) = second_most t p q (record_of i (link_count s i + 1) a)

release_most : (rank : ℕ) (t : Table) (s : PlainState) (client i : ℕ) → lumps_most (release_lumps rank t s client i) ≤ 64935
release_most rank t s client i = elim (is_kept (record s { opens = remove s.opens (client, i) }) i) as (λ b. lumps_most (if b then [] else null_lump (stray_ino rank) (next_version t (stray_ino rank)) (hex i) ∷ []) ≤ 64935) [ true ↦ omega arith | false ↦ omega arith ]

-- ---- each change

plan_fits : (t : Table) (s : PlainState) (r : ClientRequest) (i : ℕ) (plan : Plan) → IsWithin 4 9334 plan.dentries → Fits (plan_event t s r i plan)
plan_fits t s r i plan within is = let most = plan_most t plan within in update_fits _ is (omega (arith, most))

change_fits : (rank : ℕ) (t : Table) (s : PlainState) (r : ClientRequest) (i : ℕ) (change : Change) → Fits (change_event rank t s r i change)
change_fits rank t s r i Nothing is = update_fits _ is (omega arith)
change_fits rank t s r i (Begin q a) is = update_fits _ is (begin_most t s.next q a)
change_fits rank t s r i (Link q j) is = update_fits _ is (link_most t s (full_place rank t r i) q i (get s.records i))
change_fits rank t s r i (Unlink q j) is = plan_fits t s r i (unlink_plan rank s q i (full_place rank t r i)) (within_whole _ (left_within rank s q i (full_place rank t r i) (get s.records i))) is
change_fits rank t s r i (Move from to j) is = plan_fits t s r i (move_plan t from to) (moved_within t from to) is
change_fits rank t s r i (Replace from to j other) is =
    plan_fits t s r i (replace_plan rank t s from to other (full_place rank t r other)) (replaced_within t from to _ (left_within rank s to other (full_place rank t r other) (get s.records other))) is
change_fits rank t s r i (Set j x) is = update_fits _ is (set_most t s (full_place rank t r i) i x (get s.records i))
change_fits rank t s r i (Hold client j) is = update_fits _ is (omega arith)
change_fits rank t s r i (Release client j) is = update_fits _ is (release_most rank t s r.client i)

fits_by : (rank : ℕ) (t : Table) (s : PlainState) (r : ClientRequest) (e : Event) (d : Decision) → event_for rank t s r d ≡ Some e → Fits e
fits_by rank t s r e (Answered x) h = absurd (none_some e h)
fits_by rank t s r e SessionBegins h = subst Fits (some_same _ e h) (session_fits _)
fits_by rank t s r e SessionEnds h = subst Fits (some_same _ e h) (session_fits _)
fits_by rank t s r e (Accepted i change) h = subst Fits (some_same _ e h) (change_fits rank t s r i change)

pub event_fits : (rank : ℕ) (t : Table) (s : PlainState) (r : ClientRequest) (e : Event) → IsTreeOf rank t s → IsSent r → event_for rank t s r (decision s r) ≡ Some e → IsPayload (event_bytes e)
event_fits rank t s r e is sent h = fits_by rank t s r e (decision s r) h (event_gives rank t s r e is sent h).grammar
