-- What is known of the event of an accepted request.
use Rattle.std.proofs.Common.{◌≡◌, ℕ, ◌<◌, ◌≤◌, ◌^◌, Bool, true, false, ◌++◌, length, Some, None, Ok, refl, ap, ◌∙◌, arith}
use Rattle.std.specs.Prelude.{nat_lt, max, if◌then◌else◌, IsTrue, unwrap_or}
use Rattle.std.specs.List.{flat_map}
use Rattle.std.proofs.lemmas.Bool.{and_from, le-leb}
use Rattle.mj_maps.specs.Map.{get, retain, empty}
use Rattle.mj_tree.specs.declared.change.Change.{Change}
use Rattle.mj_tree.specs.declared.request.ClientRequest.{ClientRequest}
use Rattle.mj_tree.specs.declared.request.Op.{Op}
use Rattle.mj_tree.specs.declared.request.Op.TheVariants.{SessionOpen, SessionClose, Mkdir, Create, Symlink, Link, Unlink, Rmdir, Rename, SetAttr, OpenFile, Release, Lookup, Readdir, Readlink}
use Rattle.mj_tree.specs.State.{PlainState, Session}
use Rattle.mj_tree.specs.Row.{effect}
use Rattle.mj_tree.specs.Answer.{decision, state_after, after}
use Rattle.mj_cells.specs.Table.{Table, overlay}
use Rattle.mj_cells.specs.declared.cell.CellKey.TheVariants as key
use Rattle.mj_cells.specs.declared.cell.CellValue.TheVariants as value
use Rattle.mj_cells.proofs.Tables.{overlay-append}
use Rattle.mj_event.specs.declared.UpdateEvent.{UpdateEvent}
use Rattle.mj_event.specs.Event.{AreNumbers, Optional, is_count}
use Rattle.mj_event.specs.Writes.{write, where_some, lump_writes, reply_writes, update_writes}
use Rattle.mj_machine.specs.Delta.{op_number}
use Rattle.mj_delta.specs.TreeOf.{HasSessions}
use Rattle.mj_delta.specs.Events.{own_session, raised_oldest, dropped_replies}
use Rattle.mj_delta.proofs.Dropped.{tids_rise, tids_count, retained, retained_count, all_count}

pub after_is : (s : PlainState) (r : ClientRequest) (d : _) → decision s r ≡ d → after s r ≡ state_after s r d
unfolding after
after_is s r d e = ap (state_after s r) e

-- ---- updates

pub update_overlay : (t : Table) (e : UpdateEvent) → overlay t (update_writes e) ≡ overlay (overlay (overlay (overlay (overlay t (reply_writes e)) (where_some (λ next. write key.NextIno (value.Number next)) e.next))
    (where_some (λ ino. write (key.OpenOf e.client ino) value.Present) e.opened)) (where_some (λ ino. write (key.OpenOf e.client ino) value.Gone) e.released)) (flat_map lump_writes e.blob.lumps)
update_overlay t e =
    let next = where_some (λ next. write key.NextIno (value.Number next)) e.next in
    let opened = where_some (λ ino. write (key.OpenOf e.client ino) value.Present) e.opened in
    let released = where_some (λ ino. write (key.OpenOf e.client ino) value.Gone) e.released in
    let lumps = flat_map lump_writes e.blob.lumps in
    overlay-append t (reply_writes e ++ next ++ opened ++ released) lumps
    ∙ ap (λ x. overlay x lumps) (overlay-append t (reply_writes e ++ next ++ opened) released
    ∙ ap (λ x. overlay x released) (overlay-append t (reply_writes e ++ next) opened
    ∙ ap (λ x. overlay x opened) (overlay-append t (reply_writes e) next)))

-- what the session of an accepted request says
pub own_is : (s : PlainState) (r : ClientRequest) (c : Session) → get s.sessions r.client ≡ Some c → own_session s r ≡ c
own_is s r c e = ap (λ o. unwrap_or o (record { oldest = 0; kept = empty })) e

pub raised_fits : (r : ClientRequest) (c : Session) → r.oldest < 2 ^ 64 → Optional (raised_oldest r c)
raised_fits r c fits = elim (nat_lt c.oldest r.oldest) as (λ b. Optional (if b then Some r.oldest else None)) [ true ↦ fits | false ↦ tt ]

pub dropped_fit : (t : Table) (s : PlainState) (h : HasSessions t s) (r : ClientRequest) (c : Session) → get s.sessions r.client ≡ Some c → AreNumbers 0 64 (dropped_replies r c)
dropped_fit t s h r c e =
    let goes : ℕ → ℕ → Bool = λ tid _. nat_lt tid (max c.oldest r.oldest) in
    let few : length (dropped_replies r c) ≤ 64 = omega (arith, tids_count (retain goes c.kept), retained_count goes (λ _. true) c.kept (λ _ _. refl), all_count (λ _. true) c.kept, h.few_replies r.client c e) in
    (and_from _ _ (le-leb 0 (length (dropped_replies r c)) (omega arith)) (le-leb (length (dropped_replies r c)) 64 few), tids_rise (retain goes c.kept) (λ tid i k. h.tids_fit r.client c tid i e (retained goes c.kept tid i k).0))

pub op_counts : (s : PlainState) (r : ClientRequest) (op : Op) (x : ℕ × Change) → effect s r op ≡ Ok x → IsTrue (is_count 3 12 (op_number op))
unfolding effect
op_counts s r SessionOpen x e = absurd cc
op_counts s r SessionClose x e = absurd cc
op_counts s r (Mkdir path mode) x e = refl
op_counts s r (Create path mode) x e = refl
op_counts s r (Symlink path target) x e = refl
op_counts s r (Link from to) x e = refl
op_counts s r (Unlink path) x e = refl
op_counts s r (Rmdir path) x e = refl
op_counts s r (Rename from to) x e = refl
op_counts s r (SetAttr path mode uid gid size mtime) x e = refl
op_counts s r (OpenFile path) x e = refl
op_counts s r (Release i) x e = refl
op_counts s r (Lookup path) x e = absurd cc
op_counts s r (Readdir path) x e = absurd cc
op_counts s r (Readlink path) x e = absurd cc
