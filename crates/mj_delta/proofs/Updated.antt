-- The event of an accepted request gives the tree after it, where what it writes beside sessions and replies does so of the change.
use Rattle.std.proofs.Common.{◌≡◌, ℕ, ◌<◌, ◌≤◌, ◌^◌, true, List, [], ◌∷◌, ◌++◌, map, Option, Some, None, refl, sym, ap, subst, ◌∙◌}
use Rattle.std.specs.Prelude.{IsSome}
use Rattle.std.specs.List.{flat_map, cons_option, AllByRecursion}
use Rattle.std.specs.Option.{option_and_then}
use Rattle.std.proofs.lemmas.List.Elements.{filter_map-append}
use Rattle.mj_maps.specs.Map.{Map, get, len}
use Rattle.mj_maps.specs.Orders.{nat_cmp, pair_cmp}
use Rattle.mj_tree.specs.declared.change.Change.{Change}
use Rattle.mj_tree.specs.declared.change.Decision.TheVariants.{Accepted}
use Rattle.mj_tree.specs.declared.request.ClientRequest.{ClientRequest}
use Rattle.mj_tree.specs.State.{PlainState, Session, is_dir}
use Rattle.mj_tree.specs.Sessions.{oldest_of}
use Rattle.mj_tree.specs.Change.{changed}
use Rattle.mj_tree.specs.Answer.{decision, after, most_sessions}
use Rattle.mj_cells.specs.declared.cell.CellKey.{CellKey}
use Rattle.mj_cells.specs.declared.cell.CellKey.TheVariants as key
use Rattle.mj_cells.specs.declared.cell.CellValue.{CellValue}
use Rattle.mj_cells.specs.declared.cell.CellValue.TheVariants as value
use Rattle.mj_cells.specs.declared.cell.CellWrite.{CellWrite}
use Rattle.mj_cells.specs.Table.{Table, put_at, overlay}
use Rattle.mj_meta.specs.Blob.{IsBlob}
use Rattle.mj_meta.specs.declared.DirLump.{DirLump}
use Rattle.mj_event.specs.declared.UpdateEvent.{UpdateEvent}
use Rattle.mj_event.specs.declared.Event.TheVariants as event
use Rattle.mj_event.specs.Event.{IsUpdateEvent, Optional}
use Rattle.mj_event.specs.Writes.{write, where_some, full_write, remote_write, null_write, lump_writes, replies_gone, update_writes}
use Rattle.mj_recovery.specs.Damage.{lump_dirs, head_written}
use Rattle.mj_recovery.specs.Orderly.{IsOwn}
use Rattle.mj_machine.specs.Delta.{op_number}
use Rattle.mj_delta.specs.Reads.{Places}
use Rattle.mj_delta.specs.TreeOf.{IsReached, HasDentries, HasSessions, IsTreeOf}
use Rattle.mj_delta.specs.Fits.{IsSent}
use Rattle.mj_delta.specs.Events.{raised_oldest, dropped_replies, update_of}
use Rattle.mj_delta.specs.Steps.{IsOrderlyWrite, GivesTree}
use Rattle.mj_delta.proofs.Replied.{reply_part, reply_overlay, sessions_after, replies_after, replied, replied_is, replied_table, reply_kept}
use Rattle.mj_delta.proofs.Again.{dentries_again, reached_again}
use Rattle.mj_delta.proofs.Decided.{CanChange}
use Rattle.mj_delta.proofs.Accepted.{after_is, own_is, raised_fits, dropped_fit, op_counts, update_overlay}

-- ---- writes that are of no session and no reply

abbrev pub IsApart : CellKey → Type 0
IsApart (key.Session client) = ⊥
IsApart (key.Done client tid) = ⊥
IsApart _ = Unit {0}

abbrev pub AreApart : List CellWrite → Type 0
AreApart ws = AllByRecursion (λ (w : CellWrite). IsApart w.key) ws

abbrev with_replies : Table → Map nat_cmp ℕ → Map pair_cmp ℕ → Table
with_replies t sessions done = record t { sessions = sessions; done = done }

put_apart : (t : Table) (sessions : Map nat_cmp ℕ) (done : Map pair_cmp ℕ) (k : CellKey) (v : CellValue) → IsApart k → put_at (with_replies t sessions done) k v ≡ with_replies (put_at t k v) sessions done
put_apart t sessions done (key.Dentry d n) v h = refl
put_apart t sessions done (key.DirHead d) v h = refl
put_apart t sessions done key.NextIno v h = refl
put_apart t sessions done (key.Session c) v h = absurd h
put_apart t sessions done (key.Done c u) v h = absurd h
put_apart t sessions done (key.OpenOf c i) v h = refl

overlay_apart : (t : Table) (sessions : Map nat_cmp ℕ) (done : Map pair_cmp ℕ) (ws : List CellWrite) → AreApart ws → overlay (with_replies t sessions done) ws ≡ with_replies (overlay t ws) sessions done
overlay_apart t sessions done [] h = refl
overlay_apart t sessions done (w ∷ ws) h = ap (λ x. overlay x ws) (put_apart t sessions done w.key w.value h.0) ∙ overlay_apart (put_at t w.key w.value) sessions done ws h.1

all_append : {A : Type 0} (P : A → Type 0) (xs ys : List A) → AllByRecursion P xs → AllByRecursion P ys → AllByRecursion P (xs ++ ys)
all_append P [] ys h k = k
all_append P (x ∷ xs) ys h k = (h.0, all_append P xs ys h.1 k)

all_map : {A B : Type 0} (P : B → Type 0) (f : A → B) (xs : List A) → ((x : A) → P (f x)) → AllByRecursion P (map f xs)
all_map P f [] h = tt
all_map P f (x ∷ xs) h = (h x, all_map P f xs h)

all_some : {A : Type 0} (P : CellWrite → Type 0) (f : A → CellWrite) (o : Option A) → ((x : A) → P (f x)) → AllByRecursion P (where_some f o)
all_some P f None h = tt
all_some P f (Some x) h = (h x, tt)

lumps_apart : (lumps : List DirLump) → AreApart (flat_map lump_writes lumps)
lumps_apart [] = tt
lumps_apart (l ∷ ls) = all_append apart_key (lump_writes l) (flat_map lump_writes ls) (
  tt,
  all_append apart_key (map (full_write l.dir) l.full ++ map (remote_write l.dir) l.remote) (map (null_write l.dir) l.null)
      (all_append apart_key (map (full_write l.dir) l.full) (map (remote_write l.dir) l.remote) (all_map apart_key (full_write l.dir) l.full (λ _. tt)) (all_map apart_key (remote_write l.dir) l.remote (λ _. tt)))
      (all_map apart_key (null_write l.dir) l.null (λ _. tt)),
)
    (lumps_apart ls)
  where
    apart_key : CellWrite → Type 0
    apart_key w = IsApart w.key

-- ---- writes of the next inode and of opens

abbrev pub next_part : Option ℕ → List CellWrite
next_part next = where_some (λ next. write key.NextIno (value.Number next)) next

abbrev pub opened_part : ClientRequest → Option ℕ → List CellWrite
opened_part r opened = where_some (λ ino. write (key.OpenOf r.client ino) value.Present) opened

abbrev pub released_part : ClientRequest → Option ℕ → List CellWrite
released_part r released = where_some (λ ino. write (key.OpenOf r.client ino) value.Gone) released

-- the table with all that an update writes beside sessions and replies
abbrev pub planned : Table → ClientRequest → Option ℕ → Option ℕ → Option ℕ → List DirLump → Table
planned t r next opened released lumps = overlay (overlay (overlay (overlay t (next_part next)) (opened_part r opened)) (released_part r released)) (flat_map lump_writes lumps)

-- What an update writes beside sessions and replies does what the change does.
pub record IsPlan (rank : ℕ) (t : Table) (s : PlainState) (r : ClientRequest) (i : ℕ) (change : Change) (next opened released : Option ℕ) (lumps : List DirLump) : Type 0 where
  pub primary : Places
  pub dentries : HasDentries rank (planned t r next opened released lumps) (changed s change) primary
  pub reached : (d : ℕ) → is_dir (changed s change) d ≡ true → IsReached (changed s change) d
  pub sessions : (changed s change).sessions ≡ s.sessions
  pub opens : (client j : ℕ) → IsSome (get (changed s change).opens (client, j)) → IsSome (get s.sessions client)
  pub inode : i < 2 ^ 64
  pub optionals : Optional next × Optional opened × Optional released
  pub blob : IsBlob (record { lumps = lumps })
  pub own : AllByRecursion (IsOwn rank (changed s change).next) (lump_dirs (flat_map lump_writes lumps))
  pub rises : s.next ≤ (changed s change).next
  pub orderly : AllByRecursion (IsOrderlyWrite rank) (flat_map lump_writes lumps)

module _ (rank : ℕ) (t : Table) (s : PlainState) (is : IsTreeOf rank t s) (r : ClientRequest) (sent : IsSent r) (i : ℕ) (change : Change) (can : CanChange s r i change)
    (next opened released : Option ℕ) (lumps : List DirLump) (plan : IsPlan rank t s r i change next opened released lumps) where
  abbrev t1 : Table
  t1 = planned t r next opened released lumps

  abbrev s1 : PlainState
  s1 = changed s change

  abbrev c : Session
  c = can.inside.session

  planned_apart : (sessions : Map nat_cmp ℕ) (done : Map pair_cmp ℕ) → planned (with_replies t sessions done) r next opened released lumps ≡ with_replies t1 sessions done
  planned_apart sessions done =
      ap (λ x. overlay (overlay (overlay x (opened_part r opened)) (released_part r released)) (flat_map lump_writes lumps)) (overlay_apart t sessions done (next_part next) (all_some _ _ next (λ _. tt)))
      ∙ ap (λ x. overlay (overlay x (released_part r released)) (flat_map lump_writes lumps)) (overlay_apart (overlay t (next_part next)) sessions done (opened_part r opened) (all_some _ _ opened (λ _. tt)))
      ∙ ap (λ x. overlay x (flat_map lump_writes lumps)) (overlay_apart (overlay (overlay t (next_part next)) (opened_part r opened)) sessions done (released_part r released) (all_some _ _ released (λ _. tt)))
      ∙ overlay_apart (overlay (overlay (overlay t (next_part next)) (opened_part r opened)) (released_part r released)) sessions done (flat_map lump_writes lumps) (lumps_apart lumps)

  -- the table's own sessions and replies stay
  own_apart : t1 ≡ with_replies t1 t.sessions t.done
  own_apart = planned_apart t.sessions t.done

  sessions_same : HasSessions t1 s1
  sessions_same =
      let h = is.sessions in
      let there : (client : ℕ) (x : Session) → get s1.sessions client ≡ Some x → get s.sessions client ≡ Some x = λ client x e. sym (ap (λ (m : Map nat_cmp Session). get m client) plan.sessions) ∙ e in
      record {
        sessions = λ client. ap (λ (x : Table). get x.sessions client) own_apart ∙ h.sessions client ∙ ap (λ (m : Map nat_cmp Session). oldest_of (get m client)) (sym plan.sessions);
        replies = λ client tid. ap (λ (x : Table). get x.done (client, tid)) own_apart ∙ h.replies client tid ∙ ap (λ (m : Map nat_cmp Session). option_and_then (λ (c : Session). get c.kept tid) (get m client)) (sym plan.sessions);
        not_below = λ client x tid j e k. h.not_below client x tid j (there client x e) k;
        few_replies = λ client x e. h.few_replies client x (there client x e);
        tids_fit = λ client x tid j e k. h.tids_fit client x tid j (there client x e) k;
        few_sessions = subst (λ (m : Map nat_cmp Session). len m ≤ most_sessions) (sym plan.sessions) h.few_sessions;
        open_sessions = λ client j open_there. subst (λ (m : Map nat_cmp Session). IsSome (get m client)) (sym plan.sessions) (plan.opens client j open_there);
      }

  there : get s1.sessions r.client ≡ Some c
  there = ap (λ (m : Map nat_cmp Session). get m r.client) plan.sessions ∙ can.inside.there

  abbrev s2 : PlainState
  s2 = replied t1 s1 sessions_same r i c there can.inside.above can.inside.own can.room sent.tid

  abbrev t2 : Table
  t2 = replied_table t1 s1 sessions_same r i c there can.inside.above can.inside.own can.room sent.tid

  updated : IsTreeOf rank t2 s2
  updated = record {
    primary = plan.primary;
    dentries = dentries_again rank t1 s1 plan.primary t2.sessions t2.done s2.sessions plan.dentries;
    sessions = reply_kept t1 s1 sessions_same r i c there can.inside.above can.inside.own can.room sent.tid;
    reached = λ d h. reached_again s1 s2.sessions d (plan.reached d h);
  }

  abbrev update : Session → UpdateEvent
  update c = record { op = op_number r.op; client = r.client; tid = r.tid; ino = i; oldest = raised_oldest r c; dropped = dropped_replies r c; next = next; opened = opened; released = released; blob = record { lumps = lumps } }

  event_overlay : overlay t (update_writes (update c)) ≡ t2
  event_overlay = update_overlay t (update c)
      ∙ ap (λ x. planned x r next opened released lumps) (reply_overlay t r i c)
      ∙ planned_apart (sessions_after t r c) (replies_after t r i c)
      ∙ (λ z. with_replies t1 (sessions_after (sym own_apart z) r c) (replies_after (sym own_apart z) r i c))

  -- ---- what is said of all writes

  abbrev first_writes : List CellWrite
  first_writes = reply_part r i c ++ next_part next ++ opened_part r opened ++ released_part r released

  first_all : (P : CellWrite → Type 0) → P (write (key.Done r.client r.tid) (value.Number i)) → ((n : ℕ) → P (write (key.Session r.client) (value.Number n))) → ((tid : ℕ) → P (write (key.Done r.client tid) value.Gone))
      → ((n : ℕ) → P (write key.NextIno (value.Number n))) → ((j : ℕ) → P (write (key.OpenOf r.client j) value.Present)) → ((j : ℕ) → P (write (key.OpenOf r.client j) value.Gone)) → AllByRecursion P first_writes
  first_all P a b d e f g = all_append P (reply_part r i c ++ next_part next ++ opened_part r opened) (released_part r released)
      (all_append P (reply_part r i c ++ next_part next) (opened_part r opened)
      (all_append P (reply_part r i c) (next_part next)
      (a, all_append P (where_some (λ oldest. write (key.Session r.client) (value.Number oldest)) (raised_oldest r c)) (replies_gone r.client (dropped_replies r c)) (all_some P _ (raised_oldest r c) b) (all_map P _ (dropped_replies r c) d))
      (all_some P _ next e))
      (all_some P _ opened f))
      (all_some P _ released g)

  no_heads : (ws : List CellWrite) → AllByRecursion (λ w. head_written w ≡ None) ws → lump_dirs ws ≡ []
  no_heads [] h = refl
  no_heads (w ∷ ws) h = ap (λ o. cons_option o (lump_dirs ws)) h.0 ∙ no_heads ws h.1

  dirs_are : lump_dirs (update_writes (update c)) ≡ lump_dirs (flat_map lump_writes lumps)
  dirs_are = filter_map-append head_written first_writes (flat_map lump_writes lumps)
      ∙ ap (λ ds. ds ++ lump_dirs (flat_map lump_writes lumps)) (no_heads first_writes (first_all (λ w. head_written w ≡ None) refl (λ _. refl) (λ _. refl) (λ _. refl) (λ _. refl) (λ _. refl)))

  all_orderly : AllByRecursion (IsOrderlyWrite rank) (update_writes (update c))
  all_orderly = all_append (IsOrderlyWrite rank) first_writes (flat_map lump_writes lumps)
      (first_all (IsOrderlyWrite rank) (tt, tt, tt) (λ _. (tt, tt, tt)) (λ _. (tt, tt, tt)) (λ _. (tt, tt, tt)) (λ _. (tt, tt, tt)) (λ _. (tt, tt, tt))) plan.orderly

  event_fits : IsUpdateEvent (update c)
  event_fits = record {
    op = op_counts s r r.op (i, change) can.done;
    ranges = (sent.client, sent.tid, plan.inode);
    optionals = (raised_fits r c sent.oldest, plan.optionals.0, plan.optionals.1, plan.optionals.2);
    dropped = dropped_fit t s is.sessions r c can.inside.there;
    blob = plan.blob;
  }

  given : decision s r ≡ Accepted i change → GivesTree rank t s r (event.Update (update c))
  given d =
      let state : s2 ≡ after s r = sym (after_is s r (Accepted i change) d ∙ replied_is t1 s1 sessions_same r i c there can.inside.above can.inside.own can.room sent.tid) in
      record {
        grammar = event_fits;
        tree = subst (λ x. IsTreeOf rank x (after s r)) (sym event_overlay) (subst (IsTreeOf rank t2) state updated);
        lumps = subst (λ ds. AllByRecursion (IsOwn rank (after s r).next) ds) (sym dirs_are) (subst (λ (x : PlainState). AllByRecursion (IsOwn rank x.next) (lump_dirs (flat_map lump_writes lumps))) state plan.own);
        next = subst (λ (x : PlainState). s.next ≤ x.next) state plan.rises;
        orderly = all_orderly;
      }

  pub update_gives : decision s r ≡ Accepted i change → GivesTree rank t s r (event.Update (update_of s r i next opened released lumps))
  update_gives d = subst (λ c. GivesTree rank t s r (event.Update (update c))) (sym (own_is s r c can.inside.there)) (given d)
