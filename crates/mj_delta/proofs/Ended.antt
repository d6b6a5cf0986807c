-- The event of a session that ends gives the tree after the request.
use Rattle.std.proofs.Common.{◌≡◌, ℕ, ◌≤◌, List, [], ◌∷◌, length, Option, Some, None, refl, sym, ap, subst, ◌∙◌, inl, inr, arith}
use Rattle.std.specs.Prelude.{◌==◌}
use Rattle.std.specs.Option.{option_and_then}
use Rattle.std.proofs.lemmas.Bool.{and_from, le-leb, eq-eqb}
use Rattle.mj_maps.specs.Map.{get, remove}
use Rattle.mj_maps.proofs.MapLaws.{exact_nat, exact_pair, none_some, remove_same, remove_other, cases_key, apart, len-remove, count_some}
use Rattle.mj_tree.specs.declared.change.Decision.TheVariants.{SessionEnds}
use Rattle.mj_tree.specs.declared.request.ClientRequest.{ClientRequest}
use Rattle.mj_tree.specs.State.{PlainState, Session, opens_of}
use Rattle.mj_tree.specs.Sessions.{oldest_of}
use Rattle.mj_tree.specs.Change.{without_session}
use Rattle.mj_tree.specs.Answer.{decision, kept_reply, after}
use Rattle.mj_cells.specs.Table.{Table, overlay}
use Rattle.mj_event.specs.declared.SessionEvent.{SessionEvent}
use Rattle.mj_event.specs.declared.SessionKind.TheVariants.{Close}
use Rattle.mj_event.specs.Event.{IsSessionEvent}
use Rattle.mj_event.specs.Writes.{session_writes}
use Rattle.mj_delta.specs.TreeOf.{HasSessions, IsTreeOf}
use Rattle.mj_delta.specs.Fits.{IsSent}
use Rattle.mj_delta.specs.Events.{tids, own_session, close_event}
use Rattle.std.specs.List.{AllByRecursion}
use Rattle.mj_event.specs.Writes.{replies_gone}
use Rattle.mj_recovery.specs.Damage.{lump_dirs}
use Rattle.mj_recovery.specs.Orderly.{IsOwn}
use Rattle.mj_delta.specs.Steps.{IsOrderlyWrite, GivesTree}
use Rattle.mj_delta.proofs.Facts.{is_some_at, some_is}
use Rattle.mj_delta.proofs.Dropped.{without_all, gone_is, gone_in, gone_out, still_none, tid_there, tids_rise, tids_count}
use Rattle.mj_delta.proofs.Again.{dentries_again, reached_again}
use Rattle.mj_delta.proofs.Decided.{meant}
use Rattle.mj_delta.proofs.Accepted.{own_is, after_is}

module _ (t : Table) (s : PlainState) (h : HasSessions t s) (client : ℕ) (c : Session) (there : get s.sessions client ≡ Some c) (no_opens : opens_of s client ≡ 0) where
  abbrev ended : PlainState
  ended = without_session s client

  abbrev pub ended_table : Table
  ended_table = record t { sessions = remove t.sessions client; done = without_all t.done client (tids c.kept) }

  abbrev kept_at : ℕ → Option Session → Option ℕ
  kept_at tid o = option_and_then (λ (c : Session). get c.kept tid) o

  gone : get ended.sessions client ≡ None
  gone = remove_same exact_nat s.sessions client

  others : (d : ℕ) (x : Session) → get ended.sessions d ≡ Some x → get s.sessions d ≡ Some x
  others d x e = elim (cases_key exact_nat d client) [
    | inl same ↦ absurd (none_some x (sym gone ∙ ap (get ended.sessions) (sym same) ∙ e))
    | inr ne ↦ sym (remove_other exact_nat s.sessions client d ne) ∙ e
  ]

  none_left : (tid : ℕ) (o : Option ℕ) → get c.kept tid ≡ o → get t.done (client, tid) ≡ o → get ended_table.done (client, tid) ≡ None
  none_left tid None k d = still_none t.done client (tids c.kept) (client, tid) d
  none_left tid (Some i) k d = gone_in t.done client (tids c.kept) tid (tid_there c.kept tid i k)

  ended_replies : (d tid : ℕ) → get ended_table.done (d, tid) ≡ kept_reply ended d tid
  ended_replies d tid = elim (cases_key exact_nat d client) [
    | inl same ↦ subst (λ d. get ended_table.done (d, tid) ≡ kept_reply ended d tid) (sym same) (none_left tid (get c.kept tid) refl (h.replies client tid ∙ ap (kept_at tid) there) ∙ sym (ap (kept_at tid) gone))
    | inr ne ↦ gone_out t.done client (tids c.kept) (d, tid) (λ e _. apart exact_nat d client ne e) ∙ h.replies d tid ∙ ap (kept_at tid) (sym (remove_other exact_nat s.sessions client d ne))
  ]

  pub session_ended : HasSessions ended_table ended
  session_ended = record {
    sessions = λ d. elim (cases_key exact_nat d client) [
      | inl same ↦ ap (get ended_table.sessions) same ∙ remove_same exact_nat t.sessions client ∙ sym (ap (λ d. oldest_of (get ended.sessions d)) same ∙ ap oldest_of gone)
      | inr ne ↦ remove_other exact_nat t.sessions client d ne ∙ h.sessions d ∙ ap oldest_of (sym (remove_other exact_nat s.sessions client d ne))
    ];
    replies = ended_replies;
    not_below = λ d x tid i e k. h.not_below d x tid i (others d x e) k;
    few_replies = λ d x e. h.few_replies d x (others d x e);
    tids_fit = λ d x tid i e k. h.tids_fit d x tid i (others d x e) k;
    few_sessions = omega (arith, len-remove exact_nat s.sessions client c there, h.few_sessions);
    open_sessions = λ d i open_there. let x = some_is (get s.sessions d) (h.open_sessions d i open_there) in elim (cases_key exact_nat d client) [
      | inl same ↦
          let u = some_is (get s.opens (d, i)) open_there in
          let some = count_some exact_pair (λ (e : (ℕ × ℕ) × Unit {0}). e.0.0 == client) s.opens (d, i) u.0 u.1 (eq-eqb d client same) in
          absurd (omega (arith, some, no_opens))
      | inr ne ↦ is_some_at _ x.0 (remove_other exact_nat s.sessions client d ne ∙ x.1)
    ];
  }

none_gone : (client : ℕ) (xs : List ℕ) → lump_dirs (replies_gone client xs) ≡ []
none_gone client [] = refl
none_gone client (x ∷ xs) = none_gone client xs

gone_orderly : (rank client : ℕ) (xs : List ℕ) → AllByRecursion (IsOrderlyWrite rank) (replies_gone client xs)
gone_orderly rank client [] = tt
gone_orderly rank client (x ∷ xs) = ((tt, tt, tt), gone_orderly rank client xs)

abbrev closing_event : ClientRequest → Session → SessionEvent
closing_event r c = record { client = r.client; kind = Close; oldest = r.oldest; tid = r.tid; dropped = tids c.kept }

pub session_ends_gives : (rank : ℕ) (t : Table) (s : PlainState) (r : ClientRequest) → IsTreeOf rank t s → IsSent r → decision s r ≡ SessionEnds → GivesTree rank t s r (close_event s r)
session_ends_gives rank t s r is sent d =
    let can = meant s r SessionEnds d in
    let c = can.inside.session in
    let own = sym (own_is s r c can.inside.there) in
    let few = is.sessions.few_replies r.client c can.inside.there in
    let fits : IsSessionEvent (closing_event r c) = record {
      ranges = (sent.client, sent.oldest, sent.tid);
      dropped = (and_from _ _ (le-leb 0 (length (tids c.kept)) (omega arith)) (le-leb (length (tids c.kept)) 64 (omega (arith, few, tids_count c.kept))), tids_rise c.kept (λ tid i k. is.sessions.tids_fit r.client c tid i can.inside.there k));
    } in
    let tree : IsTreeOf rank (ended_table t s is.sessions r.client c can.inside.there can.no_opens) (without_session s r.client) = record {
      primary = is.primary;
      dentries = dentries_again rank t s is.primary (remove t.sessions r.client) (without_all t.done r.client (tids c.kept)) (without_session s r.client).sessions is.dentries;
      sessions = session_ended t s is.sessions r.client c can.inside.there can.no_opens;
      reached = λ d h. reached_again s (without_session s r.client).sessions d (is.reached d h);
    } in
    record {
      grammar = subst (λ c. IsSessionEvent (closing_event r c)) own fits;
      tree = subst (λ c. IsTreeOf rank (overlay t (session_writes Close (closing_event r c))) (after s r)) own
          (subst (λ x. IsTreeOf rank x (after s r)) (sym (gone_is (record t { sessions = remove t.sessions r.client }) r.client (tids c.kept)))
          (subst (IsTreeOf rank _) (sym (after_is s r SessionEnds d)) tree));
      lumps = subst (λ ds. AllByRecursion (IsOwn rank (after s r).next) ds) (sym (none_gone r.client (tids (own_session s r).kept))) tt;
      next = subst (λ (x : PlainState). s.next ≤ x.next) (sym (after_is s r SessionEnds d)) (omega arith);
      orderly = ((tt, tt, tt), gone_orderly rank r.client (tids (own_session s r).kept));
    }
