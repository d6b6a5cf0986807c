-- The events of a session that begins and of one that ends are the exact ones.
use Rattle.std.proofs.Common.{◌≡◌, ℕ, List, [], ◌∷◌, Option, Some, None, refl, sym, ap, subst, ◌∙◌, inl, inr}
use Rattle.std.specs.Prelude.{Contains, is_some}
use Rattle.std.specs.Option.{option_and_then}
use Rattle.mj_maps.specs.Map.{Map, Set, get, insert, remove, empty}
use Rattle.mj_maps.specs.Orders.{nat_cmp, pair_cmp}
use Rattle.mj_maps.proofs.MapLaws.{exact_nat, none_some, insert_same, insert_other, remove_same, remove_other, cases_key, eq_false, apart, get_empty}
use Rattle.mj_tree.specs.declared.change.Attributes.{Attributes}
use Rattle.mj_tree.specs.declared.change.Decision.TheVariants.{SessionBegins, SessionEnds}
use Rattle.mj_tree.specs.declared.request.ClientRequest.{ClientRequest}
use Rattle.mj_tree.specs.State.{PlainState, Session}
use Rattle.mj_tree.specs.Sessions.{oldest_of}
use Rattle.mj_tree.specs.Change.{new_session}
use Rattle.mj_tree.specs.Answer.{decision, answer, after, changes, kept_reply}
use Rattle.mj_cells.specs.declared.cell.CellKey.{CellKey}
use Rattle.mj_cells.specs.declared.cell.CellKey.TheVariants as key
use Rattle.mj_cells.specs.declared.cell.CellValue.TheVariants as value
use Rattle.mj_cells.specs.declared.cell.CellWrite.{CellWrite}
use Rattle.mj_cells.specs.Table.{Table, overlay}
use Rattle.mj_event.specs.Writes.{write, reply_gone, replies_gone, writes_of}
use Rattle.mj_recovery.specs.Tree.{tree_of}
use Rattle.mj_machine.specs.Delta.{number_or_gone, value_after, IsWritten, IsEventOf, IsExactDelta, new_primary}
use Rattle.mj_delta.specs.TreeOf.{HasDentries, IsTreeOf}
use Rattle.mj_delta.specs.Fits.{IsSent}
use Rattle.mj_delta.specs.Events.{tids, open_event, close_event}
use Rattle.mj_delta.proofs.Facts.{cases_option, record_primary}
use Rattle.mj_delta.proofs.Lists.{Lies, in_map, to_map}
use Rattle.mj_delta.proofs.TreeIs.{tree_is}
use Rattle.mj_delta.proofs.Dropped.{tid_there, there_tid}
use Rattle.mj_delta.proofs.Decided.{CanOpen, CanClose, meant}
use Rattle.mj_delta.proofs.Accepted.{after_is, own_is}
use Rattle.mj_delta.proofs.Begun.{session_begins_gives}
use Rattle.mj_delta.proofs.Ended.{session_ends_gives}
use Rattle.mj_delta.proofs.Contents.{contains_lies, lies_contains}
use Rattle.mj_delta.proofs.Exact.{IsOfDir, IsExactPlan, all_of_dirs}
use Rattle.mj_delta.proofs.ExactUpdates.{number_changed, number_from, open_changed, changes_are}
use Rattle.mj_delta.proofs.ExactParts.{recorded_kept, none_no_dir}
use Rattle.mj_delta.proofs.ExactQuiet.{no_plan, nothing_said}
use Rattle.mj_delta.proofs.ExactSteps.{no_dentry}
use Rattle.mj_delta.proofs.Primaries.{stays_there}

-- ---- where only sessions change, nothing else is written

module _ (rank : ℕ) (t : Table) (s : PlainState) (is : IsTreeOf rank t s) (r : ClientRequest) (x : Map nat_cmp Session) (new_is : after (tree_of rank t) r ≡ record s { sessions = x }) where
  abbrev m : HasDentries rank t s is.primary
  m = is.dentries

  abbrev new : PlainState
  new = after (tree_of rank t) r

  links : new.links ≡ s.links
  links = ap (λ (z : PlainState). z.links) new_is

  records : new.records ≡ s.records
  records = ap (λ (z : PlainState). z.records) new_is

  opens : new.opens ≡ s.opens
  opens = ap (λ (z : PlainState). z.opens) new_is

  places : (i : ℕ) (a : Attributes) → get s.records i ≡ Some a → new_primary rank t r i ≡ get is.primary i
  places i a e = let p = record_primary rank t s is.primary m i a e in stays_there rank t s is r s links opens i p.0 p.1 (recorded_kept rank t s is.primary m i a e) (λ l. l) ∙ sym p.1

  exact : IsExactPlan rank t s t s no_plan None
  exact = record {
    same = λ q none. refl;
    new = λ q n e. no_dentry q n e;
    made = λ d e h. absurd (none_no_dir (get s.records d) e h);
    begins = λ d e. absurd (none_some d e);
    removed = λ d e h. absurd (none_no_dir (get s.records d) e h);
    goes = λ d e. absurd (none_some d e);
    stay = λ q n e. no_dentry q n e;
  }

  pub dirs_unwritten : (k : CellKey) → IsOfDir k → IsWritten rank t r k → ⊥
  dirs_unwritten k of_dir w = all_of_dirs rank t s is r s t is.primary m links records places no_plan None exact [] (nothing_said t) k of_dir w

  pub next_unwritten : IsWritten rank t r key.NextIno → ⊥
  next_unwritten w = number_changed rank t r t.next (Some new.next) w (m.next ∙ ap Some (sym (ap (λ (z : PlainState). z.next) new_is)))

  pub open_unwritten : (client i : ℕ) → IsWritten rank t r (key.OpenOf client i) → ⊥
  open_unwritten client i w = open_changed (get t.opens (client, i)) (get new.opens (client, i)) w (ap is_some (ap (λ (o : Set pair_cmp). get o (client, i)) m.opens ∙ sym (ap (λ (o : Set pair_cmp). get o (client, i)) opens)))

  pub session_was : (client : ℕ) → get t.sessions client ≡ oldest_of (get s.sessions client)
  session_was client = is.sessions.sessions client

  pub session_now : (client : ℕ) → oldest_of (get new.sessions client) ≡ oldest_of (get x client)
  session_now client = ap (λ (z : PlainState). oldest_of (get z.sessions client)) new_is

  pub reply_now : (client tid : ℕ) → kept_reply new client tid ≡ option_and_then (λ (c : Session). get c.kept tid) (get x client)
  reply_now client tid = ap (λ (z : PlainState). kept_reply z client tid) new_is

  abbrev pub Rightly : CellWrite → Type 0
  Rightly w = IsWritten rank t r w.key × (w.value ≡ value_after rank t r w.key)

-- ---- a session begins

module _ (rank : ℕ) (t : Table) (s : PlainState) (is : IsTreeOf rank t s) (r : ClientRequest) (sent : IsSent r) (decided : decision s r ≡ SessionBegins) where
  can : CanOpen s r
  can = meant s r SessionBegins decided

  abbrev after_it : Map nat_cmp Session
  after_it = insert s.sessions r.client (new_session r)

  begun : after (tree_of rank t) r ≡ record s { sessions = after_it }
  begun = (λ z. after (tree_is rank t s is z) r) ∙ after_is s r SessionBegins decided

  abbrev ws : List CellWrite
  ws = writes_of (open_event r)

  here : get after_it r.client ≡ Some (new_session r)
  here = insert_same exact_nat s.sessions r.client (new_session r)

  there : (client : ℕ) → (client ≡ r.client → ⊥) → get after_it client ≡ get s.sessions client
  there client ne = insert_other exact_nat s.sessions r.client (new_session r) client (eq_false exact_nat client r.client ne)

  kept_at : ℕ → Option Session → Option ℕ
  kept_at tid o = option_and_then (λ (c : Session). get c.kept tid) o

  new_oldest : oldest_of (get (after (tree_of rank t) r).sessions r.client) ≡ Some r.oldest
  new_oldest = session_now rank t s is r after_it begun r.client ∙ ap oldest_of here

  old_oldest : get t.sessions r.client ≡ None
  old_oldest = session_was rank t s is r after_it begun r.client ∙ ap oldest_of can.none

  new_reply : kept_reply (after (tree_of rank t) r) r.client r.tid ≡ Some 0
  new_reply = reply_now rank t s is r after_it begun r.client r.tid ∙ ap (option_and_then (λ (c : Session). get c.kept r.tid)) here ∙ insert_same exact_nat empty r.tid 0

  no_reply : (tid : ℕ) → get t.done (r.client, tid) ≡ None
  no_reply tid = is.sessions.replies r.client tid ∙ ap (option_and_then (λ (c : Session). get c.kept tid)) can.none

  other_reply : (tid : ℕ) → (tid ≡ r.tid → ⊥) → kept_reply (after (tree_of rank t) r) r.client tid ≡ None
  other_reply tid ne = reply_now rank t s is r after_it begun r.client tid ∙ ap (option_and_then (λ (c : Session). get c.kept tid)) here ∙ insert_other exact_nat empty r.tid 0 tid (eq_false exact_nat tid r.tid ne) ∙ get_empty nat_cmp tid

  open_all : (k : CellKey) → IsWritten rank t r k → Lies (write k (value_after rank t r k)) ws
  open_all (key.Dentry d n) w = absurd (dirs_unwritten rank t s is r after_it begun (key.Dentry d n) tt w)
  open_all (key.DirHead d) w = absurd (dirs_unwritten rank t s is r after_it begun (key.DirHead d) tt w)
  open_all key.NextIno w = absurd (next_unwritten rank t s is r after_it begun w)
  open_all (key.OpenOf client i) w = absurd (open_unwritten rank t s is r after_it begun client i w)
  open_all (key.Session client) w = elim (cases_key exact_nat client r.client) [
    | inl same ↦ inl (λ z. write (key.Session (sym same z)) (sym (ap (number_or_gone rank t r) (ap (λ k. oldest_of (get (after (tree_of rank t) r).sessions k)) same ∙ new_oldest)) z))
    | inr far ↦ absurd (number_changed rank t r (get t.sessions client) (oldest_of (get (after (tree_of rank t) r).sessions client)) w
        (session_was rank t s is r after_it begun client ∙ sym (session_now rank t s is r after_it begun client ∙ ap oldest_of (there client (apart exact_nat client r.client far)))))
  ]
  open_all (key.Done client tid) w = elim (cases_key exact_nat client r.client) [
    | inr far ↦ absurd (number_changed rank t r (get t.done (client, tid)) (kept_reply (after (tree_of rank t) r) client tid) w
        (is.sessions.replies client tid ∙ sym (reply_now rank t s is r after_it begun client tid ∙ ap (option_and_then (λ (c : Session). get c.kept tid)) (there client (apart exact_nat client r.client far)))))
    | inl same ↦ elim (cases_key exact_nat tid r.tid) [
      | inl at ↦ inr (inl (λ z. write (key.Done (sym same z) (sym at z)) (sym (ap (number_or_gone rank t r) ((λ k. kept_reply (after (tree_of rank t) r) (same k) (at k)) ∙ new_reply)) z)))
      | inr other ↦ absurd (number_changed rank t r (get t.done (client, tid)) (kept_reply (after (tree_of rank t) r) client tid) w
          (ap (λ k. get t.done (k, tid)) same ∙ no_reply tid ∙ sym (ap (λ k. kept_reply (after (tree_of rank t) r) k tid) same ∙ other_reply tid (apart exact_nat tid r.tid other))))
    ]
  ]

  open_only : (w : CellWrite) → Lies w ws → Rightly rank t s is r after_it begun w
  open_only w (inl e) = subst (Rightly rank t s is r after_it begun) e (number_from rank t r (get t.sessions r.client) (oldest_of (get (after (tree_of rank t) r).sessions r.client)) (λ f. none_some r.oldest (sym old_oldest ∙ f ∙ new_oldest)), sym (ap (number_or_gone rank t r) new_oldest))
  open_only w (inr (inl e)) = subst (Rightly rank t s is r after_it begun) e (number_from rank t r (get t.done (r.client, r.tid)) (kept_reply (after (tree_of rank t) r) r.client r.tid) (λ f. none_some 0 (sym (no_reply r.tid) ∙ f ∙ new_reply)), sym (ap (number_or_gone rank t r) new_reply))
  open_only w (inr (inr l)) = absurd l

  open_is_exact : IsExactDelta rank t r (open_event r)
  open_is_exact =
      let gives = session_begins_gives rank t s r is sent decided in
      record {
        changes = (λ z. changes (tree_is rank t s is z) r) ∙ changes_are s r SessionBegins decided;
        grammar = gives.grammar;
        of_request = subst (λ op. IsEventOf r op (answer (tree_of rank t) r) (open_event r)) (sym can.op) (refl, refl, refl, refl);
        all = λ k w. lies_contains ws _ (open_all k w);
        only = λ w c. open_only w (contains_lies ws w c);
        tree = tree_is rank (overlay t ws) (after s r) gives.tree ∙ sym (ap (λ s. after s r) (tree_is rank t s is));
      }

pub open_exact : (rank : ℕ) (t : Table) (s : PlainState) (r : ClientRequest) → IsTreeOf rank t s → IsSent r → decision s r ≡ SessionBegins → IsExactDelta rank t r (open_event r)
open_exact rank t s r is sent d = open_is_exact rank t s is r sent d

-- ---- a session ends

module _ (rank : ℕ) (t : Table) (s : PlainState) (is : IsTreeOf rank t s) (r : ClientRequest) (sent : IsSent r) (decided : decision s r ≡ SessionEnds) where
  can_close : CanClose s r
  can_close = meant s r SessionEnds decided

  abbrev c : Session
  c = can_close.inside.session

  abbrev without : Map nat_cmp Session
  without = remove s.sessions r.client

  ended : after (tree_of rank t) r ≡ record s { sessions = without }
  ended = (λ z. after (tree_is rank t s is z) r) ∙ after_is s r SessionEnds decided

  abbrev closing : List CellWrite
  closing = write (key.Session r.client) value.Gone ∷ replies_gone r.client (tids c.kept)

  writes_are : writes_of (close_event s r) ≡ closing
  writes_are = ap (λ (c : Session). write (key.Session r.client) value.Gone ∷ replies_gone r.client (tids c.kept)) (own_is s r c can_close.inside.there)

  none_here : get without r.client ≡ None
  none_here = remove_same exact_nat s.sessions r.client

  still : (client : ℕ) → (client ≡ r.client → ⊥) → get without client ≡ get s.sessions client
  still client ne = remove_other exact_nat s.sessions r.client client (eq_false exact_nat client r.client ne)

  no_oldest : oldest_of (get (after (tree_of rank t) r).sessions r.client) ≡ None
  no_oldest = session_now rank t s is r without ended r.client ∙ ap oldest_of none_here

  was_oldest : get t.sessions r.client ≡ Some c.oldest
  was_oldest = session_was rank t s is r without ended r.client ∙ ap oldest_of can_close.inside.there

  gone_reply : (tid : ℕ) → kept_reply (after (tree_of rank t) r) r.client tid ≡ None
  gone_reply tid = reply_now rank t s is r without ended r.client tid ∙ ap (option_and_then (λ (c : Session). get c.kept tid)) none_here

  was_reply : (tid : ℕ) → get t.done (r.client, tid) ≡ get c.kept tid
  was_reply tid = is.sessions.replies r.client tid ∙ ap (option_and_then (λ (c : Session). get c.kept tid)) can_close.inside.there

  close_all : (k : CellKey) → IsWritten rank t r k → Lies (write k (value_after rank t r k)) closing
  close_all (key.Dentry d n) w = absurd (dirs_unwritten rank t s is r without ended (key.Dentry d n) tt w)
  close_all (key.DirHead d) w = absurd (dirs_unwritten rank t s is r without ended (key.DirHead d) tt w)
  close_all key.NextIno w = absurd (next_unwritten rank t s is r without ended w)
  close_all (key.OpenOf client i) w = absurd (open_unwritten rank t s is r without ended client i w)
  close_all (key.Session client) w = elim (cases_key exact_nat client r.client) [
    | inl same ↦ inl (λ z. write (key.Session (sym same z)) (sym (ap (number_or_gone rank t r) (ap (λ k. oldest_of (get (after (tree_of rank t) r).sessions k)) same ∙ no_oldest)) z))
    | inr far ↦ absurd (number_changed rank t r (get t.sessions client) (oldest_of (get (after (tree_of rank t) r).sessions client)) w
        (session_was rank t s is r without ended client ∙ sym (session_now rank t s is r without ended client ∙ ap oldest_of (still client (apart exact_nat client r.client far)))))
  ]
  close_all (key.Done client tid) w = elim (cases_key exact_nat client r.client) [
    | inr far ↦ absurd (number_changed rank t r (get t.done (client, tid)) (kept_reply (after (tree_of rank t) r) client tid) w
        (is.sessions.replies client tid ∙ sym (reply_now rank t s is r without ended client tid ∙ ap (option_and_then (λ (c : Session). get c.kept tid)) (still client (apart exact_nat client r.client far)))))
    | inl same ↦
        let now : kept_reply (after (tree_of rank t) r) client tid ≡ None = ap (λ k. kept_reply (after (tree_of rank t) r) k tid) same ∙ gone_reply tid in
        let was : get t.done (client, tid) ≡ get c.kept tid = ap (λ k. get t.done (k, tid)) same ∙ was_reply tid in
        elim (cases_option (get c.kept tid)) [
          | inl none ↦ absurd (number_changed rank t r (get t.done (client, tid)) (kept_reply (after (tree_of rank t) r) client tid) w (was ∙ none ∙ sym now))
          | inr u ↦ inr (subst (λ v. Lies (write (key.Done client tid) v) (replies_gone r.client (tids c.kept))) (sym (ap (number_or_gone rank t r) now))
              (subst (λ k. Lies (write (key.Done k tid) value.Gone) (replies_gone r.client (tids c.kept))) (sym same) (to_map (reply_gone r.client) (tids c.kept) tid (tid_there c.kept tid u.0 u.1))))
        ]
  ]

  dropped_right : (tid : ℕ) → Lies tid (tids c.kept) → Rightly rank t s is r without ended (write (key.Done r.client tid) value.Gone)
  dropped_right tid l =
      let w = there_tid c.kept tid l in
      (number_from rank t r (get t.done (r.client, tid)) (kept_reply (after (tree_of rank t) r) r.client tid) (λ f. none_some w.0 (sym (gone_reply tid) ∙ sym f ∙ was_reply tid ∙ w.1)), sym (ap (number_or_gone rank t r) (gone_reply tid)))

  close_only : (w : CellWrite) → Lies w closing → Rightly rank t s is r without ended w
  close_only w (inl e) = subst (Rightly rank t s is r without ended) e (number_from rank t r (get t.sessions r.client) (oldest_of (get (after (tree_of rank t) r).sessions r.client)) (λ f. none_some c.oldest (sym no_oldest ∙ sym f ∙ was_oldest)), sym (ap (number_or_gone rank t r) no_oldest))
  close_only w (inr l) = let x = in_map (reply_gone r.client) (tids c.kept) w l in subst (Rightly rank t s is r without ended) x.2 (dropped_right x.0 x.1)

  close_is_exact : IsExactDelta rank t r (close_event s r)
  close_is_exact =
      let gives = session_ends_gives rank t s r is sent decided in
      record {
        changes = (λ z. changes (tree_is rank t s is z) r) ∙ changes_are s r SessionEnds decided;
        grammar = gives.grammar;
        of_request = subst (λ op. IsEventOf r op (answer (tree_of rank t) r) (close_event s r)) (sym can_close.op) (refl, refl, refl, refl);
        all = λ k w. subst (λ ws. Contains ws (write k (value_after rank t r k))) (sym writes_are) (lies_contains closing _ (close_all k w));
        only = λ w l. close_only w (contains_lies closing w (subst (λ ws. Contains ws w) writes_are l));
        tree = tree_is rank (overlay t (writes_of (close_event s r))) (after s r) gives.tree ∙ sym (ap (λ s. after s r) (tree_is rank t s is));
      }

pub close_exact : (rank : ℕ) (t : Table) (s : PlainState) (r : ClientRequest) → IsTreeOf rank t s → IsSent r → decision s r ≡ SessionEnds → IsExactDelta rank t r (close_event s r)
close_exact rank t s r is sent d = close_is_exact rank t s is r sent d
