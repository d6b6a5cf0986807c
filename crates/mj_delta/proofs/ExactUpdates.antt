-- The event of an accepted request is the exact one, where its lumps write just the dentries that change.
use Rattle.std.proofs.Common.{◌≡◌, ℕ, ◌<◌, true, false, cond, not, List, ◌++◌, Option, Some, None, Ok, refl, sym, ap, subst, ◌∙◌, ◌⊎◌, inl, inr, arith}
use Rattle.std.specs.Prelude.{IsTrue, IsSome, Contains, is_some, nat_lt, nat_le, max, if◌then◌else◌}
use Rattle.std.specs.Option.{option_and_then}
use Rattle.std.specs.List.{flat_map}
use Rattle.std.proofs.lemmas.Bool.{false≢true, cases_Bool, eq-eqb, ne_eqb, lt-leb, leb-false, not_from_false, lt-ltb, ltb-true, ltb-false}
use Rattle.mj_maps.specs.Map.{Map, Set, get, insert, remove, retain}
use Rattle.mj_maps.specs.Orders.{nat_cmp, pair_cmp}
use Rattle.mj_maps.proofs.MapLaws.{exact_nat, exact_pair, none_some, some_same, insert_same, insert_other, remove_same, remove_other, cases_key, eq_false, apart, retain_passes, retain_fails, get-retain}
use Rattle.mj_tree.specs.declared.change.Change.{Change}
use Rattle.mj_tree.specs.declared.change.Decision.{Decision}
use Rattle.mj_tree.specs.declared.change.Decision.TheVariants.{Accepted}
use Rattle.mj_tree.specs.declared.request.ClientRequest.{ClientRequest}
use Rattle.mj_tree.specs.declared.request.Op.{Op}
use Rattle.mj_tree.specs.declared.request.Op.TheVariants.{SessionOpen, SessionClose, Mkdir, Create, Symlink, Link, Unlink, Rmdir, Rename, SetAttr, OpenFile, Release, Lookup, Readdir, Readlink}
use Rattle.mj_tree.specs.declared.request.Reply.{Reply}
use Rattle.mj_tree.specs.declared.request.Reply.TheVariants as reply
use Rattle.mj_tree.specs.State.{PlainState, Session}
use Rattle.mj_tree.specs.Sessions.{oldest_of}
use Rattle.mj_tree.specs.Change.{changed, keeping, kept_in}
use Rattle.mj_tree.specs.Row.{effect}
use Rattle.mj_tree.specs.Answer.{decision, answer, after, changes, is_change, reply_of, kept_reply}
use Rattle.mj_cells.specs.declared.cell.CellKey.{CellKey}
use Rattle.mj_cells.specs.declared.cell.CellKey.TheVariants as key
use Rattle.mj_cells.specs.declared.cell.CellValue.{CellValue}
use Rattle.mj_cells.specs.declared.cell.CellValue.TheVariants as value
use Rattle.mj_cells.specs.declared.cell.CellWrite.{CellWrite}
use Rattle.mj_cells.specs.Table.{Table, number_value, presence_value, overlay}
use Rattle.mj_meta.specs.declared.DirLump.{DirLump}
use Rattle.mj_event.specs.Writes.{write, where_some, lump_writes, replies_gone, reply_gone, update_writes, writes_of}
use Rattle.mj_event.specs.declared.UpdateEvent.{UpdateEvent}
use Rattle.mj_event.specs.declared.Event.TheVariants as event
use Rattle.mj_recovery.specs.Tree.{tree_of}
use Rattle.mj_machine.specs.Delta.{same_content, number_or_gone, value_after, IsWritten, IsEventOf, IsExactDelta, new_primary, op_number}
use Rattle.mj_delta.specs.TreeOf.{HasSessions, IsTreeOf}
use Rattle.mj_delta.specs.Fits.{IsSent}
use Rattle.mj_delta.specs.Events.{raised_oldest, dropped_replies, update_of}
use Rattle.mj_delta.specs.Steps.{GivesTree}
use Rattle.mj_delta.specs.Plan.{Plan}
use Rattle.mj_delta.proofs.Facts.{cases_option}
use Rattle.mj_delta.proofs.Lists.{Lies, in_append, in_map, to_map}
use Rattle.mj_delta.proofs.TreeIs.{tree_is}
use Rattle.mj_delta.proofs.Dropped.{tid_there, there_tid, retained}
use Rattle.mj_delta.proofs.Decided.{CanChange}
use Rattle.mj_delta.proofs.Accepted.{after_is, own_is}
use Rattle.mj_delta.proofs.Updated.{IsPlan, planned, next_part, opened_part, released_part, update_gives}
use Rattle.mj_delta.proofs.Replied.{reply_part}
use Rattle.mj_delta.proofs.Plans.{to_left, to_right}
use Rattle.mj_delta.proofs.Contents.{contains_lies, lies_contains}
use Rattle.mj_delta.proofs.Exact.{IsOfDir, AreSaid, IsExactPlan, all_of_dirs, only_of_dirs}

-- ---- numbers and opens that change

module _ (rank : ℕ) (t : Table) (r : ClientRequest) where
  pub number_changed : (o p : Option ℕ) → IsTrue (not (same_content (number_value o) (number_or_gone rank t r p))) → o ≡ p → ⊥
  number_changed None None h e = false≢true h
  number_changed None (Some m) h e = none_some m e
  number_changed (Some n) None h e = none_some n (sym e)
  number_changed (Some n) (Some m) h e = false≢true (sym (ap (λ b. not b) (eq-eqb n m (some_same n m e))) ∙ h)

  pub number_from : (o p : Option ℕ) → (o ≡ p → ⊥) → IsTrue (not (same_content (number_value o) (number_or_gone rank t r p)))
  number_from None None h = absurd (h refl)
  number_from None (Some m) h = refl
  number_from (Some n) None h = refl
  number_from (Some n) (Some m) h = not_from_false _ (ne_eqb n m (λ e. h (ap Some e)))

abbrev present_or_gone : Option (Unit {0}) → CellValue
present_or_gone o = if is_some o then value.Present else value.Gone

pub open_changed : (o p : Option (Unit {0})) → IsTrue (not (same_content (presence_value o) (present_or_gone p))) → is_some o ≡ is_some p → ⊥
open_changed None None h e = false≢true h
open_changed None (Some x) h e = false≢true e
open_changed (Some x) None h e = false≢true (sym e)
open_changed (Some x) (Some y) h e = false≢true h

pub open_from : (o p : Option (Unit {0})) → (is_some o ≡ is_some p → ⊥) → IsTrue (not (same_content (presence_value o) (present_or_gone p)))
open_from None None h = absurd (h refl)
open_from None (Some x) h = refl
open_from (Some x) None h = refl
open_from (Some x) (Some y) h = absurd (h refl)

-- ---- what an event writes beside dentries and heads

abbrev pub NextIs : PlainState → PlainState → Option ℕ → Type 0
NextIs s s1 next = ((next ≡ None) × (s1.next ≡ s.next)) ⊎ ((next ≡ Some s1.next) × (s.next ≡ s1.next → ⊥))

pub data OpensAre (client : ℕ) (s s1 : PlainState) : Option ℕ → Option ℕ → Type 0 where
  as_before : s1.opens ≡ s.opens → OpensAre client s s1 None None
  one_more : (i : ℕ) → get s.opens (client, i) ≡ None → s1.opens ≡ insert s.opens (client, i) tt → OpensAre client s s1 (Some i) None
  one_less : (i : ℕ) → IsSome (get s.opens (client, i)) → s1.opens ≡ remove s.opens (client, i) → OpensAre client s s1 None (Some i)

pub some_in : {A B : Type 0} (f : A → B) (o : Option A) (y : B) → Lies y (where_some f o) → (x : A) × (o ≡ Some x) × (f x ≡ y)
some_in f None y l = absurd l
some_in f (Some x) y (inl e) = (x, refl, e)
some_in f (Some x) y (inr l) = absurd l

in_some : {A B : Type 0} (f : A → B) (o : Option A) (x : A) → o ≡ Some x → Lies (f x) (where_some f o)
in_some f None x e = absurd (none_some x e)
in_some f (Some z) x e = inl (ap f (some_same z x e))

pub answer_is : (s : PlainState) (r : ClientRequest) (d : Decision) → decision s r ≡ d → answer s r ≡ reply_of d
unfolding answer
answer_is s r d e = ap reply_of e

pub changes_are : (s : PlainState) (r : ClientRequest) (d : Decision) → decision s r ≡ d → changes s r ≡ is_change d
unfolding changes
changes_are s r d e = ap is_change e

of_request : (s : PlainState) (r : ClientRequest) (op : Op) (y : ℕ × Change) → effect s r op ≡ Ok y → (x : Reply) → x ≡ reply.Done y.0 → (e : UpdateEvent) → e.op ≡ op_number r.op → e.client ≡ r.client → e.tid ≡ r.tid → y.0 ≡ e.ino → IsEventOf r op x (event.Update e)
unfolding effect
of_request s r SessionOpen y h x f e a b c d = absurd cc
of_request s r SessionClose y h x f e a b c d = absurd cc
of_request s r (Mkdir path mode) y h x f e a b c d = (a, b, c, f ∙ ap reply.Done d)
of_request s r (Create path mode) y h x f e a b c d = (a, b, c, f ∙ ap reply.Done d)
of_request s r (Symlink path target) y h x f e a b c d = (a, b, c, f ∙ ap reply.Done d)
of_request s r (Link from to) y h x f e a b c d = (a, b, c, f ∙ ap reply.Done d)
of_request s r (Unlink path) y h x f e a b c d = (a, b, c, f ∙ ap reply.Done d)
of_request s r (Rmdir path) y h x f e a b c d = (a, b, c, f ∙ ap reply.Done d)
of_request s r (Rename from to) y h x f e a b c d = (a, b, c, f ∙ ap reply.Done d)
of_request s r (SetAttr path mode uid gid size mtime) y h x f e a b c d = (a, b, c, f ∙ ap reply.Done d)
of_request s r (OpenFile path) y h x f e a b c d = (a, b, c, f ∙ ap reply.Done d)
of_request s r (Release j) y h x f e a b c d = (a, b, c, f ∙ ap reply.Done d)
of_request s r (Lookup path) y h x f e a b c d = absurd cc
of_request s r (Readdir path) y h x f e a b c d = absurd cc
of_request s r (Readlink path) y h x f e a b c d = absurd cc

module _ (rank : ℕ) (t : Table) (s : PlainState) (is : IsTreeOf rank t s) (r : ClientRequest) (sent : IsSent r) (i : ℕ) (change : Change) (can : CanChange s r i change)
    (next opened released : Option ℕ) (lumps : List DirLump) (plan_is : IsPlan rank t s r i change next opened released lumps) (decided : decision s r ≡ Accepted i change)
    (nexts : NextIs s (changed s change) next) (opens_are : OpensAre r.client s (changed s change) opened released) where
  abbrev s1 : PlainState
  s1 = changed s change

  abbrev c : Session
  c = can.inside.session

  abbrev h : HasSessions t s
  h = is.sessions

  abbrev new : PlainState
  new = after (tree_of rank t) r

  abbrev kept : Session
  kept = keeping r i c

  abbrev limit : ℕ
  limit = max c.oldest r.oldest

  there : get s1.sessions r.client ≡ Some c
  there = ap (λ (m : Map nat_cmp Session). get m r.client) plan_is.sessions ∙ can.inside.there

  pub new_is : after (tree_of rank t) r ≡ record s1 { sessions = insert s1.sessions r.client kept }
  new_is = (λ z. after (tree_is rank t s is z) r) ∙ after_is s r (Accepted i change) decided ∙ ap (λ o. kept_in s1 r i o) there

  new_next : new.next ≡ s1.next
  new_next = ap (λ (x : PlainState). x.next) new_is

  new_opens : new.opens ≡ s1.opens
  new_opens = ap (λ (x : PlainState). x.opens) new_is

  new_sessions : new.sessions ≡ insert s.sessions r.client kept
  new_sessions = ap (λ (x : PlainState). x.sessions) new_is ∙ ap (λ (m : Map nat_cmp Session). insert m r.client kept) plan_is.sessions

  -- ---- the parts of what is written

  abbrev ws : List CellWrite
  ws = flat_map lump_writes lumps

  abbrev first_writes : List CellWrite
  first_writes = reply_part r i c ++ next_part next ++ opened_part r opened ++ released_part r released

  abbrev all_writes : List CellWrite
  all_writes = first_writes ++ ws

  of_reply : (w : CellWrite) → Lies w (reply_part r i c) → Lies w all_writes
  of_reply w l = to_left first_writes ws w (to_left (reply_part r i c ++ next_part next ++ opened_part r opened) (released_part r released) w (to_left (reply_part r i c ++ next_part next) (opened_part r opened) w (to_left (reply_part r i c) (next_part next) w l)))

  of_next : (w : CellWrite) → Lies w (next_part next) → Lies w all_writes
  of_next w l = to_left first_writes ws w (to_left (reply_part r i c ++ next_part next ++ opened_part r opened) (released_part r released) w (to_left (reply_part r i c ++ next_part next) (opened_part r opened) w (to_right (reply_part r i c) (next_part next) w l)))

  of_opened : (w : CellWrite) → Lies w (opened_part r opened) → Lies w all_writes
  of_opened w l = to_left first_writes ws w (to_left (reply_part r i c ++ next_part next ++ opened_part r opened) (released_part r released) w (to_right (reply_part r i c ++ next_part next) (opened_part r opened) w l))

  of_released : (w : CellWrite) → Lies w (released_part r released) → Lies w all_writes
  of_released w l = to_left first_writes ws w (to_right (reply_part r i c ++ next_part next ++ opened_part r opened) (released_part r released) w l)

  of_session : (n : ℕ) → raised_oldest r c ≡ Some n → Lies (write (key.Session r.client) (value.Number n)) all_writes
  of_session n e = of_reply _ (inr (to_left (where_some (λ oldest. write (key.Session r.client) (value.Number oldest)) (raised_oldest r c)) (replies_gone r.client (dropped_replies r c)) _
      (in_some (λ oldest. write (key.Session r.client) (value.Number oldest)) (raised_oldest r c) n e)))

  of_dropped : (tid : ℕ) → Lies tid (dropped_replies r c) → Lies (write (key.Done r.client tid) value.Gone) all_writes
  of_dropped tid l = of_reply _ (inr (to_right (where_some (λ oldest. write (key.Session r.client) (value.Number oldest)) (raised_oldest r c)) (replies_gone r.client (dropped_replies r c)) _
      (to_map (reply_gone r.client) (dropped_replies r c) tid l)))

  -- ---- each kind of key

  dropped_is : (tid : ℕ) → Lies tid (dropped_replies r c) → (j : ℕ) × (get c.kept tid ≡ Some j) × (tid < limit)
  dropped_is tid l =
      let w = there_tid (retain (λ tid _. nat_lt tid limit) c.kept) tid l in
      let x = retained (λ tid _. nat_lt tid limit) c.kept tid w.0 w.1 in
      (w.0, x.0, ltb-true tid limit x.1)

  is_dropped : (tid j : ℕ) → get c.kept tid ≡ Some j → tid < limit → Lies tid (dropped_replies r c)
  is_dropped tid j e lt = tid_there (retain (λ tid _. nat_lt tid limit) c.kept) tid j (retain_passes exact_nat (λ tid _. nat_lt tid limit) c.kept tid j e (lt-ltb tid limit lt))

  kept_there : (client tid : ℕ) (x : Session) → get s.sessions client ≡ Some x → kept_reply s client tid ≡ get x.kept tid
  kept_there client tid x e = ap (option_and_then (λ (c : Session). get c.kept tid)) e

  -- replies before and afterwards
  old_reply : (client tid : ℕ) → get t.done (client, tid) ≡ kept_reply s client tid
  old_reply client tid = h.replies client tid

  new_reply_other : (client tid : ℕ) → (client ≡ r.client → ⊥) → kept_reply new client tid ≡ kept_reply s client tid
  new_reply_other client tid ne = ap (λ (m : Map nat_cmp Session). option_and_then (λ (c : Session). get c.kept tid) (get m client)) new_sessions
      ∙ ap (option_and_then (λ (c : Session). get c.kept tid)) (insert_other exact_nat s.sessions r.client kept client (eq_false exact_nat client r.client ne))

  new_reply_own : (tid : ℕ) → kept_reply new r.client tid ≡ get kept.kept tid
  new_reply_own tid = ap (λ (m : Map nat_cmp Session). option_and_then (λ (c : Session). get c.kept tid) (get m r.client)) new_sessions
      ∙ ap (option_and_then (λ (c : Session). get c.kept tid)) (insert_same exact_nat s.sessions r.client kept)

  new_reply_here : kept_reply new r.client r.tid ≡ Some i
  new_reply_here = new_reply_own r.tid ∙ insert_same exact_nat (retain (λ tid _. nat_le limit tid) c.kept) r.tid i

  new_reply_retained : (tid : ℕ) → (tid ≡ r.tid → ⊥) → kept_reply new r.client tid ≡ get (retain (λ tid _. nat_le limit tid) c.kept) tid
  new_reply_retained tid ne = new_reply_own tid ∙ insert_other exact_nat (retain (λ tid _. nat_le limit tid) c.kept) r.tid i tid (eq_false exact_nat tid r.tid ne)

  own_reply : (tid : ℕ) → kept_reply s r.client tid ≡ get c.kept tid
  own_reply tid = kept_there r.client tid c can.inside.there

  -- what a session's oldest is
  old_oldest : (client : ℕ) → get t.sessions client ≡ oldest_of (get s.sessions client)
  old_oldest client = h.sessions client

  new_oldest_other : (client : ℕ) → (client ≡ r.client → ⊥) → oldest_of (get new.sessions client) ≡ oldest_of (get s.sessions client)
  new_oldest_other client ne = ap (λ (m : Map nat_cmp Session). oldest_of (get m client)) new_sessions ∙ ap oldest_of (insert_other exact_nat s.sessions r.client kept client (eq_false exact_nat client r.client ne))

  new_oldest_own : oldest_of (get new.sessions r.client) ≡ Some limit
  new_oldest_own = ap (λ (m : Map nat_cmp Session). oldest_of (get m r.client)) new_sessions ∙ ap oldest_of (insert_same exact_nat s.sessions r.client kept)

  old_oldest_own : oldest_of (get s.sessions r.client) ≡ Some c.oldest
  old_oldest_own = ap oldest_of can.inside.there

  raised_is : (n : ℕ) → raised_oldest r c ≡ Some n → (c.oldest < r.oldest) × (r.oldest ≡ n)
  raised_is n = elim (nat_lt c.oldest r.oldest) as (λ b. nat_lt c.oldest r.oldest ≡ b → (if b then Some r.oldest else None) ≡ Some n → (c.oldest < r.oldest) × (r.oldest ≡ n)) [
    | true ↦ λ e f. (ltb-true c.oldest r.oldest e, some_same r.oldest n f)
    | false ↦ λ e f. absurd (none_some n f)
  ] refl

  is_raised : c.oldest < r.oldest → raised_oldest r c ≡ Some r.oldest
  is_raised lt = ap (λ b. if b then Some r.oldest else None) (lt-ltb c.oldest r.oldest lt)

  -- ---- all that changes is written

  session_in : (client : ℕ) → IsWritten rank t r (key.Session client) → Lies (write (key.Session client) (value_after rank t r (key.Session client))) all_writes
  session_in client w =
      let ne = number_changed rank t r (get t.sessions client) (oldest_of (get new.sessions client)) w in
      elim (cases_key exact_nat client r.client) [
        | inr far ↦ absurd (ne (old_oldest client ∙ sym (new_oldest_other client (apart exact_nat client r.client far))))
        | inl same ↦ subst (λ client. Lies (write (key.Session client) (value_after rank t r (key.Session client))) all_writes) (sym same) (elim (cases_Bool (nat_lt c.oldest r.oldest)) [
          | inl lt ↦
              let less = ltb-true c.oldest r.oldest lt in
              let top : limit ≡ r.oldest = omega (arith, less) in
              subst (λ v. Lies (write (key.Session r.client) v) all_writes) (sym (ap (number_or_gone rank t r) new_oldest_own ∙ ap value.Number top)) (of_session r.oldest (is_raised less))
          | inr ge ↦
              let le = ltb-false c.oldest r.oldest ge in
              let top : c.oldest ≡ limit = omega (arith, le) in
              absurd (ne (ap (λ k. get t.sessions k) same ∙ old_oldest r.client ∙ old_oldest_own ∙ ap Some top ∙ sym (ap (λ k. oldest_of (get new.sessions k)) same ∙ new_oldest_own)))
        ])
      ]

  done_in : (client tid : ℕ) → IsWritten rank t r (key.Done client tid) → Lies (write (key.Done client tid) (value_after rank t r (key.Done client tid))) all_writes
  done_in client tid w =
      let ne = number_changed rank t r (get t.done (client, tid)) (kept_reply new client tid) w in
      elim (cases_key exact_nat client r.client) [
        | inr far ↦ absurd (ne (old_reply client tid ∙ sym (new_reply_other client tid (apart exact_nat client r.client far))))
        | inl same ↦ elim (cases_key exact_nat tid r.tid) [
          | inl at ↦
              let here : kept_reply new client tid ≡ Some i = (λ z. kept_reply new (same z) (at z)) ∙ new_reply_here in
              of_reply _ (inl (λ z. write (key.Done (sym same z) (sym at z)) (sym (ap (number_or_gone rank t r) here) z)))
          | inr far ↦
              let other = apart exact_nat tid r.tid far in
              let was : get t.done (client, tid) ≡ get c.kept tid = old_reply client tid ∙ ap (λ k. kept_reply s k tid) same ∙ own_reply tid in
              let is_now : kept_reply new client tid ≡ get (retain (λ tid _. nat_le limit tid) c.kept) tid = ap (λ k. kept_reply new k tid) same ∙ new_reply_retained tid other in
              elim (cases_option (get c.kept tid)) [
                | inl none ↦ absurd (ne (was ∙ none ∙ sym (is_now ∙ get-retain exact_nat (λ tid _. nat_le limit tid) c.kept tid ∙ ap (option_and_then (λ v. cond (nat_le limit tid) (Some v) None)) none)))
                | inr u ↦ elim (cases_Bool (nat_le limit tid)) [
                  | inl le ↦ absurd (ne (was ∙ u.1 ∙ sym (is_now ∙ retain_passes exact_nat (λ tid _. nat_le limit tid) c.kept tid u.0 u.1 le)))
                  | inr gt ↦
                      let gone : kept_reply new client tid ≡ None = is_now ∙ retain_fails exact_nat (λ tid _. nat_le limit tid) c.kept tid u.0 u.1 gt in
                      subst (λ v. Lies (write (key.Done client tid) v) all_writes) (sym (ap (number_or_gone rank t r) gone)) (subst (λ k. Lies (write (key.Done k tid) value.Gone) all_writes) (sym same) (of_dropped tid (is_dropped tid u.0 u.1 (leb-false limit tid gt))))
                ]
              ]
        ]
      ]

  next_in : IsWritten rank t r key.NextIno → Lies (write key.NextIno (value_after rank t r key.NextIno)) all_writes
  next_in w = elim nexts [
    | inl same ↦ absurd (number_changed rank t r t.next (Some new.next) w (is.dentries.next ∙ ap Some (sym (new_next ∙ same.1))))
    | inr more ↦ subst (λ n. Lies (write key.NextIno (value.Number n)) all_writes) (sym new_next) (of_next _ (in_some (λ next. write key.NextIno (value.Number next)) next s1.next more.0))
  ]

  was_open : (client j : ℕ) → get t.opens (client, j) ≡ get s.opens (client, j)
  was_open client j = ap (λ (m : Set pair_cmp). get m (client, j)) is.dentries.opens

  now_open : (client j : ℕ) → get new.opens (client, j) ≡ get s1.opens (client, j)
  now_open client j = ap (λ (m : Set pair_cmp). get m (client, j)) new_opens

  opens_in : (o p : Option ℕ) → OpensAre r.client s s1 o p → (opened ≡ o) → (released ≡ p) → (client j : ℕ) → IsWritten rank t r (key.OpenOf client j) → Lies (write (key.OpenOf client j) (value_after rank t r (key.OpenOf client j))) all_writes
  opens_in _ _ (as_before e) x y client j w =
      absurd (open_changed (get t.opens (client, j)) (get new.opens (client, j)) w (ap is_some (was_open client j ∙ sym (now_open client j ∙ ap (λ (m : Set pair_cmp). get m (client, j)) e))))
  opens_in _ _ (one_more k none e) x y client j w =
      let ne = open_changed (get t.opens (client, j)) (get new.opens (client, j)) w in
      let is_now : get new.opens (client, j) ≡ get (insert s.opens (r.client, k) tt) (client, j) = now_open client j ∙ ap (λ (m : Set pair_cmp). get m (client, j)) e in
      elim (cases_key exact_pair (client, j) (r.client, k)) [
        | inr far ↦ absurd (ne (ap is_some (was_open client j ∙ sym (is_now ∙ insert_other exact_pair s.opens (r.client, k) tt (client, j) far))))
        | inl same ↦
            let open_there : is_some (get new.opens (client, j)) ≡ true = ap is_some (is_now ∙ ap (get (insert s.opens (r.client, k) tt)) same ∙ insert_same exact_pair s.opens (r.client, k) tt) in
            subst (λ v. Lies (write (key.OpenOf client j) v) all_writes) (sym (ap (λ b. if b then value.Present else value.Gone) open_there))
            (subst (λ (p : ℕ × ℕ). Lies (write (key.OpenOf p.0 p.1) value.Present) all_writes) (sym same) (of_opened _ (in_some (λ ino. write (key.OpenOf r.client ino) value.Present) opened k x)))
      ]
  opens_in _ _ (one_less k some e) x y client j w =
      let ne = open_changed (get t.opens (client, j)) (get new.opens (client, j)) w in
      let is_now : get new.opens (client, j) ≡ get (remove s.opens (r.client, k)) (client, j) = now_open client j ∙ ap (λ (m : Set pair_cmp). get m (client, j)) e in
      elim (cases_key exact_pair (client, j) (r.client, k)) [
        | inr far ↦ absurd (ne (ap is_some (was_open client j ∙ sym (is_now ∙ remove_other exact_pair s.opens (r.client, k) (client, j) far))))
        | inl same ↦
            let closed : is_some (get new.opens (client, j)) ≡ false = ap is_some (is_now ∙ ap (get (remove s.opens (r.client, k))) same ∙ remove_same exact_pair s.opens (r.client, k)) in
            subst (λ v. Lies (write (key.OpenOf client j) v) all_writes) (sym (ap (λ b. if b then value.Present else value.Gone) closed))
            (subst (λ (p : ℕ × ℕ). Lies (write (key.OpenOf p.0 p.1) value.Gone) all_writes) (sym same) (of_released _ (in_some (λ ino. write (key.OpenOf r.client ino) value.Gone) released k y)))
      ]

  -- ---- and nothing else

  abbrev Rightly : CellWrite → Type 0
  Rightly w = IsWritten rank t r w.key × (w.value ≡ value_after rank t r w.key)

  done_right : Rightly (write (key.Done r.client r.tid) (value.Number i))
  done_right = (number_from rank t r (get t.done (r.client, r.tid)) (kept_reply new r.client r.tid) (λ e. none_some i (sym (old_reply r.client r.tid ∙ can.fresh) ∙ e ∙ new_reply_here)), sym (ap (number_or_gone rank t r) new_reply_here))

  session_right : (n : ℕ) → raised_oldest r c ≡ Some n → Rightly (write (key.Session r.client) (value.Number n))
  session_right n e =
      let x = raised_is n e in
      let top : limit ≡ n = omega (arith, x.0, x.1) in (
        number_from rank t r (get t.sessions r.client) (oldest_of (get new.sessions r.client)) (λ f. let same = some_same c.oldest limit (sym old_oldest_own ∙ sym (old_oldest r.client) ∙ f ∙ new_oldest_own) in omega (arith, same, x.0)),
        sym (ap (number_or_gone rank t r) new_oldest_own ∙ ap value.Number top),
      )

  dropped_right : (tid : ℕ) → Lies tid (dropped_replies r c) → Rightly (write (key.Done r.client tid) value.Gone)
  dropped_right tid l =
      let x = dropped_is tid l in
      let other : tid ≡ r.tid → ⊥ = λ e. omega (arith, e, x.2, can.inside.above, can.inside.own) in
      let gone : kept_reply new r.client tid ≡ None = new_reply_retained tid other ∙ retain_fails exact_nat (λ tid _. nat_le limit tid) c.kept tid x.0 x.1 (lt-leb limit tid x.2) in
      (number_from rank t r (get t.done (r.client, tid)) (kept_reply new r.client tid) (λ e. none_some x.0 (sym gone ∙ sym e ∙ old_reply r.client tid ∙ own_reply tid ∙ x.1)), sym (ap (number_or_gone rank t r) gone))

  reply_right : (w : CellWrite) → Lies w (reply_part r i c) → Rightly w
  reply_right w (inl e) = subst Rightly e done_right
  reply_right w (inr l) = elim (in_append (where_some (λ oldest. write (key.Session r.client) (value.Number oldest)) (raised_oldest r c)) (replies_gone r.client (dropped_replies r c)) w l) [
    | inl a ↦ let x = some_in (λ oldest. write (key.Session r.client) (value.Number oldest)) (raised_oldest r c) w a in subst Rightly x.2 (session_right x.0 x.1)
    | inr b ↦ let x = in_map (reply_gone r.client) (dropped_replies r c) w b in subst Rightly x.2 (dropped_right x.0 x.1)
  ]

  next_right : (w : CellWrite) → Lies w (next_part next) → Rightly w
  next_right w l =
      let x = some_in (λ next. write key.NextIno (value.Number next)) next w l in
      elim nexts [
        | inl same ↦ absurd (none_some x.0 (sym same.0 ∙ x.1))
        | inr more ↦
            let is_next : x.0 ≡ new.next = some_same x.0 s1.next (sym x.1 ∙ more.0) ∙ sym new_next in
            subst Rightly x.2 (number_from rank t r t.next (Some new.next) (λ e. more.1 (some_same s.next s1.next (sym is.dentries.next ∙ e ∙ ap Some new_next))), ap value.Number is_next)
      ]

  opened_right : (o p : Option ℕ) → OpensAre r.client s s1 o p → opened ≡ o → (j : ℕ) → opened ≡ Some j → Rightly (write (key.OpenOf r.client j) value.Present)
  opened_right _ _ (as_before e) x j y = absurd (none_some j (sym x ∙ y))
  opened_right _ _ (one_less k some e) x j y = absurd (none_some j (sym x ∙ y))
  opened_right _ _ (one_more k none e) x j y =
      let same : k ≡ j = some_same k j (sym x ∙ y) in
      let is_now : get new.opens (r.client, k) ≡ Some tt = now_open r.client k ∙ ap (λ (m : Set pair_cmp). get m (r.client, k)) e ∙ insert_same exact_pair s.opens (r.client, k) tt in
      subst (λ j. Rightly (write (key.OpenOf r.client j) value.Present)) same (
        open_from (get t.opens (r.client, k)) (get new.opens (r.client, k)) (λ f. false≢true (sym (ap is_some (was_open r.client k ∙ none)) ∙ f ∙ ap is_some is_now)),
        sym (ap (λ (o : Option (Unit {0})). if is_some o then value.Present else value.Gone) is_now),
      )

  released_right : (o p : Option ℕ) → OpensAre r.client s s1 o p → released ≡ p → (j : ℕ) → released ≡ Some j → Rightly (write (key.OpenOf r.client j) value.Gone)
  released_right _ _ (as_before e) x j y = absurd (none_some j (sym x ∙ y))
  released_right _ _ (one_more k none e) x j y = absurd (none_some j (sym x ∙ y))
  released_right _ _ (one_less k some e) x j y =
      let same : k ≡ j = some_same k j (sym x ∙ y) in
      let is_now : get new.opens (r.client, k) ≡ None = now_open r.client k ∙ ap (λ (m : Set pair_cmp). get m (r.client, k)) e ∙ remove_same exact_pair s.opens (r.client, k) in
      subst (λ j. Rightly (write (key.OpenOf r.client j) value.Gone)) same (
        open_from (get t.opens (r.client, k)) (get new.opens (r.client, k)) (λ f. false≢true (sym (ap is_some is_now) ∙ sym f ∙ ap is_some (was_open r.client k) ∙ some)),
        sym (ap (λ (o : Option (Unit {0})). if is_some o then value.Present else value.Gone) is_now),
      )

  first_right : (w : CellWrite) → Lies w first_writes → Rightly w
  first_right w l = elim (in_append (reply_part r i c ++ next_part next ++ opened_part r opened) (released_part r released) w l) [
    | inr d ↦ let x = some_in (λ ino. write (key.OpenOf r.client ino) value.Gone) released w d in subst Rightly x.2 (released_right opened released opens_are refl x.0 x.1)
    | inl m ↦ elim (in_append (reply_part r i c ++ next_part next) (opened_part r opened) w m) [
      | inr d ↦ let x = some_in (λ ino. write (key.OpenOf r.client ino) value.Present) opened w d in subst Rightly x.2 (opened_right opened released opens_are refl x.0 x.1)
      | inl k ↦ elim (in_append (reply_part r i c) (next_part next) w k) [
        | inl a ↦ reply_right w a
        | inr b ↦ next_right w b
      ]
    ]
  ]

  -- ---- together with the dentries

  module _ (places : (i : ℕ) (a : _) → get s1.records i ≡ Some a → new_primary rank t r i ≡ get plan_is.primary i) (plan : Plan) (begun : Option ℕ)
      (exact : IsExactPlan rank t s (planned t r next opened released lumps) s1 plan begun) (said : AreSaid t plan begun ws) where
    new_links : new.links ≡ s1.links
    new_links = ap (λ (x : PlainState). x.links) new_is

    new_records : new.records ≡ s1.records
    new_records = ap (λ (x : PlainState). x.records) new_is

    dirs_in : (k : CellKey) → IsOfDir k → IsWritten rank t r k → Lies (write k (value_after rank t r k)) all_writes
    dirs_in k of_dir w = to_right first_writes ws _ (all_of_dirs rank t s is r s1 (planned t r next opened released lumps) plan_is.primary plan_is.dentries new_links new_records places plan begun exact ws said k of_dir w)

    all_in : (k : CellKey) → IsWritten rank t r k → Lies (write k (value_after rank t r k)) all_writes
    all_in (key.Dentry d n) w = dirs_in (key.Dentry d n) tt w
    all_in (key.DirHead d) w = dirs_in (key.DirHead d) tt w
    all_in key.NextIno w = next_in w
    all_in (key.Session client) w = session_in client w
    all_in (key.Done client tid) w = done_in client tid w
    all_in (key.OpenOf client j) w = opens_in opened released opens_are refl refl client j w

    only_in : (w : CellWrite) → Lies w all_writes → Rightly w
    only_in w l = elim (in_append first_writes ws w l) [
      | inl first ↦ first_right w first
      | inr rest ↦ only_of_dirs rank t s is r s1 (planned t r next opened released lumps) plan_is.primary plan_is.dentries new_links new_records places plan begun exact ws said w rest
    ]

    abbrev update : Session → UpdateEvent
    update c = record { op = op_number r.op; client = r.client; tid = r.tid; ino = i; oldest = raised_oldest r c; dropped = dropped_replies r c; next = next; opened = opened; released = released; blob = record { lumps = lumps } }

    gives : GivesTree rank t s r (event.Update (update_of s r i next opened released lumps))
    gives = update_gives rank t s is r sent i change can next opened released lumps plan_is decided

    writes_are : writes_of (event.Update (update_of s r i next opened released lumps)) ≡ all_writes
    writes_are = ap (λ c. update_writes (update c)) (own_is s r c can.inside.there)

    pub update_exact : IsExactDelta rank t r (event.Update (update_of s r i next opened released lumps))
    update_exact = record {
      changes = (λ z. changes (tree_is rank t s is z) r) ∙ changes_are s r (Accepted i change) decided;
      grammar = gives.grammar;
      of_request = of_request s r r.op (i, change) can.done (answer (tree_of rank t) r) ((λ z. answer (tree_is rank t s is z) r) ∙ answer_is s r (Accepted i change) decided) (update_of s r i next opened released lumps) refl refl refl refl;
      all = λ k w. subst (λ ws. Contains ws (write k (value_after rank t r k))) (sym writes_are) (lies_contains all_writes _ (all_in k w));
      only = λ w l. only_in w (contains_lies all_writes w (subst (λ ws. Contains ws w) writes_are l));
      tree = tree_is rank (overlay t (writes_of (event.Update (update_of s r i next opened released lumps)))) (after s r) gives.tree ∙ sym (ap (λ s. after s r) (tree_is rank t s is));
    }
