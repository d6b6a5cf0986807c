-- Sessions and kept replies after a session begins, and after a reply is kept.
use Rattle.std.proofs.Common.{◌≡◌, ℕ, ◌<◌, ◌≤◌, ◌^◌, Bool, true, false, cond, List, ◌∷◌, ◌++◌, Option, Some, None, refl, sym, ap, subst, ◌∙◌, ◌⊎◌, inl, inr, arith}
use Rattle.std.specs.Prelude.{nat_lt, nat_le, max, if◌then◌else◌}
use Rattle.std.specs.Option.{option_and_then}
use Rattle.std.proofs.lemmas.Bool.{cases_Bool, ltb-true, lt-ltb, le-leb, leb-true, leb-false, ltb-false}
use Rattle.mj_maps.specs.Map.{Map, get, insert, retain, empty, len}
use Rattle.mj_maps.specs.Orders.{nat_cmp, pair_cmp}
use Rattle.mj_maps.proofs.MapLaws.{exact_nat, exact_pair, none_some, some_same, insert_same, insert_other, cases_key, apart, eq_false, get_empty, len_empty, len-insert_new, len-insert_over, retain_passes, retain_fails, get-retain}
use Rattle.mj_tree.specs.declared.request.ClientRequest.{ClientRequest}
use Rattle.mj_tree.specs.State.{PlainState, Session}
use Rattle.mj_tree.specs.Sessions.{oldest_of}
use Rattle.mj_tree.specs.Change.{new_session, keeping, with_session, with_reply, kept_in}
use Rattle.mj_tree.specs.Answer.{most_sessions, most_kept, kept_reply, still_kept}
use Rattle.mj_cells.specs.Table.{Table, overlay}
use Rattle.mj_cells.specs.declared.cell.CellWrite.{CellWrite}
use Rattle.mj_cells.specs.declared.cell.CellKey.TheVariants as key
use Rattle.mj_cells.specs.declared.cell.CellValue.TheVariants as value
use Rattle.mj_event.specs.Writes.{write, where_some, replies_gone}
use Rattle.mj_delta.specs.TreeOf.{HasSessions}
use Rattle.mj_delta.specs.Events.{raised_oldest, dropped_replies}
use Rattle.mj_delta.proofs.Facts.{is_some_at, some_is}
use Rattle.mj_delta.proofs.Lists.{Lies}
use Rattle.mj_delta.proofs.Dropped.{without_all, gone_is, gone_in, gone_out, still_none, tid_there, there_tid, retained, retained_count, inserted_len}

-- ---- a session begins

module _ (t : Table) (s : PlainState) (h : HasSessions t s) (r : ClientRequest) (none : get s.sessions r.client ≡ None) (room : len s.sessions < most_sessions) (own : r.oldest ≤ r.tid) (fits : r.tid < 2 ^ 64) where
  abbrev opened : PlainState
  opened = with_session s r

  abbrev pub opened_table : Table
  opened_table = record t { sessions = insert t.sessions r.client r.oldest; done = insert t.done (r.client, r.tid) 0 }

  abbrev kept_at : ℕ → Option Session → Option ℕ
  kept_at tid o = option_and_then (λ (c : Session). get c.kept tid) o

  here : get opened.sessions r.client ≡ Some (new_session r)
  here = insert_same exact_nat s.sessions r.client (new_session r)

  -- what the new session's map has
  new_kept : (tid i : ℕ) → get (new_session r).kept tid ≡ Some i → (tid ≡ r.tid) × (i ≡ 0)
  new_kept tid i e = elim (cases_key exact_nat tid r.tid) [
    | inl same ↦ (same, some_same i 0 (sym e ∙ ap (get (new_session r).kept) same ∙ insert_same exact_nat empty r.tid 0))
    | inr ne ↦ absurd (none_some i (sym (insert_other exact_nat empty r.tid 0 tid ne ∙ get_empty nat_cmp tid) ∙ e))
  ]

  opened_cases : (client : ℕ) (c : Session) → get opened.sessions client ≡ Some c → ((client ≡ r.client) × (c ≡ new_session r)) ⊎ (get s.sessions client ≡ Some c)
  opened_cases client c e = elim (cases_key exact_nat client r.client) [
    | inl same ↦ inl (same, some_same c (new_session r) (sym e ∙ ap (get opened.sessions) same ∙ here))
    | inr ne ↦ inr (sym (insert_other exact_nat s.sessions r.client (new_session r) client ne) ∙ e)
  ]

  opened_replies : (client tid : ℕ) → get opened_table.done (client, tid) ≡ kept_reply opened client tid
  opened_replies client tid = elim (cases_key exact_nat client r.client) [
    | inl same ↦ subst (λ client. get opened_table.done (client, tid) ≡ kept_reply opened client tid) (sym same) (elim (cases_key exact_nat tid r.tid) [
      | inl is ↦ subst (λ tid. get opened_table.done (r.client, tid) ≡ kept_reply opened r.client tid) (sym is)
          (insert_same exact_pair t.done (r.client, r.tid) 0 ∙ sym (ap (kept_at r.tid) here ∙ insert_same exact_nat empty r.tid 0))
      | inr ne ↦
          insert_other exact_pair t.done (r.client, r.tid) 0 (r.client, tid) (eq_false exact_pair (r.client, tid) (r.client, r.tid) (λ e. apart exact_nat tid r.tid ne (ap (λ (k : ℕ × ℕ). k.1) e)))
          ∙ h.replies r.client tid ∙ ap (kept_at tid) none ∙ sym (ap (kept_at tid) here ∙ insert_other exact_nat empty r.tid 0 tid ne ∙ get_empty nat_cmp tid)
    ])
    | inr ne ↦
        insert_other exact_pair t.done (r.client, r.tid) 0 (client, tid) (eq_false exact_pair (client, tid) (r.client, r.tid) (λ e. apart exact_nat client r.client ne (ap (λ (k : ℕ × ℕ). k.0) e)))
        ∙ h.replies client tid ∙ ap (kept_at tid) (sym (insert_other exact_nat s.sessions r.client (new_session r) client ne))
  ]

  pub session_opened : HasSessions opened_table (with_session s r)
  session_opened = record {
    sessions = λ client. elim (cases_key exact_nat client r.client) [
      | inl same ↦ ap (get opened_table.sessions) same ∙ insert_same exact_nat t.sessions r.client r.oldest ∙ sym (ap (λ client. oldest_of (get opened.sessions client)) same ∙ ap oldest_of here)
      | inr ne ↦ insert_other exact_nat t.sessions r.client r.oldest client ne ∙ h.sessions client ∙ ap oldest_of (sym (insert_other exact_nat s.sessions r.client (new_session r) client ne))
    ];
    replies = opened_replies;
    not_below = λ client c tid i e k. elim (opened_cases client c e) [
      | inl w ↦ let is = new_kept tid i (ap (λ (c : Session). get c.kept tid) (sym w.1) ∙ k) in subst (λ (c : Session). c.oldest ≤ tid) (sym w.1) (omega (arith, is.0, own))
      | inr old ↦ h.not_below client c tid i old k
    ];
    few_replies = λ client c e. elim (opened_cases client c e) [
      | inl w ↦ subst (λ (c : Session). len c.kept ≤ most_kept) (sym w.1) (omega (arith, inserted_len empty r.tid 0, len_empty ℕ nat_cmp))
      | inr old ↦ h.few_replies client c old
    ];
    tids_fit = λ client c tid i e k. elim (opened_cases client c e) [
      | inl w ↦ let is = new_kept tid i (ap (λ (c : Session). get c.kept tid) (sym w.1) ∙ k) in omega (arith, is.0, fits)
      | inr old ↦ h.tids_fit client c tid i old k
    ];
    few_sessions = omega (arith, len-insert_new exact_nat s.sessions r.client (new_session r) none, room);
    open_sessions = λ client i open_there. let c = some_is (get s.sessions client) (h.open_sessions client i open_there) in elim (cases_key exact_nat client r.client) [
      | inl same ↦ absurd (none_some c.0 (sym none ∙ ap (get s.sessions) (sym same) ∙ c.1))
      | inr ne ↦ is_some_at _ c.0 (insert_other exact_nat s.sessions r.client (new_session r) client ne ∙ c.1)
    ];
  }

-- ---- a reply is kept

abbrev pub reply_part : ClientRequest → ℕ → Session → List CellWrite
reply_part r i c = write (key.Done r.client r.tid) (value.Number i) ∷ where_some (λ oldest. write (key.Session r.client) (value.Number oldest)) (raised_oldest r c) ++ replies_gone r.client (dropped_replies r c)

abbrev pub sessions_after : Table → ClientRequest → Session → Map nat_cmp ℕ
sessions_after t r c = if nat_lt c.oldest r.oldest then insert t.sessions r.client r.oldest else t.sessions

abbrev pub replies_after : Table → ClientRequest → ℕ → Session → Map pair_cmp ℕ
replies_after t r i c = without_all (insert t.done (r.client, r.tid) i) r.client (dropped_replies r c)

pub reply_overlay : (t : Table) (r : ClientRequest) (i : ℕ) (c : Session) → overlay t (reply_part r i c) ≡ record t { sessions = sessions_after t r c; done = replies_after t r i c }
reply_overlay t r i c = elim (nat_lt c.oldest r.oldest) as (λ b. overlay t (write (key.Done r.client r.tid) (value.Number i) ∷ where_some (λ oldest. write (key.Session r.client) (value.Number oldest)) (if b then Some r.oldest else None) ++ replies_gone r.client (dropped_replies r c))
    ≡ record t { sessions = if b then insert t.sessions r.client r.oldest else t.sessions; done = replies_after t r i c }) [
      | true ↦ gone_is (record t { done = insert t.done (r.client, r.tid) i; sessions = insert t.sessions r.client r.oldest }) r.client (dropped_replies r c)
      | false ↦ gone_is (record t { done = insert t.done (r.client, r.tid) i }) r.client (dropped_replies r c)
    ]

module _ (t : Table) (s : PlainState) (h : HasSessions t s) (r : ClientRequest) (i : ℕ) (c : Session) (there : get s.sessions r.client ≡ Some c)
    (above : c.oldest ≤ r.tid) (own : r.oldest ≤ r.tid) (room : still_kept r c < most_kept) (fits : r.tid < 2 ^ 64) where
  abbrev k : Session
  k = keeping r i c

  abbrev pub replied : PlainState
  replied = record s { sessions = insert s.sessions r.client k }

  abbrev pub replied_table : Table
  replied_table = record t { sessions = sessions_after t r c; done = replies_after t r i c }

  pub replied_is : with_reply s r i ≡ replied
  replied_is = ap (λ o. kept_in s r i o) there

  abbrev stays : ℕ → ℕ → Bool
  stays tid _ = nat_le (max c.oldest r.oldest) tid

  abbrev goes : ℕ → ℕ → Bool
  goes tid _ = nat_lt tid (max c.oldest r.oldest)

  kept_here : get replied.sessions r.client ≡ Some k
  kept_here = insert_same exact_nat s.sessions r.client k

  replied_cases : (client : ℕ) (x : Session) → get replied.sessions client ≡ Some x → ((client ≡ r.client) × (x ≡ k)) ⊎ (get s.sessions client ≡ Some x)
  replied_cases client x e = elim (cases_key exact_nat client r.client) [
    | inl same ↦ inl (same, some_same x k (sym e ∙ ap (get replied.sessions) same ∙ kept_here))
    | inr ne ↦ inr (sym (insert_other exact_nat s.sessions r.client k client ne) ∙ e)
  ]

  -- a reply that is kept afterwards is the new one, or was kept and stays
  kept_cases : (tid j : ℕ) → get k.kept tid ≡ Some j → (tid ≡ r.tid) ⊎ ((get c.kept tid ≡ Some j) × (max c.oldest r.oldest ≤ tid))
  kept_cases tid j e = elim (cases_key exact_nat tid r.tid) [
    | inl same ↦ inl same
    | inr ne ↦ let w = retained stays c.kept tid j (sym (insert_other exact_nat (retain stays c.kept) r.tid i tid ne) ∙ e) in inr (w.0, leb-true _ _ w.1)
  ]

  not_dropped : (tid : ℕ) → max c.oldest r.oldest ≤ tid → Lies tid (dropped_replies r c) → ⊥
  not_dropped tid le l = let w = there_tid (retain goes c.kept) tid l in let x = retained goes c.kept tid w.0 w.1 in omega (arith, ltb-true tid (max c.oldest r.oldest) x.1)

  -- another number of the client, by what was kept at it
  old_reply : (tid : ℕ) (o : Option ℕ) → get c.kept tid ≡ o → get t.done (r.client, tid) ≡ o → (tid ≡ r.tid → ⊥) → get replied_table.done (r.client, tid) ≡ get (retain stays c.kept) tid
  old_reply tid None e d ne =
      let other = insert_other exact_pair t.done (r.client, r.tid) i (r.client, tid) (eq_false exact_pair (r.client, tid) (r.client, r.tid) (λ same. ne (ap (λ (k : ℕ × ℕ). k.1) same))) in
      still_none (insert t.done (r.client, r.tid) i) r.client (dropped_replies r c) (r.client, tid) (other ∙ d) ∙ sym (get-retain exact_nat stays c.kept tid ∙ ap (option_and_then (λ v. cond (stays tid v) (Some v) None)) e)
  old_reply tid (Some j) e d ne =
      let other = insert_other exact_pair t.done (r.client, r.tid) i (r.client, tid) (eq_false exact_pair (r.client, tid) (r.client, r.tid) (λ same. ne (ap (λ (k : ℕ × ℕ). k.1) same))) in
      elim (cases_Bool (nat_le (max c.oldest r.oldest) tid)) [
        | inl le ↦ gone_out (insert t.done (r.client, r.tid) i) r.client (dropped_replies r c) (r.client, tid) (λ _ l. not_dropped tid (leb-true _ _ le) l) ∙ other ∙ d ∙ sym (retain_passes exact_nat stays c.kept tid j e le)
        | inr gt ↦
            let lt : nat_lt tid (max c.oldest r.oldest) ≡ true = lt-ltb tid (max c.oldest r.oldest) (below tid (max c.oldest r.oldest) gt) in
            gone_in (insert t.done (r.client, r.tid) i) r.client (dropped_replies r c) tid (tid_there (retain goes c.kept) tid j (retain_passes exact_nat goes c.kept tid j e lt)) ∙ sym (retain_fails exact_nat stays c.kept tid j e gt)
      ]
    where
      below : (a b : ℕ) → nat_le b a ≡ false → a < b
      below a b e = leb-false b a e

  here_reply : (tid : ℕ) → get replied_table.done (r.client, tid) ≡ get k.kept tid
  here_reply tid = elim (cases_key exact_nat tid r.tid) [
    | inl same ↦ subst (λ tid. get replied_table.done (r.client, tid) ≡ get k.kept tid) (sym same) (
        gone_out (insert t.done (r.client, r.tid) i) r.client (dropped_replies r c) (r.client, r.tid) (λ _ l. not_dropped r.tid (omega (arith, above, own)) l) ∙ insert_same exact_pair t.done (r.client, r.tid) i
        ∙ sym (insert_same exact_nat (retain stays c.kept) r.tid i))
    | inr ne ↦ old_reply tid (get c.kept tid) refl (h.replies r.client tid ∙ ap (option_and_then (λ (c : Session). get c.kept tid)) there) (apart exact_nat tid r.tid ne) ∙ sym (insert_other exact_nat (retain stays c.kept) r.tid i tid ne)
  ]

  replied_replies : (client tid : ℕ) → get replied_table.done (client, tid) ≡ kept_reply replied client tid
  replied_replies client tid = elim (cases_key exact_nat client r.client) [
    | inl same ↦ subst (λ client. get replied_table.done (client, tid) ≡ kept_reply replied client tid) (sym same) (here_reply tid ∙ sym (ap (option_and_then (λ (c : Session). get c.kept tid)) kept_here))
    | inr ne ↦
        let far = apart exact_nat client r.client ne in
        gone_out (insert t.done (r.client, r.tid) i) r.client (dropped_replies r c) (client, tid) (λ e _. far e)
        ∙ insert_other exact_pair t.done (r.client, r.tid) i (client, tid) (eq_false exact_pair (client, tid) (r.client, r.tid) (λ e. far (ap (λ (k : ℕ × ℕ). k.0) e)))
        ∙ h.replies client tid ∙ ap (option_and_then (λ (c : Session). get c.kept tid)) (sym (insert_other exact_nat s.sessions r.client k client ne))
  ]

  raised_here : get replied_table.sessions r.client ≡ Some (max c.oldest r.oldest)
  raised_here = elim (cases_Bool (nat_lt c.oldest r.oldest)) [
    | inl lt ↦ ap (λ b. get (if b then insert t.sessions r.client r.oldest else t.sessions) r.client) lt ∙ insert_same exact_nat t.sessions r.client r.oldest ∙ ap Some (omega (arith, ltb-true _ _ lt))
    | inr ge ↦ ap (λ b. get (if b then insert t.sessions r.client r.oldest else t.sessions) r.client) ge ∙ h.sessions r.client ∙ ap oldest_of there ∙ ap Some (omega (arith, ltb-false c.oldest r.oldest ge))
  ]

  raised_other : (b : Bool) (client : ℕ) → (client ≡ r.client → ⊥) → get (if b then insert t.sessions r.client r.oldest else t.sessions) client ≡ get t.sessions client
  raised_other true client ne = insert_other exact_nat t.sessions r.client r.oldest client (eq_false exact_nat client r.client ne)
  raised_other false client ne = refl

  pub reply_kept : HasSessions replied_table replied
  reply_kept = record {
    sessions = λ client. elim (cases_key exact_nat client r.client) [
      | inl same ↦ ap (get replied_table.sessions) same ∙ raised_here ∙ sym (ap (λ client. oldest_of (get replied.sessions client)) same ∙ ap oldest_of kept_here)
      | inr ne ↦ raised_other (nat_lt c.oldest r.oldest) client (apart exact_nat client r.client ne) ∙ h.sessions client ∙ ap oldest_of (sym (insert_other exact_nat s.sessions r.client k client ne))
    ];
    replies = replied_replies;
    not_below = λ client x tid j e f. elim (replied_cases client x e) [
      | inl w ↦ subst (λ (x : Session). x.oldest ≤ tid) (sym w.1) (elim (kept_cases tid j (ap (λ (x : Session). get x.kept tid) (sym w.1) ∙ f)) [ inl new ↦ omega (arith, new, above, own) | inr old ↦ old.1 ])
      | inr old ↦ h.not_below client x tid j old f
    ];
    few_replies = λ client x e. elim (replied_cases client x e) [
      | inl w ↦
          let kept = retained_count stays (λ (e : ℕ × ℕ). nat_le r.oldest e.0) c.kept (λ e stay. let le = leb-true (max c.oldest r.oldest) e.0 stay in le-leb r.oldest e.0 (omega (arith, le))) in
          subst (λ (x : Session). len x.kept ≤ most_kept) (sym w.1) (omega (arith, inserted_len (retain stays c.kept) r.tid i, kept, room))
      | inr old ↦ h.few_replies client x old
    ];
    tids_fit = λ client x tid j e f. elim (replied_cases client x e) [
      | inl w ↦ elim (kept_cases tid j (ap (λ (x : Session). get x.kept tid) (sym w.1) ∙ f)) [ inl new ↦ omega (arith, new, fits) | inr old ↦ h.tids_fit r.client c tid j there old.0 ]
      | inr old ↦ h.tids_fit client x tid j old f
    ];
    few_sessions = omega (arith, len-insert_over exact_nat s.sessions r.client c k there, h.few_sessions);
    open_sessions = λ client j open_there. let x = some_is (get s.sessions client) (h.open_sessions client j open_there) in elim (cases_key exact_nat client r.client) [
      | inl same ↦ is_some_at _ k (ap (get replied.sessions) same ∙ kept_here)
      | inr ne ↦ is_some_at _ x.0 (insert_other exact_nat s.sessions r.client k client ne ∙ x.1)
    ];
  }
