-- What a journal has out is listed by its store, through the calls of a rank.
use Rattle.std.proofs.Common.{◌≡◌, ◌⊎◌, inl, inr, ℕ, ◌+◌, true, false, List, [], ◌∷◌, ◌++◌, Option, Some, None, Result, Ok, Err, OnOk, OnErr, refl, sym, ap, subst, ◌∙◌, arith}
use Rattle.std.specs.Prelude.{◌==◌, ◌&&◌, IsTrue}
use Rattle.std.proofs.lemmas.Bool.{and_parts, cond_both, eqb-true, eq-eqb}
use Rattle.mj_store.specs.Causes.{In, Listed, AllBelow, with_listed, unlisted}
use Rattle.mj_journaler.specs.Journal.{Journal, HasNumber, IsNew}
use Rattle.mj_journaler.specs.Outstanding.{without}
use Rattle.mj_journaler.specs.Calls.{flush_of, offered, sent_on, acknowledged}
use Rattle.mj_journaler.specs.declared.sent.Sent.{Sent}
use Rattle.mj_journaler.specs.declared.sent.Offer.{Offer}
use Rattle.mj_journaler.specs.declared.sent.Offer.TheVariants.{Flush, Head, Removal}
use Rattle.mj_journaler.proofs.Kept.{in_more}
use Rattle.mj_journaler.proofs.Out.{without_less}
use Rattle.mj_tree.specs.declared.request.ClientRequest.{ClientRequest}
use Rattle.mj_tree.specs.declared.request.Reply.{Reply}
use Rattle.mj_event.specs.declared.Event.{Event}
use Rattle.mj_event.specs.Event.{event_bytes}
use Rattle.mj_rank.specs.declared.rank.Rank.{Rank}
use Rattle.mj_rank.specs.Log.{log_value, is_none, is_unsent}
use Rattle.mj_rank.specs.Request.{RankValue, value_of, map_in, answered, with_event}
use Rattle.mj_rank.specs.Segment.{log_behind}
use Rattle.mj_rank.specs.Since.{AllListed}

-- a number above all that are listed is above all that are out
pub listed_new : (list : List Listed) (j : Journal) (op : ℕ) → AllListed list j → AllBelow op list → IsNew op j
listed_new list j op h below = record {
  sent = λ w i. let l = h w.op (inl (w, i, refl)) in omega (arith, below l.0 l.1, l.2);
  heads = λ w i. let l = h w.op (inr (inl (w, i, refl))) in omega (arith, below l.0 l.1, l.2);
  removals = λ w i. let l = h w.op (inr (inr (w, i, refl))) in omega (arith, below l.0 l.1, l.2);
}

pub listed_same : (list new : List Listed) (j k : Journal) → new ≡ list → log_value k ≡ log_value j → AllListed list j → AllListed new k
listed_same list new j k a b h = subst (λ (x : Journal). AllListed new x) (sym b) (subst (λ (l : List Listed). AllListed l j) (sym a) h)

pub new_same : (op : ℕ) (j k : Journal) → log_value k ≡ log_value j → IsNew op j → IsNew op k
new_same op j k e h =
    let new : IsNew op (log_value k) = subst (λ (x : Journal). IsNew op x) (sym e) (record { sent = h.sent; heads = h.heads; removals = h.removals }) in
    record { sent = new.sent; heads = new.heads; removals = new.removals }

-- ---- an operation is sent

sent_number : (op n : ℕ) (o : Option Offer) (j : Journal) → HasNumber n (sent_on op o j) → HasNumber n j ⊎ (op ≡ n)
sent_number op n None j h = inl h
sent_number op n (Some (Flush to)) j (inl (w, i, e)) =
    elim (in_more j.sent (record { op = op; from = j.flushed; to = to }) w i) [ inl out ↦ inl (inl (w, out, e)) | inr same ↦ inr (ap (λ (x : Sent). x.op) same ∙ e) ]
sent_number op n (Some (Flush to)) j (inr h) = inl (inr h)
sent_number op n (Some (Head header)) j (inl h) = inl (inl h)
sent_number op n (Some (Head header)) j (inr (inl (w, i, e))) =
    elim (in_more j.heads (record { op = op; from = header.trimmed; to = header.expire }) w i) [ inl out ↦ inl (inr (inl (w, out, e))) | inr same ↦ inr (ap (λ (x : Sent). x.op) same ∙ e) ]
sent_number op n (Some (Head header)) j (inr (inr h)) = inl (inr (inr h))
sent_number op n (Some (Removal index)) j (inl h) = inl (inl h)
sent_number op n (Some (Removal index)) j (inr (inl h)) = inl (inr (inl h))
sent_number op n (Some (Removal index)) j (inr (inr (w, i, e))) =
    elim (in_more j.removals (record { op = op; from = index; to = index + 1 }) w i) [ inl out ↦ inl (inr (inr (w, out, e))) | inr same ↦ inr (ap (λ (x : Sent). x.op) same ∙ e) ]

in_front : (list : List Listed) (x l : Listed) → In l list → In l (list ++ x ∷ [])
in_front [] x l i = absurd i
in_front (y ∷ list) x l (inl e) = inl e
in_front (y ∷ list) x l (inr i) = inr (in_front list x l i)

in_last : (list : List Listed) (x : Listed) → In x (list ++ x ∷ [])
in_last [] x = inl refl
in_last (y ∷ list) x = inr (in_last list x)

listed_more : (list : List Listed) (op count : ℕ) (o : Option Offer) (j : Journal) → AllListed list j → AllListed (with_listed op count list) (sent_on op o j)
listed_more list op count o j h n out = elim (sent_number op n o j out) [
  | inl old ↦ let l = h n old in (l.0, in_front list (record { op = op; count = count }) l.0 l.1, l.2)
  | inr same ↦ (record { op = op; count = count }, in_last list (record { op = op; count = count }), same)
]

pub listed_sent : (list new : List Listed) (op count : ℕ) (o : Option Offer) (j k : Journal) → new ≡ with_listed op count list → log_value k ≡ log_value (sent_on op o j) → AllListed list j → AllListed new k
listed_sent list new op count o j k a b h = listed_same (with_listed op count list) new (sent_on op o j) k a b (listed_more list op count o j h)

-- the next write of the journal
pub listed_flushed : (list new : List Listed) (op count : ℕ) (j given k : Journal) → given ≡ offered (flush_of j) j → new ≡ with_listed op count list → log_value k ≡ log_value (sent_on op given.offer given) → AllListed list j → AllListed new k
listed_flushed list new op count j given k e a b h = listed_sent list new op count given.offer given k a b (listed_same list list j given refl (ap log_value e) h)

pub flushed_new : (list : List Listed) (op : ℕ) (j given : Journal) → given ≡ offered (flush_of j) j → AllBelow op list → AllListed list j → IsNew op given
flushed_new list op j given e below h = listed_new list given op (listed_same list list j given refl (ap log_value e) h) below

-- ---- one is acknowledged

apart : (a b : ℕ) → (a == b) ≡ false → a ≡ b → ⊥
apart a b e h = let yes : (a == b) ≡ true = eq-eqb a b h in let none : true ≡ false = sym yes ∙ e in absurd cc

not_this : (op : ℕ) (ws : List Sent) (w : Sent) → In w (without op ws) → w.op ≡ op → ⊥
not_this op [] w i e = i
not_this op (x ∷ ws) w i e = cond_both (x.op == op) (without op ws) (x ∷ without op ws) (λ xs. In w xs → ⊥)
    (λ b j. not_this op ws w j e)
    (λ b j. elim j [ inl same ↦ apart x.op op b (ap (λ (y : Sent). y.op) same ∙ e) | inr there ↦ not_this op ws w there e ]) i

still_listed : (op : ℕ) (list : List Listed) (l : Listed) → In l list → (l.op ≡ op → ⊥) → In l (unlisted op list)
still_listed op [] l i ne = i
still_listed op (x ∷ list) l i ne = cond_both (x.op == op) list (x ∷ unlisted op list) (λ xs. In l xs)
    (λ b. elim i [ inl same ↦ absurd (ne (ap (λ (y : Listed). y.op) (sym same) ∙ eqb-true x.op op b)) | inr there ↦ there ])
    (λ b. elim i [ inl same ↦ inl same | inr there ↦ inr (still_listed op list l there ne) ])

-- what is still out has another number
acked_number : (op n : ℕ) (j : Journal) → HasNumber n (acknowledged op j) → HasNumber n j × (n ≡ op → ⊥)
acked_number op n j (inl (w, i, e)) = (inl (w, without_less op j.sent w i, e), λ q. not_this op j.sent w i (e ∙ q))
acked_number op n j (inr (inl (w, i, e))) = (inr (inl (w, without_less op j.heads w i, e)), λ q. not_this op j.heads w i (e ∙ q))
acked_number op n j (inr (inr (w, i, e))) = (inr (inr (w, without_less op j.removals w i, e)), λ q. not_this op j.removals w i (e ∙ q))

pub listed_acked : (list new : List Listed) (op : ℕ) (j k : Journal) → new ≡ unlisted op list → k ≡ acknowledged op j → AllListed list j → AllListed new k
listed_acked list new op j k a b h =
    listed_same (unlisted op list) new (acknowledged op j) k a (ap log_value b)
    (λ n out. let was = acked_number op n j out in let l = h n was.0 in (l.0, still_listed op list l.0 l.1 (λ q. was.1 (sym l.2 ∙ q)), l.2))

-- ---- a request, and the start

behind_listed : (map : Option (List ℕ)) (j : Journal) (p : List ℕ) (list : List Listed) → AllListed list j → AllListed list (log_behind map j p)
behind_listed None j p list h = h
behind_listed (Some m) j p list h = h

pub accepted_listed : {S X E : Type 0} (result : Result X E) (old new : Rank S) (e : Event) (r : ClientRequest) (x : Reply) (o : Option ℕ) → OnOk result (value_of new ≡ answered (with_event (value_of old) e) r x o)
    → OnErr result (value_of new ≡ value_of old) → (list : List Listed) → AllListed list old.log → AllListed list new.log
accepted_listed (Ok y) old new e r x o after kept list h = subst (λ (v : RankValue). AllListed list v.log) (sym after) (behind_listed (map_in (value_of old)) (log_value old.log) (event_bytes e) list h)
accepted_listed (Err y) old new e r x o after kept list h = subst (λ (v : RankValue). AllListed list v.log) (sym kept) h

pub accepted_fault : {S X E : Type 0} (result : Result X E) (old new : Rank S) (e : Event) (r : ClientRequest) (x : Reply) (o : Option ℕ) → OnOk result (value_of new ≡ answered (with_event (value_of old) e) r x o)
    → OnErr result (value_of new ≡ value_of old) → new.fault ≡ old.fault
accepted_fault (Ok y) old new e r x o after kept = ap (λ (v : RankValue). v.fault) after
accepted_fault (Err y) old new e r x o after kept = ap (λ (v : RankValue). v.fault) kept

pub answered_fault : {S X E : Type 0} (result : Result X E) (old new : Rank S) (r : ClientRequest) (x : Reply) (o : Option ℕ) → OnOk result (value_of new ≡ answered (value_of old) r x o)
    → OnErr result (value_of new ≡ value_of old) → new.fault ≡ old.fault
answered_fault (Ok y) old new r x o after kept = ap (λ (v : RankValue). v.fault) after
answered_fault (Err y) old new r x o after kept = ap (λ (v : RankValue). v.fault) kept

pub value_listed : {S : Type 0} (old new : Rank S) (v : RankValue) → value_of new ≡ v → v.log ≡ log_value old.log → (list : List Listed) → AllListed list old.log → AllListed list new.log
value_listed old new v is log list h = listed_same list list old.log new.log refl (ap (λ (x : RankValue). x.log) is ∙ log) h

none_in : (ws : List Sent) (w : Sent) → is_none ws ≡ true → In w ws → ⊥
none_in [] w e i = i
none_in (x ∷ ws) w e i = absurd cc

-- where nothing is out
pub unsent_listed : (list : List Listed) (j k : Journal) → log_value k ≡ log_value j → IsTrue (is_unsent j) → AllListed list k
unsent_listed list j k same none =
    let a = and_parts (is_none j.sent && is_none j.heads) (is_none j.removals) none in
    let b = and_parts (is_none j.sent) (is_none j.heads) a.0 in
    subst (λ (x : Journal). AllListed list x) (sym same)
    (λ op out. elim out [
      | inl w ↦ absurd (none_in j.sent w.0 b.0 w.1)
      | inr rest ↦ elim rest [ inl h ↦ absurd (none_in j.heads h.0 b.1 h.1) | inr r ↦ absurd (none_in j.removals r.0 a.1 r.1) ]
    ])

-- so it is where a mount begins
pub first_unsent : (j k : Journal) → log_value j ≡ k → IsTrue (is_unsent k) → IsTrue (is_unsent j)
first_unsent j k e none = subst (λ (x : Journal). IsTrue (is_unsent x)) (sym e) none
