-- A number above all that is out stays so.
use Rattle.std.proofs.Common.{◌≡◌, inl, inr, ℕ, ◌+◌, ◌<◌, List, [], ◌∷◌, ◌++◌, Option, None, Some, Result, Ok, Err, refl, sym, ap, subst, arith}
use Rattle.std.specs.Prelude.{IfSome, IfOk, OnErr, MatchResult}
use Rattle.mj_store.specs.Causes.{In}
use Rattle.mj_journaler.specs.Journal.{Journal, IsNew, end_of}
use Rattle.mj_journaler.specs.Calls.{append_refusal, appended, offered, sent_on, acknowledged}
use Rattle.mj_journaler.specs.declared.AppendRefusal.{AppendRefusal}
use Rattle.mj_journaler.specs.declared.AppendRefusal.TheVariants.{Memory}
use Rattle.mj_journaler.specs.declared.sent.Sent.{Sent}
use Rattle.mj_journaler.specs.declared.sent.Offer.{Offer}
use Rattle.mj_journaler.specs.declared.sent.Offer.TheVariants.{Flush, Head, Removal}
use Rattle.mj_journaler.proofs.Out.{without_less}
use Rattle.mj_journaler.proofs.Kept.{in_more}

pub new_acked : (n op : ℕ) (j : Journal) → IsNew n j → IsNew n (acknowledged op j)
new_acked n op j h = record {
  sent = λ w i. h.sent w (without_less op j.sent w i);
  heads = λ w i. h.heads w (without_less op j.heads w i);
  removals = λ w i. h.removals w (without_less op j.removals w i);
}

new_entry : (n : ℕ) (payload : List ℕ) (j : Journal) → IsNew n j → IsNew n (appended payload j)
new_entry n payload j h = record { sent = h.sent; heads = h.heads; removals = h.removals }

taken_in : (n : ℕ) (j k : Journal) (payload : List ℕ) (end : ℕ) (o : Option AppendRefusal) → IfSome o (λ why. let r : Result ℕ AppendRefusal = Ok end in r ≡ Err why) → (o ≡ None → (end ≡ end_of k) × (k ≡ appended payload j)) → IsNew n j → IsNew n k
taken_in n j k payload end None a b h = subst (λ (m : Journal). IsNew n m) (sym (b refl).1) (new_entry n payload j h)
taken_in n j k payload end (Some why) a b h = cc

pub new_appended : (n : ℕ) (j k : Journal) (payload : List ℕ) (result : Result ℕ AppendRefusal) → IfSome (append_refusal j payload) (λ why. result ≡ Err why)
    → (append_refusal j payload ≡ None → MatchResult result (λ end. (end ≡ end_of k) × (k ≡ appended payload j)) (λ why. why ≡ Memory)) → OnErr result (k ≡ j) → IsNew n j → IsNew n k
new_appended n j k payload (Ok end) a b c h = taken_in n j k payload end (append_refusal j payload) a b h
new_appended n j k payload (Err why) a b c h = subst (λ (m : Journal). IsNew n m) (sym c) h

pub new_offered : (n : ℕ) (o : Option Offer) (j : Journal) → IsNew n j → IsNew n (offered o j)
new_offered n o j h = record { sent = h.sent; heads = h.heads; removals = h.removals }

one_more : (n : ℕ) (ws : List Sent) (x : Sent) → x.op ≡ n → ((w : Sent) → In w ws → w.op < n) → (w : Sent) → In w (ws ++ x ∷ []) → w.op < n + 1
one_more n ws x e h w i = elim (in_more ws x w i) [ inl out ↦ omega (arith, h w out) | inr same ↦ omega (arith, e, ap (λ (s : Sent). s.op) same) ]

later : (n : ℕ) (ws : List Sent) → ((w : Sent) → In w ws → w.op < n) → (w : Sent) → In w ws → w.op < n + 1
later n ws h w i = omega (arith, h w i)

pub new_sent : (n : ℕ) (o : Option Offer) (j : Journal) → IsNew n j → IsNew (n + 1) (sent_on n o j)
new_sent n None j h = record { sent = later n j.sent h.sent; heads = later n j.heads h.heads; removals = later n j.removals h.removals }
new_sent n (Some (Flush to)) j h = record { sent = one_more n j.sent (record { op = n; from = j.flushed; to = to }) refl h.sent; heads = later n j.heads h.heads; removals = later n j.removals h.removals }
new_sent n (Some (Head header)) j h = record { sent = later n j.sent h.sent; heads = one_more n j.heads (record { op = n; from = header.trimmed; to = header.expire }) refl h.heads; removals = later n j.removals h.removals }
new_sent n (Some (Removal index)) j h = record { sent = later n j.sent h.sent; heads = later n j.heads h.heads; removals = one_more n j.removals (record { op = n; from = index; to = index + 1 }) refl h.removals }

pub if_ok : {A B : Type 0} (r : Result A B) (P : Type 0) → P → IfOk r (λ _. P)
if_ok (Ok x) P p = p
if_ok (Err e) P p = tt
