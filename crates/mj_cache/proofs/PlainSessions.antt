-- A record put among others, kept replies in order, and one session more.
use Rattle.std.proofs.lemmas.List.{map-append, at_drop_more}
use Rattle.std.proofs.Common.{◌≡◌, ℕ, ◌+◌, ◌<◌, length, get_or, drop, append_assoc, true, false, cond, List, [], ◌∷◌, ◌++◌, Some, None, T, refl, sym, ap, subst, ◌∙◌, add-one}
use Rattle.std.specs.Prelude.{IsTrue, ◌==◌, filter_map}
use Rattle.std.specs.List.{cons_option}
use Rattle.std.specs.Cmp.{tied_itself}
use Rattle.std.specs.declared.cmp.Ordering.TheVariants.{Equal}
use Rattle.std.specs.BTreeMap.{insert_entry}
use Rattle.mj_base.specs.declared.record.InodeRecord.{InodeRecord}
use Rattle.mj_maps.proofs.MapLaws.{exact_nat, from_entries-put}
use Rattle.std.specs.Ordering.{is_lt, ordering_then}
use Rattle.std.specs.FinMap.Entries.{is_sorted, below_all}
use Rattle.std.proofs.lemmas.Bool.{eqb-true}
use Rattle.mj_maps.specs.Map.{from_entries, insert, picked, with_some, both_true, left_true, right_true}
use Rattle.mj_maps.specs.Orders.{nat_cmp, pair_cmp}
use Rattle.mj_tree.specs.Lists.{session_entries, session_of}
use Rattle.mj_tree.specs.Replies.{kept_entries}
use Rattle.mj_tree.specs.declared.session.KeptReply.{KeptReply}
use Rattle.mj_tree.specs.declared.session.PlainSession.{PlainSession}
use Rattle.mj_recovery.specs.Tree.{reply_of, session_in}
use Rattle.mj_recovery.proofs.Bools.{true_from, from_true}
use Rattle.mj_recovery.proofs.Merges.{insert_put}

pub put_inserts : (es fs : List (ℕ × InodeRecord)) (k : ℕ) (v : InodeRecord) → fs ≡ insert_entry nat_cmp es k v → from_entries {R = nat_cmp} fs ≡ insert (from_entries es) k v
put_inserts es fs k v e = ap from_entries (e ∙ insert_put nat_cmp es k v) ∙ from_entries-put exact_nat k v es

module _ (client : ℕ) where
  below_replies : (k : ℕ × ℕ) (es : List ((ℕ × ℕ) × ℕ)) → k.0 ≡ client → T (below_all pair_cmp k es) → T (below_all nat_cmp k.1 (filter_map (reply_of client) es))
  below_replies k [] p h = tt
  below_replies k (e ∷ es) p h =
      let rest = below_replies k es p (right_true _ _ h) in
      elim (e.0.0 == client) as (λ b. (e.0.0 == client) ≡ b → T (below_all nat_cmp k.1 (cons_option (cond b (Some (e.0.1, e.1)) None) (filter_map (reply_of client) es)))) [
        | true ↦ λ q.
            let same : k.0 ≡ e.0.0 = p ∙ sym (eqb-true e.0.0 client q) in
            let ties : nat_cmp k.0 e.0.0 ≡ Equal = subst (λ n. nat_cmp k.0 n ≡ Equal) same (tied_itself exact_nat.total k.0) in
            both_true _ _ (subst (λ o. T (is_lt (ordering_then o (nat_cmp k.1 e.0.1)))) ties (left_true _ _ h)) rest
        | false ↦ λ q. rest
      ] refl

  sorted_in : (es : List ((ℕ × ℕ) × ℕ)) → T (is_sorted pair_cmp es) → T (is_sorted nat_cmp (filter_map (reply_of client) es))
  sorted_in [] h = tt
  sorted_in (e ∷ es) h =
      let rest = sorted_in es (right_true _ _ h) in
      elim (e.0.0 == client) as (λ b. (e.0.0 == client) ≡ b → T (is_sorted nat_cmp (cons_option (cond b (Some (e.0.1, e.1)) None) (filter_map (reply_of client) es)))) [
        | true ↦ λ q. both_true _ _ (below_replies e.0 es (eqb-true e.0.0 client q) (left_true _ _ h)) rest
        | false ↦ λ q. rest
      ] refl

pub sorted_replies : (client : ℕ) (es : List ((ℕ × ℕ) × ℕ)) (rs : List KeptReply) → IsTrue (is_sorted pair_cmp es) → kept_entries rs ≡ filter_map (reply_of client) es → IsTrue (is_sorted nat_cmp (kept_entries rs))
sorted_replies client es rs h e = true_from _ (subst (λ xs. T (is_sorted nat_cmp xs)) (sym e) (sorted_in client es (from_true _ h)))

pub session_more : (done : List ((ℕ × ℕ) × ℕ)) (oldest : List (ℕ × ℕ)) (found : List PlainSession) (i : ℕ) (e : ℕ × ℕ) (x : PlainSession) → i < length oldest → e ≡ get_or oldest i e → x.client ≡ e.0 → Some (session_of x) ≡ session_in done e.0 e.1
    → session_entries found ++ picked (session_in done) (drop i oldest) ≡ picked (session_in done) oldest
    → session_entries (found ++ x ∷ []) ++ picked (session_in done) (drop (i + 1) oldest) ≡ picked (session_in done) oldest
session_more done oldest found i e x lt at client session h =
    let rest = picked (session_in done) (drop (i + 1) oldest) in
    let here : picked (session_in done) (drop i oldest) ≡ (x.client, session_of x) ∷ rest =
    at_drop_more (picked (session_in done)) oldest i e lt
    ∙ ap (λ y. picked (session_in done) (y ∷ drop (i + 1) oldest)) (sym at)
    ∙ ap (λ o. with_some e.0 o rest) (sym session)
    ∙ ap (λ n. (n, session_of x) ∷ rest) (sym client) in
    ap (λ xs. xs ++ rest) (map-append _ found (x ∷ [])) ∙ append_assoc (session_entries found) ((x.client, session_of x) ∷ []) rest ∙ ap (λ xs. session_entries found ++ xs) (sym here) ∙ h
