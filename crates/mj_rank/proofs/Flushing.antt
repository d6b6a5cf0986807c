-- The write that a rank's journaler gives, and what a flush says of it.
use Rattle.std.proofs.Common.{◌≡◌, ℕ, Option, Some, None, refl, sym, ap, subst, ◌∙◌}
use Rattle.std.specs.Prelude.{◌==◌, ◌||◌, length, option_map}
use Rattle.std.proofs.lemmas.Bool.{cond_both}
use Rattle.mj_store.specs.Object.{HasShortKeys}
use Rattle.mj_store.specs.State.{StoreState}
use Rattle.mj_store.specs.Moves.{Submits}
use Rattle.mj_store.specs.declared.act.ObjectOp.{ObjectOp}
use Rattle.mj_journaler.specs.Journal.{Journal, window_of, flush_end}
use Rattle.mj_journaler.specs.Keeps.{MaySend}
use Rattle.mj_journaler.specs.Calls.{flush_of, offer_op, offered, taken, sent_on}
use Rattle.mj_journaler.specs.declared.sent.Offer.{Offer}
use Rattle.mj_journaler.specs.declared.sent.Offer.TheVariants.{Flush}
use Rattle.mj_texts.specs.declared.steps.Span.{Span}
use Rattle.mj_rank.specs.declared.rank.Rank.{Rank}
use Rattle.mj_rank.specs.Log.{log_value, span_to}
use Rattle.mj_rank.specs.Request.{value_of}
use Rattle.mj_rank.specs.Sending.{with_log, Sends, Flushes}

-- ---- what is given

pub record Given (j : Journal) (w : ObjectOp) : Type 0 where
  pub to : ℕ
  pub offer : flush_of j ≡ Some (Flush to)
  pub op : w ≡ offer_op j (Flush to)
  pub may : MaySend j (Some (Flush to))

same_op : (a b : ObjectOp) → Some a ≡ Some b → a ≡ b
same_op a b e = cc

pub given : (j : Journal) (w : ObjectOp) → Some w ≡ option_map (offer_op j) (flush_of j) → MaySend j (flush_of j) → Given j w
given j w is may = cond_both ((length j.buffer == 0) || (j.flushed == window_of j)) None (Some (Flush (flush_end j)))
    (λ (o : Option Offer). flush_of j ≡ o → Some w ≡ option_map (offer_op j) o → MaySend j o → Given j w)
    (λ b e given may. absurd cc)
    (λ b e given may. record { to = flush_end j; offer = e; op = same_op w (offer_op j (Flush (flush_end j))) given; may = may })
    refl is may

pub given_short : (j : Journal) (w : ObjectOp) → Given j w → HasShortKeys w.act
given_short j w g = subst (λ (x : ObjectOp). HasShortKeys x.act) (sym g.op) tt

pub none_given : (j : Journal) → None ≡ option_map (offer_op j) (flush_of j) → flush_of j ≡ None
none_given j is = cond_both ((length j.buffer == 0) || (j.flushed == window_of j)) None (Some (Flush (flush_end j)))
    (λ (o : Option Offer). None ≡ option_map (offer_op j) o → o ≡ None) (λ b e. refl) (λ b e. absurd cc) is

-- it is there
pub is_given : (j k : Journal) (w : ObjectOp) → k ≡ offered (flush_of j) j → (g : Given j w) → k.offer ≡ Some (Flush g.to)
is_given j k w e g = ap (λ (x : Journal). x.offer) e ∙ g.offer

-- ---- what it leaves

pub sent_value : (op to : ℕ) (j k : Journal) → k ≡ offered (flush_of j) j → flush_of j ≡ Some (Flush to) → log_value (sent_on op k.offer k) ≡ taken op (Flush to) (log_value j)
sent_value op to j k e offer = ap (λ (x : Journal). log_value (sent_on op x.offer x)) e ∙ ap (λ (o : Option Offer). log_value (sent_on op o (offered o j))) offer

pub sent_flushed : (op to : ℕ) (j k : Journal) → k ≡ offered (flush_of j) j → flush_of j ≡ Some (Flush to) → (sent_on op k.offer k).flushed ≡ to
sent_flushed op to j k e offer = ap (λ (x : Journal). (sent_on op x.offer x).flushed) e ∙ ap (λ (o : Option Offer). (sent_on op o (offered o j)).flushed) offer

module _ {S : Type 0} (state : S → Option StoreState) (old new : Rank S) where
  pub flushes_none : flush_of old.log ≡ None → value_of new ≡ value_of old → new.store ≡ old.store → Flushes state (record { from = old.log.flushed; to = old.log.flushed }) old new
  flushes_none none value store =
      subst (λ (o : Option Offer). (record { from = old.log.flushed; to = old.log.flushed } ≡ span_to old.log.flushed o) × Sends state o old new) (sym none) (refl, (value, store))

  pub flushes_some : (op to : ℕ) (span : Span) (w : ObjectOp) → flush_of old.log ≡ Some (Flush to) → span ≡ record { from = old.log.flushed; to = to } → w ≡ offer_op old.log (Flush to)
      → value_of new ≡ with_log (value_of old) (taken op (Flush to) (log_value old.log)) → Submits w op (state old.store) (state new.store) → Flushes state span old new
  flushes_some op to span w offer is given value submits =
      subst (λ (o : Option Offer). (span ≡ span_to old.log.flushed o) × Sends state o old new) (sym offer)
      (is, (op, value, subst (λ (x : ObjectOp). Submits x op (state old.store) (state new.store)) given submits))
