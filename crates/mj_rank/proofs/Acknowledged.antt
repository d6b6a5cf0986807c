-- Up to where a journal's bytes are acknowledged, and the last entry that ends there.
use Rattle.std.proofs.Common.{◌≡◌, ◌⊎◌, inl, inr, ℕ, suc, ◌+◌, ◌≤◌, true, false, List, [], ◌∷◌, take, drop, refl, sym, ap, ◌∙◌, arith}
use Rattle.std.specs.Prelude.{◌==◌, nat_le, if◌then◌else◌}
use Rattle.std.proofs.lemmas.Bool.{cond_both, eqb-true}
use Rattle.mj_store.specs.Causes.{In}
use Rattle.mj_event.specs.declared.Event.{Event}
use Rattle.mj_facts.specs.Journalled.{size_of, ends}
use Rattle.mj_facts.specs.Ranks.{Sent}
use Rattle.mj_facts.specs.Calls.{entry_ends, ending_by}
use Rattle.mj_journaler.specs.declared.sent.Sent as journaler
use Rattle.mj_journaler.specs.Outstanding.{lowest, without, last_end, ends_above}
use Rattle.mj_journaler.proofs.Out.{lowest_end, lowest_most, without_less}
use Rattle.mj_rank.specs.Live.{as_write, writes_of}

-- ---- the ends of entries

plus_one : (n : ℕ) → suc n ≡ n + 1
plus_one n = omega arith

-- the last end at or below a position is that of the events which end there
pub last_end_is : (p at : ℕ) (es : List Event) → last_end at (entry_ends at es) p ≡ ends at (take (ending_by p at es) es)
last_end_is p at [] = refl
last_end_is p at (e ∷ es) =
    elim (nat_le (at + size_of e) p) as (λ b. (if b then last_end (at + size_of e) (entry_ends (at + size_of e) es) p else at) ≡ ends at (take (if b then ending_by p (at + size_of e) es + 1 else 0) (e ∷ es))) [
      | true ↦ last_end_is p (at + size_of e) es ∙ ap (λ n. ends at (take n (e ∷ es))) (plus_one (ending_by p (at + size_of e) es))
      | false ↦ refl
    ]

-- those above it are the ends of the other events
pub ends_above_is : (p at : ℕ) (es : List Event) → ends_above (entry_ends at es) p ≡ entry_ends (ends at (take (ending_by p at es) es)) (drop (ending_by p at es) es)
ends_above_is p at [] = refl
ends_above_is p at (e ∷ es) =
    elim (nat_le (at + size_of e) p) as (λ b. (if b then ends_above (entry_ends (at + size_of e) es) p else (at + size_of e) ∷ entry_ends (at + size_of e) es)
    ≡ entry_ends (ends at (take (if b then ending_by p (at + size_of e) es + 1 else 0) (e ∷ es))) (drop (if b then ending_by p (at + size_of e) es + 1 else 0) (e ∷ es))) [
      | true ↦ ends_above_is p (at + size_of e) es ∙ ap (λ n. entry_ends (ends at (take n (e ∷ es))) (drop n (e ∷ es))) (plus_one (ending_by p (at + size_of e) es))
      | false ↦ refl
    ]

-- ---- the writes that are out

pub in_writes : (ws : List journaler.Sent) (w : journaler.Sent) → In w ws → In (as_write w) (writes_of ws)
in_writes [] w i = absurd i
in_writes (x ∷ ws) w (inl same) = inl (ap as_write same)
in_writes (x ∷ ws) w (inr i) = inr (in_writes ws w i)

-- what was sent is left or has this number
pub sent_or_left : (op : ℕ) (ws : List journaler.Sent) (w : Sent) → In w (writes_of ws) → In w (writes_of (without op ws)) ⊎ (w.op ≡ op)
sent_or_left op [] w i = absurd i
sent_or_left op (x ∷ ws) w (inl same) = cond_both (x.op == op) (without op ws) (x ∷ without op ws) (λ xs. In w (writes_of xs) ⊎ (w.op ≡ op))
    (λ b. inr (ap (λ (y : Sent). y.op) (sym same) ∙ eqb-true x.op op b)) (λ b. inl (inl same))
sent_or_left op (x ∷ ws) w (inr i) = cond_both (x.op == op) (without op ws) (x ∷ without op ws) (λ xs. In w (writes_of xs) ⊎ (w.op ≡ op))
    (λ b. sent_or_left op ws w i) (λ b. elim (sent_or_left op ws w i) [ inl left ↦ inl (inr left) | inr this ↦ inr this ])

lowest_below : (ws : List journaler.Sent) (end : ℕ) (w : Sent) → In w (writes_of ws) → lowest ws end ≤ w.from
lowest_below [] end w i = absurd i
lowest_below (x ∷ ws) end w (inl same) = omega (arith, ap (λ (y : Sent). y.from) same)
lowest_below (x ∷ ws) end w (inr i) = omega (arith, lowest_below ws end w i)

-- A position up to which all is acknowledged.
pub record Acknowledged (limit flushed : ℕ) (sent : List Sent) (p : ℕ) : Type 0 where
  pub above : limit ≤ p
  pub within : p ≤ flushed
  pub below : (w : Sent) → In w sent → p ≤ w.from

pub is_acknowledged : (op limit flushed : ℕ) (ws : List journaler.Sent) → limit ≤ flushed → ((w : Sent) → In w (writes_of ws) → limit ≤ w.from)
    → Acknowledged limit flushed (writes_of (without op ws)) (lowest (without op ws) flushed)
is_acknowledged op limit flushed ws h each = record {
  above = lowest_most (without op ws) flushed limit h (λ w i. each (as_write w) (in_writes ws w (without_less op ws w i)));
  within = lowest_end (without op ws) flushed;
  below = lowest_below (without op ws) flushed;
}
