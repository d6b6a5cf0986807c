-- Entries one behind the other, and piece by piece.
use Rattle.std.proofs.Common.{◌≡◌, inl, inr, ℕ, zero, suc, ◌+◌, ◌-◌, ◌<◌, ◌≤◌, Bool, true, false, List, [], ◌∷◌, ◌++◌, length, drop, Option, None, Some, Result, Ok, Err, refl, sym, ap, subst, ◌∙◌, arith, add-one, append_assoc, length-drop}
use Rattle.std.specs.Prelude.{nat_lt, if◌then◌else◌}
use Rattle.std.proofs.lemmas.Bool.{cond-false, le-ltb}
use Rattle.std.proofs.lemmas.List.{append-nil}
use Rattle.mj_base.specs.Reading.{◌>>=◌}
use Rattle.mj_base.specs.declared.damage.Damage.{Damage}
use Rattle.mj_base.specs.declared.damage.Damage.TheVariants as damage
use Rattle.mj_entry.specs.Entry.{entry_at, EntryCase, Whole, Part, BadSentinel, BadLength, BadStart}
use Rattle.mj_event.specs.declared.Event.{Event}
use Rattle.mj_event.specs.EventReading.{event_of}
use Rattle.mj_recovery.specs.declared.journal.Entries.{Entries}
use Rattle.mj_recovery.specs.declared.journal.LiveEvent.{LiveEvent}
use Rattle.mj_recovery.specs.Journal.{event_in, next_entry, entries_in, before, nothing_at}
use Rattle.mj_event.specs.Event.{IsEvent}
use Rattle.mj_replay.specs.Pieces.{entries_from, behind, MayFollow, InGrammar}
use Rattle.mj_replay.specs.Replays.{Fails}
use Rattle.mj_replay.specs.declared.refusal.JournalRefusal.{JournalRefusal}
use Rattle.mj_replay.specs.declared.refusal.JournalRefusal.TheVariants as refusal
use Rattle.mj_replay.proofs.Envelope.{whole_longer, entry_more, drop_left}

-- ---- an event's entry lies within the bytes

event_ends : (at z : ℕ) (r : Result Event ℕ) (x : LiveEvent × ℕ) → event_in at z r ≡ Ok (Some x) → z ≡ x.1
event_ends at z (Ok event) x is = ap (λ (y : LiveEvent × ℕ). y.1) (inside (record { at = at; event = event }, z) x is)
  where
    inside : (a b : LiveEvent × ℕ) → ◌≡◌ {A = Result (Option (LiveEvent × ℕ)) Damage} (Ok (Some a)) (Ok (Some b)) → a ≡ b
    inside a b e = cc
event_ends at z (Err wrong) x is = absurd cc

no_part : (b : Bool) (at : ℕ) (x : LiveEvent × ℕ) → ◌≡◌ {A = Result (Option (LiveEvent × ℕ)) Damage} (if b then Err (damage.CutEntry at) else Ok None) (Ok (Some x)) → ⊥
no_part true at x is = cc
no_part false at x is = cc

case_within : (bytes : List ℕ) (at write : ℕ) (x : LiveEvent × ℕ) (c : EntryCase) → entry_at bytes at ≡ c → next_entry at write c ≡ Ok (Some x) → (at < x.1) × (x.1 ≤ at + length bytes)
case_within bytes at write x (Whole p z) w is = subst (λ n. (at < n) × (n ≤ at + length bytes)) (event_ends at z (event_of p) x is) (whole_longer bytes at p z w)
case_within bytes at write x Part w is = absurd (no_part (nat_lt at write) at x is)
case_within bytes at write x BadSentinel w is = absurd cc
case_within bytes at write x (BadLength n) w is = absurd cc
case_within bytes at write x (BadStart n) w is = absurd cc

pub next_within : (bytes : List ℕ) (at write : ℕ) (x : LiveEvent × ℕ) → next_entry at write (entry_at bytes at) ≡ Ok (Some x) → (at < x.1) × (x.1 ≤ at + length bytes)
next_within bytes at write x is = case_within bytes at write x (entry_at bytes at) refl is

-- ---- as many turns as there are bytes are enough

by_next : ℕ → List ℕ → ℕ → ℕ → Result (Option (LiveEvent × ℕ)) Damage → Result Entries Damage
by_next n bytes at write r = r >>= λ o. elim o [
  | None ↦ Ok (nothing_at at)
  | Some e ↦ entries_in n (drop (e.1 - at) bytes) e.1 write >>= λ rest. Ok (before e.0 rest)
]

turn : (n : ℕ) (bytes : List ℕ) (at write : ℕ) (r : Result (Option (LiveEvent × ℕ)) Damage) → next_entry at write (entry_at bytes at) ≡ r → entries_in (suc n) bytes at write ≡ by_next n bytes at write r
unfolding entries_in by_next
turn n bytes at write r is = ap (by_next n bytes at write) is

step : (n : ℕ) (bytes : List ℕ) (at write : ℕ) (r : Result (Option (LiveEvent × ℕ)) Damage) → next_entry at write (entry_at bytes at) ≡ r → entries_in (n + 1) bytes at write ≡ by_next n bytes at write r
step n bytes at write r is = ap (λ m. entries_in m bytes at write) (add-one n) ∙ turn n bytes at write r is

same_next : (n m : ℕ) (bytes : List ℕ) (at write : ℕ) (r : Result (Option (LiveEvent × ℕ)) Damage)
    → ((x : LiveEvent × ℕ) → r ≡ Ok (Some x) → entries_in n (drop (x.1 - at) bytes) x.1 write ≡ entries_in m (drop (x.1 - at) bytes) x.1 write)
    → by_next n bytes at write r ≡ by_next m bytes at write r
unfolding by_next
same_next n m bytes at write (Err d) later = refl
same_next n m bytes at write (Ok None) later = refl
same_next n m bytes at write (Ok (Some x)) later = ap (λ (r : Result Entries Damage). r >>= λ rest. Ok (before x.0 rest)) (later x refl)

turns : (n m : ℕ) (bytes : List ℕ) (at write : ℕ) → length bytes < n → length bytes < m → entries_in n bytes at write ≡ entries_in m bytes at write
turns zero m bytes at write h k = absurd (omega arith)
turns (suc n) zero bytes at write h k = absurd (omega arith)
turns (suc n) (suc m) bytes at write h k =
    turn n bytes at write _ refl
    ∙ (same_next n m bytes at write (next_entry at write (entry_at bytes at)) (λ x is.
    let w = next_within bytes at write x is in
    turns n m (drop (x.1 - at) bytes) x.1 write (omega (arith, h, w.0, w.1, length-drop (x.1 - at) bytes)) (omega (arith, k, w.0, w.1, length-drop (x.1 - at) bytes)))
    ∙ sym (turn m bytes at write _ refl))

-- ---- one more entry, behind these

more : (es : List LiveEvent) (e : LiveEvent) (r : Result Entries Damage) → behind es (r >>= λ rest. Ok (before e rest)) ≡ behind (es ++ e ∷ []) r
more es e (Ok rest) = ap (λ xs. Ok (record { events = xs; tail = rest.tail })) (sym (append_assoc es (e ∷ []) rest.events))
more es e (Err d) = refl

event_step : (es : List LiveEvent) (bytes : List ℕ) (at write : ℕ) (x : LiveEvent × ℕ) → next_entry at write (entry_at bytes at) ≡ Ok (Some x)
    → behind es (entries_from bytes at write) ≡ behind (es ++ x.0 ∷ []) (entries_from (drop (x.1 - at) bytes) x.1 write)
unfolding by_next
event_step es bytes at write x is =
    let w = next_within bytes at write x is in
    ap (behind es) (step (length bytes) bytes at write _ is)
    ∙ (more es x.0 (entries_in (length bytes) (drop (x.1 - at) bytes) x.1 write)
    ∙ ap (behind (es ++ x.0 ∷ [])) (turns (length bytes) (length (drop (x.1 - at) bytes) + 1) (drop (x.1 - at) bytes) x.1 write (omega (arith, w.0, w.1, length-drop (x.1 - at) bytes)) (omega arith)))

-- these events, and the tail
abbrev pub so_far : List LiveEvent → ℕ → Entries
so_far es at = record { events = es; tail = at }

pub tail_step : (es : List LiveEvent) (bytes : List ℕ) (at write : ℕ) → next_entry at write (entry_at bytes at) ≡ Ok None → behind es (entries_from bytes at write) ≡ Ok (so_far es at)
unfolding by_next
tail_step es bytes at write is = ap (behind es) (step (length bytes) bytes at write _ is) ∙ ap (λ xs. Ok (so_far xs at)) (append-nil es)

wrong_step : (es : List LiveEvent) (bytes : List ℕ) (at write : ℕ) (d : Damage) → next_entry at write (entry_at bytes at) ≡ Err d → behind es (entries_from bytes at write) ≡ Err d
unfolding by_next
wrong_step es bytes at write d is = ap (behind es) (step (length bytes) bytes at write _ is)

-- nothing is left, at or above write
nil_part : (at : ℕ) → entry_at [] at ≡ Part
unfolding entry_at
nil_part at = refl

pub none_left : (es : List LiveEvent) (at write : ℕ) → write ≤ at → behind es (entries_from [] at write) ≡ Ok (so_far es at)
none_left es at write h = tail_step es [] at write (ap (next_entry at write) (nil_part at) ∙ cond-false (nat_lt at write) (Err (damage.CutEntry at)) (Ok None) (le-ltb at write h))

-- ---- within a piece

next_same : (keep : ℕ) (rest more : List ℕ) (at write : ℕ) → keep ≤ length rest → MayFollow keep more → next_entry at write (entry_at (rest ++ more) at) ≡ next_entry at write (entry_at rest at)
next_same keep rest more at write h (inl all) = ap (next_entry at write) (entry_more rest more at (omega (arith, h, all)))
next_same keep rest more at write h (inr none) = ap (λ m. next_entry at write (entry_at m at)) (ap (λ (m : List ℕ). rest ++ m) none ∙ append-nil rest)

pub piece_step : (keep : ℕ) (es : List LiveEvent) (rest more : List ℕ) (at write : ℕ) (x : LiveEvent × ℕ) → keep ≤ length rest → MayFollow keep more → next_entry at write (entry_at rest at) ≡ Ok (Some x)
    → behind es (entries_from (rest ++ more) at write) ≡ behind (es ++ x.0 ∷ []) (entries_from (drop (x.1 - at) rest ++ more) x.1 write)
piece_step keep es rest more at write x h f is =
    let w = next_within rest at write x is in
    event_step es (rest ++ more) at write x (next_same keep rest more at write h f ∙ is)
    ∙ ap (λ (m : List ℕ). behind (es ++ x.0 ∷ []) (entries_from m x.1 write)) (drop_left (x.1 - at) rest more (omega (arith, w.0, w.1)))

pub piece_tail : (keep : ℕ) (es : List LiveEvent) (rest more : List ℕ) (at write : ℕ) → keep ≤ length rest → MayFollow keep more → next_entry at write (entry_at rest at) ≡ Ok None
    → behind es (entries_from (rest ++ more) at write) ≡ Ok (so_far es at)
piece_tail keep es rest more at write h f is = tail_step es (rest ++ more) at write (next_same keep rest more at write h f ∙ is)

pub piece_wrong : (why : JournalRefusal) (keep : ℕ) (es : List LiveEvent) (rest more : List ℕ) (at write : ℕ) (all : Result Entries Damage) → all ≡ behind es (entries_from (rest ++ more) at write) → keep ≤ length rest → MayFollow keep more
    → Fails why (next_entry at write (entry_at rest at)) → Fails why all
piece_wrong (refusal.Damage d) keep es rest more at write all e h f is = e ∙ wrong_step es (rest ++ more) at write d (next_same keep rest more at write h f ∙ is)
piece_wrong (refusal.Store fault) keep es rest more at write all e h f is = tt
piece_wrong refusal.Memory keep es rest more at write all e h f is = tt

-- ---- the grammar

-- one event more in the grammar
pub grammar_more : (es : List LiveEvent) (e : LiveEvent) → InGrammar es → IsEvent e.event → InGrammar (es ++ e ∷ [])
grammar_more [] e all is = (is, tt)
grammar_more (x ∷ es) e all is = (all.0, grammar_more es e all.1 is)
