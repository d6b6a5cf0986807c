-- What a journaler is after an entry was appended within the room that was made.
use Rattle.std.proofs.Common.{◌≡◌, ℕ, List, Option, Some, None, Result, Ok, Err, refl, ap, ◌∙◌}
use Rattle.std.specs.Prelude.{IfSome, MatchResult}
use Rattle.mj_journaler.specs.Journal.{Journal, end_of}
use Rattle.mj_journaler.specs.Calls.{append_refusal, appended, reserved}
use Rattle.mj_journaler.specs.declared.AppendRefusal.{AppendRefusal}
use Rattle.mj_journaler.specs.declared.AppendRefusal.TheVariants.{Memory}
use Rattle.mj_rank.specs.Log.{log_value, with_entry}

by_refusal : (o : Option AppendRefusal) (result : Result ℕ AppendRefusal) (end : ℕ) (old new : Journal) (payload : List ℕ) → result ≡ Ok end → IfSome o (λ why. result ≡ Err why)
    → (o ≡ None → MatchResult result (λ e. (e ≡ end_of new) × (new ≡ appended payload old)) (λ why. why ≡ Memory)) → new ≡ appended payload old
by_refusal None (Ok e) end old new payload is refused taken = (taken refl).1
by_refusal None (Err why) end old new payload is refused taken = absurd cc
by_refusal (Some why) (Ok e) end old new payload is refused taken = absurd cc
by_refusal (Some why) (Err x) end old new payload is refused taken = absurd cc

pub appended_ok : (result : Result ℕ AppendRefusal) (end : ℕ) (old new : Journal) (payload : List ℕ) → result ≡ Ok end → IfSome (append_refusal old payload) (λ why. result ≡ Err why)
    → (append_refusal old payload ≡ None → MatchResult result (λ e. (e ≡ end_of new) × (new ≡ appended payload old)) (λ why. why ≡ Memory)) → new ≡ appended payload old
appended_ok result end old new payload is refused taken = by_refusal (append_refusal old payload) result end old new payload is refused taken

pub appended_value : (old made new : Journal) (room : ℕ) (payload bytes : List ℕ) → made ≡ reserved room old → new ≡ appended payload made → payload ≡ bytes → log_value new ≡ with_entry (log_value old) bytes
appended_value old made new room payload bytes a b p =
    ap log_value b ∙ (ap (λ (j : Journal). log_value (appended payload j)) a ∙ ap (λ (bs : List ℕ). with_entry (log_value old) bs) p)
