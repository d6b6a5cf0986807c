-- The entries of an event are refused alike, and end alike, over a journal, its value, and it with room for more.
use Rattle.std.proofs.Common.{◌≡◌, ℕ, List, Option, Some, None, refl}
use Rattle.mj_journaler.specs.Journal.{Journal}
use Rattle.mj_journaler.specs.Calls.{reserved}
use Rattle.mj_rank.specs.Log.{log_value}
use Rattle.mj_rank.specs.Segment.{event_refusal, event_end}

pub end_value : (map : Option (List ℕ)) (j : Journal) (p : List ℕ) → event_end map (log_value j) p ≡ event_end map j p
end_value None j p = refl
end_value (Some m) j p = refl

pub refusal_reserved : (map : Option (List ℕ)) (n : ℕ) (j : Journal) (p : List ℕ) → event_refusal map (reserved n j) p ≡ event_refusal map j p
refusal_reserved None n j p = refl
refusal_reserved (Some m) n j p = refl
