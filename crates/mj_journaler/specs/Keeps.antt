-- What each journaler keeps.
use Rattle.std.specs.Prelude.{◌≡◌, ◌⊎◌, ℕ, ◌+◌, ◌*◌, ◌/◌, ◌^◌, ◌<◌, ◌≤◌, Option, None, Some, List}
use Rattle.mj_layout.specs.Striping.{IsStriping, period}
use Rattle.mj_layout.specs.declared.Header.{Header}
use Rattle.mj_store.specs.Causes.{In}
use Rattle.mj_journaler.specs.Journal.{Journal, layout_of, end_of, unsafe_of, window_of, flush_end}
use Rattle.mj_journaler.specs.Outstanding.{Rises, Follow, final}
use Rattle.mj_journaler.specs.declared.sent.Sent.{Sent}
use Rattle.mj_journaler.specs.declared.sent.Offer.{Offer}
use Rattle.mj_journaler.specs.declared.sent.Offer.TheVariants.{Flush, Head, Removal}

-- a header that goes on from the last one
pub record Continues (j : Journal) (h : Header) : Type 0 where
  pub layout : h.layout ≡ layout_of j
  pub format : h.format ≡ j.header.format
  pub epoch : h.epoch ≡ j.header.epoch
  pub expire : h.expire ≤ j.safe

-- what is given may still be sent
abbrev pub MaySend : Journal → Option Offer → Type 0
MaySend j None = Unit {0}
MaySend j (Some (Flush to)) = (j.flushed < to) × (to ≤ flush_end j)
MaySend j (Some (Head header)) = Continues j header
MaySend j (Some (Removal index)) = (index ≡ j.removing) × ((index / (layout_of j).sc + 1) * period (layout_of j) ≤ 2 ^ 62)

pub record IsJournal (j : Journal) : Type 0 where
  pub layout : IsStriping (layout_of j)
  pub format : j.header.format ≤ 1
  pub epoch : j.header.epoch < 2 ^ 64
  -- the first set holds the header alone
  pub first : period (layout_of j) ≤ j.trimmed
  pub trimmed : j.trimmed ≤ j.safe
  pub live : j.live ≤ j.safe
  pub window : j.flushed ≤ window_of j
  pub few : unsafe_of j ≤ 8388608
  pub below : end_of j ≤ 2 ^ 62
  -- entries follow one another from the safe position to the end
  pub rising : Rises j.safe j.ends
  pub whole : final j.safe j.ends ≡ end_of j
  -- a byte that is not acknowledged is above the safe position
  pub sent : Follow j.safe j.sent j.flushed
  pub heads : (h : Sent) → In h j.heads → h.to ≤ j.safe
  pub removals : Follow 0 j.removals j.removing
  pub removing : j.removing / (layout_of j).sc * period (layout_of j) ≤ 2 ^ 63
  pub offer : MaySend j j.offer

-- the greatest of these ends that is not above a position, or the one before them
pub record IsLast (before : ℕ) (ends : List ℕ) (at end : ℕ) : Type 0 where
  pub among : (end ≡ before) ⊎ In end ends
  pub within : end ≤ at
  pub most : (e : ℕ) → In e ends → e ≤ at → e ≤ end

-- Below a position nothing of the stream is out but the operation of this number, and it is not past what was sent.
pub record IsDone (j : Journal) (op at : ℕ) : Type 0 where
  pub above : j.safe ≤ at
  pub within : at ≤ j.flushed
  pub below : (w : Sent) → In w j.sent → (at ≤ w.from) ⊎ (w.op ≡ op)
