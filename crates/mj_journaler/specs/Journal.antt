-- A journaler as its callers see it.
use Rattle.std.specs.Prelude.{◌≡◌, ◌⊎◌, ℕ, ◌+◌, ◌-◌, ◌*◌, ◌/◌, ◌<◌, min, nat_lt, Option, List, length, if◌then◌else◌}
use Rattle.mj_layout.specs.Striping.{Striping, period}
use Rattle.mj_layout.specs.Place.{unit_end}
use Rattle.mj_layout.specs.declared.Header.{Header}
use Rattle.mj_store.specs.Causes.{In}
use Rattle.mj_journaler.specs.Outstanding.{lowest}
use Rattle.mj_journaler.specs.declared.sent.Sent.{Sent}
use Rattle.mj_journaler.specs.declared.sent.Offer.{Offer}

pub record Journal : Type 0 where
  pub rank : ℕ
  -- where the mount began, and the trimmed position that it found
  pub tail : ℕ
  pub trimmed : ℕ
  -- the last header that was sent, and the expire of the last one that was acknowledged
  pub header : Header
  pub live : ℕ
  -- the end of the last entry of which every byte and every earlier one is acknowledged
  pub safe : ℕ
  -- the buffer begins here
  pub flushed : ℕ
  pub buffer : List ℕ
  -- the ends of the entries above the safe position, in order
  pub ends : List ℕ
  -- the writes of the stream, the headers and the removals that were sent and are not acknowledged
  pub sent : List Sent
  pub heads : List Sent
  pub removals : List Sent
  -- the least object whose removal was not sent
  pub removing : ℕ
  -- what was given last, and is not yet sent
  pub offer : Option Offer
  -- as many bytes of entries are appended without taking memory
  pub room : ℕ

abbrev pub layout_of : Journal → Striping
layout_of j = j.header.layout

abbrev pub end_of : Journal → ℕ
end_of j = j.flushed + length j.buffer

abbrev pub unsafe_of : Journal → ℕ
unsafe_of j = end_of j - j.safe

-- no write reaches past here
abbrev pub window_of : Journal → ℕ
window_of j = j.safe + 4 * period (layout_of j)

-- the next write ends where the buffer, the stripe unit or the window does first
abbrev pub flush_end : Journal → ℕ
flush_end j = min (min (end_of j) (unit_end (layout_of j) j.flushed)) (window_of j)

-- ---- removed sets

-- the first set that lies wholly at or above a position
abbrev pub first_set : Striping → ℕ → ℕ
first_set s at = (at + period s - 1) / period s

-- the set of the least object that is not known to be removed
abbrev pub standing_set : Journal → ℕ
standing_set j = lowest j.removals j.removing / (layout_of j).sc

-- the end of the run of sets, from the mount's trimmed position on, of which every removal is acknowledged
abbrev pub trimmed_of : Journal → ℕ
trimmed_of j = if nat_lt (first_set (layout_of j) j.trimmed) (standing_set j) then standing_set j * period (layout_of j) else j.trimmed

-- ---- numbers of operations

-- an operation of this number is out
abbrev pub HasNumber : ℕ → Journal → Type 0
HasNumber op j = ((w : Sent) × In w j.sent × (w.op ≡ op)) ⊎ ((h : Sent) × In h j.heads × (h.op ≡ op)) ⊎ ((r : Sent) × In r j.removals × (r.op ≡ op))

-- a number that is above each that is out
pub record IsNew (op : ℕ) (j : Journal) : Type 0 where
  pub sent : (w : Sent) → In w j.sent → w.op < op
  pub heads : (h : Sent) → In h j.heads → h.op < op
  pub removals : (r : Sent) → In r j.removals → r.op < op
