-- The headers that may stand in a journal's first object.
use Rattle.std.specs.Prelude.{◌≡◌, ◌⊎◌, ℕ, ◌≤◌, List, [], ◌∷◌, map, drop, Option, Some, option_map}
use Rattle.mj_store.specs.Object.{Content}
use Rattle.mj_store.specs.State.{Pending}
use Rattle.mj_store.specs.Causes.{In}
use Rattle.mj_store.specs.Along.{HasOp}
use Rattle.mj_layout.specs.Header.{header_bytes, IsHeader}
use Rattle.mj_layout.specs.declared.Header.{Header}
use Rattle.mj_facts.specs.Journalled.{Journalled, Begins, place_of}

-- a header that was sent and is not acknowledged
pub record HeadSent : Type 0 where
  pub op : ℕ
  pub header : Header

-- the last one that is known to be applied, and those that were sent after it, in order
abbrev pub may_stand : Header → List HeadSent → List Header
may_stand stood heads = stood ∷ map (λ (h : HeadSent). h.header) heads

-- the last of them
abbrev pub newest : Header → List HeadSent → Header
newest stood [] = stood
newest stood (h ∷ hs) = newest h.header hs

abbrev pub ArePending : List HeadSent → List Pending → Type 0
ArePending [] rest = Unit {0}
ArePending (h ∷ hs) rest = HasOp h.op rest × ArePending hs rest

-- one of them stands, and those after it are pending
abbrev pub Stands : Header → List HeadSent → List Pending → Header → Type 0
Stands stood [] rest header = header ≡ stood
Stands stood (h ∷ hs) rest header = ((header ≡ stood) × ArePending (h ∷ hs) rest) ⊎ Stands h.header hs rest header

-- an object holds just these bytes, beside whatever keys
abbrev pub HoldsJust : List ℕ → Option Content → Type 0
HoldsJust bytes held = option_map (λ (o : Content). o.bytes) held ≡ Some bytes

-- the header's object at a moment
pub record HeaderStands (stood : Header) (heads : List HeadSent) (held : Option Content) (rest : List Pending) : Type 0 where
  pub header : Header
  pub is : HoldsJust (header_bytes header) held
  pub stands : Stands stood heads rest header

-- ---- what they may say

-- A header by which a journal is read from the entry of one of its events on, where the first `count` of them end at or
-- above its write position. What is live then begins as a journal has to.
pub record IsBounded (j : Journalled) (count : ℕ) (h : Header) : Type 0 where
  pub sound : IsHeader h
  pub layout : h.layout ≡ j.layout
  pub format : h.format ≡ 1
  pub first : ℕ
  pub starts : h.expire ≡ place_of j first
  pub live : first ≤ count
  pub begins : Begins (drop first j.events)
  pub write : h.write ≤ place_of j count

-- no later one has a lower expire
abbrev pub Climbs : Header → List HeadSent → Type 0
Climbs stood [] = Unit {0}
Climbs stood (h ∷ hs) = (stood.expire ≤ h.header.expire) × Climbs h.header hs

pub record HeadersBounded (j : Journalled) (count : ℕ) (stood : Header) (heads : List HeadSent) : Type 0 where
  pub each : (h : Header) → In h (may_stand stood heads) → IsBounded j count h
  pub climbs : Climbs stood heads
