-- A rank that serves, and a mount on its way, as plain values.
use Rattle.std.specs.Prelude.{ℕ, List, length}
use Rattle.mj_store.specs.Object.{Contents}
use Rattle.mj_layout.specs.declared.Header.{Header}
use Rattle.mj_facts.specs.Journalled.{Journalled, place_of}
use Rattle.mj_facts.specs.Headers.{HeadSent}

-- a write of the stream that was sent and is not acknowledged: the positions that it covers
pub record Sent : Type 0 where
  pub op : ℕ
  pub from : ℕ
  pub to : ℕ

-- The first `count` events are safe, and bytes were sent up to `flushed`. `stood` is the last header that is known to be
-- applied.
pub record Rank : Type 0 where
  pub journal : Journalled
  pub count : ℕ
  pub flushed : ℕ
  pub sent : List Sent
  pub stood : Header
  pub heads : List HeadSent

abbrev pub safe_of : Rank → ℕ
safe_of r = place_of r.journal r.count

-- nothing below here is read from any header that may stand
abbrev pub base_of : Rank → ℕ
base_of r = r.stood.expire

-- a truncation that was sent and is not acknowledged
pub record Cutting : Type 0 where
  pub op : ℕ
  pub index : ℕ

-- All events of its journal were recovered, from what the last stop left. `cut` are the objects for which a truncation was sent,
-- and those that were found to have no byte at or above the tail.
pub record Mount : Type 0 where
  pub journal : Journalled
  pub found : Contents
  pub stood : Header
  pub heads : List HeadSent
  pub cut : List ℕ
  pub out : List Cutting

abbrev pub tail_of : Mount → ℕ
tail_of k = place_of k.journal (length k.journal.events)
