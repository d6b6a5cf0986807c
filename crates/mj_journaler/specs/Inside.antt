-- A journaler's fields as the value that its callers see.
use Rattle.std.specs.Prelude.{◌≡◌, ℕ, ◌+◌, ◌-◌, ◌*◌, ◌≤◌, ◌<◌, Option, None, Some, length}
use Rattle.std.specs.VecDeque.{deque_len, deque_capacity}
use Rattle.mj_journaler.specs.Journal.{Journal}
use Rattle.mj_journaler.specs.Keeps.{IsJournal}
use Rattle.mj_journaler.specs.declared.sent.Offer.{Offer}
use Rattle.mj_journaler.specs.declared.sent.Offer.TheVariants.{Flush, Head, Removal}
use Rattle.mj_journaler.specs.declared.journaler.Journaler.TheInside.{Inside}

abbrev pub journal_in : Inside → Journal
journal_in a = record {
  rank = a.rank;
  tail = a.tail;
  trimmed = a.trimmed;
  header = a.header;
  live = a.live;
  safe = a.safe;
  flushed = a.flushed;
  buffer = a.buffer.bytes;
  ends = a.ends.items;
  sent = a.sent.sent;
  heads = a.heads.sent;
  removals = a.removals.sent;
  removing = a.removing;
  offer = a.offer;
  room = a.room;
}

-- there is room for what was given
abbrev pub HasRoom : Option Offer → ℕ → ℕ → ℕ → Type 0
HasRoom None sent heads removals = Unit {0}
HasRoom (Some (Flush to)) sent heads removals = 0 < sent
HasRoom (Some (Head header)) sent heads removals = 0 < heads
HasRoom (Some (Removal index)) sent heads removals = 0 < removals

pub record IsSound (a : Inside) : Type 0 where
  pub journal : IsJournal (journal_in a)
  pub end : a.end ≡ a.flushed + length a.buffer.bytes
  -- an entry has at least 21 bytes
  pub bytes : a.room ≤ a.buffer.room
  pub entries : a.room ≤ 21 * (deque_capacity a.ends - deque_len a.ends)
  pub given : HasRoom a.offer a.sent.room a.heads.room a.removals.room
