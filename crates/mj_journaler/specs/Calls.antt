-- What a journaler's calls answer and leave.
use Rattle.std.specs.Prelude.{◌≡◌, ◌≤◌, ℕ, ◌+◌, ◌-◌, ◌*◌, ◌/◌, ◌^◌, ◌==◌, ◌&&◌, ◌||◌, max, nat_le, nat_lt, Option, Some, None, option_map, List, [], ◌∷◌, ◌++◌, length, take, drop, if◌then◌else◌}
use Rattle.mj_base.specs.declared.object.ObjectName.{ObjectName}
use Rattle.mj_base.specs.declared.object.ObjectName.TheVariants.{File}
use Rattle.mj_base.specs.ObjectName.{journal_ino}
use Rattle.mj_store.specs.declared.act.ObjectAct.TheVariants.{Write, Remove}
use Rattle.mj_store.specs.declared.act.ObjectOp.{ObjectOp}
use Rattle.mj_layout.specs.Striping.{period}
use Rattle.mj_layout.specs.Place.{object_of, offset_of}
use Rattle.mj_layout.specs.Header.{header_bytes}
use Rattle.mj_layout.specs.declared.Header.{Header}
use Rattle.mj_entry.specs.Entry.{entry_bytes, entry_length}
use Rattle.mj_journaler.specs.Journal.{Journal, layout_of, end_of, unsafe_of, window_of, flush_end, first_set, trimmed_of}
use Rattle.mj_journaler.specs.Outstanding.{lowest, found, without, oldest, last_end, ends_above}
use Rattle.mj_journaler.specs.declared.sent.Sent.{Sent}
use Rattle.mj_journaler.specs.declared.sent.Offer.{Offer}
use Rattle.mj_journaler.specs.declared.sent.Offer.TheVariants.{Flush, Head, Removal}
use Rattle.mj_journaler.specs.declared.AppendRefusal.{AppendRefusal}
use Rattle.mj_journaler.specs.declared.AppendRefusal.TheVariants.{Full, Spent}

abbrev pub journal_object : ℕ → ℕ → ObjectName
journal_object rank index = File (journal_ino rank) index

-- ---- the start

abbrev pub begun : Header → ℕ → ℕ → Journal
begun header rank tail = record {
  rank = rank;
  tail = tail;
  trimmed = header.trimmed;
  header = header;
  live = header.expire;
  safe = tail;
  flushed = tail;
  buffer = [];
  ends = [];
  sent = [];
  heads = [];
  removals = [];
  removing = first_set header.layout header.trimmed * header.layout.sc;
  offer = None;
  room = 0;
}

-- ---- appending

-- the unsafe bytes may not pass 8 MiB, and no entry ends above 2^62 - 1
abbrev pub append_refusal : Journal → List ℕ → Option AppendRefusal
append_refusal j payload =
    if nat_lt 8388608 (unsafe_of j + entry_length payload) then Some (Full (unsafe_of j))
    else if nat_lt (2 ^ 62 - 1) (end_of j + entry_length payload) then Some (Spent (end_of j))
    else None

-- The same of two entries, one behind the other. The first that would end above is told by where it would begin.
abbrev pub append_both_refusal : Journal → List ℕ → List ℕ → Option AppendRefusal
append_both_refusal j first second =
    let between = end_of j + entry_length first in
    if nat_lt 8388608 (unsafe_of j + entry_length first + entry_length second) then Some (Full (unsafe_of j))
    else if nat_lt (2 ^ 62 - 1) between then Some (Spent (end_of j))
    else if nat_lt (2 ^ 62 - 1) (between + entry_length second) then Some (Spent between)
    else None

abbrev pub appended : List ℕ → Journal → Journal
appended payload j = record j {
  buffer = j.buffer ++ entry_bytes (end_of j) payload;
  ends = j.ends ++ (end_of j + entry_length payload) ∷ [];
  room = j.room - entry_length payload;
}

abbrev pub reserved : ℕ → Journal → Journal
reserved bytes j = record j { room = max j.room bytes }

-- Each of two entries is appended, one behind the other, and what is reserved for both is room for each.
pub record TakesBoth (p q : List ℕ) (j : Journal) : Type 0 where
  pub first : append_refusal j p ≡ None
  pub second : append_refusal (appended p j) q ≡ None
  pub first_room : entry_length p ≤ (reserved (entry_length p + entry_length q) j).room
  pub second_room : entry_length q ≤ (appended p (reserved (entry_length p + entry_length q) j)).room

-- ---- writes of the stream

abbrev pub flush_of : Journal → Option Offer
flush_of j = if (length j.buffer == 0) || (j.flushed == window_of j) then None else Some (Flush (flush_end j))

-- ---- headers

abbrev pub header_now : Journal → ℕ → Header
header_now j expire = record j.header { trimmed = trimmed_of j; expire = expire; write = j.safe }

abbrev pub head_of : Journal → ℕ → Option Offer
head_of j expire = if (expire == j.header.expire) && (j.safe == j.header.write) then None else Some (Head (header_now j expire))

-- ---- removals

-- the least object not yet sent, where its set lies wholly below the expire that is acknowledged
abbrev pub removal_of : Journal → Option Offer
removal_of j =
    let s = layout_of j in
    if nat_le ((j.removing / s.sc + 1) * period s) j.live then Some (Removal j.removing) else None

-- ---- what was given, and is sent

-- the operation of what is given
abbrev pub offer_op : Journal → Offer → ObjectOp
offer_op j (Flush to) = record {
  name = journal_object j.rank (object_of (layout_of j) j.flushed);
  act = Write (offset_of (layout_of j) j.flushed) (take (to - j.flushed) j.buffer);
}
offer_op j (Head header) = record { name = journal_object j.rank 0; act = Write 0 (header_bytes header) }
offer_op j (Removal index) = record { name = journal_object j.rank index; act = Remove }

abbrev pub offered : Option Offer → Journal → Journal
offered offer j = record j { offer = offer }

abbrev pub taken : ℕ → Offer → Journal → Journal
taken op (Flush to) j = record j {
  flushed = to;
  buffer = drop (to - j.flushed) j.buffer;
  sent = j.sent ++ record { op = op; from = j.flushed; to = to } ∷ [];
  offer = None;
}
taken op (Head header) j = record j { header = header; heads = j.heads ++ record { op = op; from = header.trimmed; to = header.expire } ∷ []; offer = None }
taken op (Removal index) j = record j { removing = index + 1; removals = j.removals ++ record { op = op; from = index; to = index + 1 } ∷ []; offer = None }

-- what was given is sent with this number
abbrev pub sent_on : ℕ → Option Offer → Journal → Journal
sent_on op None j = j
sent_on op (Some offer) j = taken op offer j

-- ---- acknowledgements

-- every byte below here is acknowledged once this operation is
abbrev pub acked_to : Journal → ℕ → ℕ
acked_to j op = lowest (without op j.sent) j.flushed

-- the expire of a header
abbrev pub expire_of : Option Sent → ℕ → ℕ
expire_of None live = live
expire_of (Some h) live = h.to

abbrev pub acknowledged : ℕ → Journal → Journal
acknowledged op j = record j {
  safe = last_end j.safe j.ends (acked_to j op);
  ends = ends_above j.ends (acked_to j op);
  sent = without op j.sent;
  heads = without op j.heads;
  live = expire_of (found op j.heads) j.live;
  removals = without op j.removals;
}

-- ---- what is out

-- of two the one with the lesser number
abbrev pub earlier : Option (ℕ × ObjectName) → Option (ℕ × ObjectName) → Option (ℕ × ObjectName)
earlier None b = b
earlier (Some a) None = Some a
earlier (Some a) (Some b) = if nat_le a.0 b.0 then Some a else Some b

-- the numbers and objects of a write, a header and a removal
abbrev pub write_out : Journal → Sent → ℕ × ObjectName
write_out j w = (w.op, journal_object j.rank (object_of (layout_of j) w.from))

abbrev pub head_out : Journal → Sent → ℕ × ObjectName
head_out j h = (h.op, journal_object j.rank 0)

abbrev pub removal_out : Journal → Sent → ℕ × ObjectName
removal_out j r = (r.op, journal_object j.rank r.from)

-- the operation that is out with the least number, and its object
abbrev pub oldest_sent : Journal → Option (ℕ × ObjectName)
oldest_sent j = earlier (option_map (write_out j) (oldest j.sent)) (earlier (option_map (head_out j) (oldest j.heads)) (option_map (removal_out j) (oldest j.removals)))
