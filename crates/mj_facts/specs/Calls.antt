-- What a rank and a mount do, and when they may.
use Rattle.std.specs.Prelude.{◌≡◌, ◌⊎◌, ℕ, ◌+◌, ◌-◌, ◌*◌, ◌/◌, ◌<◌, ◌≤◌, List, [], ◌∷◌, ◌++◌, length, drop, get_or, nat_lt, nat_le, if◌then◌else◌, Option, None}
use Rattle.std.specs.Option.{option_map_or}
use Rattle.mj_store.specs.Object.{Content, Contents}
use Rattle.mj_store.specs.Causes.{In}
use Rattle.mj_store.specs.declared.act.ObjectAct.TheVariants.{Write, Truncate, Remove}
use Rattle.mj_store.specs.declared.act.ObjectOp.{ObjectOp}
use Rattle.mj_layout.specs.Striping.{period}
use Rattle.mj_layout.specs.Placing.{set_of}
use Rattle.mj_layout.specs.Cutting.{IsCut}
use Rattle.mj_layout.specs.Place.{object_of, offset_of, unit_end}
use Rattle.mj_layout.specs.Header.{header_bytes, IsHeader}
use Rattle.mj_layout.specs.declared.Header.{Header}
use Rattle.mj_event.specs.declared.Event.{Event}
use Rattle.mj_recovery.specs.Stream.{journal_object}
use Rattle.mj_recovery.specs.Orderly.{window_end}
use Rattle.mj_facts.specs.Journalled.{entry_of, size_of, Journalled, Begins, place_of, end_of, grown, Wants, IsJournalled}
use Rattle.mj_facts.specs.Headers.{HeadSent, HoldsJust, may_stand, newest, IsBounded}
use Rattle.mj_facts.specs.Ranks.{Sent, Rank, safe_of, base_of, Cutting, Mount, tail_of}

-- ---- events

abbrev pub appended : List Event → (ℕ → ℕ) → Rank → Rank
appended more want r = record r { journal = grown more want r.journal }

-- What was sent stays as it is. Behind the expire of a header that has no event yet, one follows that a journal may begin with.
pub record MayAppend (r : Rank) (more : List Event) (want : ℕ → ℕ) : Type 0 where
  pub same : (x : ℕ) → x < r.flushed → want x ≡ r.journal.want x
  pub journalled : IsJournalled (grown more want r.journal)
  pub begins : (h : Header) → In h (may_stand r.stood r.heads) → h.expire ≡ end_of r.journal → Begins more

-- the bytes that are wanted once an entry stands at the end
abbrev pub wanted_more : (ℕ → ℕ) → ℕ → List ℕ → ℕ → ℕ
wanted_more want end entry x = if nat_lt x end then want x else get_or entry (x - end) 0

-- one event more, in an entry at the end
abbrev pub with_event : Event → Journalled → Journalled
with_event e j = grown (e ∷ []) (wanted_more j.want (end_of j) (entry_of (end_of j) e)) j

-- the bytes of the journal that were not sent
pub record IsBuffer (j : Journalled) (flushed : ℕ) (buffer : List ℕ) : Type 0 where
  pub wants : Wants j.want flushed buffer
  pub ends : flushed + length buffer ≡ end_of j

-- ---- writes of the stream

abbrev pub write_op : Rank → List ℕ → ObjectOp
write_op r bytes = record {
  name = journal_object r.journal.rank (object_of r.journal.layout r.flushed);
  act = Write (offset_of r.journal.layout r.flushed) bytes;
}

abbrev pub flushed_to : ℕ → ℕ → Rank → Rank
flushed_to op to r = record r { flushed = to; sent = r.sent ++ record { op = op; from = r.flushed; to = to } ∷ [] }

-- A write goes on where the last one ended, within a stripe unit, the entries and the window, with the bytes that are wanted.
pub record MayWrite (r : Rank) (to : ℕ) (bytes : List ℕ) : Type 0 where
  pub more : r.flushed < to
  pub unit : to ≤ unit_end r.journal.layout r.flushed
  pub long : length bytes ≡ to - r.flushed
  pub wants : Wants r.journal.want r.flushed bytes
  pub entries : to ≤ end_of r.journal
  pub window : to ≤ safe_of r + 4 * period r.journal.layout

abbrev pub made_safe : ℕ → List Sent → Rank → Rank
made_safe count sent r = record r { count = count; sent = sent }

-- The write of this number is out no more. What is safe rises to the end of an entry below which nothing is out.
pub record MayMakeSafe (r : Rank) (op count : ℕ) (sent : List Sent) : Type 0 where
  pub out : (w : Sent) → In w r.sent → In w sent ⊎ (w.op ≡ op)
  pub rises : r.count ≤ count
  pub within : count ≤ length r.journal.events
  pub outstanding : (w : Sent) → In w sent → place_of r.journal count ≤ w.from
  pub covers : place_of r.journal count ≤ r.flushed

-- where the entries of these events end
abbrev pub entry_ends : ℕ → List Event → List ℕ
entry_ends at [] = []
entry_ends at (e ∷ es) = (at + size_of e) ∷ entry_ends (at + size_of e) es

-- the greatest of these ends that is not above a position, or the place before them
pub record IsLastEnd (at : ℕ) (ends : List ℕ) (p end : ℕ) : Type 0 where
  pub among : (end ≡ at) ⊎ In end ends
  pub within : end ≤ p
  pub most : (e : ℕ) → In e ends → e ≤ p → e ≤ end

-- how many of these events, in entries from a position on, end at or below another
abbrev pub ending_by : ℕ → ℕ → List Event → ℕ
ending_by p at [] = 0
ending_by p at (e ∷ es) = if nat_le (at + size_of e) p then ending_by p (at + size_of e) es + 1 else 0

-- how many events are safe where every byte below a position is
abbrev pub count_by : ℕ → Rank → ℕ
count_by p r = r.count + ending_by p (safe_of r) (drop r.count r.journal.events)

-- ---- headers

abbrev pub header_op : ℕ → Header → ObjectOp
header_op rank header = record { name = journal_object rank 0; act = Write 0 (header_bytes header) }

abbrev pub with_head : ℕ → Header → List HeadSent → List HeadSent
with_head op header heads = heads ++ record { op = op; header = header } ∷ []

-- a header does not go back behind the last one
pub record MaySendHeader (j : Journalled) (count : ℕ) (stood : Header) (heads : List HeadSent) (h : Header) : Type 0 where
  pub bounded : IsBounded j count h
  pub rises : (newest stood heads).expire ≤ h.expire

-- Of what was sent, the header of this number is known to be applied, and with it all before it.
pub record IsSettled (op : ℕ) (heads : List HeadSent) (stood : Header) (after : List HeadSent) : Type 0 where
  pub before : List HeadSent
  pub head : HeadSent
  pub parts : heads ≡ before ++ head ∷ after
  pub number : head.op ≡ op
  pub header : head.header ≡ stood

abbrev pub rank_headed : ℕ → Header → Rank → Rank
rank_headed op header r = record r { heads = with_head op header r.heads }

abbrev pub rank_settled : Header → List HeadSent → Rank → Rank
rank_settled stood after r = record r { stood = stood; heads = after }

abbrev pub mount_headed : ℕ → Header → Mount → Mount
mount_headed op header k = record k { heads = with_head op header k.heads }

abbrev pub mount_settled : Header → List HeadSent → Mount → Mount
mount_settled stood after k = record k { stood = stood; heads = after }

-- ---- removals

abbrev pub remove_op : ℕ → ℕ → ObjectOp
remove_op rank index = record { name = journal_object rank index; act = Remove }

-- the object holds nothing that is read from a header that may stand
pub record MayRemove (r : Rank) (index : ℕ) : Type 0 where
  pub no_header : 1 ≤ index
  pub below : (x : ℕ) → object_of r.journal.layout x ≡ index → x < base_of r

-- ---- truncations

abbrev pub cut_op : ℕ → ℕ → ℕ → ObjectOp
cut_op rank index len = record { name = journal_object rank index; act = Truncate len }

abbrev pub cutting : ℕ → ℕ → Mount → Mount
cutting op index k = record k { cut = index ∷ k.cut; out = k.out ++ record { op = op; index = index } ∷ [] }

-- with these still out
abbrev pub cut_done : List Cutting → Mount → Mount
cut_done out k = record k { out = out }

-- how many bytes an object has
abbrev pub held_size : Option Content → ℕ
held_size held = option_map_or (λ (o : Content). length o.bytes) held 0

-- no byte of the object is at or above the tail
pub record IsShort (k : Mount) (index : ℕ) (held : Option Content) : Type 0 where
  pub len : ℕ
  pub cut : IsCut k.journal.layout index (tail_of k) len
  pub size : held_size held ≤ len

-- such an object needs no truncation
abbrev pub passed : ℕ → Mount → Mount
passed index k = record k { cut = index ∷ k.cut }

-- an object of the sets from the tail's to the last one that a write may have reached
pub record IsNear (k : Mount) (index : ℕ) : Type 0 where
  pub from : set_of k.journal.layout (tail_of k) ≤ index / k.journal.layout.sc
  pub to : index / k.journal.layout.sc ≤ set_of k.journal.layout (window_end k.journal.layout (tail_of k))

-- ---- the start

-- A journal was formatted here: a header with all positions at one place, the format that is read, and epoch 0, and no other object.
pub record IsFormatted (rank : ℕ) (h : Header) (image : Contents) : Type 0 where
  pub header : HoldsJust (header_bytes h) (image (journal_object rank 0))
  pub sound : IsHeader h
  pub format : h.format ≡ 1
  pub trimmed : h.trimmed ≡ h.expire
  pub write : h.write ≡ h.expire
  pub epoch : h.epoch ≡ 0
  pub alone : (index : ℕ) → 1 ≤ index → image (journal_object rank index) ≡ None

-- nothing is journalled yet
abbrev pub blank_journal : ℕ → Header → Journalled
blank_journal rank h = record { rank = rank; layout = h.layout; start = h.expire; events = []; want = λ x. 0 }
