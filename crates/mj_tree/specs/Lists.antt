-- Lists of records, links, opens and sessions as entries of maps, and their order.
use Rattle.std.specs.Prelude.{ℕ, Bool, List, map}
use Rattle.std.specs.FinMap.Entries.{is_sorted}
use Rattle.mj_base.specs.declared.record.InodeRecord.{InodeRecord}
use Rattle.mj_maps.specs.Orders.{nat_cmp, place_cmp, pair_cmp}
use Rattle.mj_maps.specs.Map.{from_entries}
use Rattle.mj_tree.specs.declared.change.Attributes.{Attributes}
use Rattle.mj_tree.specs.declared.plain.PlainLink.{PlainLink}
use Rattle.mj_tree.specs.declared.plain.PlainOpen.{PlainOpen}
use Rattle.mj_tree.specs.declared.session.PlainSession.{PlainSession}
use Rattle.mj_tree.specs.Replies.{kept_entries}
use Rattle.mj_tree.specs.State.{Session, attributes_of}

abbrev pub record_entries : List InodeRecord → List (ℕ × Attributes)
record_entries = map (λ (r : InodeRecord). (r.ino, attributes_of r))

abbrev pub link_entries : List PlainLink → List ((ℕ × List ℕ) × ℕ)
link_entries = map (λ (l : PlainLink). ((l.parent, l.name), l.ino))

abbrev pub open_entries : List PlainOpen → List ((ℕ × ℕ) × Unit {0})
open_entries = map (λ (o : PlainOpen). ((o.client, o.ino), tt))

abbrev pub session_of : PlainSession → Session
session_of c = record { oldest = c.oldest; kept = from_entries (kept_entries c.kept) }

abbrev pub session_entries : List PlainSession → List (ℕ × Session)
session_entries = map (λ (c : PlainSession). (c.client, session_of c))

-- whether a list ascends by its keys

abbrev pub do_records_rise : List InodeRecord → Bool
do_records_rise records = is_sorted nat_cmp (record_entries records)

abbrev pub do_links_rise : List PlainLink → Bool
do_links_rise links = is_sorted place_cmp (link_entries links)

abbrev pub do_opens_rise : List PlainOpen → Bool
do_opens_rise opens = is_sorted pair_cmp (open_entries opens)

abbrev pub do_sessions_rise : List PlainSession → Bool
do_sessions_rise sessions = is_sorted nat_cmp (session_entries sessions)
