-- What a plain tree means.
use Rattle.mj_maps.specs.Map.{from_entries}
use Rattle.mj_tree.specs.declared.plain.PlainTree.{PlainTree}
use Rattle.mj_tree.specs.State.{PlainState}
use Rattle.mj_tree.specs.Lists.{record_entries, link_entries, open_entries, session_entries}

abbrev pub state_of : PlainTree → PlainState
state_of t = record {
  next = t.next;
  records = from_entries (record_entries t.records);
  links = from_entries (link_entries t.links);
  opens = from_entries (open_entries t.opens);
  sessions = from_entries (session_entries t.sessions);
}
