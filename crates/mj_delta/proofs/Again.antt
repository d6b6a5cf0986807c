-- What does not speak of sessions stays when only they change, and the other way.
use Rattle.std.proofs.Common.{ℕ}
use Rattle.mj_maps.specs.Map.{Map}
use Rattle.mj_maps.specs.Orders.{nat_cmp, pair_cmp}
use Rattle.mj_tree.specs.State.{PlainState, Session}
use Rattle.mj_cells.specs.Table.{Table}
use Rattle.mj_delta.specs.Reads.{Places}
use Rattle.mj_delta.specs.TreeOf.{IsReached, HasDentries}
use Rattle.mj_delta.specs.TreeOf.IsReached.{at_root, below}

pub dentries_again : (rank : ℕ) (t : Table) (s : PlainState) (primary : Places) (sessions : Map nat_cmp ℕ) (done : Map pair_cmp ℕ) (others : Map nat_cmp Session)
    → HasDentries rank t s primary → HasDentries rank (record t { sessions = sessions; done = done }) (record s { sessions = others }) primary
dentries_again rank t s primary sessions done others m = record {
  links = m.links;
  records = m.records;
  primary_held = m.primary_held;
  primary_full = m.primary_full;
  each_primary = m.each_primary;
  remote_kind = m.remote_kind;
  remote_no_dir = m.remote_no_dir;
  counts = m.counts;
  next = m.next;
  first_next = m.first_next;
  next_fits = m.next_fits;
  above = m.above;
  beneath = m.beneath;
  own_cells = m.own_cells;
  stray_names = m.stray_names;
  heads = m.heads;
  own_heads = m.own_heads;
  opens = m.opens;
  open_files = m.open_files;
  few_entries = m.few_entries;
  few_inodes = m.few_inodes;
  few_opens = m.few_opens;
  names_fit = m.names_fit;
  records_fit = m.records_fit;
}

pub reached_again : (s : PlainState) (others : Map nat_cmp Session) (d : ℕ) → IsReached s d → IsReached (record s { sessions = others }) d
reached_again s others _ at_root = at_root
reached_again s others _ (below d n i r l h) = below d n i (reached_again s others d r) l h
