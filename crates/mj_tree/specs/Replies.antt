-- Lists of kept replies as entries of maps, and their order.
use Rattle.std.specs.Prelude.{ℕ, Bool, List, map}
use Rattle.std.specs.FinMap.Entries.{is_sorted}
use Rattle.mj_maps.specs.Orders.{nat_cmp}
use Rattle.mj_tree.specs.declared.session.KeptReply.{KeptReply}

abbrev pub kept_entries : List KeptReply → List (ℕ × ℕ)
kept_entries = map (λ (k : KeptReply). (k.tid, k.ino))

-- whether the list ascends by the requests' numbers
abbrev pub do_replies_rise : List KeptReply → Bool
do_replies_rise kept = is_sorted nat_cmp (kept_entries kept)
