-- How long a chronicle may become.
use Rattle.std.specs.Prelude.{ℕ, ◌+◌, ◌≤◌, ◌&&◌, Bool, nat_lt, nat_le, List, length}
use Rattle.mj_tree.specs.declared.request.ClientRequest.{ClientRequest}
use Rattle.mj_tree.specs.declared.request.Reply.{Reply}
use Rattle.mj_machine.specs.declared.kept.ChronicleEntry.{ChronicleEntry}
use Rattle.mj_chronicle.specs.Weight.{weight, total_weight}

-- at most 2^20 entries, which weigh at most 2^30
pub record IsWithinLimits (es : List ChronicleEntry) : Type 0 where
  pub few : length es ≤ 1048576
  pub light : total_weight es ≤ 1073741824

-- one more request with this reply keeps within that
abbrev pub has_room : List ChronicleEntry → ClientRequest → Reply → Bool
has_room es r x = nat_lt (length es) 1048576 && nat_le (total_weight es + weight r x) 1073741824
