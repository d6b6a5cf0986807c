use Rattle.std.proofs.Common.{◌≡◌, ◌+◌, ◌-◌, ◌≤◌, List, ℕ, ◌++◌, drop, length}
use Rattle.mj_replay.specs.Pieces.{behind, entries_from, MayFollow, InGrammar}
use Rattle.mj_replay.proofs.piece.read_piece.Given as goal

abbrev pub invariant-entries : goal.invariant-entries
invariant-entries l = record {
  found : (more : List ℕ) → MayFollow l.keep more → behind l.fn.events.items (entries_from (l.fn.bytes ++ more) l.at l.write) ≡ behind l.events.items (entries_from (l.rest ++ more) l.here l.write);
  above : l.at ≤ l.here;
  ends : l.here + length l.rest ≡ l.at + length l.fn.bytes;
  grammar : InGrammar l.events.items;
  left : l.rest ≡ drop (l.here - l.at) l.fn.bytes;
}

abbrev pub decreases-entries : goal.decreases-entries
decreases-entries l = length l.rest
