-- The event of a request that changes the tree, over a table with a tree.
use Rattle.std.specs.Prelude.{ℕ, ◌≤◌}
use Rattle.std.specs.List.{AllByRecursion}
use Rattle.mj_tree.specs.declared.request.ClientRequest.{ClientRequest}
use Rattle.mj_tree.specs.State.{PlainState}
use Rattle.mj_tree.specs.Answer.{after}
use Rattle.mj_cells.specs.declared.cell.CellWrite.{CellWrite}
use Rattle.mj_cells.specs.Table.{Table, overlay}
use Rattle.mj_event.specs.declared.Event.{Event}
use Rattle.mj_event.specs.Event.{IsEvent}
use Rattle.mj_event.specs.Writes.{writes_of}
use Rattle.mj_recovery.specs.Damage.{lump_dirs}
use Rattle.mj_recovery.specs.Orderly.{IsOwn, HasHighInode, HasStrayName, HasNoZeroHead}
use Rattle.mj_delta.specs.TreeOf.{IsTreeOf}

-- a write that the rank would do: its inodes are high, stray is named by inode, and no head is 0
abbrev pub IsOrderlyWrite : ℕ → CellWrite → Type 0
IsOrderlyWrite rank w = HasHighInode rank w × HasStrayName rank w × HasNoZeroHead w

-- The event is in the grammar, and with what it writes the table has the tree after the request. Its lumps are of directories
-- of the rank's own, the next inode does not go back, and each write is one that the rank would do.
pub record GivesTree (rank : ℕ) (t : Table) (s : PlainState) (r : ClientRequest) (e : Event) : Type 0 where
  pub grammar : IsEvent e
  pub tree : IsTreeOf rank (overlay t (writes_of e)) (after s r)
  pub lumps : AllByRecursion (IsOwn rank (after s r).next) (lump_dirs (writes_of e))
  pub next : s.next ≤ (after s r).next
  pub orderly : AllByRecursion (IsOrderlyWrite rank) (writes_of e)
