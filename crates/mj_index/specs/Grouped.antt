-- What a group of writes makes of layers.
use Rattle.std.specs.Prelude.{◌≡◌, ℕ, ◌+◌, ◌≤◌, List, [], ◌∷◌, ◌++◌}
use Rattle.mj_cells.specs.declared.cell.CellWrite.{CellWrite}
use Rattle.mj_tables.specs.Layered.{Layered}
use Rattle.mj_index.specs.Known.{most}
use Rattle.mj_index.specs.declared.index.Index.{Index}

-- one group more
pub record Gains (ws : List CellWrite) (ends : ℕ) (l n : Layered) : Type 0 where
  pub safe : n.safe ≡ l.safe
  pub groups : n.groups ≡ l.groups ++ record { ends = ends; writes = ws } ∷ []

-- the same cells and groups
pub record Stays (l n : Layered) : Type 0 where
  pub safe : n.safe ≡ l.safe
  pub groups : n.groups ≡ l.groups

-- as many more can be counted
pub record HasSpare (x : Index) (more : ℕ) : Type 0 where
  pub dentries : x.dentries + more ≤ most
  pub opens : x.opens + more ≤ most
  pub sessions : x.sessions + more ≤ most
