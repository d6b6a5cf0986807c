-- Writes with the values that their keys had before, and what follows from these alone.
use Rattle.std.specs.Prelude.{ℕ, Bool, true, false, List, [], ◌∷◌, map, filter_map, if◌then◌else◌}
use Rattle.std.specs.Option.{option_copied}
use Rattle.mj_cells.specs.declared.cell.CellKey.{CellKey}
use Rattle.mj_cells.specs.declared.cell.CellKey.TheVariants.{Dentry, Session, OpenOf}
use Rattle.mj_cells.specs.declared.cell.CellValue.{CellValue}
use Rattle.mj_cells.specs.declared.cell.CellValue.TheVariants.{Gone}
use Rattle.mj_cells.specs.declared.cell.CellWrite.{CellWrite}
use Rattle.mj_judge.specs.Parts.{Cell}
use Rattle.mj_index.specs.Said.{value_or_gone, dir_named, cell_after}
use Rattle.mj_index.specs.Following.{taken, put_in}
use Rattle.mj_index.specs.declared.change.ChangeView.{ChangeView}
use Rattle.mj_index.specs.declared.index.Index.{Index}

abbrev pub Change : Type 0
Change = CellWrite × CellValue

-- the value before is gone where there is none
abbrev pub change_of : ChangeView → Change
change_of c = (c.write.now, value_or_gone (option_copied c.before))

-- whether the value of a key says anything of inodes or sessions
abbrev pub says : CellKey → Bool
says (Dentry dir name) = true
says (Session client) = true
says (OpenOf client ino) = true
says _ = false

-- the values, as gone where they say nothing
abbrev pub where_said : (CellKey → CellValue) → CellKey → CellValue
where_said old k = if says k then old k else Gone

-- the writes, each with the value of its key
abbrev pub changes_over : (CellKey → CellValue) → List CellWrite → List Change
changes_over old ws = map (λ (w : CellWrite). (w, old w.key)) ws

abbrev pub changed_key : Change → CellKey
changed_key c = c.0.key

-- the cell that is no more
abbrev pub cell_out : Change → Cell
cell_out c = (c.0.key, c.1)

-- the directories that the dentries written named before
abbrev pub dirs_out : (ℕ → Bool) → List Change → List ℕ
dirs_out dirs cs = filter_map (λ (c : Change). dir_named dirs (cell_out c)) cs

-- what each key said before is taken out, and what it says now is put in
abbrev pub all_changed : ℕ → List Change → Index → Index
all_changed rank [] x = x
all_changed rank (c ∷ cs) x = all_changed rank cs (put_in rank (cell_after c.0) (taken rank (cell_out c) x))
