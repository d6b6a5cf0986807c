use Rattle.std.proofs.Common.{◌≡◌, Option, Some, None, sym, ap, ◌∙◌}
use Rattle.std.specs.Prelude.{unwrap_or}
use Rattle.std.specs.Option.{option_copied, option_and_then}
use Rattle.mj_maps.specs.Map.{Map, get}
use Rattle.mj_cells.specs.declared.cell.CellKey.TheVariants.{NextIno}
use Rattle.mj_cells.specs.declared.cell.CellValue.{CellValue}
use Rattle.mj_cells.specs.Cell.{key_cmp}
use Rattle.mj_cells.specs.Table.{table_of, number_of}
use Rattle.mj_judge.proofs.PartMaps.{next_is}
use Rattle.mj_replay.proofs.overlaid.Overlaid.next_ino.Goals as goal

next_at : (m : Map key_cmp CellValue) (o : Option CellValue) → o ≡ get m NextIno → unwrap_or (option_and_then number_of o) 0 ≡ unwrap_or (table_of m).next 0
next_at m o e = ap (λ (o : Option CellValue). unwrap_or (option_and_then number_of o) 0) e ∙ ap (λ n. unwrap_or n 0) (sym (next_is m))

pub returns-in-Some : goal.returns-in-Some
returns-in-Some c = c.number_in.ensures ∙ next_at c.args.self.now.cells (Some c.in-Some.value.now) (sym (ap option_copied c.in-Some.is) ∙ c.get.ensures)

pub returns-in-None : goal.returns-in-None
returns-in-None c = next_at c.args.self.now.cells None (sym (ap option_copied c.in-None.is) ∙ c.get.ensures)
