use Rattle.std.proofs.Common.{Option, sym, ap, ◌∙◌}
use Rattle.std.specs.Option.{option_and_then}
use Rattle.mj_cells.specs.declared.cell.CellValue.{CellValue}
use Rattle.mj_cells.specs.Table.{dentry_of}
use Rattle.mj_cache.specs.Reads.{record_in}
use Rattle.mj_cache.proofs.Placed.{record_at, no_record}
use Rattle.mj_cache.proofs.reads.full_record.Goals as goal

pub returns-in-Some-early : goal.returns-in-Some-early
returns-in-Some-early c =
    c.record_in.ensures ∙ ap (λ (o : Option CellValue). record_in (option_and_then dentry_of o)) c.in-Some-early.ensures
    ∙ sym (record_at c.args.cache.now c.args.ino c.in-Some.key.now c.in-Some.ensures)

pub returns-in-None-early : goal.returns-in-None-early
returns-in-None-early c =
    ap (λ (o : Option CellValue). record_in (option_and_then dentry_of o)) c.in-None-early.ensures
    ∙ sym (record_at c.args.cache.now c.args.ino c.in-Some.key.now c.in-Some.ensures)

pub returns-in-None : goal.returns-in-None
returns-in-None c = sym (no_record c.args.cache.now c.args.ino c.in-None.ensures)
