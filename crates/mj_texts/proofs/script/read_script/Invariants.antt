use Rattle.std.proofs.Common.{◌≡◌, ◌+◌, ◌==◌, length, vec_len}
use Rattle.std.specs.List.{slice_split, All}
use Rattle.mj_texts.specs.Lines.{before, lines_from, lines_of}
use Rattle.mj_texts.specs.Line.{IsServed, line_of}
use Rattle.mj_texts.proofs.script.read_script.Given as goal

abbrev pub invariant-lines : goal.invariant-lines
invariant-lines l = record {
  read : lines_of line_of l.bytes ≡ before l.lines.items (lines_from line_of (vec_len l.lines + 1) (slice_split (λ b. b == 10) l.rest));
  served : All IsServed l.lines.items;
}

abbrev pub decreases-lines : goal.decreases-lines
decreases-lines l = length l.rest
