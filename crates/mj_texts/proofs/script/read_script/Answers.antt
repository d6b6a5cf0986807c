use Rattle.std.proofs.Common.{◌≡◌, ◌+◌, ◌==◌, vec_len, Err, sym, ap, ◌∙◌, arith}
use Rattle.std.specs.List.{slice_split}
use Rattle.std.proofs.lemmas.List.Elements.{All-push}
use Rattle.mj_texts.specs.Lines.{before, lines_from}
use Rattle.mj_texts.proofs.LinesLemmas.{all_read, not_ended, one_outside, one_more}
use Rattle.mj_texts.specs.Line.{IsServed, line_of}
use Rattle.mj_texts.proofs.script.read_script.Goals as goal

pub returns-in-None-clause-refused : goal.returns-in-None-clause-refused
returns-in-None-clause-refused c =
    one_outside line_of _ c.lines.lines.items _ c.lines.rest.now c.lines.invariant.read c.in-Some.text.now c.in-Some.after.now c.in-Some.ensures.parts (sym c.in_ok-line.ensures.line ∙ c.in-None.is) ∙ ap (λ n. Err (n + 1)) (sym c.len.ensures)

pub lines-preserved : goal.lines-preserved
lines-preserved c =
    let one : vec_len c.push.new.self ≡ vec_len c.lines.lines + 1 = omega (arith, c.in_ok-push-in-Some-2.ensures.len) in
    let read = one_more line_of _ c.lines.lines.items _ c.lines.rest.now c.lines.invariant.read c.in-Some.text.now c.in-Some.after.now c.in-Some.ensures.parts c.in-Some-2.line (sym c.in_ok-line.ensures.line ∙ c.in-Some-2.is)
    ∙ ap (λ xs. before xs (lines_from line_of (vec_len c.lines.lines + 1 + 1) (slice_split (λ b. b == 10) c.in-Some.after.now))) (sym c.in_ok-push-in-Some-2.ensures.items)
    ∙ ap (λ n. before c.push.new.self.items (lines_from line_of (n + 1) (slice_split (λ b. b == 10) c.in-Some.after.now))) (sym one) in
    record {
      read = read;
      served = rw c.in_ok-push-in-Some-2.ensures.items (All-push IsServed c.lines.lines.items c.in-Some-2.line c.lines.invariant.served (rw c.in-Some-2.is at c.in_ok-line.ensures.served));
    }

pub returns-then-is_empty-clause-lines : goal.returns-then-is_empty-clause-lines
returns-then-is_empty-clause-lines c = all_read line_of _ c.lines.lines.items _ c.lines.rest.now c.lines.invariant.read c.in_default.ensures.parts (sym c.if-is_empty.ensures)

pub returns-else-is_empty-clause-refused : goal.returns-else-is_empty-clause-refused
returns-else-is_empty-clause-refused c = not_ended line_of _ c.lines.lines.items _ c.lines.rest.now c.lines.invariant.read c.in_default.ensures.parts (sym c.if-is_empty.ensures) ∙ ap (λ n. Err (n + 1)) (sym c.len-else-is_empty.ensures)
