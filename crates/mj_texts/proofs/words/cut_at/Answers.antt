use Rattle.std.proofs.Common.{◌≡◌, ◌+◌, ◌-◌, length, drop, take, ◌==◌, sym, arith}
use Rattle.std.proofs.lemmas.Grind.{common_steps}
use Rattle.mj_texts.proofs.SplitLemmas.{slice_split_position, slice_split_no_position}
use Rattle.mj_texts.proofs.words.cut_at.Goals as goal

pub returns-in-Some-clause-parts : goal.returns-in-Some-clause-parts
returns-in-Some-clause-parts c =
    let rest : take (length c.args.text.now - (c.in-Some.at + 1)) (drop (c.in-Some.at + 1) c.args.text.now) ≡ drop (c.in-Some.at + 1) c.args.text.now = grind (arith, common_steps) in
    rw rest (slice_split_position (λ b. b == c.args.byte) c.args.text.now c.in-Some.at (sym c.in-Some.ensures.place))

pub returns-in-None-clause-parts : goal.returns-in-None-clause-parts
returns-in-None-clause-parts c = slice_split_no_position (λ b. b == c.args.byte) c.args.text.now (sym c.in-None.ensures.place)
