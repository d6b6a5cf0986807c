use Rattle.std.proofs.Common.{◌≡◌, ◌∙◌, ◌-◌, length, ap, arith}
use Rattle.std.proofs.lemmas.List.{take_all}
use Rattle.mj_journaler.specs.Inside.{journal_in}
use Rattle.mj_journaler.proofs.Kept.{copied_as}
use Rattle.mj_journaler.proofs.Room.{more}
use Rattle.mj_journaler.proofs.journaler.Journaler.copy.Goals as goal

pub invariant_of-result : goal.invariant_of-result
invariant_of-result c =
    let j = journal_in c.self.inside in
    let bytes : c.in_ok-buffer.buffer.bytes ≡ j.buffer = c.in_ok-buffer.ensures.bytes ∙ (c.in_ok-bytes.ensures ∙ take_all (c.self.inside.end - c.self.inside.flushed) j.buffer (omega (arith, c.self.invariant.end))) in
    record {
      journal = copied_as j c.in_ok-buffer.buffer.bytes c.in_ok-ends.ends.items c.in_ok-sent.sent.sent c.in_ok-heads.heads.sent c.in_ok-removals.removals.sent c.self.invariant.journal bytes c.in_ok-ends.ensures.items c.in_ok-sent.ensures.sent c.in_ok-heads.ensures.sent c.in_ok-removals.ensures.sent;
      end = omega (arith, c.self.invariant.end, ap length bytes);
      bytes = c.in_ok-buffer.ensures.room;
      entries = omega (arith, c.self.invariant.entries, c.in_ok-ends.ensures.room);
      given = more c.self.inside.offer c.in_ok-sent.ensures.room c.in_ok-heads.ensures.room c.in_ok-removals.ensures.room c.self.invariant.given;
    }
