use Rattle.std.proofs.Common.{◌∙◌, length, ap, arith}
use Rattle.mj_journaler.proofs.Kept.{begun_as}
use Rattle.mj_journaler.proofs.journaler.Journaler.new.Goals as goal

pub invariant_of-result : goal.invariant_of-result
invariant_of-result c =
    let none = c.in_ok-reserve.ensures.bytes ∙ c.new-buffer.ensures in
    record {
      journal = begun_as c.args.head c.args.rank c.args.tail c.first_object-removing.result c.reserve.new.self.bytes c.new.result.items c.new-2.result.sent c.new-3.result.sent c.new-4.result.sent none c.new.ensures.items c.new-2.ensures c.new-3.ensures c.new-4.ensures c.first_object-removing.ensures c.requires.header c.requires.above c.requires.below;
      end = omega (arith, ap length none);
      bytes = omega arith;
      entries = omega arith;
      given = tt;
    }
