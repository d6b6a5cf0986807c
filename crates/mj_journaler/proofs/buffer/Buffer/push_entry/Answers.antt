use Rattle.std.proofs.Common.{◌≡◌, ◌∙◌, ◌++◌, drop, ap, is_ok}
use Rattle.mj_entry.specs.Entry.{entry_bytes}
use Rattle.mj_journaler.specs.Buffered.{Buffered, joined}
use Rattle.mj_journaler.proofs.Blocks.{added, taken_within}
use Rattle.mj_journaler.proofs.buffer.Buffer.push_entry.Goals as goal

pub returns-clause-bytes : goal.returns-clause-bytes
returns-clause-bytes c =
    let was : drop c.self.inside.taken (joined c.self.inside.full.items ++ c.self.inside.last.items) ≡ c.args.self.now.bytes = ap (λ (b : Buffered). b.bytes) c.self.view_is ∙ c.in_ok-reserve.ensures.bytes in
    added c.self.inside.taken (joined c.self.inside.full.items) c.self.inside.last.items c.entry_write.new.out.items (entry_bytes c.args.at c.args.payload.now) c.args.self.now.bytes (is_ok c.entry_write.result)
    (taken_within c.self.inside.full.items c.self.inside.last.items c.self.inside.taken c.self.invariant) was c.entry_write.ensures.bytes
