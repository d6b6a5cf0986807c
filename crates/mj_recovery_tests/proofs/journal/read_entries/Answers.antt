use Rattle.std.proofs.Common.{Ok, sym, ◌∙◌}
use Rattle.mj_recovery_tests.proofs.Parts.{piece_whole, piece_refused}
use Rattle.mj_recovery_tests.proofs.journal.read_entries.Goals as goal

pub returns-in-Ok-clause-told : goal.returns-in-Ok-clause-told
returns-in-Ok-clause-told c =
    piece_whole c.args.bytes.now c.args.at c.args.write c.new-events.result.items c.read_piece.new.events.items c.in-Ok.piece c.new-events.ensures.items c.in-Ok.ensures.ends c.in-Ok.ensures.told
    ∙ (λ i. Ok (record { events = sym c.from_vec.ensures i; tail = sym c.place_of.ensures i }))

pub returns-in-Err-clause-told : goal.returns-in-Err-clause-told
returns-in-Err-clause-told c = piece_refused c.args.bytes.now c.args.at c.args.write c.new-events.result.items c.in-Err.why c.new-events.ensures.items c.in-Err.ensures.refused
