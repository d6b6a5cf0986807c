use Rattle.std.proofs.Common.{◌≡◌, ◌+◌, ◌-◌, List, ◌++◌, ℕ, length, length-drop, drop, Option, Ok, ap, sym, subst, ◌∙◌, arith}
use Rattle.std.proofs.lemmas.List.{drop-drop}
use Rattle.mj_recovery.specs.declared.journal.LiveEvent.{LiveEvent}
use Rattle.std.specs.Prelude.{IfSome}
use Rattle.mj_event.specs.Event.{IsEvent}
use Rattle.mj_replay.specs.Pieces.{behind, entries_from, InGrammar}
use Rattle.mj_replay.proofs.Turns.{grammar_more, next_within, piece_step, piece_tail, piece_wrong}
use Rattle.mj_replay.proofs.Passed.{is_passed}
use Rattle.mj_replay.proofs.piece.read_piece.Goals as goal

pub returns-in_err-next-clause-refused : goal.returns-in_err-next-clause-refused
returns-in_err-next-clause-refused c =
    let l = c.entries in
    let why = c.in_err-next.field-0.0 in
    rw (is_passed why c.from_residual.result c.from_residual.ensures.1)
    (λ more f. piece_wrong why c.args.keep l.events.items l.rest.now more l.here c.args.write _ (l.invariant.found more f) (omega (arith, c.entries-test.true)) f c.in_err-next.ensures.is)

pub returns-in_err-next-clause-cause : goal.returns-in_err-next-clause-cause
returns-in_err-next-clause-cause c = λ before now. rw (is_passed c.in_err-next.field-0.0 c.from_residual.result c.from_residual.ensures.1) (c.in_err-next.ensures.cause before now)

pub returns-in-None-clause-told : goal.returns-in-None-clause-told
returns-in-None-clause-told c = λ more f.
    let l = c.entries in
    l.invariant.found more f ∙ piece_tail c.args.keep l.events.items l.rest.now more l.here c.args.write (omega (arith, c.entries-test.true)) f (c.in_ok-next.ensures.is ∙ ap Ok c.in-None.is)

pub entries-preserved : goal.entries-preserved
entries-preserved c =
    let l = c.entries in
    let event = c.in-Some.event in
    let ends = c.in-Some.ends in
    let found = c.in_ok-next.ensures.is ∙ ap Ok c.in-Some.is in
    let w = next_within c.entries.rest.now c.entries.here c.args.write (c.in-Some.event, c.in-Some.ends) found in
    let more_ends : (c.entries.here - c.args.at) + (c.in-Some.ends - c.entries.here) ≡ c.in-Some.ends - c.args.at = omega (arith, w.0, l.invariant.above) in
    record {
      found = λ more f.
          l.invariant.found more f
          ∙ (piece_step c.args.keep l.events.items l.rest.now more l.here c.args.write (event, ends) (omega (arith, c.entries-test.true)) f found
          ∙ (ap (λ (es : List LiveEvent). behind es (entries_from (drop (ends - l.here) l.rest.now ++ more) ends c.args.write)) (sym c.in_ok-push-in-Some.ensures.items)
          ∙ ap (λ (bs : List ℕ). behind c.push.new.self.items (entries_from (bs ++ more) ends c.args.write)) (sym c.behind-rest.ensures)));
      above = omega (arith, l.invariant.above, w.0);
      ends = omega (arith, ap length c.behind-rest.ensures, length-drop (c.in-Some.ends - c.entries.here) c.entries.rest.now, w.0, w.1, l.invariant.ends);
      grammar = subst InGrammar (sym c.in_ok-push-in-Some.ensures.items) (grammar_more l.events.items event l.invariant.grammar (subst (λ (o : Option (LiveEvent × ℕ)). IfSome o (λ (x : LiveEvent × ℕ). IsEvent x.0.event)) c.in-Some.is c.in_ok-next.ensures.grammar));
      left = c.behind-rest.ensures ∙ (ap (drop (ends - l.here)) l.invariant.left ∙ (drop-drop (ends - l.here) (l.here - c.args.at) c.args.bytes.now ∙ ap (λ k. drop k c.args.bytes.now) more_ends));
    }
