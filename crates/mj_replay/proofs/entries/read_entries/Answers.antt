use Rattle.std.proofs.Common.{◌≡◌, ◌-◌, ◌≤◌, List, ℕ, ◌++◌, length, Ok, ap, sym, subst, ◌∙◌, arith}
use Rattle.mj_store.specs.State.{contents}
use Rattle.mj_recovery.specs.Stream.{stream}
use Rattle.mj_recovery.specs.declared.journal.LiveEvent.{LiveEvent}
use Rattle.mj_replay.specs.Pieces.{behind, entries_from, Continues, EndsIn}
use Rattle.mj_replay.specs.Replays.{Fails}
use Rattle.mj_replay.specs.declared.piece.Piece.{Piece}
use Rattle.mj_probe.proofs.Looking.{still_after, looks_then}
use Rattle.mj_replay.proofs.Turns.{so_far, none_left}
use Rattle.mj_replay.proofs.Streams.{end_later, none_behind}
use Rattle.mj_replay.proofs.Joined.{no_damage, follows, piece_first, piece_then}
use Rattle.mj_replay.proofs.Passed.{is_passed}
use Rattle.mj_replay.proofs.entries.read_entries.Goals as goal

pub returns-in_err-bytes-clause-looks : goal.returns-in_err-bytes-clause-looks
returns-in_err-bytes-clause-looks g c = looks_then c.pieces.invariant.looks c.in_err-bytes.ensures.looks

pub returns-in_err-bytes-clause-told : goal.returns-in_err-bytes-clause-told
returns-in_err-bytes-clause-told g c = λ s is still ends.
    let told = g.S.ObjectStore.state in
    let now = still_after s (told c.args.store.now) (told c.pieces.store) is still c.pieces.invariant.looks.stays in
    let later = end_later (contents s) c.args.rank c.args.layout.now c.args.from c.pieces.here c.args.end c.pieces.invariant.above c.pieces.invariant.at_most c.requires.below ends in
    rw (is_passed c.in_err-bytes.field-0.0 c.from_residual.result c.from_residual.ensures.1) (no_damage _ c.in_err-bytes.field-0.0 _ (c.in_err-bytes.ensures.refused s now still (omega (arith, later, c.min-to.ensures))))

pub returns-in_err-piece-clause-looks : goal.returns-in_err-piece-clause-looks
returns-in_err-piece-clause-looks g c = looks_then c.pieces.invariant.looks c.in_ok-bytes.ensures.looks

pub returns-in_err-piece-clause-cause : goal.returns-in_err-piece-clause-cause
returns-in_err-piece-clause-cause g c = rw (is_passed c.in_err-piece.field-0.0 c.from_residual-in_err-piece.result c.from_residual-in_err-piece.ensures.1) (c.in_err-piece.ensures.cause _ _)

pub returns-in-Tail-clause-looks : goal.returns-in-Tail-clause-looks
returns-in-Tail-clause-looks g c = looks_then c.pieces.invariant.looks c.in_ok-bytes.ensures.looks

pub returns-in_err-piece-clause-told : goal.returns-in_err-piece-clause-told
returns-in_err-piece-clause-told g c = λ s is still ends.
    let told = g.S.ObjectStore.state in
    let l = c.pieces in
    let bs : List ℕ = c.deref.result.now in
    let to = c.min-to.result in
    let now = still_after s (told c.args.store.now) (told c.pieces.store) is still c.pieces.invariant.looks.stays in
    let from_to : c.pieces.here ≤ c.min-to.result = omega (arith, c.min-to.ensures, c.pieces-test.true) in
    let to_end : c.min-to.result ≤ c.args.end = omega (arith, c.min-to.ensures) in
    let e = c.deref.ensures.value ∙ c.in_ok-bytes.ensures.told s now still in
    let len : length bs ≡ c.min-to.result - c.pieces.here = omega (arith, ap length c.deref.ensures.value, c.in_ok-bytes.bytes.ok.0, c.in_ok-bytes.ensures.whole) in
    let end_to = end_later (contents s) c.args.rank c.args.layout.now c.args.from c.min-to.result c.args.end (omega (arith, from_to, l.invariant.above)) to_end c.requires.below ends in
    let f = follows (contents s) c.args.rank c.args.layout.now c.kept_back-keep.result c.min-to.result c.args.end c.kept_back-keep.ensures.more c.kept_back-keep.ensures.last to_end end_to in
    rw (is_passed c.in_err-piece.field-0.0 c.from_residual-in_err-piece.result c.from_residual-in_err-piece.ensures.1)
    (subst (Fails c.in_err-piece.field-0.0) (piece_first (contents s) c.args.rank c.args.layout.now l.events.items bs l.here to c.args.write _ from_to (omega (arith, to_end, c.requires.below)) e len (l.invariant.found s is still ends))
    (c.in_err-piece.ensures.refused (stream (contents s) c.args.rank c.args.layout.now to) f))

pub returns-in-Tail-clause-told : goal.returns-in-Tail-clause-told
returns-in-Tail-clause-told g c = λ s is still ends.
    let told = g.S.ObjectStore.state in
    let l = c.pieces in
    let bs : List ℕ = c.deref.result.now in
    let to = c.min-to.result in
    let now = still_after s (told c.args.store.now) (told c.pieces.store) is still c.pieces.invariant.looks.stays in
    let from_to : c.pieces.here ≤ c.min-to.result = omega (arith, c.min-to.ensures, c.pieces-test.true) in
    let to_end : c.min-to.result ≤ c.args.end = omega (arith, c.min-to.ensures) in
    let e = c.deref.ensures.value ∙ c.in_ok-bytes.ensures.told s now still in
    let len : length bs ≡ c.min-to.result - c.pieces.here = omega (arith, ap length c.deref.ensures.value, c.in_ok-bytes.bytes.ok.0, c.in_ok-bytes.ensures.whole) in
    let end_to = end_later (contents s) c.args.rank c.args.layout.now c.args.from c.min-to.result c.args.end (omega (arith, from_to, l.invariant.above)) to_end c.requires.below ends in
    let f = follows (contents s) c.args.rank c.args.layout.now c.kept_back-keep.result c.min-to.result c.args.end c.kept_back-keep.ensures.more c.kept_back-keep.ensures.last to_end end_to in
    let more = stream (contents s) c.args.rank c.args.layout.now to in
    let read = subst (λ (p : Piece). Continues c.read_piece.new.events.items p (bs ++ more) l.here c.args.write (behind l.events.items (entries_from (bs ++ more) l.here c.args.write))) c.in-Tail.is (c.in_ok-piece.ensures.told more f) in
    sym (piece_first (contents s) c.args.rank c.args.layout.now l.events.items bs l.here to c.args.write _ from_to (omega (arith, to_end, c.requires.below)) e len (l.invariant.found s is still ends))
    ∙ (read ∙ ap (λ (xs : List LiveEvent). Ok (so_far xs c.in-Tail.tail)) (sym c.from_vec.ensures))

pub pieces-preserved : goal.pieces-preserved
pieces-preserved g c =
    let told = g.S.ObjectStore.state in
    let l = c.pieces in
    let bs : List ℕ = c.deref.result.now in
    let to = c.min-to.result in
    let next = c.in-More.next in
    let from_to : c.pieces.here ≤ c.min-to.result = omega (arith, c.min-to.ensures, c.pieces-test.true) in
    let to_end : c.min-to.result ≤ c.args.end = omega (arith, c.min-to.ensures) in
    let len : length c.deref.result.now ≡ c.min-to.result - c.pieces.here = omega (arith, ap length c.deref.ensures.value, c.in_ok-bytes.bytes.ok.0, c.in_ok-bytes.ensures.whole) in
    let ended = subst (EndsIn c.kept_back-keep.result c.deref.result.now c.pieces.here c.args.write) c.in-More.is c.in_ok-piece.ensures.ends in
    let next_to : c.in-More.next ≤ c.min-to.result = omega (arith, ended.1, len, from_to) in
    record {
      looks = looks_then l.invariant.looks c.in_ok-bytes.ensures.looks;
      above = omega (arith, l.invariant.above, ended.0);
      at_most = omega (arith, next_to, to_end);
      grammar = c.in_ok-piece.ensures.grammar;
      found = λ s is still ends.
          let now = still_after s (told c.args.store.now) (told c.pieces.store) is still c.pieces.invariant.looks.stays in
          let e = c.deref.ensures.value ∙ c.in_ok-bytes.ensures.told s now still in
          let end_to = end_later (contents s) c.args.rank c.args.layout.now c.args.from c.min-to.result c.args.end (omega (arith, from_to, l.invariant.above)) to_end c.requires.below ends in
          let end_here = end_later (contents s) c.args.rank c.args.layout.now c.args.from c.pieces.here c.args.end l.invariant.above l.invariant.at_most c.requires.below ends in
          let f = follows (contents s) c.args.rank c.args.layout.now c.kept_back-keep.result c.min-to.result c.args.end c.kept_back-keep.ensures.more c.kept_back-keep.ensures.last to_end end_to in
          let more = stream (contents s) c.args.rank c.args.layout.now to in
          let read = subst (λ (p : Piece). Continues c.read_piece.new.events.items p (bs ++ more) l.here c.args.write (behind l.events.items (entries_from (bs ++ more) l.here c.args.write))) c.in-More.is (c.in_ok-piece.ensures.told more f) in
          piece_then (contents s) c.args.rank c.args.layout.now l.events.items c.read_piece.new.events.items bs l.here next to c.args.write _ from_to (omega (arith, to_end, c.requires.below)) e len
          ended.0 (omega (arith, next_to, to_end, c.requires.below)) (omega (arith, next_to, to_end, end_here)) read (l.invariant.found s is still ends);
    }

pub returns-clause-told : goal.returns-clause-told
returns-clause-told g c = λ s is still ends.
    let l = c.pieces in
    let at_end : c.args.end ≡ c.pieces.here = omega (arith, l.invariant.at_most, c.pieces-test.false) in
    let end_here = end_later (contents s) c.args.rank c.args.layout.now c.args.from c.pieces.here c.args.end l.invariant.above l.invariant.at_most c.requires.below ends in
    let none = none_behind (contents s) c.args.rank c.args.layout.now c.pieces.here (omega (arith, end_here, at_end)) in
    sym (l.invariant.found s is still ends)
    ∙ (ap (λ (bs : List ℕ). behind l.events.items (entries_from bs l.here c.args.write)) none
    ∙ (none_left l.events.items l.here c.args.write (omega (arith, c.requires.reached, at_end))
    ∙ ap (λ (xs : List LiveEvent). Ok (so_far xs l.here)) (sym c.from_vec-2.ensures)))
