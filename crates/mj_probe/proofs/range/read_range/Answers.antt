use Rattle.std.proofs.Common.{◌≡◌, ◌+◌, ◌-◌, ◌≤◌, List, ℕ, ◌++◌, None, length, length-append, ap, sym, subst, ◌∙◌, arith}
use Rattle.mj_base.specs.declared.object.ObjectName.{ObjectName}
use Rattle.mj_store.specs.State.{contents}
use Rattle.mj_store.specs.Moves.{HasBytes, bytes_from}
use Rattle.mj_recovery.specs.Stream.{byte_at, journal_object}
use Rattle.mj_probe.proofs.Looking.{found_still, still_after, stays_of, stays_then, looks_then}
use Rattle.mj_probe.proofs.Units.{Stand, stand_more, unit_stands, unit_short, stream_stands, end_short}
use Rattle.mj_probe.proofs.range.read_range.Goals as goal

pub returns-in_err-piece-clause-stays : goal.returns-in_err-piece-clause-stays
returns-in_err-piece-clause-stays g c =
    let told = g.S.ObjectStore.state in
    stays_then (told c.args.store.now) (told c.units.store) (told c.read.new.self) c.units.invariant.looks.stays c.in_err-piece.ensures.err

pub returns-in_err-extend_from_slice-clause-stays : goal.returns-in_err-extend_from_slice-clause-stays
returns-in_err-extend_from_slice-clause-stays g c =
    let told = g.S.ObjectStore.state in
    let x = c.extent-extent.result in
    stays_then (told c.args.store.now) (told c.units.store) (told c.read.new.self) c.units.invariant.looks.stays
    (stays_of (HasBytes c.journal_object.result x.offset x.len c.in_ok-piece.piece.items) (told c.units.store) (told c.read.new.self) c.in_ok-piece.ensures.ok)

pub returns-then-len-extent-clause-stays : goal.returns-then-len-extent-clause-stays
returns-then-len-extent-clause-stays g c =
    let told = g.S.ObjectStore.state in
    let x = c.extent-extent.result in
    stays_then (told c.args.store.now) (told c.units.store) (told c.read.new.self) c.units.invariant.looks.stays
    (stays_of (HasBytes c.journal_object.result x.offset x.len c.in_ok-piece.piece.items) (told c.units.store) (told c.read.new.self) c.in_ok-piece.ensures.ok)

pub returns-then-len-extent-clause-hole : goal.returns-then-len-extent-clause-hole
returns-then-len-extent-clause-hole g c = λ s is still.
    let told = g.S.ObjectStore.state in
    let image = contents s in
    let rank = c.args.rank in
    let layout = c.args.layout.now in
    let x = c.extent-extent.result in
    let piece : List ℕ = c.in_ok-piece.piece.items in
    let bytes : List ℕ = c.units.bytes.items in
    let now = still_after s (told c.args.store.now) (told c.units.store) is still c.units.invariant.looks.stays in
    let read : piece ≡ bytes_from x.offset x.len (contents s (journal_object rank x.index)) =
    found_still (HasBytes c.journal_object.result x.offset x.len c.in_ok-piece.piece.items) s (told c.units.store) (told c.read.new.self) now still c.in_ok-piece.ensures.ok ∙ ap (λ (q : ObjectName). bytes_from x.offset x.len (contents s q)) c.journal_object.ensures in
    let long : c.len.result ≡ length piece = c.len.ensures ∙ c.in_ok-piece.piece.ok.0 in
    let there : Stand (contents s) rank layout c.units.at piece = unit_stands image rank layout x.index x.offset x.len c.units.at piece c.extent-extent.ensures.run (omega (arith, long, c.if-len-extent.true)) read in
    end_short image rank layout (bytes ++ piece) c.args.from (c.units.at + c.len.result)
    (omega (arith, c.units.invariant.long, long, length-append bytes piece))
    (omega (arith, c.if-len-extent.true, c.extent-extent.ensures.within, c.requires.below))
    (stand_more image rank layout c.args.from c.units.at bytes piece c.units.invariant.long (c.units.invariant.found s is still) there)
    (subst (λ n. byte_at (contents s) rank layout (c.units.at + n) ≡ None) (sym long) (unit_short image rank layout x.index x.offset x.len c.units.at piece c.extent-extent.ensures.run (omega (arith, long, c.if-len-extent.true)) read))

pub units-preserved : goal.units-preserved
units-preserved g c =
    let told = g.S.ObjectStore.state in
    let x = c.extent-extent.result in
    let piece : List ℕ = c.in_ok-piece.piece.items in
    let bytes : List ℕ = c.units.bytes.items in
    let long : c.len.result ≡ length piece = c.len.ensures ∙ c.in_ok-piece.piece.ok.0 in
    let all : c.extend_from_slice.new.self.items ≡ bytes ++ piece = c.in_ok-extend_from_slice.ensures.items ∙ ap (λ (m : List ℕ). bytes ++ m) c.deref.ensures.value in
    let most : c.len.result ≤ x.len = omega (arith, c.len.ensures, c.in_ok-piece.ensures.within) in
    record {
      looks = looks_then c.units.invariant.looks (record {
        stays = stays_of (HasBytes c.journal_object.result x.offset x.len c.in_ok-piece.piece.items) (told c.units.store) (told c.read.new.self) c.in_ok-piece.ensures.ok;
        same_list = c.in_ok-piece.ensures.same_list;
        later = c.in_ok-piece.ensures.later;
      });
      at_most = omega (arith, most, c.extent-extent.ensures.within);
      long = omega (arith, c.units.invariant.long, long, ap length all, length-append bytes piece);
      found = λ s is still.
          let image = contents s in
          let rank = c.args.rank in
          let layout = c.args.layout.now in
          let now = still_after s (told c.args.store.now) (told c.units.store) is still c.units.invariant.looks.stays in
          let read : piece ≡ bytes_from x.offset x.len (contents s (journal_object c.args.rank x.index)) =
          found_still (HasBytes c.journal_object.result x.offset x.len c.in_ok-piece.piece.items) s (told c.units.store) (told c.read.new.self) now still c.in_ok-piece.ensures.ok ∙ ap (λ (q : ObjectName). bytes_from x.offset x.len (contents s q)) c.journal_object.ensures in
          let there : Stand (contents s) rank layout c.units.at piece = unit_stands image rank layout x.index x.offset x.len c.units.at piece c.extent-extent.ensures.run (omega (arith, long, most)) read in
          subst (λ (m : List ℕ). Stand (contents s) c.args.rank c.args.layout.now c.args.from m) (sym all)
          (stand_more image rank layout c.args.from c.units.at bytes piece c.units.invariant.long (c.units.invariant.found s is still) there);
    }

pub returns-clause-told : goal.returns-clause-told
returns-clause-told g c = λ s is still.
    stream_stands (contents s) c.args.rank c.args.layout.now c.units.bytes.items c.args.from (c.args.to - c.args.from)
    (omega (arith, c.units.invariant.long, c.units.invariant.at_most, c.units-test.false, c.requires.ordered)) (c.units.invariant.found s is still)
