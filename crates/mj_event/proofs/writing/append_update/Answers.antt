use Rattle.std.proofs.Common.{ℕ, List, ◌++◌, ap, ◌∙◌}
use Rattle.mj_base.specs.Reading.{eight, optional}
use Rattle.mj_base.proofs.Appended.{first_piece, then_piece}
use Rattle.mj_meta.specs.Blob.{blob_bytes}
use Rattle.mj_base.proofs.Pieces.{on_ok}
use Rattle.mj_event.specs.Event.{numbers, update_front}
use Rattle.mj_event.proofs.writing.append_update.Goals as goal

pub returns : goal.returns
returns c =
    let e = c.args.event.now in
    let front = first_piece (update_front e) c.in_ok-append_update_front.ensures in
    let dropped = then_piece front (numbers e.dropped) (c.in_ok-append_dropped.ensures ∙ ap (λ (ns : List ℕ). c.append_update_front.new.out.items ++ numbers ns) c.as_slice.ensures) in
    let next = then_piece dropped (optional eight e.next) c.in_ok-append_optional_ino.ensures in
    let opened = then_piece next (optional eight e.opened) c.in_ok-append_optional_ino-2.ensures in
    let released = then_piece opened (optional eight e.released) c.in_ok-append_optional_ino-3.ensures in
    on_ok c.append_blob.result _ _ (λ more. (then_piece released (blob_bytes e.blob) more).is) c.append_blob.ensures.ok
