use Rattle.std.proofs.Common.{ℕ, [], ◌∷◌, ◌++◌, ap, ◌∙◌}
use Rattle.mj_base.specs.Reading.{four, eight, optional}
use Rattle.mj_base.proofs.Appended.{first_piece, then_piece}
use Rattle.mj_base.proofs.Pieces.{on_ok}
use Rattle.mj_event.proofs.writing.append_update_front.Goals as goal

pub returns : goal.returns
returns c =
    let e = c.args.event.now in
    let op = first_piece (e.op ∷ []) c.in_ok-put_u8.ensures.ok in
    let client = then_piece op (four e.client) (c.in_ok-put_u32.ensures.ok ∙ ap (λ (n : ℕ). c.put_u8.new.out.items ++ four n) c.client.view_is) in
    let tid = then_piece client (eight e.tid) c.in_ok-append_tid.ensures in
    let ino = then_piece tid (eight e.ino) c.in_ok-append_ino.ensures in
    on_ok c.append_optional_tid.result _ _ (λ more. (then_piece ino (optional eight e.oldest) more).is) c.append_optional_tid.ensures
