use Rattle.std.proofs.Common.{ℕ, List, [], ◌∷◌, ◌++◌, ap, ◌∙◌}
use Rattle.mj_base.specs.Reading.{four, eight}
use Rattle.mj_base.proofs.Appended.{first_piece, then_piece}
use Rattle.mj_base.proofs.Pieces.{on_ok}
use Rattle.mj_event.specs.Event.{numbers, session_code}
use Rattle.mj_event.proofs.writing.append_session.Goals as goal

pub returns : goal.returns
returns c =
    let e = c.args.event.now in
    let client = first_piece (four e.client) (c.in_ok-put_u32.ensures.ok ∙ ap (λ (n : ℕ). c.args.out.now.items ++ four n) c.client.view_is) in
    let kind = then_piece client (session_code e.kind ∷ []) (c.in_ok-put_u8.ensures.ok ∙ ap (λ (n : ℕ). c.put_u32.new.out.items ++ n ∷ []) c.session_code.ensures) in
    let oldest = then_piece kind (eight e.oldest) c.in_ok-append_tid.ensures in
    let tid = then_piece oldest (eight e.tid) c.in_ok-append_tid-2.ensures in
    on_ok c.append_dropped.result _ _ (λ more. (then_piece tid (numbers e.dropped) (more ∙ ap (λ (ns : List ℕ). c.append_tid-2.new.out.items ++ numbers ns) c.as_slice.ensures)).is) c.append_dropped.ensures
