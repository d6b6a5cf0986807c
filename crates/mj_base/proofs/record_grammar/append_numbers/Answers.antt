use Rattle.mj_base.specs.Reading.{four, eight}
use Rattle.mj_base.proofs.Appended.{first_piece, then_piece}
use Rattle.mj_base.proofs.Pieces.{on_ok}
use Rattle.mj_base.proofs.record_grammar.append_numbers.Goals as goal

pub returns-clause-ok : goal.returns-clause-ok
returns-clause-ok c =
    let r = c.args.inode.now in
    let uid = first_piece (four r.uid) c.in_ok-put_u32.ensures.ok in
    let gid = then_piece uid (four r.gid) c.in_ok-put_u32-2.ensures.ok in
    let size = then_piece gid (eight r.size) c.in_ok-put_u64.ensures.ok in
    let mtime = then_piece size (eight r.mtime) c.in_ok-put_u64-2.ensures.ok in
    on_ok c.put_u32-3.result _ _ (λ more. (then_piece mtime (four r.links) more).is) c.put_u32-3.ensures.ok
