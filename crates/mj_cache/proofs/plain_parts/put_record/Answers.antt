use Rattle.std.proofs.Common.{◌∙◌, ap}
use Rattle.mj_base.specs.declared.record.InodeRecord.{InodeRecord}
use Rattle.mj_maps.specs.Map.{from_entries, insert}
use Rattle.mj_maps.specs.Orders.{nat_cmp}
use Rattle.mj_cache.proofs.PlainSessions.{put_inserts}
use Rattle.mj_cache.proofs.plain_parts.put_record.Goals as goal

pub returns : goal.returns
returns c = put_inserts _ _ _ _ c.in_ok-insert.ensures.entries ∙ ap (λ (r : InodeRecord). insert (from_entries {R = nat_cmp} c.args.found.now.entries) c.args.inode.now.ino r) c.in_ok-same.ensures
